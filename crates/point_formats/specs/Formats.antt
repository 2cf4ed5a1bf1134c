-- What stands in a point data record (LAS 1.4 R15, "Point Data Record Format 0" to "8").
use Rattle.std.specs.Prelude.{ℕ, List, [], ◌∷◌, ◌++◌}
use Rattle.std.specs.Int.{Width, w8, w16}
use Rattle.cloud_points.specs.declared.dims.Dim.{Dim}
use Rattle.cloud_points.specs.declared.dims.Dim.TheVariants.{X, Y, Z, Intensity, ReturnNumber, NumberOfReturns, ScanDirectionFlag, EdgeOfFlightLine, Classification, Synthetic, KeyPoint, Withheld, Overlap, ScanChannel, UserData, PointSourceId, Red, Green, Blue, Infrared}
use Rattle.las_header.specs.declared.form.Format.{Format}
use Rattle.las_header.specs.declared.form.Format.TheVariants.{F0, F1, F2, F3, F6, F7, F8}

-- a number of so many bits within a byte
pub record BitField : Type 0 where
  pub dim : Dim
  pub bits : ℕ

-- what stands in a record: a raw coordinate of 32 bits on an axis, an angle as a count of steps of so many nanodegrees,
-- the time's word, a whole number, or a byte of bit fields, of which the first stands at bit 0
pub data Item : Type 0 where
  Coordinate : Dim → ℕ → Item
  Angle : Width → ℕ → Item
  Time : Item
  Number : Dim → Width → Item
  Bits : List BitField → Item

abbrev pub bits_of : Dim → ℕ → BitField
bits_of dim bits = record { dim = dim; bits = bits }

abbrev pub coordinates : List Item
coordinates = Coordinate X 0 ∷ Coordinate Y 1 ∷ Coordinate Z 2 ∷ []

abbrev pub colours : List Item
colours = Number Red w16 ∷ Number Green w16 ∷ Number Blue w16 ∷ []

-- the bytes of bit fields of formats 0 to 3
abbrev pub old_returns : List BitField
old_returns = bits_of ReturnNumber 3 ∷ bits_of NumberOfReturns 3 ∷ bits_of ScanDirectionFlag 1 ∷ bits_of EdgeOfFlightLine 1 ∷ []

abbrev pub old_class : List BitField
old_class = bits_of Classification 5 ∷ bits_of Synthetic 1 ∷ bits_of KeyPoint 1 ∷ bits_of Withheld 1 ∷ []

-- the bytes of bit fields of formats 6 to 8
abbrev pub new_returns : List BitField
new_returns = bits_of ReturnNumber 4 ∷ bits_of NumberOfReturns 4 ∷ []

abbrev pub new_flags : List BitField
new_flags = bits_of Synthetic 1 ∷ bits_of KeyPoint 1 ∷ bits_of Withheld 1 ∷ bits_of Overlap 1
    ∷ bits_of ScanChannel 2 ∷ bits_of ScanDirectionFlag 1 ∷ bits_of EdgeOfFlightLine 1 ∷ []

-- the record of format 0, with which those of formats 1 to 3 begin
abbrev pub old_items : List Item
old_items = coordinates ++ Number Intensity w16 ∷ Bits old_returns ∷ Bits old_class ∷ Angle w8 1000000000
    ∷ Number UserData w8 ∷ Number PointSourceId w16 ∷ []

-- the record of format 6, with which those of formats 7 and 8 begin
abbrev pub new_items : List Item
new_items = coordinates ++ Number Intensity w16 ∷ Bits new_returns ∷ Bits new_flags ∷ Number Classification w8
    ∷ Number UserData w8 ∷ Angle w16 6000000 ∷ Number PointSourceId w16 ∷ Time ∷ []

-- what stands in a record of a format, in its order
abbrev pub items : Format → List Item
items F0 = old_items
items F1 = old_items ++ Time ∷ []
items F2 = old_items ++ colours
items F3 = old_items ++ Time ∷ colours
items F6 = new_items
items F7 = new_items ++ colours
items F8 = new_items ++ colours ++ Number Infrared w16 ∷ []
