-- The records of points.
use Rattle.std.specs.Prelude.{ℕ, ◌+◌, ◌-◌, ◌*◌, ◌^◌, ℤ, pos, neg_ℤ, List, [], ◌∷◌, ◌++◌, nat_lt, if◌then◌else◌, Result, Ok, Err}
use Rattle.std.specs.Int.{Width, w32, w64, byte_len, to_le_bytes, cast_unsigned}
use Rattle.exact_numbers.specs.Rounding.{half_away}
use Rattle.decimal_coords.specs.Grid.{nearest_step}
use Rattle.cloud_points.specs.declared.dims.Dim.{Dim}
use Rattle.cloud_points.specs.declared.dims.Dim.TheVariants.{X, Y, Z, Intensity, ReturnNumber, NumberOfReturns, ScanDirectionFlag, EdgeOfFlightLine, Classification, Synthetic, KeyPoint, Withheld, Overlap, ScanChannel, ScanAngleRank, UserData, PointSourceId, Red, Green, Blue, Infrared}
use Rattle.cloud_points.specs.declared.point.Point.{Point}
use Rattle.cloud_points.specs.Points.{get, is_between}
use Rattle.las_header.specs.declared.form.Format.{Format}
use Rattle.las_header.specs.Steps.{◌>>=◌}
use Rattle.point_formats.specs.declared.encoding.EncodeFault.{EncodeFault}
use Rattle.point_formats.specs.declared.encoding.EncodeFault.TheVariants.{NotHeld, ValueOutOfRange}
use Rattle.point_formats.specs.declared.grid.Grid.{Grid}
use Rattle.point_formats.specs.Grids.{scale_on, offset_on}
use Rattle.point_formats.specs.Formats.{BitField, Item, Coordinate, Angle, Time, Number, Bits, items}

-- the number of a point in a dimension of whole numbers, and 0 in the others
abbrev pub number_of : Point → Dim → ℕ
number_of p Intensity = p.intensity
number_of p ReturnNumber = p.return_number
number_of p NumberOfReturns = p.number_of_returns
number_of p ScanDirectionFlag = p.scan_direction_flag
number_of p EdgeOfFlightLine = p.edge_of_flight_line
number_of p Classification = p.classification
number_of p Synthetic = p.synthetic
number_of p KeyPoint = p.key_point
number_of p Withheld = p.withheld
number_of p Overlap = p.overlap
number_of p ScanChannel = p.scan_channel
number_of p UserData = p.user_data
number_of p PointSourceId = p.point_source_id
number_of p Red = p.red
number_of p Green = p.green
number_of p Blue = p.blue
number_of p Infrared = p.infrared
number_of p _ = 0

-- a signed number, or the fault where it leaves so many bits
abbrev pub signed_number : Width → EncodeFault → ℤ → Result ℤ EncodeFault
signed_number width fault n = if is_between (neg_ℤ (pos (2 ^ (8 * byte_len width - 1)))) (pos (2 ^ (8 * byte_len width - 1) - 1)) n
    then Ok n else Err fault

-- its bytes
abbrev pub signed_bytes : Width → EncodeFault → ℤ → Result (List ℕ) EncodeFault
signed_bytes width fault n = do
  number ← signed_number width fault n
  Ok (to_le_bytes width (cast_unsigned width number))

-- the raw number on an axis: the step of the grid nearest to a coordinate
unfoldable pub raw_number : Grid → Dim → ℕ → ℤ → Result ℤ EncodeFault
raw_number grid dim axis nano = signed_number w32 (NotHeld dim) (nearest_step nano (scale_on grid axis) (offset_on grid axis))

-- the raw numbers of a point on X, Y and Z, or the first refusal
abbrev pub raw_numbers : Grid → Point → Result (List ℤ) EncodeFault
raw_numbers grid p = do
  x ← raw_number grid X 0 p.x
  y ← raw_number grid Y 1 p.y
  z ← raw_number grid Z 2 p.z
  Ok (x ∷ y ∷ z ∷ [])

-- the bytes of a raw number
unfoldable pub coordinate_bytes : Grid → Dim → ℕ → ℤ → Result (List ℕ) EncodeFault
coordinate_bytes grid dim axis nano = signed_bytes w32 (NotHeld dim) (nearest_step nano (scale_on grid axis) (offset_on grid axis))

-- the number of steps nearest to an angle, a half away from zero
unfoldable pub angle_number : Width → ℕ → ℤ → Result ℤ EncodeFault
angle_number width step nano = signed_number width (ValueOutOfRange ScanAngleRank) (half_away nano step)

-- its bytes
unfoldable pub angle_bytes : Width → ℕ → ℤ → Result (List ℕ) EncodeFault
angle_bytes width step nano = signed_bytes width (ValueOutOfRange ScanAngleRank) (half_away nano step)

-- a number that a bit field takes, if it is below a bound
abbrev pub field_number : Dim → ℕ → ℕ → Result ℕ EncodeFault
field_number dim bound n = if nat_lt n bound then Ok n else Err (ValueOutOfRange dim)

-- the number of bit fields, the first of them at bit 0
unfoldable pub bits_number : Point → List BitField → Result ℕ EncodeFault
bits_number p [] = Ok 0
bits_number p (x ∷ rest) = do
  first ← field_number x.dim (2 ^ x.bits) (number_of p x.dim)
  others ← bits_number p rest
  Ok (first + 2 ^ x.bits * others)

-- the bytes of an item, or why it doesn't hold the point
abbrev pub item_bytes : Grid → Point → Item → Result (List ℕ) EncodeFault
item_bytes grid p (Coordinate dim axis) = coordinate_bytes grid dim axis (get p dim)
item_bytes grid p (Angle width step) = angle_bytes width step p.scan_angle_rank
item_bytes grid p Time = Ok (to_le_bytes w64 p.gps_time)
item_bytes grid p (Number dim width) = Ok (to_le_bytes width (number_of p dim))
item_bytes grid p (Bits fields) = do
  byte ← bits_number p fields
  Ok (byte ∷ [])

-- the bytes of items in their order, or the first refusal
abbrev pub items_bytes : Grid → Point → List Item → Result (List ℕ) EncodeFault
items_bytes grid p [] = Ok []
items_bytes grid p (item ∷ rest) = do
  first ← item_bytes grid p item
  others ← items_bytes grid p rest
  Ok (first ++ others)

-- the record of a point, or the first refusal in the order of the record
abbrev pub encoded : Format → Grid → Point → Result (List ℕ) EncodeFault
encoded format grid p = items_bytes grid p (items format)
