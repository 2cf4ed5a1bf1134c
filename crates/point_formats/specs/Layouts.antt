-- The dimensions that records hold.
use Rattle.std.specs.Prelude.{Bool, false, ◌||◌, List, [], ◌∷◌, map}
use Rattle.std.specs.List.{flat_map}
use Rattle.cloud_points.specs.declared.dims.Dim.{Dim}
use Rattle.cloud_points.specs.declared.dims.Dim.TheVariants.{ScanAngleRank, GpsTime}
use Rattle.cloud_points.specs.Layouts.{is_same}
use Rattle.las_header.specs.declared.form.Format.{Format}
use Rattle.point_formats.specs.Formats.{Item, Coordinate, Angle, Time, Number, Bits, items}

-- the dimensions of what stands in a record
abbrev pub dims_in : Item → List Dim
dims_in (Coordinate dim axis) = dim ∷ []
dims_in (Angle width step) = ScanAngleRank ∷ []
dims_in Time = GpsTime ∷ []
dims_in (Number dim width) = dim ∷ []
dims_in (Bits fields) = map (λ field. field.dim) fields

-- those of the records of a format
abbrev pub dims_of : Format → List Dim
dims_of format = flat_map dims_in (items format)

abbrev pub is_among : Dim → List Dim → Bool
is_among dim [] = false
is_among dim (first ∷ rest) = is_same first dim || is_among dim rest
