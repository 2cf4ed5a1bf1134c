-- The bytes of a point in a packed row: the dimensions that a layout has, in their order, each with its lowest byte first.
use Rattle.std.specs.Prelude.{◌≡◌, ⊤, ℕ, ◌+◌, pos, Bool, true, false, List, [], ◌∷◌, ◌++◌, flat_map, get_or, if◌then◌else◌}
use Rattle.std.specs.Int.{Width, w8, w16, w64, byte_len, to_le_bytes, cast_unsigned}
use Rattle.cloud_points.specs.Dims.{extra_place}
use Rattle.cloud_points.specs.Layouts.{holds}
use Rattle.cloud_points.specs.declared.dims.Dim.{Dim}
use Rattle.cloud_points.specs.declared.dims.Dim.TheVariants.{X, Y, Z, Intensity, ReturnNumber, NumberOfReturns, ScanDirectionFlag, EdgeOfFlightLine, Classification, Synthetic, KeyPoint, Withheld, Overlap, ScanChannel, ScanAngleRank, UserData, PointSourceId, GpsTime, Red, Green, Blue, Infrared, Extra}
use Rattle.cloud_points.specs.declared.layout.Layout.{Layout}
use Rattle.cloud_points.specs.declared.point.Point.{Point}

-- how wide the number of a dimension is
abbrev pub width : Dim → Width
width X = w64
width Y = w64
width Z = w64
width ScanAngleRank = w64
width GpsTime = w64
width (Extra k) = w64
width Intensity = w16
width PointSourceId = w16
width Red = w16
width Green = w16
width Blue = w16
width Infrared = w16
width _ = w8

-- the number that a point has in a dimension; one with a sign in two's complement
abbrev pub stored : Point → Dim → ℕ
stored p X = cast_unsigned w64 p.x
stored p Y = cast_unsigned w64 p.y
stored p Z = cast_unsigned w64 p.z
stored p Intensity = p.intensity
stored p ReturnNumber = p.return_number
stored p NumberOfReturns = p.number_of_returns
stored p ScanDirectionFlag = p.scan_direction_flag
stored p EdgeOfFlightLine = p.edge_of_flight_line
stored p Classification = p.classification
stored p Synthetic = p.synthetic
stored p KeyPoint = p.key_point
stored p Withheld = p.withheld
stored p Overlap = p.overlap
stored p ScanChannel = p.scan_channel
stored p ScanAngleRank = cast_unsigned w64 p.scan_angle_rank
stored p UserData = p.user_data
stored p PointSourceId = p.point_source_id
stored p GpsTime = p.gps_time
stored p Red = p.red
stored p Green = p.green
stored p Blue = p.blue
stored p Infrared = p.infrared
stored p (Extra k) = cast_unsigned w64 (get_or p.extra (extra_place k) (pos 0))

-- the dimensions in their order, in four parts
abbrev pub first_dims : List Dim
first_dims = X ∷ Y ∷ Z ∷ Intensity ∷ ReturnNumber ∷ NumberOfReturns ∷ ScanDirectionFlag ∷ EdgeOfFlightLine ∷ Classification ∷ Synthetic ∷ KeyPoint ∷ Withheld ∷ []

abbrev pub middle_dims : List Dim
middle_dims = Overlap ∷ ScanChannel ∷ ScanAngleRank ∷ UserData ∷ PointSourceId ∷ []

abbrev pub late_dims : List Dim
late_dims = GpsTime ∷ Red ∷ Green ∷ Blue ∷ Infrared ∷ []

abbrev pub extra_dims : List Dim
extra_dims = Extra 0 ∷ Extra 1 ∷ Extra 2 ∷ Extra 3 ∷ Extra 4 ∷ Extra 5 ∷ Extra 6 ∷ Extra 7 ∷ []

-- bytes that stand in a row where the layout has their dimension
abbrev pub where_held : Bool → List ℕ → List ℕ
where_held true bytes = bytes
where_held false bytes = []

abbrev pub cell : Layout → Point → Dim → List ℕ
cell layout p dim = where_held (holds layout dim) (to_le_bytes (width dim) (stored p dim))

unfoldable pub cells : Layout → Point → List Dim → List ℕ
cells layout p dims = flat_map (cell layout p) dims

-- the row of a point
abbrev pub row : Layout → Point → List ℕ
row layout p = cells layout p first_dims ++ (cells layout p middle_dims ++ (cells layout p late_dims ++ cells layout p extra_dims))

-- the bytes of dimensions, whether the layout has them or not
abbrev pub number_bytes : Point → Dim → List ℕ
number_bytes p dim = to_le_bytes (width dim) (stored p dim)

unfoldable pub all_bytes : Point → List Dim → List ℕ
all_bytes p dims = flat_map (number_bytes p) dims

-- the layout has all of these, or none of them
abbrev pub AllAre : Bool → Layout → List Dim → Type 0
AllAre held layout [] = ⊤
AllAre held layout (dim ∷ rest) = (holds layout dim ≡ held) × AllAre held layout rest

-- the middle dimensions fall into two flags, and three that all formats have
abbrev pub flag_dims : List Dim
flag_dims = Overlap ∷ ScanChannel ∷ []

abbrev pub angle_dims : List Dim
angle_dims = ScanAngleRank ∷ UserData ∷ PointSourceId ∷ []

abbrev pub colour_dims : List Dim
colour_dims = Red ∷ Green ∷ Blue ∷ []

-- the layout has the dimensions that all formats have, and the flags and the colours all or not at all
pub record IsUsual (layout : Layout) : Type 0 where
  pub first : AllAre true layout first_dims
  pub flags : AllAre (holds layout Overlap) layout flag_dims
  pub angle : AllAre true layout angle_dims
  pub colours : AllAre (holds layout Red) layout colour_dims

-- how many bytes a dimension takes
abbrev pub size_where : Bool → ℕ → ℕ
size_where held size = if held then size else 0

abbrev pub size_in : Layout → Dim → ℕ
size_in layout dim = size_where (holds layout dim) (byte_len (width dim))

abbrev pub sizes_in : Layout → List Dim → ℕ
sizes_in layout [] = 0
sizes_in layout (dim ∷ rest) = size_in layout dim + sizes_in layout rest

unfoldable pub size_of : Layout → List Dim → ℕ
size_of layout dims = sizes_in layout dims

abbrev pub row_size : Layout → ℕ
row_size layout = size_of layout first_dims + (size_of layout middle_dims + (size_of layout late_dims + size_of layout extra_dims))
