-- What a point has in each dimension.
use Rattle.std.specs.Prelude.{ℕ, ◌*◌, ◌^◌, ℤ, pos, int_le, Bool, ◌&&◌, unsigned_abs, Option, Some, None, if◌then◌else◌, get_or, set, replicate}
use Rattle.exact_numbers.specs.Rounding.{half_away}
use Rattle.ieee_words.specs.Order.{order_number}
use Rattle.cloud_points.specs.Dims.{extra_place, kind_of, greatest, low_of, high_of}
use Rattle.cloud_points.specs.declared.dims.Kind.{Kind}
use Rattle.cloud_points.specs.declared.dims.Kind.TheVariants.{Fixed, Whole, Word}
use Rattle.cloud_points.specs.declared.dims.Dim.{Dim}
use Rattle.cloud_points.specs.declared.dims.Dim.TheVariants.{X, Y, Z, Intensity, ReturnNumber, NumberOfReturns, ScanDirectionFlag, EdgeOfFlightLine, Classification, Synthetic, KeyPoint, Withheld, Overlap, ScanChannel, ScanAngleRank, UserData, PointSourceId, GpsTime, Red, Green, Blue, Infrared, Extra}
use Rattle.cloud_points.specs.declared.point.Point.{Point}

-- a whole number in nanounits
abbrev pub whole : ℕ → ℤ
whole n = pos (n * 10 ^ 9)

-- the value times 10^9; a time is a word, and has no number
abbrev pub get : Point → Dim → ℤ
get p X = p.x
get p Y = p.y
get p Z = p.z
get p Intensity = whole p.intensity
get p ReturnNumber = whole p.return_number
get p NumberOfReturns = whole p.number_of_returns
get p ScanDirectionFlag = whole p.scan_direction_flag
get p EdgeOfFlightLine = whole p.edge_of_flight_line
get p Classification = whole p.classification
get p Synthetic = whole p.synthetic
get p KeyPoint = whole p.key_point
get p Withheld = whole p.withheld
get p Overlap = whole p.overlap
get p ScanChannel = whole p.scan_channel
get p ScanAngleRank = p.scan_angle_rank
get p UserData = whole p.user_data
get p PointSourceId = whole p.point_source_id
get p GpsTime = pos 0
get p Red = whole p.red
get p Green = whole p.green
get p Blue = whole p.blue
get p Infrared = whole p.infrared
get p (Extra k) = get_or p.extra (extra_place k) (pos 0)

-- the point with this many nanounits in a fixed dimension
abbrev pub with_fixed : Point → Dim → ℤ → Point
with_fixed p X v = record p { x = v }
with_fixed p Y v = record p { y = v }
with_fixed p Z v = record p { z = v }
with_fixed p ScanAngleRank v = record p { scan_angle_rank = v }
with_fixed p (Extra k) v = record p { extra = set p.extra (extra_place k) v }
with_fixed p _ v = p

-- the point with this number in a dimension of whole numbers
abbrev pub with_whole : Point → Dim → ℕ → Point
with_whole p Intensity n = record p { intensity = n }
with_whole p ReturnNumber n = record p { return_number = n }
with_whole p NumberOfReturns n = record p { number_of_returns = n }
with_whole p ScanDirectionFlag n = record p { scan_direction_flag = n }
with_whole p EdgeOfFlightLine n = record p { edge_of_flight_line = n }
with_whole p Classification n = record p { classification = n }
with_whole p Synthetic n = record p { synthetic = n }
with_whole p KeyPoint n = record p { key_point = n }
with_whole p Withheld n = record p { withheld = n }
with_whole p Overlap n = record p { overlap = n }
with_whole p ScanChannel n = record p { scan_channel = n }
with_whole p UserData n = record p { user_data = n }
with_whole p PointSourceId n = record p { point_source_id = n }
with_whole p Red n = record p { red = n }
with_whole p Green n = record p { green = n }
with_whole p Blue n = record p { blue = n }
with_whole p Infrared n = record p { infrared = n }
with_whole p _ n = p

abbrev pub is_between : ℤ → ℤ → ℤ → Bool
is_between low high v = int_le low v && int_le v high

-- the point with this value times 10^9 in a dimension of this kind, where it is in the range; a dimension of whole
-- numbers takes the nearest one, a half away from zero
abbrev pub point_with_kind : Kind → Point → Dim → ℤ → Option Point
point_with_kind Fixed p d v = if is_between (low_of d) (high_of d) v then Some (with_fixed p d v) else None
point_with_kind Whole p d v = if is_between (pos 0) (pos (greatest d)) (half_away v (10 ^ 9)) then Some (with_whole p d (unsigned_abs (half_away v (10 ^ 9)))) else None
point_with_kind Word p d v = None

abbrev pub point_with : Point → Dim → ℤ → Option Point
point_with p d v = point_with_kind (kind_of d) p d v

-- a number in whose order the values of a dimension stand
abbrev pub key_of : Point → Dim → ℤ
key_of p GpsTime = pos (order_number p.gps_time)
key_of p dim = get p dim

abbrev pub zero_point : Point
zero_point = record {
  x = pos 0;
  y = pos 0;
  z = pos 0;
  scan_angle_rank = pos 0;
  gps_time = 0;
  extra = replicate 8 (pos 0);
  intensity = 0;
  point_source_id = 0;
  red = 0;
  green = 0;
  blue = 0;
  infrared = 0;
  return_number = 0;
  number_of_returns = 0;
  scan_direction_flag = 0;
  edge_of_flight_line = 0;
  classification = 0;
  synthetic = 0;
  key_point = 0;
  withheld = 0;
  overlap = 0;
  scan_channel = 0;
  user_data = 0;
}
