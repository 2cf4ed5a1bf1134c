-- Points without the dimensions outside a set, which is told by what it holds.
use Rattle.std.specs.Prelude.{◌≡◌, ℕ, ℤ, Bool, pos, List, [], ◌∷◌, get_or, if◌then◌else◌}
use Rattle.cloud_points.specs.declared.dims.Dim.{Dim}
use Rattle.cloud_points.specs.declared.dims.Dim.TheVariants.{X, Y, Z, Intensity, ReturnNumber, NumberOfReturns, ScanDirectionFlag, EdgeOfFlightLine, Classification, Synthetic, KeyPoint, Withheld, Overlap, ScanChannel, ScanAngleRank, UserData, PointSourceId, GpsTime, Red, Green, Blue, Infrared, Extra}
use Rattle.cloud_points.specs.declared.point.Point.{Point}

-- a value of a dimension, or what stands for it where the set has not that dimension
abbrev pub kept : {V : Type 0} → (Dim → Bool) → Dim → V → V → V
kept held dim value none = if held dim then value else none

abbrev pub kept_extra : (Dim → Bool) → ℕ → List ℤ → ℤ
kept_extra held k values = kept held (Extra k) (get_or values k (pos 0)) (pos 0)

abbrev pub kept_extras : (Dim → Bool) → List ℤ → List ℤ
kept_extras held values = kept_extra held 0 values ∷ kept_extra held 1 values ∷ kept_extra held 2 values ∷ kept_extra held 3 values
    ∷ kept_extra held 4 values ∷ kept_extra held 5 values ∷ kept_extra held 6 values ∷ kept_extra held 7 values ∷ []

-- the point with 0 in every dimension outside a set
abbrev pub cleared : (Dim → Bool) → Point → Point
cleared held p = record {
  x = kept held X p.x (pos 0);
  y = kept held Y p.y (pos 0);
  z = kept held Z p.z (pos 0);
  scan_angle_rank = kept held ScanAngleRank p.scan_angle_rank (pos 0);
  gps_time = kept held GpsTime p.gps_time 0;
  extra = kept_extras held p.extra;
  intensity = kept held Intensity p.intensity 0;
  point_source_id = kept held PointSourceId p.point_source_id 0;
  red = kept held Red p.red 0;
  green = kept held Green p.green 0;
  blue = kept held Blue p.blue 0;
  infrared = kept held Infrared p.infrared 0;
  return_number = kept held ReturnNumber p.return_number 0;
  number_of_returns = kept held NumberOfReturns p.number_of_returns 0;
  scan_direction_flag = kept held ScanDirectionFlag p.scan_direction_flag 0;
  edge_of_flight_line = kept held EdgeOfFlightLine p.edge_of_flight_line 0;
  classification = kept held Classification p.classification 0;
  synthetic = kept held Synthetic p.synthetic 0;
  key_point = kept held KeyPoint p.key_point 0;
  withheld = kept held Withheld p.withheld 0;
  overlap = kept held Overlap p.overlap 0;
  scan_channel = kept held ScanChannel p.scan_channel 0;
  user_data = kept held UserData p.user_data 0;
}

-- every dimension of a point outside a set is 0
abbrev pub IsWithin : (Dim → Bool) → Point → Type 0
IsWithin held p = cleared held p ≡ p
