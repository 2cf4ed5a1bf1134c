-- What the types of a point's numbers say of them.
use Rattle.std.specs.Prelude.{◌^◌, ◌<◌, pos, get_or, FitsSigned}
use Rattle.std.specs.Int.{w64}
use Rattle.cloud_points.specs.declared.point.Point.{Point}

pub record FitsTypes (p : Point) : Type 0 where
  pub x : FitsSigned w64 p.x
  pub y : FitsSigned w64 p.y
  pub z : FitsSigned w64 p.z
  pub scan_angle_rank : FitsSigned w64 p.scan_angle_rank
  pub extra0 : FitsSigned w64 (get_or p.extra 0 (pos 0))
  pub extra1 : FitsSigned w64 (get_or p.extra 1 (pos 0))
  pub extra2 : FitsSigned w64 (get_or p.extra 2 (pos 0))
  pub extra3 : FitsSigned w64 (get_or p.extra 3 (pos 0))
  pub extra4 : FitsSigned w64 (get_or p.extra 4 (pos 0))
  pub extra5 : FitsSigned w64 (get_or p.extra 5 (pos 0))
  pub extra6 : FitsSigned w64 (get_or p.extra 6 (pos 0))
  pub extra7 : FitsSigned w64 (get_or p.extra 7 (pos 0))
  pub gps_time : p.gps_time < 2 ^ 64
  pub intensity : p.intensity < 2 ^ 16
  pub point_source_id : p.point_source_id < 2 ^ 16
  pub red : p.red < 2 ^ 16
  pub green : p.green < 2 ^ 16
  pub blue : p.blue < 2 ^ 16
  pub infrared : p.infrared < 2 ^ 16
  pub return_number : p.return_number < 2 ^ 8
  pub number_of_returns : p.number_of_returns < 2 ^ 8
  pub scan_direction_flag : p.scan_direction_flag < 2 ^ 8
  pub edge_of_flight_line : p.edge_of_flight_line < 2 ^ 8
  pub classification : p.classification < 2 ^ 8
  pub synthetic : p.synthetic < 2 ^ 8
  pub key_point : p.key_point < 2 ^ 8
  pub withheld : p.withheld < 2 ^ 8
  pub overlap : p.overlap < 2 ^ 8
  pub scan_channel : p.scan_channel < 2 ^ 8
  pub user_data : p.user_data < 2 ^ 8
