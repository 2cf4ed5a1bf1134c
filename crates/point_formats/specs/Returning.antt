-- The points that their records give back.
use Rattle.std.specs.Prelude.{◌≡◌, ℕ, ◌^◌, ◌<◌, ℤ, pos, ◌*ℤ◌, List, [], ◌∷◌}
use Rattle.std.specs.List.{AllByRecursion}
use Rattle.cloud_points.specs.declared.dims.Dim.{Dim}
use Rattle.cloud_points.specs.declared.dims.Dim.TheVariants.{Overlap, ScanChannel, GpsTime, Red, Green, Blue, Infrared}
use Rattle.cloud_points.specs.declared.point.Point.{Point}
use Rattle.cloud_points.specs.Points.{zero_point}
use Rattle.las_header.specs.declared.form.Format.{Format}
use Rattle.las_header.specs.declared.form.Format.TheVariants.{F0, F1, F2, F3, F6, F7, F8}
use Rattle.point_formats.specs.declared.grid.Grid.{Grid}
use Rattle.point_formats.specs.Grids.{coordinate}
use Rattle.point_formats.specs.Encoded.{number_of}

-- the numbers that stand in bytes of their own fit their types
pub record FitsTypes (p : Point) : Type 0 where
  pub gps_time : p.gps_time < 2 ^ 64
  pub intensity : p.intensity < 2 ^ 16
  pub point_source_id : p.point_source_id < 2 ^ 16
  pub red : p.red < 2 ^ 16
  pub green : p.green < 2 ^ 16
  pub blue : p.blue < 2 ^ 16
  pub infrared : p.infrared < 2 ^ 16
  pub classification : p.classification < 2 ^ 8
  pub user_data : p.user_data < 2 ^ 8

-- the coordinate is that of some raw number
abbrev pub IsOnAxis : Grid → ℕ → ℤ → Type 0
IsOnAxis grid axis nano = (raw : ℤ) × (nano ≡ coordinate grid axis raw)

-- the angle is a whole number of steps
abbrev pub IsWholeSteps : ℕ → ℤ → Type 0
IsWholeSteps step nano = (n : ℤ) × (nano ≡ n *ℤ pos step)

-- the nanodegrees in which a format counts angles
abbrev pub angle_step : Format → ℕ
angle_step F0 = 1000000000
angle_step F1 = 1000000000
angle_step F2 = 1000000000
angle_step F3 = 1000000000
angle_step F6 = 6000000
angle_step F7 = 6000000
angle_step F8 = 6000000

-- the dimensions of the standard that a format lacks
abbrev pub lacking : Format → List Dim
lacking F0 = Overlap ∷ ScanChannel ∷ GpsTime ∷ Red ∷ Green ∷ Blue ∷ Infrared ∷ []
lacking F1 = Overlap ∷ ScanChannel ∷ Red ∷ Green ∷ Blue ∷ Infrared ∷ []
lacking F2 = Overlap ∷ ScanChannel ∷ GpsTime ∷ Infrared ∷ []
lacking F3 = Overlap ∷ ScanChannel ∷ Infrared ∷ []
lacking F6 = Red ∷ Green ∷ Blue ∷ Infrared ∷ []
lacking F7 = Infrared ∷ []
lacking F8 = []

-- the number of a point in a dimension of whole numbers, or its time's word
abbrev pub word_of : Point → Dim → ℕ
word_of p GpsTime = p.gps_time
word_of p dim = number_of p dim

-- a format holds the point as it is, if its numbers fit their fields
pub record IsOfFormat (format : Format) (grid : Grid) (p : Point) : Type 0 where
  pub x : IsOnAxis grid 0 p.x
  pub y : IsOnAxis grid 1 p.y
  pub z : IsOnAxis grid 2 p.z
  pub angle : IsWholeSteps (angle_step format) p.scan_angle_rank
  pub extra : p.extra ≡ zero_point.extra
  pub others : AllByRecursion (λ dim. word_of p dim ≡ 0) (lacking format)
