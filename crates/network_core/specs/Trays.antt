-- The points of a tray.
use Rattle.std.specs.Prelude.{Option, Some, None}
use Rattle.std.specs.Global.{Box}
use Rattle.arrayvec.specs.ArrayVec.{ArrayVec}
use Rattle.cloud_points.specs.declared.point.Point.{Point}

-- they lie in the slot that was lent, where one was
abbrev pub lying : ArrayVec Point → Option (Box (ArrayVec Point)) → ArrayVec Point
lying own None = own
lying own (Some slot) = slot.value
