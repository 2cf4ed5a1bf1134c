use Rattle.std.proofs.Common.{length, take, ◌-◌, ◌≡◌, None, reverse}
use Rattle.limits_text.specs.declared.control.Control.TheVariants.{Polygon}
use Rattle.limits_text.specs.Words.{front_of, words_in}
use Rattle.limits_text.specs.Wrong.{first_wrong}
use Rattle.limits_text.specs.Fronts.{IsReached}
use Rattle.limits_text.proofs.RingFronts.{IsRingFront}
use Rattle.limits_text.proofs.polygon.read_corners.Given as goal

abbrev pub invariant-loop-control : goal.invariant-loop-control
invariant-loop-control l = record {
  reached : IsReached Polygon l.control l.text l.at;
  right : first_wrong Polygon (words_in (front_of (take l.at l.text))) ≡ None;
  shown : IsRingFront l.control (reverse l.ring.corners.items) l.ring.x l.ring.corner (words_in (front_of (take l.at l.text)));
}

abbrev pub decreases-loop-control : goal.decreases-loop-control
decreases-loop-control l = length l.text - l.at
