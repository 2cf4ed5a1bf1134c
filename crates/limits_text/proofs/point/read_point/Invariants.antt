use Rattle.std.proofs.Common.{length, take, ◌-◌, ◌≡◌, None}
use Rattle.limits_text.specs.declared.control.Control.TheVariants.{Point}
use Rattle.limits_text.specs.Words.{front_of, words_in}
use Rattle.limits_text.specs.Wrong.{first_wrong}
use Rattle.limits_text.specs.Fronts.{IsReached}
use Rattle.limits_text.proofs.PointFronts.{IsPointFront}
use Rattle.limits_text.proofs.point.read_point.Given as goal

abbrev pub invariant-loop-step : goal.invariant-loop-step
invariant-loop-step l = record {
  reached : IsReached Point l.control l.text l.at;
  right : first_wrong Point (words_in (front_of (take l.at l.text))) ≡ None;
  shown : IsPointFront l.control l.point (words_in (front_of (take l.at l.text)));
}

abbrev pub decreases-loop-step : goal.decreases-loop-step
decreases-loop-step l = length l.text - l.at
