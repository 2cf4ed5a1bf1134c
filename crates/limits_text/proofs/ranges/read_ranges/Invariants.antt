use Rattle.std.proofs.Common.{length, take, ◌-◌, ◌≡◌, None, reverse}
use Rattle.std.specs.Prelude.{slice_range}
use Rattle.limits_text.specs.declared.control.Control.TheVariants.{Name}
use Rattle.limits_text.specs.Words.{front_of, words_in}
use Rattle.limits_text.specs.Wrong.{first_wrong}
use Rattle.limits_text.specs.Fronts.{IsReached}
use Rattle.limits_text.specs.Ranges.{IsNamed}
use Rattle.limits_text.proofs.RangeFronts.{IsRangeFront}
use Rattle.limits_text.proofs.ranges.read_ranges.Given as goal

abbrev pub invariant-loop-alloc : goal.invariant-loop-alloc
invariant-loop-alloc l = record {
  reached : IsReached Name l.control l.text l.at;
  right : first_wrong Name (words_in (front_of (take l.at l.text))) ≡ None;
  named : IsNamed l.text l.draft.from l.draft.to;
  shown : IsRangeFront l.control (reverse l.draft.ranges.items) l.draft.interval (slice_range l.text l.draft.from l.draft.to) (words_in (front_of (take l.at l.text)));
}

abbrev pub decreases-loop-alloc : goal.decreases-loop-alloc
decreases-loop-alloc l = length l.text - l.at
