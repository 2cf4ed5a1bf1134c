use Rattle.std.proofs.Common.{◌≡◌, drop}
use Rattle.stage_meanings.specs.Rules.{in_turn, assigned}
use Rattle.stream_filters.proofs.rules.AssignmentsPointRule.judge.Given as goal

-- the assignments that are still to be made
abbrev pub invariant-loop-part : goal.invariant-loop-part
invariant-loop-part l = in_turn assigned (drop l.part-index l.self) l.p ≡ in_turn assigned l.self l.initial.p
