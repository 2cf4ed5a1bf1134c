use Rattle.std.proofs.Common.{◌≡◌, drop}
use Rattle.stage_meanings.specs.Rules.{in_turn, assigned}
use Rattle.set_filters.proofs.judging.in_turn.Given as goal

-- the assignments that are still to be made
abbrev pub invariant-loop-part : goal.invariant-loop-part
invariant-loop-part l = in_turn assigned (drop l.part-index l.parts) l.p ≡ in_turn assigned l.parts l.initial.p
