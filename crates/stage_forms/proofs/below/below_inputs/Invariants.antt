use Rattle.std.proofs.Common.{take}
use Rattle.stage_forms.specs.Joined.{IsJoined}
use Rattle.stage_forms.proofs.below.below_inputs.Given as goal

-- what the inputs so far have
abbrev pub invariant-loop-j : goal.invariant-loop-j
invariant-loop-j l = IsJoined l.belows (take l.j-index l.inputs) (record { readers = l.readers; layout = l.layout })
