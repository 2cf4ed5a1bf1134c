use Rattle.std.proofs.Common.{◌≡◌, take}
use Rattle.forward_rules.specs.States.{forwarding_of}
use Rattle.stage_forms.specs.Below.{reads_in}
use Rattle.stage_forms.proofs.forms.las_form.Given as goal

-- the files of the readers so far were added
abbrev pub invariant-loop-number : goal.invariant-loop-number
invariant-loop-number g l = l.forwarding ≡ forwarding_of l.fields (reads_in l.readers (take l.number-index l.below))
