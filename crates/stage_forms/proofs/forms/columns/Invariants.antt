use Rattle.std.proofs.Common.{◌≡◌, map, take}
use Rattle.answer_model.specs.Forms.{column_of}
use Rattle.stage_forms.proofs.forms.columns.Given as goal

-- the columns so far
abbrev pub invariant-loop-one : goal.invariant-loop-one
invariant-loop-one l = l.columns.items ≡ map (column_of l.names l.precision) (take l.one-index l.named)
