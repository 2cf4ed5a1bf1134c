use Rattle.std.proofs.Common.{length}
use Rattle.worked_values.proofs.Forms.{Listed}
use Rattle.worked_values.proofs.texts.files.form.Given as goal

abbrev pub invariant-loop-dim : goal.invariant-loop-dim
invariant-loop-dim l = Listed l.dim-index (length l.columns) l.list.items
