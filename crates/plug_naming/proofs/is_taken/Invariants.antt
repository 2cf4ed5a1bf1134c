use Rattle.std.proofs.Common.{◌≡◌}
use Rattle.answer_model.specs.Naming.{is_taken}
use Rattle.plug_naming.specs.Kinds.{names_of}
use Rattle.plug_naming.proofs.is_taken.Given as goal

abbrev pub invariant-loop-at : goal.invariant-loop-at
invariant-loop-at l = l.taken ≡ is_taken (names_of l.kind) l.stages l.name l.at
