use Rattle.std.proofs.Common.{◌≡◌, ◌<◌, ℕ, None}
use Rattle.answer_model.specs.Naming.{naming_fault}
use Rattle.plug_stages.specs.Handed.{handed_by}
use Rattle.plug_naming.proofs.check_names.Given as goal

abbrev pub invariant-loop-number : goal.invariant-loop-number
invariant-loop-number g l = (i : ℕ) → i < l.number → naming_fault (handed_by g.P.PlugFilter g.Q.PlugTally l.places) l.stages i ≡ None
