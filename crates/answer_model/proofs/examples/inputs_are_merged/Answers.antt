use Rattle.std.proofs.Common.{refl}
use Rattle.std.specs.Fmt.{digits}
use Rattle.answer_model.specs.Forms.{text_form}
use Rattle.answer_model.specs.Values.{evaluated}
use Rattle.answer_model.proofs.examples.inputs_are_merged.Goals as goal

pub returns : goal.returns
unfolding digits evaluated text_form
returns c = record { text = refl; order = refl; cut = refl; fault = refl; none = refl }
