use Rattle.std.proofs.Common.{◌∙◌, option_map, sym, ap}
use Rattle.serde_json.specs.Find.{as_array}
use Rattle.serde_json.specs.View.{view}
use Rattle.pipeline_json.specs.Stages.{elements}
use Rattle.pipeline_json.specs.Trees.{array_in}
use Rattle.pipeline_json.proofs.Members.{array_whole}
use Rattle.pipeline_json.proofs.reading.array_in.Goals as goal

pub returns-in-Array : goal.returns-in-Array
returns-in-Array c = c.items_of.ensures ∙ ap (λ v. option_map elements (as_array (view v))) c.in-Array.is ∙ array_whole c.in-Array.field-0 ∙ ap (λ v. array_in (view v)) (sym c.in-Array.is)
