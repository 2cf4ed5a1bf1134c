use Rattle.std.proofs.Common.{◌∙◌, Some, map, option_map, sym, ap}
use Rattle.serde_json.specs.Find.{as_array}
use Rattle.serde_json.specs.View.{view}
use Rattle.pipeline_json.specs.Stages.{elements}
use Rattle.pipeline_json.proofs.Members.{array_items}
use Rattle.pipeline_json.proofs.reading.items_of.Goals as goal

pub returns-in-Array : goal.returns-in-Array
returns-in-Array c = sym (ap (λ v. option_map elements (as_array (view v))) c.in-Array.is ∙ array_items c.in-Array.list ∙ ap (λ vs. Some (map view vs)) (sym c.as_slice.ensures.value))
