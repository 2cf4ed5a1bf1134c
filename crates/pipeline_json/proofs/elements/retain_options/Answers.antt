use Rattle.std.proofs.Common.{not, string_bytes, rules, String, Global}
use Rattle.std.proofs.lemmas.Map.Made.{filter_same_pairs}
use Rattle.serde_json.specs.declared.value.Value.{Value}
use Rattle.pipeline_json.specs.Stages.{is_own}
use Rattle.pipeline_json.proofs.elements.retain_options.Goals as goal

pub returns : goal.returns
returns c = filter_same_pairs _ (λ (e : String Global × Value). not (is_own (string_bytes e.0))) _ (λ k v b w g t. search rules) _ _ c.retain.ensures.filtered
