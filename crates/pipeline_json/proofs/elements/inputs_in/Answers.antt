use Rattle.std.proofs.Common.{◌∙◌, Some, map, sym, ap, is_some}
use Rattle.std.specs.List.{list_all}
use Rattle.serde_json.specs.Find.{as_str}
use Rattle.serde_json.specs.View.{view}
use Rattle.pipeline_json.specs.Stages.{inputs_in}
use Rattle.pipeline_json.proofs.Members.{array_inputs}
use Rattle.pipeline_json.proofs.elements.inputs_in.Goals as goal

pub returns-then-are_all_texts : goal.returns-then-are_all_texts
returns-then-are_all_texts c =
    let are = sym c.if-are_all_texts.true ∙ c.are_all_texts.ensures ∙ ap (list_all (λ v. is_some (as_str (view v)))) c.as_slice.ensures.value in
    sym (ap (λ v. inputs_in (view v)) c.in-Array.is ∙ array_inputs c.in-Array.list _ are ∙ ap (λ vs. Some (map view vs)) (sym c.as_slice-then-are_all_texts.ensures.value))

pub returns-else-are_all_texts : goal.returns-else-are_all_texts
returns-else-are_all_texts c =
    let are = sym c.if-are_all_texts.false ∙ c.are_all_texts.ensures ∙ ap (list_all (λ v. is_some (as_str (view v)))) c.as_slice.ensures.value in
    sym (ap (λ v. inputs_in (view v)) c.in-Array.is ∙ array_inputs c.in-Array.list _ are)
