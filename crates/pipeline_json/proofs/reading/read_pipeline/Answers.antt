use Rattle.std.proofs.Common.{rules, ◌≡◌, ◌∙◌, IfOk, IfErr, Ok, sym, ap, subst}
use Rattle.serde_json.specs.Errors.{IsMemory}
use Rattle.serde_json.specs.View.{view}
use Rattle.pipeline_json.specs.Shown.{IsToldFault}
use Rattle.pipeline_json.specs.TreeShown.{tree_view}
use Rattle.pipeline_json.specs.Trees.{tree_of_array}
use Rattle.pipeline_json.proofs.Texts.{not_json, text_read}
use Rattle.pipeline_json.proofs.reading.read_pipeline.Goals as goal

pub returns-in-Err-clause-fault : goal.returns-in-Err-clause-fault
returns-in-Err-clause-fault c =
    let other : IsMemory c.in-Err.error → ⊥ = search rules in
    not_json c.args.text.now c.if-text-gt-MOST_BYTES.false (c.in-Err.ensures.err other)

pub returns-in-Some-clause-ok : goal.returns-in-Some-clause-ok
returns-in-Some-clause-ok c =
    let is = text_read c.args.text.now (view c.in-Ok.value) c.if-text-gt-MOST_BYTES.false c.in-Ok.ensures.ok.0 c.in-Ok.ensures.ok.1 ∙ ap tree_of_array (sym c.in-Some.ensures) in
    subst (λ o. IfOk c.read_elements.result (λ tree. o ≡ Ok (tree_view tree))) (sym is) c.read_elements.ensures.ok

pub returns-in-Some-clause-fault : goal.returns-in-Some-clause-fault
returns-in-Some-clause-fault c =
    let is = text_read c.args.text.now (view c.in-Ok.value) c.if-text-gt-MOST_BYTES.false c.in-Ok.ensures.ok.0 c.in-Ok.ensures.ok.1 ∙ ap tree_of_array (sym c.in-Some.ensures) in
    subst (λ o. IfErr c.read_elements.result (λ e. IsToldFault o e)) (sym is) c.read_elements.ensures.fault

pub returns-clause-fault : goal.returns-clause-fault
returns-clause-fault c = text_read c.args.text.now (view c.in-Ok.value) c.if-text-gt-MOST_BYTES.false c.in-Ok.ensures.ok.0 c.in-Ok.ensures.ok.1 ∙ ap tree_of_array (sym c.in-None.ensures)
