use Rattle.std.proofs.Common.{ℕ, List, length, refl, ap, sym, ◌∙◌, arith}
use Rattle.std.proofs.lemmas.Option.{slice_get_read}
use Rattle.stage_options.specs.declared.stage.StageSpec.{StageSpec}
use Rattle.run_engine.proofs.Inputs.{input-count}
use Rattle.run_outcome.proofs.Stages.{stage-is}
use Rattle.run_engine.proofs.nodes.inputs_of.Goals as goal

pub overflow_cast-result : goal.overflow_cast-result
overflow_cast-result c =
    let at = slice_get_read c.args.stages.now (length c.args.stages.now) c.args.number c.index-stages-number.result refl c.requires.inside c.index-stages-number.is in
    let few = input-count c.args.stages.now c.args.number c.index-stages-number.result c.requires.tree c.requires.inside at in
    let size = ap (λ (xs : List ℕ). length xs) c.as_slice-ins.ensures ∙ ap (λ (s : StageSpec). length s.ins) (sym c.index-stages-number.is) in
    omega (arith, few, size)

pub returns : goal.returns
returns c =
    let at = slice_get_read c.args.stages.now (length c.args.stages.now) c.args.number c.index-stages-number.result refl c.requires.inside c.index-stages-number.is in
    ap (λ (xs : List ℕ). length xs) c.as_slice-ins.ensures ∙ ap (λ (s : StageSpec). length s.ins) (sym c.index-stages-number.is)
    ∙ ap (λ (s : StageSpec). length s.ins) (sym (stage-is c.args.stages.now c.args.number c.index-stages-number.result at))
