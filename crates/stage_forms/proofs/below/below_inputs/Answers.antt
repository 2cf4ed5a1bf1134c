use Rattle.std.proofs.Common.{◌<◌, ◌++◌, length, take, get_or, refl, ap, sym, subst, ◌∙◌, arith}
use Rattle.std.proofs.lemmas.List.{take_more}
use Rattle.std.proofs.lemmas.Option.{slice_get_read}
use Rattle.stage_forms.specs.Joined.{IsJoined}
use Rattle.stage_forms.specs.declared.below.Below.{Below}
use Rattle.stage_forms.proofs.Joined.{joined-more}
use Rattle.stage_forms.proofs.below.below_inputs.Goals as goal

pub loop-j-preserved : goal.loop-j-preserved
loop-j-preserved c =
    let inputs = c.args.inputs.now in
    let belows = c.args.belows.now in
    let k = c.loop-j.j-index in
    let more = c.index-belows-j.result in
    let lt : k < length inputs = (let a = c.loop-j-test.true in omega (arith, a)) in
    let j = get_or inputs k 0 in
    let at = slice_get_read belows (length belows) j more refl (c.requires k 0 lt) c.index-belows-j.is in
    let before : Below = record { readers = c.loop-j.readers; layout = c.loop-j.layout } in
    let after : Below = record { readers = c.extend_from_slice.new.self; layout = c.join.new.self } in
    let items = c.in_ok-extend_from_slice.ensures.items ∙ ap (λ ys. c.loop-j.readers.items ++ ys) c.as_slice.ensures.value in
    subst (λ js. IsJoined belows js after) (sym (take_more inputs k 0 lt))
    (joined-more belows (take k inputs) j before more after c.loop-j.invariant at items c.join.ensures)
