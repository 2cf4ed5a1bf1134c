use Rattle.std.proofs.Common.{◌≡◌, ◌<◌, ◌+◌, Some, ap, sym, subst, ◌∙◌, arith, length}
use Rattle.std.specs.Prelude.{slice_get}
use Rattle.std.proofs.lemmas.Option.{slice_get-get_or}
use Rattle.stage_kinds.proofs.Judged.{AllJudged, no-view-judged, view-stops, view-passes, none-stops, all-counted}
use Rattle.stage_kinds.proofs.judging.judge_views.Goals as goal

pub loop-v-init : goal.loop-v-init
loop-v-init c = no-view-judged c.args.places.now c.args.only.now c.args.views.now.views

pub returns-in-Err-clause-err : goal.returns-in-Err-clause-err
returns-in-Err-clause-err c =
    let views = c.args.views.now.views in
    let inside : c.loop-v.v < length views = (let t = c.loop-v-test.true in let n = c.views-v-end.ensures in omega (arith, t, n)) in
    let at : slice_get views c.loop-v.v ≡ Some c.view.result.now = slice_get-get_or views c.loop-v.v c.args.views.now.open_view inside ∙ ap (λ x. Some x) (sym c.view.ensures) in
    view-stops c.args.places.now c.args.only.now views c.loop-v.v c.loop-v.number c.loop-v.wrote c.view.result.now c.loop-v.invariant at c.in-Err.fault c.in-Err.ensures.err

pub loop-v-preserved : goal.loop-v-preserved
loop-v-preserved c =
    let views = c.args.views.now.views in
    let inside : c.loop-v.v < length views = (let t = c.loop-v-test.true in let n = c.views-v-end.ensures in omega (arith, t, n)) in
    let at : slice_get views c.loop-v.v ≡ Some c.view.result.now = slice_get-get_or views c.loop-v.v c.args.views.now.open_view inside ∙ ap (λ x. Some x) (sym c.view.ensures) in
    subst (AllJudged c.args.places.now c.args.only.now views (c.loop-v.v + 1) c.in-Ok.next) (sym c.saturating_add-wrote.ensures)
    (view-passes c.args.places.now c.args.only.now views c.loop-v.v c.loop-v.number c.loop-v.wrote c.view.result.now c.loop-v.invariant at c.in-Ok.next c.in-Ok.written c.in-Ok.ensures.ok)

pub returns-clause-ok : goal.returns-clause-ok
returns-clause-ok c = none-stops c.args.places.now c.args.only.now c.args.views.now.views c.loop-v.v c.loop-v.number c.loop-v.wrote
    (let t = c.loop-v-test.false in let e = c.loop-v.auto.v-end in let n = c.views-v-end.ensures in omega (arith, t, e, n)) c.loop-v.invariant

pub returns-clause-count : goal.returns-clause-count
returns-clause-count c = all-counted c.args.places.now c.args.only.now c.args.views.now.views c.loop-v.v c.loop-v.number c.loop-v.wrote
    (let t = c.loop-v-test.false in let e = c.loop-v.auto.v-end in let n = c.views-v-end.ensures in omega (arith, t, e, n)) c.loop-v.invariant
