use Rattle.std.proofs.Common.{◌≡◌, ◌∙◌, ◌++◌, take, true, ap, arith}
use Rattle.cloud_points.specs.Flows.{Flow}
use Rattle.cloud_points.specs.declared.point.Point.{Point}
use Rattle.set_filters.proofs.Parts.{before_point}
use Rattle.set_engine.proofs.writers.before_point.Goals as goal

pub returns : goal.returns
returns c =
    let flow = c.args.views.now in
    let last = c.view-2.result.now in
    let at : c.loop-v.v ≡ c.args.view = (let t = c.loop-v-test.false in let e = c.loop-v.auto.v-end in omega (arith, t, e)) in
    c.set_cut.ensures ∙ ap (λ (f : Flow Point). record f { cut = true })
    (c.in_ok-push_first.ensures.ok ∙ ap (λ (f : Flow Point). record f { open_view = f.open_view ++ take c.args.place last }) c.loop-v.invariant)
    ∙ ap (λ v. record { views = take v flow.views; open_view = take c.args.place last; cut = true }) at
    ∙ ap (λ ps. record { views = take c.args.view flow.views; open_view = take c.args.place ps; cut = true }) c.view-2.ensures
    ∙ before_point flow c.args.view c.args.place c.requires.view c.requires.place
