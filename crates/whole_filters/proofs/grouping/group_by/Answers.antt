use Rattle.std.proofs.Common.{ap, sym, ◌∙◌}
use Rattle.std.specs.Prelude.{flat_map}
use Rattle.cloud_points.specs.Flows.{Flow}
use Rattle.cloud_points.specs.declared.point.Point.{Point}
use Rattle.whole_filters.specs.Whole.{groups}
use Rattle.whole_filters.proofs.Stepping.{whole_set-uncut}
use Rattle.whole_filters.proofs.grouping.group_by.Goals as goal

pub returns : goal.returns
returns g c =
    let made = groups g.K.Key.PartialEq.eq (g.K.PointKey.key c.args.by.now) in
    let like = c.made.view_is ∙ c.like-made.ensures in
    let cut = ap (λ (f : Flow Point). f.cut) like in
    let last = ap (λ (f : Flow Point). f.open_view) like in
    let parts = c.in_ok-made-inside.ensures ∙ ap (λ (f : Flow Point). flat_map made f.views) c.views.view_is in
    whole_set-uncut made c.args.views (sym (ap (λ (f : Flow Point). f.cut) c.views.view_is) ∙ c.if-views.false) _ parts last cut
