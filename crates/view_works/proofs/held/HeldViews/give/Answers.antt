use Rattle.std.proofs.Common.{◌∙◌, ◌++◌, ◌∷◌, [], map, sym, ap, length, arith}
use Rattle.cloud_points.specs.Marks.{At, End}
use Rattle.network_theory.specs.Net.{count_views, count_points}
use Rattle.view_works.specs.Giving.{still_gives}
use Rattle.view_works.proofs.Given.{here, next-points, next-view, next-end, points-fewer, views-same, nothing-laid}
use Rattle.view_works.proofs.held.HeldViews.give.Goals as goal

pub returns-then-next-self-clause-part : goal.returns-then-next-self-clause-part
returns-then-next-self-clause-part c =
    next-points c.args.self.now.views c.args.self.now.view c.args.self.now.at c.args.self.now.ended _ c.lay-next.result c.requires.begun c.lay-next.ensures.place
    ∙ ap (λ ps. map At ps ++ still_gives c.args.self.now.ended c.args.self.now.views c.args.self.now.view c.lay-next.result) (sym c.lay-next.ensures.points)

pub returns-then-next-self-clause-fewer_points : goal.returns-then-next-self-clause-fewer_points
returns-then-next-self-clause-fewer_points c =
    let all = points-fewer c.args.self.now.views c.args.self.now.view c.args.self.now.at c.args.self.now.ended _ c.lay-next.result c.requires.begun c.lay-next.ensures.place in
    let size = ap length c.lay-next.ensures.points in
    omega (arith, all, size)

pub returns-then-next-self-clause-fewer_views : goal.returns-then-next-self-clause-fewer_views
returns-then-next-self-clause-fewer_views c =
    let same = views-same c.args.self.now.views c.args.self.now.view c.args.self.now.at c.args.self.now.ended _ c.lay-next.result c.requires.begun c.lay-next.ensures.place in
    omega (arith, same)

pub returns-then-self-views-clause-part : goal.returns-then-self-views-clause-part
returns-then-self-views-clause-part c =
    let some = c.requires.some in let stays = c.if-next-self.false in let place = c.lay-next.ensures.place in
    let more = c.if-self-views.true in let count = c.views.ensures in
    next-view c.args.self.now.views c.args.self.now.view c.args.self.now.at c.args.self.now.ended c.requires.begun (omega (arith, more, count)) (omega (arith, some, stays, place))

pub returns-then-self-views-clause-fewer_points : goal.returns-then-self-views-clause-fewer_points
returns-then-self-views-clause-fewer_points c =
    let some = c.requires.some in let stays = c.if-next-self.false in let place = c.lay-next.ensures.place in
    let more = c.if-self-views.true in let count = c.views.ensures in
    let all = ap count_points (next-view c.args.self.now.views c.args.self.now.view c.args.self.now.at c.args.self.now.ended c.requires.begun (omega (arith, more, count)) (omega (arith, some, stays, place))) in
    let none = nothing-laid c.args.chunk c.args.self.now.at (here c.args.self.now.views c.args.self.now.view c.args.self.now.at) c.lay-next.result c.lay-next.ensures.place (omega (arith, stays)) in
    let size = ap length c.lay-next.ensures.points in
    omega (arith, all, size, none)

pub returns-then-self-views-clause-fewer_views : goal.returns-then-self-views-clause-fewer_views
returns-then-self-views-clause-fewer_views c =
    let some = c.requires.some in let stays = c.if-next-self.false in let place = c.lay-next.ensures.place in
    let more = c.if-self-views.true in let count = c.views.ensures in
    let all = ap count_views (next-view c.args.self.now.views c.args.self.now.view c.args.self.now.at c.args.self.now.ended c.requires.begun (omega (arith, more, count)) (omega (arith, some, stays, place))) in
    omega (arith, all)

pub returns-clause-part : goal.returns-clause-part
returns-clause-part c =
    let some = c.requires.some in let stays = c.if-next-self.false in let place = c.lay-next.ensures.place in
    let last = c.if-self-views.false in let count = c.views.ensures in
    next-end c.args.self.now.views c.args.self.now.view c.args.self.now.at c.args.self.now.ended c.requires.begun (omega (arith, last, count)) (omega (arith, some, stays, place))
    ∙ ap (λ cut. End cut ∷ []) (sym c.is_cut.ensures)
