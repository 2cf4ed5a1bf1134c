use Rattle.std.proofs.Common.{◌∙◌, ap, arith}
use Rattle.geo_tests.specs.Tests.{on_border, is_odd}
use Rattle.geo_tests.proofs.Walks.{held_at, held_last, way_round_is, border_kept, border_met, odd_kept, at_end}
use Rattle.geo_tests.proofs.polygons.walk_round.Goals as goal

pub loop-to-init : goal.loop-to-init
loop-to-init c =
    let ps = c.args.corners.now in
    let last = c.in-Some.last.now in
    let some = c.in-Some.ensures.item.3.0 in
    let is = c.in-Some.ensures.item.3.1 last in
    let way = way_round_is ps last some is in
    record {
      held = held_last ps last c.requires.2 some is;
      border = ap (λ z. on_border z c.args.p) way;
      odd = ap (λ z. is_odd z c.args.p) way;
    }

pub side_of-side-requires : goal.side_of-side-requires
side_of-side-requires c =
    let from = c.loop-to.invariant.held in
    let to = held_at c.args.corners.now c.loop-to.to-index _ c.requires.2 (omega arith) in
    (from.0, from.1, (to.0, to.1, (c.requires.0, c.requires.1, tt)))

pub loop-to-preserved : goal.loop-to-preserved
loop-to-preserved c =
    let ps = c.args.corners.now in
    let p = c.args.p in
    let l = c.loop-to in
    let side = c.side_of-side in
    let crossing = side.result.crosses in
    let here = c.loop-to-test.true in
    record {
      held = held_at ps l.to-index _ c.requires.2 here;
      border =
          l.invariant.border
          ∙ border_kept ps l.to-index _ l.from p side.result.on here side.ensures.on c.if-side.false;
      odd =
          l.invariant.odd
          ∙ odd_kept ps l.to-index _ l.from p l.odd c.flipped-odd.result crossing here side.ensures.crosses c.flipped-odd.ensures;
    }

pub returns-then-side : goal.returns-then-side
returns-then-side c =
    let l = c.loop-to in
    let side = c.side_of-side in
    let here = c.loop-to-test.true in
    let on = c.if-side.true in
    border_met c.args.corners.now l.to-index _ l.from c.args.p side.result.on here side.ensures.on on l.invariant.border

pub returns : goal.returns
returns c =
    let l = c.loop-to in
    at_end c.args.corners.now l.to-index l.from c.args.p l.odd c.loop-to-test.false l.invariant.border l.invariant.odd
