use Rattle.std.proofs.Common.{◌≡◌, ◌∙◌, sym, false, arith}
use Rattle.std.proofs.lemmas.Int.{ints}
use Rattle.geo_tests.specs.Tests.{in_pair}
use Rattle.geo_tests.proofs.Sides.{on_edge_back, crosses_back, not_on_edge, not_from, not_to}
use Rattle.geo_tests.proofs.edges.side_of.Goals as goal
use Rattle.geo_tests.proofs.edges.side_of.Goals.{else-a-p-via-then-a-p+else-p-b, else-a-p-via-else-a-p, else-b-p-via-then-b-p+else-p-a, else-b-p-via-else-b-p}

pub returns-then-p-a-clause-on : goal.returns-then-p-a-clause-on
returns-then-p-a-clause-on c = c.straddling-then-p-a.ensures.on ∙ on_edge_back c.args.a c.args.b c.args.p

pub returns-then-p-a-clause-crosses : goal.returns-then-p-a-clause-crosses
returns-then-p-a-clause-crosses c = c.straddling-then-p-a.ensures.crosses ∙ crosses_back c.args.a c.args.b c.args.p

pub returns-else-b-p-clause-on : goal.returns-else-b-p-clause-on
returns-else-b-p-clause-on c =
    let a = c.args.a.1 in
    let b = c.args.b.1 in
    let p = c.args.p.1 in
    let up : in_pair p (a, b) ≡ false = elim c.else-a-p.branch [
      | else-a-p-via-then-a-p+else-p-b w ↦ not_to a b p (omega (arith, ints, w.if-p-b.false))
      | else-a-p-via-else-a-p w ↦ not_from a b p (omega (arith, ints, w.if-a-p.false))
    ] in
    let down : in_pair p (b, a) ≡ false = elim c.else-b-p.branch [
      | else-b-p-via-then-b-p+else-p-a w ↦ not_to b a p (omega (arith, ints, w.if-p-a.false))
      | else-b-p-via-else-b-p w ↦ not_from b a p (omega (arith, ints, w.if-b-p.false))
    ] in
    sym (not_on_edge c.args.a c.args.b c.args.p up down)
