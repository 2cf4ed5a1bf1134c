use Rattle.std.proofs.Common.{arith, ◌≡◌, ◌+◌, ◌-◌, ◌∙◌}
use Rattle.decimal_coords.proofs.Padded.{padded_before, rest_below, take_shorter}
use Rattle.decimal_coords.proofs.put.put_padded.Goals as goal

pub loop-count-preserved : goal.loop-count-preserved
loop-count-preserved c =
    let l = c.loop-count in
    let e : l.at - 2 + 2 ≡ l.at = omega arith in
    record {
      low = omega arith;
      high = omega arith;
      small = rest_below l.count l.rest c.loop-count-test.true l.invariant.small;
      place = omega arith;
      written = rw (c.put_pair.ensures.written, e) (padded_before l.count l.rest _ _ c.loop-count-test.true (omega arith) l.invariant.written);
      before = c.put_pair.ensures.before ∙ take_shorter (l.at - 2) l.at _ _ (omega arith) l.invariant.before;
    }

pub returns-clause-before : goal.returns-clause-before
returns-clause-before c =
    c.put_first.ensures.before ∙ take_shorter c.put_first.result c.loop-count.at _ _ (omega arith) c.loop-count.invariant.before
