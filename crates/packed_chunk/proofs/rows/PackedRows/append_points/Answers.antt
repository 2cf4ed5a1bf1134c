use Rattle.std.proofs.Common.{◌∙◌, arith}
use Rattle.std.proofs.lemmas.Option.{get_or_from_slice_get, slice_get_within}
use Rattle.packed_chunk.proofs.Behind.{anyway, one_behind, all_behind, before_stay}
use Rattle.packed_chunk.proofs.rows.PackedRows.append_points.Goals as goal

pub loop-k-preserved : goal.loop-k-preserved
loop-k-preserved c =
    let before = c.args.self.now.points in
    let more = c.args.later.now.points in
    let k = c.loop-k.k in
    let p = c.get.result in
    let got = get_or_from_slice_get more k p p c.get.ensures.value in
    let inside = slice_get_within more k p c.get.ensures.value in
    record {
      points = c.in_ok-push_any.ensures.ok ∙ one_behind before more k p c.loop-k.self.points inside got c.loop-k.invariant.points;
      ends = c.loop-k.invariant.ends;
    }

pub returns-in_err-push_any-clause-refused : goal.returns-in_err-push_any-clause-refused
returns-in_err-push_any-clause-refused c =
    anyway c.from_residual.result
    (before_stay c.args.self.now.points c.args.later.now.points c.loop-k.k c.push_any.new.self.points
    (c.in_err-push_any.ensures.refused ∙ c.loop-k.invariant.points))

pub returns-clause-ok : goal.returns-clause-ok
returns-clause-ok c =
    all_behind c.args.self.now.points c.args.later.now.points c.loop-k.k c.loop-k.self.points
    (omega (arith, c.loop-k-test.false, c.loop-k.invariant.ends)) c.loop-k.invariant.points
