use Rattle.std.proofs.Common.{ℕ, ◌<◌, arith, length, get_or, map, ap, sym, ◌∙◌, subst, List}
use Rattle.std.specs.List.{range_with_len}
use Rattle.std.specs.List.Sorted.{IsPermutation}
use Rattle.cloud_points.specs.Points.{key_of, zero_point}
use Rattle.cloud_points.specs.declared.point.Point.{Point}
use Rattle.whole_filters.specs.Whole.{before}
use Rattle.whole_filters.proofs.Sorting.{sorted_by-few}
use Rattle.whole_filters.proofs.places.put_in_order.Goals as goal

pub returns-then-len-lt2-clause-ok : goal.returns-then-len-lt2-clause-ok
returns-then-len-lt2-clause-ok c =
    let few : length c.args.points.now < 2 = omega (arith, c.len.ensures, c.if-len-lt2.true) in
    sym (sorted_by-few (before (λ (p : Point). key_of p c.args.dim) c.args.down) c.args.points.now few)

pub reorder-requires : goal.reorder-requires
reorder-requires c =
    subst (λ (z : List ℕ). IsPermutation (range_with_len 0 (length c.args.points.now)) z) (sym c.as_mut_slice.ensures.value) c.in_ok-sources.ensures.each_once

pub returns-clause-ok : goal.returns-clause-ok
returns-clause-ok c =
    c.reorder.ensures ∙ ap (map (λ k. get_or c.args.points.now k zero_point)) c.as_mut_slice.ensures.value ∙ c.in_ok-sources.ensures.in_order zero_point
