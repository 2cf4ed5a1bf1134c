use Rattle.std.proofs.Common.{◌≡◌, ◌++◌, ◌∷◌, [], get_or, ap, sym, subst, ◌∙◌}
use Rattle.std.proofs.lemmas.List.{take_more}
use Rattle.std.proofs.lemmas.Option.{get_or_from_slice_get, slice_get_within}
use Rattle.cloud_points.specs.Clearing.{IsWithin}
use Rattle.cloud_points.specs.Layouts.{holds}
use Rattle.cloud_points.specs.declared.layout.Layout.{Layout}
use Rattle.packed_chunk.specs.Held.{Held}
use Rattle.packed_chunk.proofs.Wider.{wider_within}
use Rattle.packed_chunk.proofs.rows.PackedRows.laid_under.Goals as goal

pub push-requires : goal.push-requires
push-requires c =
    subst (λ (l : Layout). IsWithin (holds l) c.get.result) (sym c.loop-k.invariant.0)
    (wider_within c.args.self.now.layout c.args.layout.now c.get.result c.requires c.get.ensures.within)

pub loop-k-preserved : goal.loop-k-preserved
loop-k-preserved c =
    let points = c.args.self.now.points in
    let k = c.loop-k.k in
    let p = c.get.result in
    let pushed = c.in_ok-push.ensures.ok in
    let got : p ≡ get_or points k p = sym (get_or_from_slice_get points k p p c.get.ensures.value) in
    let more = take_more points k p (slice_get_within points k p c.get.ensures.value) in (
      ap (λ (h : Held). h.layout) pushed ∙ c.loop-k.invariant.0,
      ap (λ (h : Held). h.points) pushed ∙ (λ j. c.loop-k.invariant.1 j ++ got j ∷ []) ∙ sym more,
      c.loop-k.invariant.2,
    )
