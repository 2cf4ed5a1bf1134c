use Rattle.std.proofs.Common.{refl, ap, ◌∷◌, []}
use Rattle.whole_filters.specs.Whole.{first_of_each}
use Rattle.whole_filters.proofs.Stepping.{flat_map_next}
use Rattle.whole_filters.proofs.thinning.firsts_of_each.Goals as goal

pub loop-view-preserved : goal.loop-view-preserved
loop-view-preserved g c =
    flat_map_next (first_of_each g.K.Key.PartialEq.eq (g.K.PointKey.key c.args.by.now)) c.loop-view.yielded c.in-Some.view _ _ (c.in_ok-firsts_of.field-0 ∷ []) _
    c.loop-view.invariant refl (ap (λ z. z ∷ []) c.in_ok-firsts_of.ensures) c.in_ok-push.ensures.items
