use Rattle.std.proofs.Common.{◌≡◌, ◌++◌, ◌∷◌, [], ◌∙◌, ap, sym, rules}
use Rattle.cloud_points.specs.Layouts.{holds}
use Rattle.name_binding.specs.Ferries.{with_target, ferry_bound}
use Rattle.name_binding.proofs.Behind.{one_more, names_next, refused_next, bound_next}
use Rattle.name_binding.proofs.ferries.bind_ferries.Goals as goal

pub loop-ferry-preserved : goal.loop-ferry-preserved
loop-ferry-preserved c =
    let l = c.loop-ferry in
    let f = c.ferry-item.result in
    let fs = c.args.ferries.now in
    let e = sym c.ferry-item.is in
    let n = c.in-Ok-bind_ferry.ensures.names in
    record {
      bound = bound_next l.names _ l.bound.items _ _ fs l.ferry-index f c.loop-ferry-test.true e n (search rules) l.invariant.bound;
      so_far = n ∙ (ap (λ names. with_target names f.to) l.invariant.so_far ∙ sym (one_more c.args.names.now fs l.ferry-index f c.loop-ferry-test.true e));
      names = names_next l.names _ _ fs l.ferry-index f c.loop-ferry-test.true e n l.invariant.names;
      refused = refused_next c.args.i (holds c.args.layout.now) l.names _ _ fs l.ferry-index f c.loop-ferry-test.true e n c.in-Ok-bind_ferry.ensures.none l.invariant.refused;
      count = search rules;
      room = search rules;
    }
