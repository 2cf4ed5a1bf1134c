use Rattle.std.proofs.Common.{refl, ap, ◌∙◌}
use Rattle.set_engine.proofs.Giving.{more_views}
use Rattle.set_engine.proofs.leaves.leaf_views.Goals as goal

pub giving-preserved : goal.giving-preserved
giving-preserved g c =
    let now = c.giving.invariant in
    let work = g.W.Work in
    record {
      leaf = c.make.ensures.leaf ∙ now.leaf;
      op = c.make.ensures.op ∙ now.op;
      meaning = c.make.ensures.meaning ∙ now.meaning;
      calm = c.in-EndView.ensures.calm refl ∙ now.calm;
      tells = λ t. c.in-EndView.ensures.tells (now.tells t) refl refl;
      told = λ t. more_views c.giving.views c.end_view.new.self (work.told c.args.leaf.now) (work.told c.make.new.self) (work.told c.giving.leaf) (now.told t)
          (c.in-EndView.ensures.part (now.tells t) refl) c.in_ok-end_view-in-EndView.ensures.ok;
      fault = λ t. now.fault t ∙ c.in-EndView.ensures.fault (now.tells t) refl;
      uncut = ap (λ (f : _). f.cut) c.in_ok-end_view-in-EndView.ensures.ok ∙ now.uncut;
    }
