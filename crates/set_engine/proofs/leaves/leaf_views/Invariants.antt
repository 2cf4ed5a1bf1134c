use Rattle.std.proofs.Common.{◌≡◌, ◌+◌, ◌++◌, true, false}
use Rattle.cloud_points.specs.Marks.{piece_marks}
use Rattle.set_engine.proofs.leaves.leaf_views.Given as goal

-- what was given so far, and what is still to come
abbrev pub invariant-giving : goal.invariant-giving
invariant-giving g l =
    let work = g.W.Work in
    record {
      leaf : work.leaf l.leaf ≡ true;
      op : work.op l.leaf ≡ work.op l.fn.leaf;
      meaning : work.meaning l.leaf ≡ work.meaning l.fn.leaf;
      calm : work.faults l.leaf ≡ work.faults l.fn.leaf;
      tells : work.tells l.fn.leaf ≡ true → work.tells l.leaf ≡ true;
      told : work.tells l.fn.leaf ≡ true → work.told l.fn.leaf ≡ piece_marks l.views ++ work.told l.leaf;
      fault : work.tells l.fn.leaf ≡ true → work.told_fault l.fn.leaf ≡ work.told_fault l.leaf;
      uncut : l.views.cut ≡ false;
    }

abbrev pub decreases-giving : goal.decreases-giving
decreases-giving g l = g.W.Work.points_left l.leaf + g.W.Work.views_left l.leaf
