use Rattle.cloud_points.proofs.Joining.{Joined}
use Rattle.cloud_points.proofs.layout.Layout.join.Given as goal

abbrev pub invariant-loop-k : goal.invariant-loop-k
invariant-loop-k l = Joined l.k l.fn.self.held l.other.held l.cell-items
