use Rattle.std.proofs.Common.{◌≡◌, take, length}
use Rattle.cloud_points.specs.Flows.{all_of}
use Rattle.cloud_points.specs.Queue.{up_to_limit}
use Rattle.set_engine.proofs.evaluating.stage_count.Given as goal

-- the points of the views before this one
abbrev pub invariant-loop-v : goal.invariant-loop-v
invariant-loop-v l = l.points ≡ up_to_limit (length (all_of (take l.v l.given.views)))
