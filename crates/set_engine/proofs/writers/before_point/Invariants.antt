use Rattle.std.proofs.Common.{◌≡◌, [], take, false}
use Rattle.set_engine.proofs.writers.before_point.Given as goal

-- the views before this one stand before the point
abbrev pub invariant-loop-v : goal.invariant-loop-v
invariant-loop-v l = l.given ≡ record { views = take l.v l.views.views; open_view = []; cut = false }
