use Rattle.std.proofs.Common.{◌≡◌, [], take, false}
use Rattle.set_engine.proofs.gathering.copy_of.Given as goal

-- the views before this one stand in the copy
abbrev pub invariant-loop-v : goal.invariant-loop-v
invariant-loop-v l = l.copy ≡ record { views = take l.v l.views.views; open_view = []; cut = false }
