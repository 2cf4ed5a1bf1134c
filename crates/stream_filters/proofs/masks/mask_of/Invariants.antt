use Rattle.std.proofs.Common.{◌≡◌, ◌-◌, length, drop}
use Rattle.stream_filters.specs.Masks.{mask_of}
use Rattle.stream_filters.proofs.masks.mask_of.Given as goal

-- the mask of the last points
abbrev pub invariant-loop-at : goal.invariant-loop-at
invariant-loop-at g l = (l.mask ≡ mask_of (g.T.PointTest.test l.test) (drop (length l.points - l.at) l.points)) × (l.at-end ≡ length l.points)
