use Rattle.std.proofs.Common.{◌≡◌, take}
use Rattle.las_vlr.proofs.lists.VlrList.try_copy.Given as goal

abbrev pub invariant-loop-vlr : goal.invariant-loop-vlr
invariant-loop-vlr l = l.items.items ≡ take l.vlr-index l.self
