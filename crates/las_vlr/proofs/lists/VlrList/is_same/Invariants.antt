use Rattle.std.proofs.Common.{◌≡◌, drop}
use Rattle.las_vlr.specs.Same.{same_list}
use Rattle.las_vlr.proofs.lists.VlrList.is_same.Given as goal

abbrev pub invariant-loop-at : goal.invariant-loop-at
invariant-loop-at l = same_list l.self l.other ≡ same_list (drop l.at l.self) (drop l.at l.other)
