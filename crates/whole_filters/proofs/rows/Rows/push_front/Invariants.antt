use Rattle.std.proofs.Common.{◌≡◌, ◌++◌, take}
use Rattle.whole_filters.proofs.rows.Rows.push_front.Given as goal

abbrev pub invariant-loop-k : goal.invariant-loop-k
invariant-loop-k l = l.self ≡ l.fn.self ++ take l.k l.other
