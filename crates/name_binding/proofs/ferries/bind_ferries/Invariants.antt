use Rattle.std.proofs.Common.{◌≡◌, ◌≤◌, ◌++◌, drop, take, length, vec_len}
use Rattle.std.specs.Prelude.{vec_capacity}
use Rattle.cloud_points.specs.Layouts.{holds}
use Rattle.name_binding.specs.Ferries.{with_targets, ferries_refused, ferries_bound}
use Rattle.name_binding.proofs.ferries.bind_ferries.Given as goal

-- what is left, with the names so far, comes to the whole
abbrev pub invariant-loop-ferry : goal.invariant-loop-ferry
invariant-loop-ferry l =
    let left = drop l.ferry-index l.ferries in
    let has = holds l.layout in
    record {
      bound : l.bound.items ++ ferries_bound l.names left ≡ ferries_bound l.initial.names l.ferries;
      so_far : l.names ≡ with_targets l.initial.names (take l.ferry-index l.ferries);
      names : with_targets l.names left ≡ with_targets l.initial.names l.ferries;
      refused : ferries_refused l.i l.initial.names has l.ferries ≡ ferries_refused l.i l.names has left;
      count : vec_len l.bound ≡ l.ferry-index;
      room : length l.ferries ≤ vec_capacity l.bound;
    }
