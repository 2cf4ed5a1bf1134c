use Rattle.std.proofs.Common.{◌≡◌, ◌≤◌, ◌++◌, map, drop, length, vec_len}
use Rattle.std.specs.Prelude.{vec_capacity}
use Rattle.cloud_points.specs.Layouts.{holds}
use Rattle.name_binding.specs.Binding.{ranges_refused, limit_of}
use Rattle.name_binding.proofs.binding.Binder.limits.Given as goal

abbrev pub invariant-loop-range : goal.invariant-loop-range
invariant-loop-range l =
    let names = l.self.names.now in
    let has = holds l.self.layout.now in
    record {
      bound : l.bound.items ++ map (limit_of names) (drop l.range-index l.list) ≡ map (limit_of names) l.list;
      refused : ranges_refused l.self.stage names has l.list ≡ ranges_refused l.self.stage names has (drop l.range-index l.list);
      count : vec_len l.bound ≡ l.range-index;
      room : length l.list ≤ vec_capacity l.bound;
    }
