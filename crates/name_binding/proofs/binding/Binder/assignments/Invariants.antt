use Rattle.std.proofs.Common.{◌≡◌, ◌≤◌, ◌++◌, map, drop, length, vec_len}
use Rattle.std.specs.Prelude.{vec_capacity}
use Rattle.cloud_points.specs.Layouts.{holds}
use Rattle.expr_eval.specs.Bindings.{assign_of}
use Rattle.name_binding.specs.Binding.{assigns_refused}
use Rattle.name_binding.proofs.binding.Binder.assignments.Given as goal

abbrev pub invariant-loop-assignment : goal.invariant-loop-assignment
invariant-loop-assignment l =
    let names = l.self.names.now in
    let has = holds l.self.layout.now in
    record {
      bound : l.bound.items ++ map (assign_of names) (drop l.assignment-index l.list) ≡ map (assign_of names) l.list;
      refused : assigns_refused l.self.stage names has l.list ≡ assigns_refused l.self.stage names has (drop l.assignment-index l.list);
      count : vec_len l.bound ≡ l.assignment-index;
      room : length l.list ≤ vec_capacity l.bound;
    }
