use Rattle.std.proofs.Common.{◌≡◌, ◌+◌, ◌≤◌, map}
use Rattle.std.specs.Prelude.{vec_len, vec_capacity}
use Rattle.std.specs.List.{range_with_len}
use Rattle.stage_runs.specs.Parts.{is_own}
use Rattle.stage_runs.proofs.rooms.own_of.Given as goal

abbrev pub invariant-loop-place : goal.invariant-loop-place
invariant-loop-place l = record {
  made : l.own.items ≡ map (is_own l.homes l.home l.root) (range_with_len 0 l.place);
  count : vec_len l.own ≡ l.place;
  room : l.root + 1 ≤ vec_capacity l.own;
  inside : l.place ≤ l.root;
}
