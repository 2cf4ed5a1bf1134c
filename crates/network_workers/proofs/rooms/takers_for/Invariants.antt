use Rattle.std.proofs.Common.{◌≡◌, ◌%◌, ◌≤◌, length, map, take, vec_len, vec_capacity}
use Rattle.std.specs.List.{range_with_len}
use Rattle.network_workers.specs.Dealt.{own_count}
use Rattle.network_workers.proofs.rooms.takers_for.Given as goal

abbrev pub invariant-loop-is_own : goal.invariant-loop-is_own
invariant-loop-is_own l = record {
  made : l.takers.items ≡ map (λ place. own_count (take place l.own) % l.workers) (range_with_len 0 l.is_own-index);
  count : vec_len l.takers ≡ l.is_own-index;
  before : l.before ≡ own_count (take l.is_own-index l.own);
  room : length l.own ≤ vec_capacity l.takers;
}
