use Rattle.std.proofs.Common.{◌≡◌, ◌-◌, map}
use Rattle.std.specs.List.{range_with_len}
use Rattle.arrayvec.specs.ArrayVec.{array_vec_len}
use Rattle.cloud_gen.specs.Generated.{generated}
use Rattle.cloud_gen.proofs.file.generated_chunk.Given as goal

abbrev pub invariant-loop-place : goal.invariant-loop-place
invariant-loop-place l = record {
  items : l.points.items ≡ map (generated 1) (range_with_len l.start (l.place - l.start));
  count : array_vec_len l.points ≡ l.place - l.start;
}
