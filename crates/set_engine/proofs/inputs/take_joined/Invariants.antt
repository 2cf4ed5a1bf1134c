use Rattle.std.proofs.Common.{◌≡◌, ℕ, map, take, slice_get, false}
use Rattle.cloud_points.specs.Flows.{join_all}
use Rattle.pipeline_json.specs.Lists.{has}
use Rattle.set_engine.specs.Taking.{value_in}
use Rattle.set_engine.proofs.inputs.take_joined.Given as goal

-- the values at the places before this one are joined, and the others stand where they stood
abbrev pub invariant-loop-place : goal.invariant-loop-place
invariant-loop-place l = record {
  joined : l.joined ≡ join_all (map (value_in l.initial.values) (take l.place-index l.places));
  others : (j : ℕ) → has (take l.place-index l.places) j ≡ false → slice_get l.values j ≡ slice_get l.initial.values j;
}
