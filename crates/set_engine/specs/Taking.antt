-- The values that a stage takes.
use Rattle.std.specs.Prelude.{ℕ, List, slice_index_or}
use Rattle.cloud_points.specs.Flows.{Flow, empty_flow}
use Rattle.cloud_points.specs.declared.point.Point.{Point}

-- the value at a place
abbrev pub value_in : List (Flow Point) → ℕ → Flow Point
value_in values j = slice_index_or values j empty_flow
