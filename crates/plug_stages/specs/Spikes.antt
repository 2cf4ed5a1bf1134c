-- Points that don't stand out by their height.
use Rattle.std.specs.Prelude.{◌*◌, ◌^◌, ℤ, ◌-ℤ◌, unsigned_abs, Bool, leb, List, [], ◌∷◌, Option, Some, None, if◌then◌else◌}
use Rattle.cloud_points.specs.declared.point.Point.{Point}

-- two heights in nanounits are within 50 units
abbrev pub is_near : ℤ → ℤ → Bool
is_near a b = leb (unsigned_abs (a -ℤ b)) (50 * 10 ^ 9)

-- of a view the first point, and each that is near the last kept one
abbrev pub near_behind : Point → List Point → List Point
near_behind last [] = []
near_behind last (p ∷ ps) = if is_near p.z last.z then p ∷ near_behind p ps else near_behind last ps

abbrev pub without_spikes : List Point → List Point
without_spikes [] = []
without_spikes (p ∷ ps) = p ∷ near_behind p ps

-- the same as a step: remembered is the height of the last kept point
abbrev pub spike_step : List ℤ → Point → List ℤ × Option Point
spike_step [] p = (p.z ∷ [], Some p)
spike_step (z ∷ rest) p = if is_near p.z z then (p.z ∷ [], Some p) else (z ∷ rest, None)
