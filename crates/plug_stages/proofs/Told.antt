-- A tally remembers of points what its nature's step does.
use Rattle.std.proofs.Common.{◌≡◌, ℕ, ℤ, List, [], ◌∷◌, Some, refl}
use Rattle.cloud_points.specs.declared.point.Point.{Point}
use Rattle.plug_stages.specs.Folds.{state_behind}
use Rattle.plug_stages.specs.Handed.{tally_nature_at}
use Rattle.plug_stages.specs.Tallied.{tallied}
use Rattle.plug_stages.specs.declared.tally.PlugTally as tally_type

-- by a step that lets each point go on
pub same_behind : {P : Type 0} (step : List ℤ → P → List ℤ) (s : List ℤ) (points : List P) → state_behind (λ t p. (step t p, Some p)) s points ≡ tallied step s points
same_behind step s [] = refl
same_behind step s (p ∷ ps) = same_behind step (step s p) ps

pub told_behind : {T : Type 0} (tally : tally_type.Ghosts T) (place : ℕ) (t : T) (s : List ℤ) (points : List Point)
    → state_behind (tally_nature_at tally place t).step s points ≡ tallied (tally.step t) s points
told_behind tally place t s points = same_behind (tally.step t) s points
