-- A slice that is filled from a place.
use Rattle.std.specs.Prelude.{◌≡◌, ℕ, ◌-◌, ◌≤◌, min, List, length, take, drop, Option, Some}

-- n bytes from this place, all that there is room for or that are left
pub record Fills (bytes : Option (List ℕ)) (at n : ℕ) (old new : List ℕ) : Type 0 where
  pub within : n ≤ length old
  pub rest : drop n new ≡ drop n old
  pub given : (b : List ℕ) → bytes ≡ Some b → take n new ≡ take n (drop at b)
  pub all : (b : List ℕ) → bytes ≡ Some b → n ≡ min (length old) (length b - at)
