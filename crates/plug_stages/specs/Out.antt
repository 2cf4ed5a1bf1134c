-- What was taken out of a caller's places for the stages of a run, and is put back.
use Rattle.std.specs.Prelude.{◌≡◌, ◌⊎◌, ℕ, true, Bool, List, [], ◌∷◌, length, Option, Some}
use Rattle.std.specs.Option.{option_map}
use Rattle.cloud_points.specs.Meaning.{Nature}
use Rattle.cloud_points.specs.declared.point.Point.{Point}
use Rattle.plug_stages.specs.Handed.{at_place}

-- it is among these
abbrev pub IsAmong : {A : Type 0} → A → List A → Type 0
IsAmong x [] = ⊥
IsAmong x (y ∷ ys) = (x ≡ y) ⊎ IsAmong x ys

-- what stands in a place, but for what it remembers
abbrev pub nature_at : {X : Type 0} → (ℕ → X → Nature Point) → List (Option X) → ℕ → Option (Nature Point)
nature_at nature places k = option_map (nature k) (at_place places k)

-- what works hold, by natures; a work may hold nothing
module _ {X : Type 0} (nature : ℕ → X → Nature Point) (used : ℕ → Bool) where
  -- what of a place is out with a work
  pub record IsOut (out : List (Option (Nature Point))) (k : ℕ) : Type 0 where
    pub one : Nature Point
    pub place : one.place ≡ k
    pub among : IsAmong (Some one) out

  -- a place holds what it held before; or it is used, and holds the same again but for what that remembers, or that is out
  abbrev pub IsHeld : List (Option (Nature Point)) → List (Option X) → List (Option X) → ℕ → Type 0
  IsHeld out before now k = (at_place now k ≡ at_place before k) ⊎ ((used k ≡ true) × ((nature_at nature now k ≡ nature_at nature before k) ⊎ IsOut out k))

  -- these are out of the places, each of which is used and held it before, and all others stand where they stood
  pub record AreOut (out : List (Option (Nature Point))) (before now : List (Option X)) : Type 0 where
    pub count : length now ≡ length before
    pub held : (n : Nature Point) → IsAmong (Some n) out → (nature_at nature before n.place ≡ Some n) × (used n.place ≡ true)
    pub places : (k : ℕ) → IsHeld out before now k
