-- The rule of a queue: what was sent over it, what was got from it, and what it holds.
use Rattle.std.specs.Prelude.{◌≡◌, ◌||◌, ℕ, ◌+◌, ◌-◌, ◌^◌, ◌≤◌, min, Bool, true, false, List, [], ◌∷◌, ◌++◌, length}

-- a count stands at the greatest u64
abbrev pub up_to_limit : ℕ → ℕ
up_to_limit n = min n (2 ^ 64 - 1)

-- an item has a number, and it is an End or not
module _ {T : Type 0} (number : T → ℕ) (ends : T → Bool) where
  -- the items have the numbers k, k + 1, ..
  abbrev pub IsNumbered : ℕ → List T → Type 0
  IsNumbered k [] = Unit {0}
  IsNumbered k (x ∷ xs) = (number x ≡ up_to_limit k) × IsNumbered (k + 1) xs

  -- an End stands only last
  abbrev pub EndsOnlyLast : List T → Type 0
  EndsOnlyLast [] = Unit {0}
  EndsOnlyLast (x ∷ xs) = (ends x ≡ true → xs ≡ []) × EndsOnlyLast xs

  -- an End is among the items
  abbrev pub has_end : List T → Bool
  has_end [] = false
  has_end (x ∷ xs) = ends x || has_end xs

  -- what was got and what is held are what was sent, in its order
  pub record IsQueue (sent got held : List T) (capacity : ℕ) : Type 0 where
    pub order : got ++ held ≡ sent
    pub room : length held ≤ capacity
    pub numbers : IsNumbered 0 sent
    pub last : EndsOnlyLast sent
