-- Numbers in a list.
use Rattle.std.specs.Prelude.{ℕ, List, [], ◌∷◌, ◌++◌, Bool, true, false, ◌||◌, ◌==◌, count_by}
use Rattle.std.specs.List.{list_any}

abbrev pub is_empty : {X : Type 0} → List X → Bool
is_empty [] = true
is_empty (x ∷ xs) = false

-- whether j is among them
abbrev pub has : List ℕ → ℕ → Bool
has js j = list_any (λ k. k == j) js

-- how often j is among them
abbrev pub times : ℕ → List ℕ → ℕ
times j js = count_by (λ k. k == j) js

-- whether one of the second list stands in the first, or earlier in the second
abbrev pub has_twice : List ℕ → List ℕ → Bool
has_twice before [] = false
has_twice before (j ∷ js) = has before j || has_twice (before ++ j ∷ []) js
