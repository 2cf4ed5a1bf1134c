-- The children of each node as a list of lists.
use Rattle.std.specs.Prelude.{◌≡◌, ℕ, ◌+◌, ◌<◌, ◌==◌, nat_lt, Bool, true, false, cond, List, [], ◌∷◌, length, slice_index_or}
use Rattle.network_theory.specs.Shape.{Each}

-- the list of the children of node k, in the order of its inputs
abbrev pub children : List (List ℕ) → ℕ → List ℕ
children ins k = slice_index_or ins k []

-- how often j is in a list, and in all of them
abbrev pub one_if : Bool → ℕ
one_if true = 1
one_if false = 0

abbrev pub count_in : ℕ → List ℕ → ℕ
count_in j [] = 0
count_in j (x ∷ xs) = one_if (j == x) + count_in j xs

abbrev pub count_all : ℕ → List (List ℕ) → ℕ
count_all j [] = 0
count_all j (xs ∷ xss) = count_in j xs + count_all j xss

-- the node of which j is a child
abbrev pub parent_of : List (List ℕ) → ℕ → ℕ
parent_of [] j = 0
parent_of (xs ∷ xss) j = cond (nat_lt 0 (count_in j xs)) 0 (parent_of xss j + 1)

-- a child's number is below its parent's, and each node but the last, the root, is a child just once
pub record IsForest (ins : List (List ℕ)) (root : ℕ) : Type 0 where
  pub nodes : length ins ≡ root + 1
  pub below : (k : ℕ) → Each (λ j. j < k) (children ins k)
  pub once : (k : ℕ) → k < root → count_all k ins ≡ 1
