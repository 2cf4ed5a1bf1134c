-- A list of no marks, and two lists of marks that are joined, one place after another.
use Rattle.std.proofs.Common.{◌≡◌, ℕ, ◌+◌, ◌<◌, Bool, false, ◌||◌, List, length, set, get_or, replicate, nat_lt, if◌then◌else◌, arith}
use Rattle.std.proofs.lemmas.Grind.{common_steps}

pub no_mark : (n k : ℕ) → get_or (replicate n false) k false ≡ false
no_mark n k = grind (arith, common_steps)

pub record Joined (k : ℕ) (before other after : List Bool) : Type 0 where
  pub size : length after ≡ length before
  pub marks : (j : ℕ) → get_or after j false ≡ (if nat_lt j k then get_or before j false || get_or other j false else get_or before j false)

pub joined_none : (before other : List Bool) → Joined 0 before other before
joined_none before other = record { size = grind (arith, common_steps); marks = λ j. grind (arith, common_steps) }

pub joined_more : (k : ℕ) (before other middle after : List Bool) (mark : Bool) → k < length middle → after ≡ set middle k mark
    → mark ≡ (get_or middle k false || get_or other k false) → Joined k before other middle → Joined (k + 1) before other after
joined_more k before other middle after mark inside is marked was = record {
  size = grind (arith, common_steps, is, was.size);
  marks = λ j. grind (arith, common_steps, is, marked, was.marks j, was.marks k, inside);
}
