-- A row that grows by one cell after the other.
use Rattle.std.proofs.Common.{◌≡◌, ℕ, List, [], ◌++◌, ◌+◌, ◌-◌, ◌≤◌, drop, ap, sym, ◌∙◌, arith, append-nil, append_assoc}
use Rattle.std.proofs.lemmas.List.{drop-drop}

pub last_cell : (before cell after : List ℕ) → after ≡ before ++ cell → after ≡ before ++ (cell ++ [])
last_cell before cell after is = is ∙ ap (λ l. before ++ l) (sym (append-nil cell))

pub earlier_cell : (before cell rest between after : List ℕ) → between ≡ before ++ cell → after ≡ between ++ rest → after ≡ before ++ (cell ++ rest)
earlier_cell before cell rest between after is behind = behind ∙ ap (λ l. l ++ rest) is ∙ append_assoc before cell rest

-- what stands behind a place is the same, also behind a later one
pub later_rest : (a b : ℕ) (old mid new : List ℕ) → a ≤ b → drop a mid ≡ drop a old → drop b new ≡ drop b mid → drop b new ≡ drop b old
later_rest a b old mid new low first next =
    let split : b ≡ a + (b - a) = omega arith in
    let past : (l : List ℕ) → drop b l ≡ drop (b - a) (drop a l) = λ l. ap (λ n. drop n l) split ∙ sym (drop-drop (b - a) a l) in
    next ∙ past mid ∙ ap (drop (b - a)) first ∙ sym (past old)
