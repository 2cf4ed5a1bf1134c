-- Points of a view that is let go as they are given.
use Rattle.std.proofs.Common.{◌≡◌, ◌<◌, List, [], ◌∷◌, ◌++◌, length, drop, get_or, ap, sym, ◌∙◌, append_assoc, arith}
use Rattle.whole_filters.proofs.Stepping.{append_nil}

-- these points of a view are left, and something holds of those before them
pub record HoldsBefore {P : Type 0} (view left : List P) (Holds : List P → Type 0) : Type 0 where
  pub before : List P
  pub split : before ++ left ≡ view
  pub holds : Holds before

-- the same once the next one was given
pub split_next : {P : Type 0} (before left later view : List P) (p : P) → before ++ left ≡ view → left ≡ p ∷ later → (before ++ p ∷ []) ++ later ≡ view
split_next before left later view p split next = append_assoc before (p ∷ []) later ∙ ap (λ z. before ++ z) (sym next) ∙ split

-- the same, by the first of those that are left
pub split_first : {P : Type 0} (before left later view : List P) (d : P) → before ++ left ≡ view → 0 < length left → later ≡ drop 1 left
    → (before ++ get_or left 0 d ∷ []) ++ later ≡ view
split_first before [] later view d split some next = absurd (omega (arith, some))
split_first before (p ∷ left) later view d split some next = split_next before (p ∷ left) later view p split (ap (λ z. p ∷ z) (sym next))

-- where none are left, all were given
pub all_given : {P : Type 0} (before left view : List P) → before ++ left ≡ view → left ≡ [] → before ≡ view
all_given before left view split none = sym (append_nil before) ∙ sym (ap (λ z. before ++ z) none) ∙ split
