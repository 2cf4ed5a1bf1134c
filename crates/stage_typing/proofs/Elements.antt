-- The elements of a list from one on.
use Rattle.std.proofs.Common.{ℕ, suc, ◌≡◌, ◌<◌, ◌+◌, ◌∙◌, List, ◌∷◌, length, drop, get_or, ap, arith}
use Rattle.std.proofs.Math.Seq.{drop-cons}

pub drop_next : {X : Type 0} (xs : List X) (i : ℕ) (x : X) → i < length xs → get_or xs i x ≡ x → drop i xs ≡ x ∷ drop (i + 1) xs
drop_next xs i x h e =
    let more : suc i ≡ i + 1 = omega arith in
    drop-cons xs i x h ∙ (ap (λ y. y ∷ drop (suc i) xs) e ∙ ap (λ n. x ∷ drop n xs) more)
