-- What lists hold, one more and one less.
use Rattle.std.proofs.Common.{◌≡◌, ℕ, ◌+◌, List, [], ◌∷◌, ◌++◌, reverse, length, refl, ap, ◌∙◌, arith}
use Rattle.std.specs.Prelude.{sum_by}
use Rattle.std.proofs.lemmas.List.Sums.{sum_by-append, sum_by-cons}
use Rattle.std.proofs.lemmas.List.{reverse-append}

pub sum-push : {A : Type 0} (f : A → ℕ) (xs : List A) (x : A) → sum_by f (xs ++ x ∷ []) ≡ sum_by f xs + f x
sum-push f xs x = (let a = sum_by-append f xs (x ∷ []) in let b = sum_by-cons f x [] in omega (arith, a, b))

pub sum-reverse : {A : Type 0} (f : A → ℕ) (xs : List A) → sum_by f (reverse xs) ≡ sum_by f xs
sum-reverse f [] = refl
sum-reverse f (x ∷ xs) =
    let a = ap (sum_by f) (reverse-append (x ∷ []) xs) in
    let b = sum-push f (reverse xs) x in
    let c = sum-reverse f xs in
    let d = sum_by-cons f x xs in
    omega (arith, a, b, c, d)

-- what was taken off a list
pub sum-pop : {A : Type 0} (f : A → ℕ) (xs rest : List A) (x : A) → xs ≡ rest ++ x ∷ [] → sum_by f xs ≡ sum_by f rest + f x
sum-pop f xs rest x e = ap (sum_by f) e ∙ sum-push f rest x

pub none-there : {A : Type 0} (xs : List A) → length xs ≡ 0 → xs ≡ []
none-there [] e = refl
none-there (x ∷ xs) e = absurd (omega arith)
