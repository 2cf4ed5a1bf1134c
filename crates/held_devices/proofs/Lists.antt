-- Facts that hold at each place of a list.
use Rattle.std.proofs.Common.{◌≡◌, ℕ, zero, suc, ◌+◌, ◌<◌, List, [], ◌∷◌, ◌++◌, length, take, drop, map, reverse, slice_get, Some, refl, ap, subst, sym, ◌∙◌, arith, add-one}
use Rattle.std.proofs.lemmas.List.{reverse-append}

-- it holds of what is put behind a list
pub each-push : {A : Type 0} (P : ℕ → A → Type 0) (xs : List A) (y : A) (n : ℕ) → n ≡ length xs → ((i : ℕ) (x : A) → slice_get xs i ≡ Some x → P i x) → P n y → (i : ℕ) (x : A) → slice_get (xs ++ y ∷ []) i ≡ Some x → P i x
each-push P [] y n l h p zero x e = let same : y ≡ x = cc in subst (P zero) same (subst (λ m. P m y) l p)
each-push P [] y n l h p (suc i) x e = cc
each-push P (z ∷ xs) y n l h p zero x e = h zero x e
each-push P (z ∷ xs) y n l h p (suc i) x e = each-push (λ j. P (suc j)) xs y (length xs) refl (λ j. h (suc j)) (subst (λ m. P m y) (l ∙ (omega arith)) p) i x e

-- what is left behind the first so many begins with this one
drop_begins : {A : Type 0} (all : List A) (i : ℕ) (x : A) (rest : List A) → drop i all ≡ x ∷ rest → (slice_get all i ≡ Some x) × (drop (suc i) all ≡ rest)
drop_begins [] zero x rest e = cc
drop_begins [] (suc i) x rest e = cc
drop_begins (y ∷ all) zero x rest e = (let p : Some y ≡ Some x = cc in p, let q : all ≡ rest = cc in q)
drop_begins (y ∷ all) (suc i) x rest e = drop_begins all i x rest e

-- the last of the reversed rest is the first of it
pub popped : {A : Type 0} (all left rest : List A) (i : ℕ) (x : A) → reverse left ≡ drop i all → left ≡ rest ++ x ∷ [] → (slice_get all i ≡ Some x) × (reverse rest ≡ drop (i + 1) all)
popped all left rest i x e was =
    let turned : drop i all ≡ x ∷ reverse rest = sym e ∙ ap reverse was ∙ reverse-append rest (x ∷ []) in
    let b = drop_begins all i x (reverse rest) turned in
    (b.0, rw add-one (sym b.1))

-- one less is left
pub one_less : (at left rest all : ℕ) → at + left ≡ all → rest + 1 ≡ left → (at < all) × (at + 1 + rest ≡ all)
one_less at left rest all e more = (omega arith, omega arith)

-- nothing is left
pub none_left : (all at left : ℕ) → at + left ≡ all → left ≡ 0 → at ≡ all
none_left all at left e none = omega arith

-- the first so many and one more
pub take-more : {A : Type 0} (xs : List A) (i : ℕ) (x : A) → slice_get xs i ≡ Some x → take (i + 1) xs ≡ take i xs ++ x ∷ []
take-more xs i x e = rw add-one (go xs i x e)
  where
    go : {A : Type 0} (xs : List A) (i : ℕ) (x : A) → slice_get xs i ≡ Some x → take (suc i) xs ≡ take i xs ++ x ∷ []
    go [] i x e = absurd cc
    go (y ∷ xs) zero x e = let same : y ≡ x = cc in ap (λ z. z ∷ []) same
    go (y ∷ xs) (suc i) x e = ap (λ zs. y ∷ zs) (go xs i x e)

pub length-mapped : {A B : Type 0} (f : A → B) (xs : List A) → length (map f xs) ≡ length xs
length-mapped f [] = refl
length-mapped f (x ∷ xs) = let r = length-mapped f xs in omega (arith, r)

-- a place of a list has an element
pub some_at : {A : Type 0} (xs : List A) (k : ℕ) → k < length xs → (x : A) × (slice_get xs k ≡ Some x)
some_at [] k h = absurd (omega (arith, h))
some_at (x ∷ xs) zero h = (x, refl)
some_at (x ∷ xs) (suc k) h = some_at xs k (omega (arith, h))
