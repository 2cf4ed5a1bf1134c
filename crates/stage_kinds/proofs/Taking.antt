-- The points of a view in pieces.
use Rattle.std.proofs.Common.{◌≡◌, ℕ, zero, suc, ◌+◌, List, [], ◌∷◌, ◌++◌, length, take, drop, refl, ap, sym, ◌∙◌, append_assoc, arith}

abbrev none : {A : Type 0} → List A
none = []

take-none : {A : Type 0} (k : ℕ) → take k (none {A = A}) ≡ none
take-none zero = refl
take-none (suc k) = refl

drop-none : {A : Type 0} (k : ℕ) → drop k (none {A = A}) ≡ none
drop-none zero = refl
drop-none (suc k) = refl

take-more : {A : Type 0} (xs : List A) (a n : ℕ) → take (a + n) xs ≡ take a xs ++ take n (drop a xs)
take-more [] a n = take-none (a + n) ∙ sym (ap (λ ys. ys ++ take n (drop a none)) (take-none a) ∙ ap (take n) (drop-none a) ∙ take-none n)
take-more (x ∷ xs) zero n = let e : zero + n ≡ n = omega arith in ap (λ k. take k (x ∷ xs)) e
take-more (x ∷ xs) (suc a) n = (let e : suc a + n ≡ suc (a + n) = omega arith in ap (λ k. take k (x ∷ xs)) e) ∙ ap (λ ys. x ∷ ys) (take-more xs a n)

-- what stands behind some points, and the next ones
pub more-taken : {A : Type 0} (before xs ps : List A) (at n : ℕ) → ps ≡ take n (drop at xs) → (before ++ take at xs) ++ ps ≡ before ++ take (at + n) xs
more-taken before xs ps at n is = append_assoc before (take at xs) ps ∙ ap (λ ys. before ++ (take at xs ++ ys)) is ∙ ap (λ ys. before ++ ys) (sym (take-more xs at n))

pub all-taken : {A : Type 0} (xs : List A) (n : ℕ) → n ≡ length xs → take n xs ≡ xs
all-taken xs n e = ap (λ k. take k xs) e ∙ go xs
  where
    go : {A : Type 0} (xs : List A) → take (length xs) xs ≡ xs
    go [] = refl
    go (x ∷ xs) = ap (λ ys. x ∷ ys) (go xs)
