-- What stands at the places of a list.
use Rattle.std.proofs.Common.{◌≡◌, ℕ, zero, suc, ◌+◌, ◌<◌, List, [], ◌∷◌, ◌++◌, length, map, slice_get, Some, refl, ap, sym, ◌∙◌, arith}
use Rattle.std.specs.List.{range_with_len}

pub some-at : {A : Type 0} (xs : List A) (k : ℕ) → k < length xs → (x : A) × (slice_get xs k ≡ Some x)
some-at [] k h = absurd (omega (arith, h))
some-at (x ∷ xs) zero h = (x, refl)
some-at (x ∷ xs) (suc k) h = some-at xs k (omega (arith, h))

pub in-front : {A : Type 0} (xs ys : List A) (k : ℕ) → k < length xs → slice_get (xs ++ ys) k ≡ slice_get xs k
in-front [] ys k h = absurd (omega (arith, h))
in-front (x ∷ xs) ys zero h = refl
in-front (x ∷ xs) ys (suc k) h = in-front xs ys k (omega (arith, h))

pub at-last : {A : Type 0} (xs : List A) (y : A) (n : ℕ) → length xs ≡ n → slice_get (xs ++ y ∷ []) n ≡ Some y
at-last [] y n e = ap (λ k. slice_get (y ∷ []) k) (sym e)
at-last (x ∷ xs) y zero e = absurd (omega (arith, e))
at-last (x ∷ xs) y (suc n) e = at-last xs y n (omega (arith, e))

-- lists with the same at each place
pub same-lists : {A : Type 0} (xs ys : List A) → length xs ≡ length ys → ((i : ℕ) → i < length xs → slice_get xs i ≡ slice_get ys i) → xs ≡ ys
same-lists [] [] l h = refl
same-lists [] (y ∷ ys) l h = absurd (omega (arith, l))
same-lists (x ∷ xs) [] l h = absurd (omega (arith, l))
same-lists (x ∷ xs) (y ∷ ys) l h =
    let first : Some x ≡ Some y = h 0 (omega arith) in
    let one : x ≡ y = cc in
    let rest = same-lists xs ys (omega (arith, l)) (λ i k. h (suc i) (omega (arith, k))) in
    ap (λ z. z ∷ xs) one ∙ ap (λ zs. y ∷ zs) rest

pub range-at : {A : Type 0} (f : ℕ → A) (from count i : ℕ) → i < count → slice_get (map f (range_with_len from count)) i ≡ Some (f (from + i))
range-at f from zero i h = absurd (omega (arith, h))
range-at f from (suc n) zero h = ap (λ k. Some (f k)) (omega arith)
range-at f from (suc n) (suc i) h = range-at f (from + 1) n i (omega (arith, h)) ∙ ap (λ k. Some (f k)) (omega arith)
