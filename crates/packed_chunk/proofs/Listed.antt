-- Points that are listed by their places.
use Rattle.std.proofs.Common.{◌≡◌, ℕ, zero, suc, ◌+◌, ◌-◌, ◌<◌, ◌≤◌, min, [], ◌∷◌, ◌++◌, length, take, drop, get_or, refl, ap, sym, subst, ◌∙◌, arith, drop_of_length-le}
use Rattle.std.proofs.lemmas.List.{drop-append-le, get_or_append_left, get_or_push, length_push, take-append-le, take_all}
use Rattle.std.proofs.lemmas.Bool.{cases_lt}
use Rattle.std.proofs.Math.Logic.{⊎_elim}
use Rattle.std.proofs.Math.Nat.{eq-or-lt_of_le}
use Rattle.cloud_points.specs.declared.point.Point.{Point}
use Rattle.packed_chunk.specs.Held.{listed_to, listed}

all_length : (point : ℕ → Point) (n : ℕ) → length (listed_to point n) ≡ n
all_length point zero = refl
all_length point (suc n) = length_push (listed_to point n) (point n) ∙ ap (λ k. k + 1) (all_length point n) ∙ omega arith

pub listed_length : (point : ℕ → Point) (n : ℕ) → length (listed point n) ≡ n
unfolding listed
listed_length point n = all_length point n

all_get : (point : ℕ → Point) (n k : ℕ) (d : Point) → k < n → get_or (listed_to point n) k d ≡ point k
all_get point zero k d low = absurd (omega arith)
all_get point (suc n) k d low = ⊎_elim
    (λ last. get_or_push (listed_to point n) (point n) d k (all_length point n ∙ sym last) ∙ ap point (sym last))
    (λ earlier. get_or_append_left (listed_to point n) (point n ∷ []) d k (subst (λ (m : ℕ). k < m) (sym (all_length point n)) earlier) ∙ all_get point n k d earlier)
    (eq-or-lt_of_le (omega arith))

pub listed_get : (point : ℕ → Point) (n k : ℕ) (d : Point) → k < n → get_or (listed point n) k d ≡ point k
unfolding listed
listed_get point n k d low = all_get point n k d low

all_same : (point other : ℕ → Point) (n : ℕ) → ((k : ℕ) → k < n → point k ≡ other k) → listed_to point n ≡ listed_to other n
all_same point other zero same = refl
all_same point other (suc n) same =
    let earlier = all_same point other n (λ k low. same k (omega (arith, low))) in
    λ i. earlier i ++ same n (omega arith) i ∷ []

pub listed_same : (point other : ℕ → Point) (n : ℕ) → ((k : ℕ) → k < n → point k ≡ other k) → listed point n ≡ listed other n
unfolding listed
listed_same point other n same = all_same point other n same

-- one more point
pub listed_more : (point : ℕ → Point) (n : ℕ) → listed point (n + 1) ≡ listed point n ++ point n ∷ []
unfolding listed
listed_more point n =
    let next : n + 1 ≡ suc n = omega arith in
    ap (listed_to point) next

all_drop : (point : ℕ → Point) (m n : ℕ) → m ≤ n → drop m (listed_to point n) ≡ listed_to (λ k. point (m + k)) (n - m)
all_drop point m zero low =
    let none : 0 - m ≡ 0 = omega arith in
    drop_of_length-le [] (omega arith) ∙ ap (listed_to (λ k. point (m + k))) (sym none)
all_drop point m (suc n) low = ⊎_elim
    (λ same.
    let none : suc n - m ≡ 0 = omega arith in
    drop_of_length-le (listed_to point (suc n)) (omega (arith, all_length point (suc n))) ∙ ap (listed_to (λ k. point (m + k))) (sym none))
    (λ less.
    let more : suc n - m ≡ suc (n - m) = omega arith in
    let last : m + (n - m) ≡ n = omega arith in
    drop-append-le m (listed_to point n) (point n ∷ []) (omega (arith, all_length point n))
    ∙ (λ i. all_drop point m n (omega arith) i ++ point (sym last i) ∷ [])
    ∙ ap (listed_to (λ k. point (m + k))) (sym more))
    (eq-or-lt_of_le low)

-- without the first ones
pub listed_drop : (point : ℕ → Point) (m n : ℕ) → m ≤ n → drop m (listed point n) ≡ listed (λ k. point (m + k)) (n - m)
unfolding listed
listed_drop point m n low = all_drop point m n low

all_take : (point : ℕ → Point) (m n k : ℕ) → k ≡ min n m → take m (listed_to point n) ≡ listed_to point k
all_take point m zero k few =
    let none : k ≡ 0 = omega (arith, few) in
    take_all m [] (omega arith) ∙ ap (listed_to point) (sym none)
all_take point m (suc n) k few = ⊎_elim
    (λ less.
    take-append-le m (listed_to point n) (point n ∷ []) (omega (arith, less, all_length point n))
    ∙ all_take point m n k (omega (arith, few, less)))
    (λ all.
    let same : k ≡ suc n = omega (arith, few, all) in
    take_all m (listed_to point (suc n)) (omega (arith, all, all_length point (suc n))) ∙ ap (listed_to point) (sym same))
    (cases_lt m (suc n))

-- the first ones alone
pub listed_take : (point : ℕ → Point) (m n k : ℕ) → k ≡ min n m → take m (listed point n) ≡ listed point k
unfolding listed
listed_take point m n k few = all_take point m n k few
