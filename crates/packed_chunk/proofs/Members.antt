-- Numbers in a list.
use Rattle.std.proofs.Common.{◌≡◌, ℕ, zero, suc, ◌<◌, ◌⊎◌, inl, inr, List, [], ◌∷◌, ◌++◌, length, get_or, refl, ⊎_elim, subst, ap, sym, ◌∙◌, arith}

-- a number is one of a list
abbrev pub In : ℕ → List ℕ → Type 0
In k [] = ⊥
In k (x ∷ xs) = (k ≡ x) ⊎ In k xs

-- each is none of those behind it
abbrev pub Apart : List ℕ → Type 0
Apart [] = Unit {0}
Apart (x ∷ xs) = (In x xs → ⊥) × Apart xs

pub in_mid : (x : ℕ) (xs ys : List ℕ) → In x (xs ++ x ∷ ys)
in_mid x [] ys = inl refl
in_mid x (z ∷ xs) ys = inr (in_mid x xs ys)

pub in_at : (xs : List ℕ) (i : ℕ) → i < length xs → In (get_or xs i 0) xs
in_at [] i low = absurd (omega (arith, low))
in_at (x ∷ xs) zero low = inl refl
in_at (x ∷ xs) (suc i) low = inr (in_at xs i (omega (arith, low)))

pub in_less : (k x : ℕ) (xs ys : List ℕ) → In k (xs ++ ys) → In k (xs ++ x ∷ ys)
in_less k x [] ys i = inr i
in_less k x (z ∷ xs) ys i = ⊎_elim (λ q. inl q) (λ j. inr (in_less k x xs ys j)) i

pub in_more : (k x : ℕ) (xs ys : List ℕ) → In k (xs ++ x ∷ ys) → (k ≡ x) ⊎ In k (xs ++ ys)
in_more k x [] ys i = i
in_more k x (z ∷ xs) ys i = ⊎_elim (λ q. inr (inl q)) (λ j. ⊎_elim (λ q. inl q) (λ o. inr (inr o)) (in_more k x xs ys j)) i

pub apart_less : (x : ℕ) (xs ys : List ℕ) → Apart (xs ++ x ∷ ys) → Apart (xs ++ ys)
apart_less x [] ys a = a.1
apart_less x (z ∷ xs) ys a = (λ i. a.0 (in_less z x xs ys i), apart_less x xs ys a.1)

pub apart_mid : (x : ℕ) (xs ys : List ℕ) → Apart (xs ++ x ∷ ys) → (k : ℕ) → In k (xs ++ ys) → k ≡ x → ⊥
apart_mid x [] ys a k i q = a.0 (subst (λ z. In z ys) q i)
apart_mid x (z ∷ xs) ys a k i q = ⊎_elim
    (λ e. a.0 (subst (λ m. In m (xs ++ x ∷ ys)) (sym q ∙ e) (in_mid x xs ys)))
    (λ j. apart_mid x xs ys a.1 k j q)
    i

pub apart_more : (x : ℕ) (xs ys : List ℕ) → (In x (xs ++ ys) → ⊥) → Apart (xs ++ ys) → Apart (xs ++ x ∷ ys)
apart_more x [] ys off a = (off, a)
apart_more x (z ∷ xs) ys off a = (
  λ i. ⊎_elim (λ q. off (inl (sym q))) (λ o. a.0 o) (in_more z x xs ys i),
  apart_more x xs ys (λ i. off (inr i)) a.1,
)

pub length_mid : (x : ℕ) (xs ys : List ℕ) → length (xs ++ x ∷ ys) ≡ suc (length (xs ++ ys))
length_mid x [] ys = refl
length_mid x (z ∷ xs) ys = ap suc (length_mid x xs ys)

-- a list without one of its numbers
pub record Without (x : ℕ) (xs : List ℕ) : Type 0 where
  pub others : List ℕ
  pub fewer : suc (length others) ≡ length xs
  pub keeps : (k : ℕ) → In k xs → (k ≡ x) ⊎ In k others

pub without : (x : ℕ) (xs : List ℕ) → In x xs → Without x xs
without x [] i = absurd i
without x (z ∷ xs) i = ⊎_elim
    (λ q. record { others = xs; fewer = refl; keeps = λ k j. ⊎_elim (λ e. inl (e ∙ sym q)) (λ o. inr o) j })
    (λ j. let rest = without x xs j in record {
      others = z ∷ rest.others;
      fewer = ap suc rest.fewer;
      keeps = λ k m. ⊎_elim (λ e. inr (inl e)) (λ o. ⊎_elim (λ q. inl q) (λ r. inr (inr r)) (rest.keeps k o)) m;
    })
    i
