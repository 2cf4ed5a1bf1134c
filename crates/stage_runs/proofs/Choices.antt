-- Choices by numbers, and lists of them.
use Rattle.std.proofs.Common.{◌≡◌, ◌≢◌, ℕ, ◌==◌, if◌then◌else◌, Bool, true, false, true≢false, List, [], ◌∷◌, map, refl, ap, sym, subst, ◌∙◌, inl, inr}
use Rattle.std.proofs.lemmas.Bool.Decides.{eqb_tells}
use Rattle.network_theory.specs.Shape.{In}
use Rattle.pipeline_json.specs.Lists.{has}
use Rattle.answer_model.proofs.Values.{has-own, has-later}

-- ---- choices

pub when : {A : Type 0} {b : Bool} (x y : A) → b ≡ true → (if b then x else y) ≡ x
when x y e = ap (λ b. if b then x else y) e

pub unless : {A : Type 0} {b : Bool} (x y : A) → b ≡ false → (if b then x else y) ≡ y
unless x y e = ap (λ b. if b then x else y) e

pub same-number : (a : ℕ) → (a == a) ≡ true
same-number a = elim (eqb_tells a a) [ inl p ↦ p.0 | inr p ↦ absurd (p.1 refl) ]

pub other-number : (a b : ℕ) → a ≢ b → (a == b) ≡ false
other-number a b n = elim (eqb_tells a b) [ inl p ↦ absurd (n p.1) | inr p ↦ p.0 ]

pub number-same : (a b : ℕ) → (a == b) ≡ true → a ≡ b
number-same a b e = elim (eqb_tells a b) [ inl p ↦ p.1 | inr p ↦ absurd (true≢false (sym e ∙ p.0)) ]

pub has-in : (j : ℕ) (xs : List ℕ) → In j xs → has xs j ≡ true
has-in j [] m = absurd m
has-in j (x ∷ xs) (inl e) = subst (λ y. has (x ∷ xs) y ≡ true) (sym e) (has-own x xs)
has-in j (x ∷ xs) (inr m) = has-later x j xs (has-in j xs m)

-- the same at all numbers of a list
pub map-in : {B : Type 0} (f g : ℕ → B) (xs : List ℕ) → ((j : ℕ) → In j xs → f j ≡ g j) → map f xs ≡ map g xs
map-in f g [] h = refl
map-in f g (x ∷ xs) h = ap (λ z. z ∷ map f xs) (h x (inl refl)) ∙ ap (λ z. g x ∷ z) (map-in f g xs (λ j i. h j (inr i)))
