-- How often a number stands in lists, and what stands in filtered ranges.
use Rattle.std.proofs.Common.{◌≡◌, ◌≢◌, ℕ, zero, suc, ◌+◌, ◌≤◌, ◌<◌, ◌==◌, Bool, true, false, cond, inl, inr, List, [], ◌∷◌, ◌++◌, filter, refl, ap, subst, sym, ◌∙◌, arith, eq-eqb}
use Rattle.std.specs.List.{range_with_len}
use Rattle.std.proofs.lemmas.Bool.Decides.{eqb_tells}
use Rattle.network_theory.specs.Shape.{Each, Apart, In}
use Rattle.network_theory.specs.Forest.{children, one_if, count_in, count_all}

pub each-in : (Q : ℕ → Type 0) (xs : List ℕ) → ((j : ℕ) → In j xs → Q j) → Each Q xs
each-in Q [] f = tt
each-in Q (x ∷ xs) f = (f x (inl refl), each-in Q xs (λ j i. f j (inr i)))

pub in-each : (Q : ℕ → Type 0) (j : ℕ) (xs : List ℕ) → In j xs → Each Q xs → Q j
in-each Q j [] h e = absurd h
in-each Q j (x ∷ xs) (inl p) e = subst Q (sym p) e.0
in-each Q j (x ∷ xs) (inr h) e = in-each Q j xs h e.1

pub each-append : (Q : ℕ → Type 0) (xs ys : List ℕ) → Each Q xs → Each Q ys → Each Q (xs ++ ys)
each-append Q [] ys h g = g
each-append Q (x ∷ xs) ys h g = (h.0, each-append Q xs ys h.1 g)

pub count_in-append : (j : ℕ) (xs ys : List ℕ) → count_in j (xs ++ ys) ≡ count_in j xs + count_in j ys
count_in-append j [] ys = omega arith
count_in-append j (x ∷ xs) ys = let i = count_in-append j xs ys in omega arith

-- what isn't in a list is counted no time
pub none-counted : (j : ℕ) (xs : List ℕ) → (In j xs → ⊥) → count_in j xs ≡ 0
none-counted j [] h = refl
none-counted j (x ∷ xs) h = elim (eqb_tells j x) [
  | inl p ↦ absurd (h (inl p.1))
  | inr p ↦ (let e : one_if (j == x) ≡ 0 = ap one_if p.0 in let i = none-counted j xs (λ z. h (inr z)) in omega (arith, e))
]

-- and what is in a list without repeats is counted once
pub once-counted : (j : ℕ) (xs : List ℕ) → Apart xs → In j xs → count_in j xs ≡ 1
once-counted j [] a h = absurd h
once-counted j (x ∷ xs) a (inl p) =
    let e : one_if (j == x) ≡ 1 = ap one_if (eq-eqb j x p) in
    let i = none-counted j xs (λ z. in-each (λ y. y ≢ x) j xs z a.0 p) in
    omega (arith, e)
once-counted j (x ∷ xs) a (inr h) =
    let i = once-counted j xs a.1 h in
    elim (eqb_tells j x) [
      | inl p ↦ absurd (in-each (λ y. y ≢ x) j xs h a.0 p.1)
      | inr p ↦ (let e : one_if (j == x) ≡ 0 = ap one_if p.0 in omega (arith, e))
    ]

-- what no list has is counted no time in all
pub none-in_all : (j : ℕ) (xss : List (List ℕ)) → ((k : ℕ) → count_in j (children xss k) ≡ 0) → count_all j xss ≡ 0
none-in_all j [] h = refl
none-in_all j (xs ∷ xss) h = let z = h zero in let i = none-in_all j xss (λ k. h (suc k)) in omega arith

-- what one list has once and no other has is counted once in all
pub once-in_all : (j at : ℕ) (xss : List (List ℕ)) → count_in j (children xss at) ≡ 1
    → ((k : ℕ) → k ≢ at → count_in j (children xss k) ≡ 0) → count_all j xss ≡ 1
once-in_all j at [] one none = absurd (omega arith)
once-in_all j zero (xs ∷ xss) one none =
    let i = none-in_all j xss (λ k. none (suc k) (omega arith)) in
    omega arith
once-in_all j (suc at) (xs ∷ xss) one none =
    let z = none zero (omega arith) in
    let i = once-in_all j at xss one (λ k ne. none (suc k) (omega arith)) in
    omega arith

-- ---- ranges that are filtered

pub below-range : (j a n : ℕ) → j < a → count_in j (range_with_len a n) ≡ 0
below-range j a zero h = refl
below-range j a (suc n) h = elim (eqb_tells j a) [
  | inl p ↦ absurd (let e = p.1 in omega arith)
  | inr p ↦ (let e : one_if (j == a) ≡ 0 = ap one_if p.0 in let i = below-range j (a + 1) n (omega arith) in omega (arith, e))
]

pub in-range : (j a n : ℕ) → a ≤ j → j < a + n → count_in j (range_with_len a n) ≡ 1
in-range j a zero low high = absurd (omega arith)
in-range j a (suc n) low high = elim (eqb_tells j a) [
  | inl p ↦ (let e : one_if (j == a) ≡ 1 = ap one_if p.0 in let q = p.1 in let i = below-range j (a + 1) n (omega arith) in omega (arith, e))
  | inr p ↦ (let e : one_if (j == a) ≡ 0 = ap one_if p.0 in let q = p.1 in let i = in-range j (a + 1) n (omega arith) (omega arith) in omega (arith, e))
]

pub range-below : (j a n : ℕ) → In j (range_with_len a n) → j < a + n
range-below j a zero h = absurd h
range-below j a (suc n) (inl p) = omega arith
range-below j a (suc n) (inr h) = let i = range-below j (a + 1) n h in omega arith

-- what a filter keeps was there and passes
pub filtered : (p : ℕ → Bool) (j : ℕ) (xs : List ℕ) → In j (filter p xs) → In j xs × (p j ≡ true)
filtered p j [] h = absurd h
filtered p j (x ∷ xs) h = by_test (p x) refl h (filtered p j xs)
  where
    by_test : (b : Bool) → p x ≡ b → In j (cond b (x ∷ filter p xs) (filter p xs)) → (In j (filter p xs) → In j xs × (p j ≡ true))
        → In j (x ∷ xs) × (p j ≡ true)
    by_test true t (inl e) rec = (inl e, ap p e ∙ t)
    by_test true t (inr i) rec = (inr (rec i).0, (rec i).1)
    by_test false t i rec = (inr (rec i).0, (rec i).1)

pub kept-counted : (p : ℕ → Bool) (j : ℕ) (xs : List ℕ) → p j ≡ true → count_in j (filter p xs) ≡ count_in j xs
kept-counted p j [] h = refl
kept-counted p j (x ∷ xs) h = by_test (p x) refl (kept-counted p j xs h)
  where
    by_test : (b : Bool) → p x ≡ b → count_in j (filter p xs) ≡ count_in j xs
        → count_in j (cond b (x ∷ filter p xs) (filter p xs)) ≡ one_if (j == x) + count_in j xs
    by_test true t rec = omega arith
    by_test false t rec = elim (eqb_tells j x) [
      | inl e ↦ (let q : true ≡ false = sym h ∙ ap p e.1 ∙ t in cc)
      | inr e ↦ (let z : one_if (j == x) ≡ 0 = ap one_if e.0 in omega (arith, z))
    ]
