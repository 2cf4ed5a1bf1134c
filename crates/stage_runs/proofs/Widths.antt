-- A node of a forest has no more children than there are nodes before it.
use Rattle.std.proofs.Common.{◌≡◌, ℕ, zero, suc, ◌+◌, ◌≤◌, ◌<◌, List, [], ◌∷◌, length, refl, ap, sym, arith, inl, inr}
use Rattle.std.proofs.lemmas.Bool.Decides.{eqb_tells}
use Rattle.network_theory.specs.Shape.{Each}
use Rattle.network_theory.specs.Forest.{IsForest, children, count_in, count_all, one_if}

-- how often the numbers below one stand in a list
abbrev tally : ℕ → List ℕ → ℕ
tally zero xs = 0
tally (suc n) xs = tally n xs + count_in n xs

tally-nil : (n : ℕ) → tally n [] ≡ 0
tally-nil zero = refl
tally-nil (suc n) = let r = tally-nil n in omega (arith, r)

tally-past : (n x : ℕ) (xs : List ℕ) → n ≤ x → tally n (x ∷ xs) ≡ tally n xs
tally-past zero x xs h = refl
tally-past (suc n) x xs h = elim (eqb_tells n x) [
  | inl p ↦ absurd (let e = p.1 in omega (arith, h, e))
  | inr p ↦ (let r = tally-past n x xs (omega (arith, h)) in let z = ap one_if p.0 in omega (arith, r, z))
]

tally-within : (n x : ℕ) (xs : List ℕ) → x < n → tally n (x ∷ xs) ≡ 1 + tally n xs
tally-within zero x xs h = absurd (omega (arith, h))
tally-within (suc n) x xs h = elim (eqb_tells n x) [
  | inl p ↦ (let e = p.1 in let r = tally-past n x xs (omega (arith, e)) in let z = ap one_if p.0 in omega (arith, r, z))
  | inr p ↦ (let e = p.1 in let r = tally-within n x xs (omega (arith, h, e)) in let z = ap one_if p.0 in omega (arith, r, z))
]

length-tally : (n : ℕ) (xs : List ℕ) → Each (λ j. j < n) xs → length xs ≡ tally n xs
length-tally n [] h = sym (tally-nil n)
length-tally n (x ∷ xs) h = let r = length-tally n xs h.1 in let t = tally-within n x xs h.0 in omega (arith, r, t)

tally-most : (n : ℕ) (xs : List ℕ) → ((j : ℕ) → j < n → count_in j xs ≤ 1) → tally n xs ≤ n
tally-most zero xs h = omega arith
tally-most (suc n) xs h = let r = tally-most n xs (λ j l. h j (omega (arith, l))) in let t = h n (omega arith) in omega (arith, r, t)

-- a list is among all
among-all : (j k : ℕ) (xss : List (List ℕ)) → count_in j (children xss k) ≤ count_all j xss
among-all j k [] = omega arith
among-all j zero (xs ∷ xss) = omega arith
among-all j (suc k) (xs ∷ xss) = let r = among-all j k xss in omega (arith, r)

pub few-children : (ins : List (List ℕ)) (root : ℕ) → IsForest ins root → length (children ins root) ≤ root
few-children ins root forest =
    let a = length-tally root (children ins root) (forest.below root) in
    let b = tally-most root (children ins root) (λ j l. let c = among-all j root ins in let d = forest.once j l in omega (arith, c, d)) in
    omega (arith, a, b)
