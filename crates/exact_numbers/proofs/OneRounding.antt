-- a quotient has one rounding half away from zero
use Rattle.std.proofs.Common.{◌≡◌, ℕ, suc, ◌+◌, ◌-◌, ◌*◌, ◌<◌, ◌≤◌, arith, sym, refl, ap, subst, ◌∙◌, inl, inr, ℤ, pos, neg_ℤ, negsuc, ◌*ℤ◌, ◌-ℤ◌}
use Rattle.std.specs.Prelude.{unsigned_abs}
use Rattle.std.proofs.Math.Nat.{mul-le-mul_right}
use Rattle.std.proofs.Math.IntN.{negsuc-*ℤ-pos}
use Rattle.std.proofs.lemmas.Bool.{cases_order}
use Rattle.std.proofs.lemmas.Int.{ints}
use Rattle.exact_numbers.specs.Rounding.{IsHalfAway, half_away}
use Rattle.exact_numbers.proofs.Integers.{neg_mul, abs_diff, abs_neg}
use Rattle.exact_numbers.proofs.HalfAway.{half_away_rounds}

off : ℕ → ℕ → ℕ → ℕ
off s d a = (s - a * d) + (a * d - s)

not_two : (s d a b : ℕ) → 0 < d → a < b → 2 * off s d a ≤ d → (2 * off s d a ≡ d → s < a * d) → 2 * off s d b ≤ d → ⊥
unfolding off
not_two s d a b some l h t k =
    let m : (a + 1) * d ≤ b * d = mul-le-mul_right d l' in
    let e : 2 * ((s - a * d) + (a * d - s)) ≡ d = omega arith in
    let u = t e in omega arith
  where
    l' : a + 1 ≤ b
    l' = omega arith

one_size : (s d a b : ℕ) → 0 < d → 2 * off s d a ≤ d → (2 * off s d a ≡ d → s < a * d) → 2 * off s d b ≤ d → (2 * off s d b ≡ d → s < b * d) → a ≡ b
one_size s d a b some h t k u = elim (cases_order a b) [
  | inl e ↦ e
  | inr (inl l) ↦ absurd (not_two s d a b some l h t k)
  | inr (inr l) ↦ absurd (not_two s d b a some l k u h)
]

abs_across : (x y : ℕ) → unsigned_abs (pos x -ℤ neg_ℤ (pos y)) ≡ x + y
abs_across x y = omega (arith, ints)

-- of a number that is not negative, the rounding is not negative
size_of : (s d : ℕ) (n : ℤ) → 0 < d → IsHalfAway (pos s) d n → (a : ℕ) × (n ≡ pos a) × (2 * off s d a ≤ d) × (2 * off s d a ≡ d → s < a * d)
unfolding off
size_of s d (pos a) some r =
    let e : unsigned_abs (pos s -ℤ pos (a * d)) ≡ (s - a * d) + (a * d - s) = abs_diff s (a * d) in
    (a, refl, rw e at r.half, (λ t. r.away (ap (λ z. 2 * z) e ∙ t)))
size_of s d (negsuc a) some r =
    let e : unsigned_abs (pos s -ℤ negsuc a *ℤ pos d) ≡ s + suc a * d = rw negsuc-*ℤ-pos (abs_across s (suc a * d)) in
    let m : 1 * d ≤ suc a * d = mul-le-mul_right d (omega arith) in
    let h = r.half in absurd (omega arith)

pub one_rounding : (s d : ℕ) (n m : ℤ) → 0 < d → IsHalfAway (pos s) d n → IsHalfAway (pos s) d m → n ≡ m
one_rounding s d n m some p q =
    let x = size_of s d n some p in
    let y = size_of s d m some q in
    x.1 ∙ ap pos (one_size s d x.0 y.0 some x.2 x.3 y.2 y.3) ∙ sym y.1

-- and of a negative one by the mirror
mirror : (s d : ℕ) (n : ℤ) → IsHalfAway (neg_ℤ (pos s)) d n → IsHalfAway (pos s) d (neg_ℤ n)
mirror s d n r = record { half = rw e at r.half; away = λ t. back (r.away (ap (λ z. 2 * z) e ∙ t)) }
  where
    products : (n : ℤ) (d : ℕ) → neg_ℤ n *ℤ pos d ≡ neg_ℤ (n *ℤ pos d)
    products (pos a) d = neg_mul a d
    products (negsuc a) d = sym (ap neg_ℤ (negsuc-*ℤ-pos a d) ∙ twice (suc a * d))
      where
        twice : (x : ℕ) → neg_ℤ (neg_ℤ (pos x)) ≡ pos x
        twice x = omega (arith, ints)

    flip : (x : ℕ) (y : ℤ) → unsigned_abs (neg_ℤ (pos x) -ℤ y) ≡ unsigned_abs (pos x -ℤ neg_ℤ y)
    flip x y = omega (arith, ints)

    e : unsigned_abs (neg_ℤ (pos s) -ℤ n *ℤ pos d) ≡ unsigned_abs (pos s -ℤ neg_ℤ n *ℤ pos d)
    e = flip s (n *ℤ pos d) ∙ ap (λ z. unsigned_abs (pos s -ℤ z)) (sym (products n d))

    back : unsigned_abs (neg_ℤ (pos s)) < unsigned_abs n * d → s < unsigned_abs (neg_ℤ n) * d
    back h = let p : unsigned_abs (neg_ℤ (pos s)) ≡ s = abs_neg s in
        let q : unsigned_abs (neg_ℤ n) ≡ unsigned_abs n = omega (arith, ints) in
        rw q (omega arith)

pub one_rounding_of : (z : ℤ) (d : ℕ) (n m : ℤ) → 0 < d → IsHalfAway z d n → IsHalfAway z d m → n ≡ m
one_rounding_of (pos s) d n m some p q = one_rounding s d n m some p q
one_rounding_of (negsuc s) d n m some p q =
    let e : neg_ℤ n ≡ neg_ℤ m = one_rounding (suc s) d (neg_ℤ n) (neg_ℤ m) some (mirror (suc s) d n p) (mirror (suc s) d m q) in
    sym (double n) ∙ ap neg_ℤ e ∙ double m
  where
    double : (z : ℤ) → neg_ℤ (neg_ℤ z) ≡ z
    double z = omega (arith, ints)

pub is_half_away : (z : ℤ) (d : ℕ) (n : ℤ) → 0 < d → IsHalfAway z d n → n ≡ half_away z d
is_half_away z d n some r = one_rounding_of z d n (half_away z d) some r (half_away_rounds z d some)

pub from_half_away : (z : ℤ) (d : ℕ) (n : ℤ) → 0 < d → n ≡ half_away z d → IsHalfAway z d n
from_half_away z d n some e = subst (IsHalfAway z d) (sym e) (half_away_rounds z d some)
