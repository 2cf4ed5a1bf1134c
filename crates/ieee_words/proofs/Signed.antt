-- from sizes to words with a sign
use Rattle.std.proofs.Common.{◌≡◌, ℕ, zero, suc, ◌+◌, ◌-◌, ◌*◌, ◌/◌, ◌%◌, ◌^◌, ◌<◌, ◌≤◌, arith, refl, ap, ◌∙◌, inl, inr, ℤ, pos, neg_ℤ, ◌*ℤ◌, ◌-ℤ◌, ◌≤ℤ◌}
use Rattle.std.specs.Prelude.{unsigned_abs}
use Rattle.std.proofs.Math.Pow.{pow_pos}
use Rattle.std.proofs.Math.Nat.{mul-le-mul_right, le_of_mul-le-mul_right, one-le-pow}
use Rattle.std.proofs.Math.IntN.{negsuc-*ℤ-pos}
use Rattle.std.proofs.lemmas.Bool.{cases_lt, cases_eq, cond-true, cond-false, le-leb, lt-leb}
use Rattle.std.proofs.lemmas.Int.{ints}
use Rattle.ieee_words.specs.Word.{size_in_parts, parts_of_one, word_value, decimal_of, distance, IsAtMost, IsFinite}
use Rattle.ieee_words.specs.Near.{IsNearest}
use Rattle.ieee_words.specs.Sizes.{IsNearestSize, apart}
use Rattle.ieee_words.proofs.Sizes.{size_small}

pub abs_diff : (x y : ℕ) → unsigned_abs (pos x -ℤ pos y) ≡ (x - y) + (y - x)
abs_diff x y = omega (arith, ints)

pub abs_flip : (x y : ℕ) → unsigned_abs (neg_ℤ (pos x) -ℤ neg_ℤ (pos y)) ≡ (x - y) + (y - x)
abs_flip x y = omega (arith, ints)

pub abs_sum : (x y : ℕ) → unsigned_abs (pos x -ℤ neg_ℤ (pos y)) ≡ x + y
abs_sum x y = omega (arith, ints)

pub abs_sum_flip : (x y : ℕ) → unsigned_abs (neg_ℤ (pos x) -ℤ pos y) ≡ x + y
abs_sum_flip x y = omega (arith, ints)

pub neg_mul : (x y : ℕ) → neg_ℤ (pos x) *ℤ pos y ≡ neg_ℤ (pos (x * y))
neg_mul zero y = let e : 0 * y ≡ 0 = omega arith in rw e refl
neg_mul (suc x) y = negsuc-*ℤ-pos x y

pub pos_le : (x y : ℕ) → x ≤ y → pos x ≤ℤ pos y
pos_le x y h = omega (arith, ints)

pub pos_le_back : (x y : ℕ) → pos x ≤ℤ pos y → x ≤ y
pos_le_back x y h = omega (arith, ints)

-- the numerator of the distance of n / 10 ^ k to the word v's value, over 10 ^ k * 2 ^ 1074
pub off : ℤ → ℕ → ℕ → ℕ
off n k v = unsigned_abs (n *ℤ pos parts_of_one -ℤ (word_value v).over *ℤ pos (10 ^ k))

pub at_most_from : (n : ℤ) (k w v : ℕ) → off n k w ≤ off n k v →
    IsAtMost (distance (decimal_of n k) (word_value w)) (distance (decimal_of n k) (word_value v))
unfolding word_value decimal_of off
at_most_from n k w v h = pos_le _ _ (mul-le-mul_right (10 ^ k * parts_of_one) h)

scale_some : (k : ℕ) → 0 < 10 ^ k * parts_of_one
unfolding parts_of_one
scale_some k =
    let p : 0 < 2 ^ 1074 = pow_pos 1074 in
    let q : 1 ≤ 10 ^ k = one-le-pow k 10 (omega arith) in
    let r : 1 * 2 ^ 1074 ≤ 10 ^ k * 2 ^ 1074 = mul-le-mul_right (2 ^ 1074) q in omega arith

pub at_most_to : (n : ℤ) (k w v : ℕ) →
    IsAtMost (distance (decimal_of n k) (word_value w)) (distance (decimal_of n k) (word_value v)) → off n k w ≤ off n k v
unfolding word_value decimal_of off
at_most_to n k w v h = le_of_mul-le-mul_right {k = 10 ^ k * parts_of_one} (pos_le_back _ _ h) (scale_some k)

pub over_positive : (v : ℕ) → v < 2 ^ 63 → (word_value v).over ≡ pos (size_in_parts v)
unfolding word_value
over_positive v h = cond-false _ _ _ (lt-leb (2 ^ 63) v h)

pub over_negative : (v : ℕ) → 2 ^ 63 ≤ v → (word_value v).over ≡ neg_ℤ (pos (size_in_parts v))
unfolding word_value
over_negative v h = cond-true _ _ _ (le-leb (2 ^ 63) v h)

-- the sign bit does not change the size
pub size_unsigned : (v : ℕ) → 2 ^ 63 ≤ v → v < 2 ^ 64 → size_in_parts v ≡ size_in_parts (v - 2 ^ 63)
unfolding size_in_parts
size_unsigned v h k =
    let e : v / 2 ^ 52 % 2 ^ 11 ≡ (v - 2 ^ 63) / 2 ^ 52 % 2 ^ 11 = omega arith in
    let f : v % 2 ^ 52 ≡ (v - 2 ^ 63) % 2 ^ 52 = omega arith in
    rw (e, f) refl

pub finite_positive : (v : ℕ) → IsFinite v → v < 2 ^ 63 → v < 2047 * 2 ^ 52
finite_positive v f h = omega arith

pub finite_negative : (v : ℕ) → IsFinite v → 2 ^ 63 ≤ v → v - 2 ^ 63 < 2047 * 2 ^ 52
finite_negative v f h = omega arith

-- each sign of the decimal: a word of the same sign
pub off_positive : (a k v : ℕ) → v < 2 ^ 63 → off (pos a) k v ≡ apart a (10 ^ k) v
unfolding off
off_positive a k v h = rw (over_positive v h) (abs_diff (a * parts_of_one) (size_in_parts v * 10 ^ k))

pub off_negative : (a k v : ℕ) → 2 ^ 63 ≤ v → v < 2 ^ 64 → off (neg_ℤ (pos a)) k v ≡ apart a (10 ^ k) (v - 2 ^ 63)
unfolding off
off_negative a k v h l = rw (over_negative v h, size_unsigned v h l, neg_mul a parts_of_one, neg_mul (size_in_parts (v - 2 ^ 63)) (10 ^ k))
    (abs_flip (a * parts_of_one) (size_in_parts (v - 2 ^ 63) * 10 ^ k))

-- and a word of the other sign
pub off_across : (a k v : ℕ) → 2 ^ 63 ≤ v → v < 2 ^ 64 → a * parts_of_one ≤ off (pos a) k v
unfolding off
off_across a k v h l = rw (over_negative v h, neg_mul (size_in_parts v) (10 ^ k), abs_sum (a * parts_of_one) (size_in_parts v * 10 ^ k)) (omega arith)

pub off_across_negative : (a k v : ℕ) → v < 2 ^ 63 → a * parts_of_one ≤ off (neg_ℤ (pos a)) k v
unfolding off
off_across_negative a k v h = rw (over_positive v h, neg_mul a parts_of_one, abs_sum_flip (a * parts_of_one) (size_in_parts v * 10 ^ k)) (omega arith)

pub apart_zero : (a t : ℕ) → apart a t 0 ≡ a * parts_of_one
apart_zero a t = let e : size_in_parts 0 ≡ 0 = size_small 0 (omega arith) in
    let z : size_in_parts 0 * t ≡ 0 = ap (λ x. x * t) e ∙ omega arith in omega arith

-- a decimal that is not 0
module _ (a k u : ℕ) (some : 0 < a) (near : IsNearestSize a (10 ^ k) u) where
  at_most_zero : apart a (10 ^ k) u ≤ a * parts_of_one
  at_most_zero = let z = apart_zero a (10 ^ k) in let h = near.closest 0 (omega arith) in omega arith

  even_from_zero : a * parts_of_one ≤ apart a (10 ^ k) u → u % 2 ≡ 0
  even_from_zero h = elim (cases_eq 0 u) [
    | inl e ↦ omega arith
    | inr n ↦ near.ties_even 0 (omega arith) n (let z = apart_zero a (10 ^ k) in omega arith)
  ]

  pub near_positive : IsNearest (pos a) k u
  near_positive =
      let f : u < 2047 * 2 ^ 52 = near.finite in
      let here : off (pos a) k u ≡ apart a (10 ^ k) u = off_positive a k u (omega arith) in
      record {
        finite = (omega arith, omega arith);
        closest = λ v fin. at_most_from (pos a) k u v (elim (cases_lt v (2 ^ 63)) [
          | inl h ↦ let e = off_positive a k v h in let c = near.closest v (finite_positive v fin h) in omega arith
          | inr h ↦ let e = off_across a k v h fin.0 in let z = at_most_zero in omega arith
        ]);
        ties_even = λ v fin other tie.
            let t : off (pos a) k v ≤ off (pos a) k u = at_most_to (pos a) k v u tie in
            let even : u % 2 ≡ 0 = elim (cases_lt v (2 ^ 63)) [
              | inl h ↦ let e = off_positive a k v h in near.ties_even v (finite_positive v fin h) other (omega arith)
              | inr h ↦ let e = off_across a k v h fin.0 in even_from_zero (omega arith)
            ] in omega arith;
        zero = λ z. absurd (omega (arith, ints));
      }

  pub near_negative : IsNearest (neg_ℤ (pos a)) k (u + 2 ^ 63)
  near_negative =
      let f : u < 2047 * 2 ^ 52 = near.finite in
      let back : u + 2 ^ 63 - 2 ^ 63 ≡ u = omega arith in
      let here : off (neg_ℤ (pos a)) k (u + 2 ^ 63) ≡ apart a (10 ^ k) u =
      off_negative a k (u + 2 ^ 63) (omega arith) (omega arith) ∙ ap (apart a (10 ^ k)) back in
      record {
        finite = (omega arith, omega arith);
        closest = λ v fin. at_most_from (neg_ℤ (pos a)) k (u + 2 ^ 63) v (elim (cases_lt v (2 ^ 63)) [
          | inl h ↦ let e = off_across_negative a k v h in let z = at_most_zero in omega arith
          | inr h ↦ let e = off_negative a k v h fin.0 in let c = near.closest (v - 2 ^ 63) (finite_negative v fin h) in omega arith
        ]);
        ties_even = λ v fin other tie.
            let t : off (neg_ℤ (pos a)) k v ≤ off (neg_ℤ (pos a)) k (u + 2 ^ 63) = at_most_to (neg_ℤ (pos a)) k v (u + 2 ^ 63) tie in
            let even : u % 2 ≡ 0 = elim (cases_lt v (2 ^ 63)) [
              | inl h ↦ let e = off_across_negative a k v h in even_from_zero (omega arith)
              | inr h ↦ let e = off_negative a k v h fin.0 in
                  near.ties_even (v - 2 ^ 63) (finite_negative v fin h) (λ g. other (omega arith)) (omega arith)
            ] in omega arith;
        zero = λ z. absurd (omega (arith, ints));
      }

-- 0 has the word 0
pub near_zero : (k : ℕ) → IsNearest (pos 0) k 0
near_zero k =
    let z : off (pos 0) k 0 ≡ 0 = off_positive 0 k 0 (omega arith) ∙ apart_zero 0 (10 ^ k) ∙ omega arith in
    record {
      finite = (omega arith, omega arith);
      closest = λ v fin. at_most_from (pos 0) k 0 v (omega arith);
      ties_even = λ v fin other tie. omega arith;
      zero = λ _. refl;
    }
