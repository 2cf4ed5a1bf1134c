-- more places for the same decimal
use Rattle.std.proofs.Common.{◌≡◌, ℕ, zero, suc, ◌+◌, ◌-◌, ◌*◌, ◌^◌, ◌<◌, ◌≤◌, arith, sym, refl, subst, ℤ, pos, ◌*ℤ◌, negsuc}
use Rattle.std.proofs.Math.Pow.{pow-add}
use Rattle.std.proofs.Math.Nat.{mul-le-mul_right, le_of_mul-le-mul_right}
use Rattle.std.proofs.Math.IntN.{negsuc-*ℤ-pos}
use Rattle.ieee_words.specs.Word.{size_in_parts, parts_of_one}
use Rattle.ieee_words.specs.Near.{IsNearest}
use Rattle.ieee_words.specs.Sizes.{IsNearestSize, apart}
use Rattle.ieee_words.proofs.Signed.{near_zero, near_positive, near_negative}
use Rattle.ieee_words.proofs.Wholes.{scaled_apart}
use Rattle.ieee_words.proofs.Unique.{ten_some, size_of_positive, size_of_negative}

apart_grows : (a t p v : ℕ) → apart (a * p) (t * p) v ≡ apart a t v * p
apart_grows a t p v =
    let e : a * p * parts_of_one ≡ a * parts_of_one * p = omega arith in
    let f : size_in_parts v * (t * p) ≡ size_in_parts v * t * p = omega arith in
    rw (e, f) (scaled_apart (a * parts_of_one) (size_in_parts v * t) p)

size_scaled : (a t p u : ℕ) → 0 < p → IsNearestSize a t u → IsNearestSize (a * p) (t * p) u
size_scaled a t p u some near = record {
  finite = near.finite;
  closest = λ v f. rw (apart_grows a t p u, apart_grows a t p v) (mul-le-mul_right p (near.closest v f));
  ties_even = λ v f other tie. near.ties_even v f other (le_of_mul-le-mul_right {k = p} (back v tie) some);
}
  where
    back : (v : ℕ) → apart (a * p) (t * p) v ≤ apart (a * p) (t * p) u → apart a t v * p ≤ apart a t u * p
    back v h = let e = apart_grows a t p v in let f = apart_grows a t p u in omega arith

times_some : (a p : ℕ) → 0 < p → 0 < suc a * p
times_some a p h = let m : 1 * p ≤ suc a * p = mul-le-mul_right p (omega arith) in omega arith

-- the word of n / 10 ^ k is that of n * 10 ^ j over 10 ^ (k + j)
pub near_scaled : (n : ℤ) (k j w : ℕ) → k ≤ 9 → IsNearest n k w → IsNearest (n *ℤ pos (10 ^ j)) (k + j) w
near_scaled (pos zero) k j w few near =
    let e : 0 * 10 ^ j ≡ 0 = omega arith in
    rw (near.zero refl, e) (near_zero (k + j))
near_scaled (pos (suc a)) k j w few near =
    let s = size_of_positive (suc a) k w few (omega arith) near in
    near_positive (suc a * 10 ^ j) (k + j) w (times_some a (10 ^ j) (ten_some j))
    (subst (λ t. IsNearestSize (suc a * 10 ^ j) t w) (sym (pow-add 10 k j)) (size_scaled (suc a) (10 ^ k) (10 ^ j) w (ten_some j) s.1))
near_scaled (negsuc a) k j w few near =
    let s = size_of_negative (suc a) k w few (omega arith) near in
    let b : w - 2 ^ 63 + 2 ^ 63 ≡ w = sub_back w s.0 in
    subst (λ (x : ℕ). IsNearest (negsuc a *ℤ pos (10 ^ j)) (k + j) x) b
    (rw (negsuc-*ℤ-pos a (10 ^ j)) (near_negative (suc a * 10 ^ j) (k + j) (w - 2 ^ 63) (times_some a (10 ^ j) (ten_some j))
    (subst (λ t. IsNearestSize (suc a * 10 ^ j) t (w - 2 ^ 63)) (sym (pow-add 10 k j)) (size_scaled (suc a) (10 ^ k) (10 ^ j) (w - 2 ^ 63) (ten_some j) s.1))))
  where
    sub_back : (w : ℕ) → 2 ^ 63 ≤ w → w - 2 ^ 63 + 2 ^ 63 ≡ w
    sub_back w h = omega arith
