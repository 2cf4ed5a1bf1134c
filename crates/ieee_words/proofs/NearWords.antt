-- the computed word is the nearest one
use Rattle.std.proofs.Common.{◌≡◌, ℕ, zero, suc, ◌+◌, ◌-◌, ◌*◌, ◌/◌, ◌%◌, ◌^◌, ◌<◌, ◌≤◌, arith, sym, refl, ap, ◌∙◌, inl, inr, ℤ, pos, negsuc, ltb, true, false}
use Rattle.std.specs.Prelude.{unsigned_abs}
use Rattle.std.proofs.Math.Pow.{pow-add, pow_pos}
use Rattle.std.proofs.Math.Nat.{div-div-eq-div-mul, div-le_self, pow-le-pow_right}
use Rattle.std.proofs.lemmas.Bool.{cases_lt, cases_order, cond-true, cond-false, le-leb, lt-leb}
use Rattle.std.proofs.lemmas.Nat.{div-add-mod', mod_below, le-div}
use Rattle.ieee_words.specs.Near.{IsNearest}
use Rattle.ieee_words.specs.Sizes.{IsNearestSize}
use Rattle.ieee_words.specs.NearWord.{nearest_whole, halvings, near_size, near_word}
use Rattle.ieee_words.proofs.Bits.{half_of}
use Rattle.ieee_words.proofs.Rounded.{below_half, above_half, at_half}
use Rattle.ieee_words.proofs.Signed.{near_zero, near_positive, near_negative}
use Rattle.ieee_words.proofs.Unique.{ten_some, unique}

less : (a b : ℕ) → a < b → ltb a b ≡ true
less a b h = le-leb (suc a) b h

not_less : (a b : ℕ) → b ≤ a → ltb a b ≡ false
not_less a b h = lt-leb (suc a) b (omega arith)

-- the three cases of rounding
pub whole_below : (n d : ℕ) → 2 * (n % d) < d → nearest_whole n d ≡ n / d
whole_below n d h = cond-true _ _ _ (less (2 * (n % d)) d h)

pub whole_above : (n d : ℕ) → d < 2 * (n % d) → nearest_whole n d ≡ n / d + 1
whole_above n d h = cond-false _ _ _ (not_less (2 * (n % d)) d (omega arith)) ∙ cond-true _ _ _ (less d (2 * (n % d)) h)

pub whole_tie : (n d : ℕ) → 2 * (n % d) ≡ d → nearest_whole n d ≡ n / d + n / d % 2
whole_tie n d e = cond-false _ _ _ (not_less (2 * (n % d)) d (omega arith)) ∙ cond-false _ _ _ (not_less d (2 * (n % d)) (omega arith))

halvings_stop : (most n : ℕ) → n < 2 ^ 53 → halvings (suc most) n ≡ 0
halvings_stop most n h = cond-true _ _ _ (less n (2 ^ 53) h)

halvings_go : (most n : ℕ) → 2 ^ 53 ≤ n → halvings (suc most) n ≡ halvings most (n / 2) + 1
halvings_go most n h = cond-false _ _ _ (not_less n (2 ^ 53) h)

halvings_small : (most n : ℕ) → n < 2 ^ 53 → halvings most n ≡ 0
halvings_small zero n h = refl
halvings_small (suc most) n h = halvings_stop most n h

-- halved j times the number has at most 53 bits, and 53 where it had as many
record IsLeading (most n j : ℕ) : Type 0 where
  few : j ≤ most
  high : n / 2 ^ j < 2 ^ 53
  low : 2 ^ 53 ≤ n → 2 ^ 52 ≤ n / 2 ^ j

not_halved : (most n : ℕ) → n < 2 ^ 53 → IsLeading most n 0
not_halved most n h =
    let e : n / 2 ^ 0 ≡ n = omega arith in
    record { few = omega arith; high = rw e h; low = λ l. absurd (omega arith) }

once_more : (most n j : ℕ) → 2 ^ 53 ≤ n → (n / 2 < 2 ^ 53 → j ≡ 0) → IsLeading most (n / 2) j → IsLeading (suc most) n (j + 1)
once_more most n j h none i =
    let e : n / 2 / 2 ^ j ≡ n / 2 ^ (j + 1) = div-div-eq-div-mul n 2 (2 ^ j) ∙ ap (λ x. n / x) (omega (arith, pow-add 2 j 1)) in
    record {
      few = let f = i.few in omega arith;
      high = rw (← e) i.high;
      low = λ l. rw (← e) (elim (cases_lt (n / 2) (2 ^ 53)) [
        | inl s ↦ let z : j ≡ 0 = none s in rw z (let o : n / 2 / 2 ^ 0 ≡ n / 2 = omega arith in rw o (omega arith))
        | inr s ↦ i.low s
      ]);
    }

leading : (most n : ℕ) → n < 2 ^ (53 + most) → IsLeading most n (halvings most n)
leading zero n h = not_halved zero n h
leading (suc most) n h = elim (cases_lt n (2 ^ 53)) [
  | inl s ↦ rw (halvings_stop most n s) (not_halved (suc most) n s)
  | inr s ↦
      let p : 2 ^ (53 + suc most) ≡ 2 ^ (53 + most) * 2 = ap (λ k. 2 ^ k) (one_more most) ∙ pow-add 2 (53 + most) 1 in
      rw (halvings_go most n s) (once_more most n (halvings most (n / 2)) s (halvings_small most (n / 2)) (leading most (n / 2) (half n (2 ^ (53 + most)) (omega arith))))
]
  where
    one_more : (m : ℕ) → 53 + suc m ≡ 53 + m + 1
    one_more m = omega arith

    half : (n x : ℕ) → n < x * 2 → n / 2 < x
    half n x g = omega arith

-- of a number of 54 bits and more at least one is cut
some_cut : (n j : ℕ) → 2 ^ 53 ≤ n → n / 2 ^ j < 2 ^ 53 → 1 ≤ j
some_cut n zero l h = let e : n / 2 ^ 0 ≡ n = omega arith in absurd (let g : n < 2 ^ 53 = rw (← e) h in omega arith)
some_cut n (suc j) l h = omega arith

module _ (a t d : ℕ) (some : 0 < a) (low : 0 < t) (i : IsLeading 128 (a * 2 ^ 83 / t) d) (wide : 2 ^ 53 ≤ a * 2 ^ 83 / t) where
  q : ℕ
  q = a * 2 ^ 83 / t

  r : ℕ
  r = a * 2 ^ 83 % t

  m : ℕ
  m = q / 2 ^ d

  c : ℕ
  c = q % 2 ^ d

  is_q : a * 2 ^ 83 ≡ q * t + r
  unfolding q r
  is_q = sym (div-add-mod' (a * 2 ^ 83) t)

  r_small : r < t
  unfolding r
  r_small = mod_below (a * 2 ^ 83) t low

  is_m : q ≡ m * 2 ^ d + c
  unfolding m c
  is_m = sym (div-add-mod' q (2 ^ d))

  c_small : c < 2 ^ d
  unfolding c
  c_small = mod_below q (2 ^ d) (pow_pos d)

  m_low : 2 ^ 52 ≤ m
  unfolding m q
  m_low = i.low wide

  m_high : m < 2 ^ 53
  unfolding m q
  m_high = i.high

  is_h : 2 ^ d ≡ 2 ^ (d - 1) * 2
  is_h = half_of d (some_cut (a * 2 ^ 83 / t) d wide i.high)

  quotient : a * 2 ^ 83 / (t * 2 ^ d) ≡ m
  unfolding m q
  quotient = sym (div-div-eq-div-mul (a * 2 ^ 83) t (2 ^ d))

  rest : a * 2 ^ 83 % (t * 2 ^ d) ≡ c * t + r
  rest =
      let e : a * 2 ^ 83 / (t * 2 ^ d) * (t * 2 ^ d) + a * 2 ^ 83 % (t * 2 ^ d) ≡ a * 2 ^ 83 = div-add-mod' (a * 2 ^ 83) (t * 2 ^ d) in
      let f : a * 2 ^ 83 / (t * 2 ^ d) * (t * 2 ^ d) ≡ m * (t * 2 ^ d) = ap (λ x. x * (t * 2 ^ d)) quotient in
      let g : q * t ≡ (m * 2 ^ d + c) * t = ap (λ x. x * t) is_m in
      let h = is_q in omega arith

  place : (x : ℕ) → (991 + d) * 2 ^ 52 + x ≡ (d + 1074 - 83) * 2 ^ 52 + x
  place x = omega arith

  over : ℕ
  over = a * 2 ^ 83

  under : ℕ
  under = t * 2 ^ d

  nearest : IsNearestSize a t ((991 + d) * 2 ^ 52 + nearest_whole over under)
  unfolding over under
  nearest = elim (cases_order (2 * (a * 2 ^ 83 % (t * 2 ^ d))) (t * 2 ^ d)) [
    | inl e ↦ rw (whole_tie (a * 2 ^ 83) (t * 2 ^ d) e, quotient, place (m + m % 2), sum (d + 1074 - 83) m (m % 2))
        (at_half a t 83 q r m d c (2 ^ (d - 1)) is_q r_small is_m c_small m_low m_high (omega arith) i.few is_h (let z = rest in omega arith))
    | inr (inl l) ↦ rw (whole_below (a * 2 ^ 83) (t * 2 ^ d) l, quotient, place m)
        (below_half a t 83 q r m d c (2 ^ (d - 1)) is_q r_small is_m c_small m_low m_high (omega arith) i.few is_h (let z = rest in omega arith))
    | inr (inr g) ↦ rw (whole_above (a * 2 ^ 83) (t * 2 ^ d) g, quotient, place (m + 1), sum (d + 1074 - 83) m 1)
        (above_half a t 83 q r m d c (2 ^ (d - 1)) is_q r_small is_m c_small m_low m_high (omega arith) i.few is_h (let z = rest in omega arith))
  ]
    where
      sum : (x y z : ℕ) → x * 2 ^ 52 + (y + z) ≡ x * 2 ^ 52 + y + z
      sum x y z = omega arith

near_size_is : (a t : ℕ) → 0 < a → a ≤ 2 ^ 63 → 0 < t → t ≤ 10 ^ 9 → IsNearestSize a t (near_size a t)
unfolding over under
near_size_is a t some high low few =
    let w : 2 ^ 53 ≤ a * 2 ^ 83 / t = le-div (2 ^ 53) (a * 2 ^ 83) t low (omega arith) in
    let s : a * 2 ^ 83 / t ≤ a * 2 ^ 83 = div-le_self (a * 2 ^ 83) t in
    nearest a t (halvings 128 (a * 2 ^ 83 / t)) some low (leading 128 (a * 2 ^ 83 / t) (omega arith)) w

pub near_word_is : (n : ℤ) (k : ℕ) → k ≤ 9 → unsigned_abs n ≤ 2 ^ 63 → IsNearest n k (near_word n k)
near_word_is (pos zero) k few h = near_zero k
near_word_is (pos (suc a)) k few h =
    near_positive (suc a) k (near_size (suc a) (10 ^ k)) (omega arith) (near_size_is (suc a) (10 ^ k) (omega arith) h (ten_some k) (pow-le-pow_right (omega arith) few))
near_word_is (negsuc a) k few h =
    near_negative (suc a) k (near_size (suc a) (10 ^ k)) (omega arith) (near_size_is (suc a) (10 ^ k) (omega arith) h (ten_some k) (pow-le-pow_right (omega arith) few))

-- so every nearest word is the computed one
pub is_near_word : (n : ℤ) (k w : ℕ) → k ≤ 9 → unsigned_abs n ≤ 2 ^ 63 → IsNearest n k w → w ≡ near_word n k
is_near_word n k w few h near = unique n k w (near_word n k) few near (near_word_is n k few h)
