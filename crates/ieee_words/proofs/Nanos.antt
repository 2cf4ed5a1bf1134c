-- the whole number of nanounits nearest to a word's value, with its sign
use Rattle.std.proofs.Common.{◌≡◌, ◌≢◌, ℕ, zero, suc, ◌+◌, ◌-◌, ◌*◌, ◌%◌, ◌^◌, ◌<◌, ◌≤◌, arith, sym, refl, subst, ap, ◌∙◌, inl, inr, ℤ, pos, neg_ℤ, negsuc, ◌*ℤ◌, ◌-ℤ◌}
use Rattle.std.specs.Prelude.{unsigned_abs}
use Rattle.std.proofs.Math.Nat.{mul-le-mul_right, le_of_mul-le-mul_right}
use Rattle.std.proofs.lemmas.Bool.{cases_lt, cases_order, cases_eq}
use Rattle.std.proofs.lemmas.Int.{ints}
use Rattle.ieee_words.specs.Word.{size_in_parts, parts_of_one, word_value, IsAtMost, distance}
use Rattle.ieee_words.specs.Sizes.{apart, IsNearestCount}
use Rattle.ieee_words.specs.Dec.{whole, nano_value, IsNearestWhole}
use Rattle.ieee_words.proofs.Signed.{abs_diff, abs_flip, abs_sum, abs_sum_flip, neg_mul, pos_le, pos_le_back, over_positive, over_negative, size_unsigned}
use Rattle.ieee_words.proofs.Rounded.{parts_some}

-- the numerator of the distance of the value to m, over 2 ^ 1074
gap : ℕ → ℤ → ℕ
gap w m = unsigned_abs ((word_value w).over *ℤ pos (10 ^ 9) *ℤ pos 1 -ℤ m *ℤ pos parts_of_one)

at_most_from : (w : ℕ) (n m : ℤ) → gap w n ≤ gap w m → IsAtMost (distance (nano_value w) (whole n)) (distance (nano_value w) (whole m))
unfolding word_value gap
at_most_from w n m h = pos_le _ _ (mul-le-mul_right (parts_of_one * 1) h)

at_most_to : (w : ℕ) (n m : ℤ) → IsAtMost (distance (nano_value w) (whole n)) (distance (nano_value w) (whole m)) → gap w n ≤ gap w m
unfolding word_value gap
at_most_to w n m h = le_of_mul-le-mul_right {k = parts_of_one * 1} (pos_le_back _ _ h) (let p = parts_some in omega arith)

nano : ℕ
nano = 10 ^ 9

gap_positive : (w a : ℕ) → w < 2 ^ 63 → gap w (pos a) ≡ apart a (10 ^ 9) w
unfolding gap
gap_positive w a h = rw (over_positive w h) (abs_diff (size_in_parts w * 10 ^ 9 * 1) (a * parts_of_one) ∙ omega arith)

gap_negative : (w a : ℕ) → 2 ^ 63 ≤ w → w < 2 ^ 64 → gap w (neg_ℤ (pos a)) ≡ apart a (10 ^ 9) (w - 2 ^ 63)
unfolding gap
gap_negative w a h k = rw (over_negative w h, size_unsigned w h k, neg_mul (size_in_parts (w - 2 ^ 63)) (10 ^ 9), neg_mul (size_in_parts (w - 2 ^ 63) * 10 ^ 9) 1, neg_mul a parts_of_one)
    (abs_flip (size_in_parts (w - 2 ^ 63) * 10 ^ 9 * 1) (a * parts_of_one) ∙ omega arith)

gap_across : (w a : ℕ) → w < 2 ^ 63 → a * parts_of_one ≤ gap w (neg_ℤ (pos a))
unfolding gap
gap_across w a h = rw (over_positive w h, neg_mul a parts_of_one, abs_sum (size_in_parts w * 10 ^ 9 * 1) (a * parts_of_one)) (omega arith)

gap_across_negative : (w a : ℕ) → 2 ^ 63 ≤ w → w < 2 ^ 64 → a * parts_of_one ≤ gap w (pos a)
unfolding gap
gap_across_negative w a h k = rw (over_negative w h, neg_mul (size_in_parts w) (10 ^ 9), neg_mul (size_in_parts w * 10 ^ 9) 1, abs_sum_flip (size_in_parts w * 10 ^ 9 * 1) (a * parts_of_one)) (omega arith)

-- two different whole numbers are at least 1 apart
far : (a n t u : ℕ) → a ≢ n → parts_of_one ≤ apart a t u + apart n t u
far a n t u other = elim (cases_order a n) [
  | inl e ↦ absurd (other e)
  | inr (inl l) ↦ let m : (a + 1) * parts_of_one ≤ n * parts_of_one = mul-le-mul_right parts_of_one (omega arith) in omega arith
  | inr (inr l) ↦ let m : (n + 1) * parts_of_one ≤ a * parts_of_one = mul-le-mul_right parts_of_one (omega arith) in omega arith
]

one_more : (a : ℕ) → parts_of_one ≤ suc a * parts_of_one
one_more a = let m : 1 * parts_of_one ≤ suc a * parts_of_one = mul-le-mul_right parts_of_one (omega arith) in omega arith

pub nearest_positive : (w n : ℕ) → w < 2 ^ 63 → IsNearestCount w (10 ^ 9) n → IsNearestWhole (nano_value w) (pos n)
nearest_positive w n h r = record {
  closest = λ m. at_most_from w (pos n) m (near m);
  ties_even = λ m other tie. r.tie_even (level m other (at_most_to w m (pos n) tie));
}
  where
    p : 0 < parts_of_one
    p = parts_some

    here : gap w (pos n) ≡ apart n (10 ^ 9) w
    here = gap_positive w n h

    near : (m : ℤ) → gap w (pos n) ≤ gap w m
    near (pos a) = elim (cases_eq a n) [
      | inl e ↦ rw e (omega arith)
      | inr d ↦ let f = far a n (10 ^ 9) w d in let g = gap_positive w a h in let k = r.half in let i = here in omega arith
    ]
    near (negsuc a) = let g = gap_across w (suc a) h in let f = one_more a in let k = r.half in let i = here in omega arith

    level : (m : ℤ) → m ≢ pos n → gap w m ≤ gap w (pos n) → 2 * apart n (10 ^ 9) w ≡ parts_of_one
    level (pos a) other tie = let f = far a n (10 ^ 9) w (λ e. other (ap pos e)) in let g = gap_positive w a h in let k = r.half in let i = here in omega arith
    level (negsuc a) other tie = let g = gap_across w (suc a) h in let f = one_more a in let k = r.half in let i = here in let q = p in absurd (omega arith)

pub nearest_negative : (w n : ℕ) → 2 ^ 63 ≤ w → w < 2 ^ 64 → IsNearestCount (w - 2 ^ 63) (10 ^ 9) n → IsNearestWhole (nano_value w) (neg_ℤ (pos n))
nearest_negative w n h b r = record {
  closest = λ m. at_most_from w (neg_ℤ (pos n)) m (near m);
  ties_even = λ m other tie. omega (arith, ints, r.tie_even (level m other (at_most_to w m (neg_ℤ (pos n)) tie)));
}
  where
    p : 0 < parts_of_one
    p = parts_some

    here : gap w (neg_ℤ (pos n)) ≡ apart n (10 ^ 9) (w - 2 ^ 63)
    here = gap_negative w n h b

    by_size : (a : ℕ) → gap w (neg_ℤ (pos n)) ≤ gap w (neg_ℤ (pos a))
    by_size a = elim (cases_eq a n) [
      | inl e ↦ rw e (omega arith)
      | inr d ↦ let f = far a n (10 ^ 9) (w - 2 ^ 63) d in let g = gap_negative w a h b in let k = r.half in let i = here in omega arith
    ]

    near : (m : ℤ) → gap w (neg_ℤ (pos n)) ≤ gap w m
    near (pos zero) = by_size 0
    near (pos (suc a)) = let g = gap_across_negative w (suc a) h b in let f = one_more a in let k = r.half in let i = here in omega arith
    near (negsuc a) = by_size (suc a)

    by_level : (a : ℕ) → a ≢ n → gap w (neg_ℤ (pos a)) ≤ gap w (neg_ℤ (pos n)) → 2 * apart n (10 ^ 9) (w - 2 ^ 63) ≡ parts_of_one
    by_level a d tie = let f = far a n (10 ^ 9) (w - 2 ^ 63) d in let g = gap_negative w a h b in let k = r.half in let i = here in omega arith

    level : (m : ℤ) → m ≢ neg_ℤ (pos n) → gap w m ≤ gap w (neg_ℤ (pos n)) → 2 * apart n (10 ^ 9) (w - 2 ^ 63) ≡ parts_of_one
    level (pos zero) other tie = by_level 0 (λ e. other (ap (λ z. neg_ℤ (pos z)) e)) tie
    level (pos (suc a)) other tie = let g = gap_across_negative w (suc a) h b in let f = one_more a in let k = r.half in let i = here in let q = p in absurd (omega arith)
    level (negsuc a) other tie = by_level (suc a) (λ e. other (ap (λ z. neg_ℤ (pos z)) e)) tie

-- a whole number farther across 0 is farther from the value than 0 is
gap_beyond : (w a : ℕ) → w < 2 ^ 63 → gap w (neg_ℤ (pos a)) ≡ size_in_parts w * 10 ^ 9 + a * parts_of_one
unfolding gap
gap_beyond w a h = rw (over_positive w h, neg_mul a parts_of_one, abs_sum (size_in_parts w * 10 ^ 9 * 1) (a * parts_of_one)) (omega arith)

gap_beyond_negative : (w a : ℕ) → 2 ^ 63 ≤ w → w < 2 ^ 64 → gap w (pos a) ≡ size_in_parts w * 10 ^ 9 + a * parts_of_one
unfolding gap
gap_beyond_negative w a h k = rw (over_negative w h, neg_mul (size_in_parts w) (10 ^ 9), neg_mul (size_in_parts w * 10 ^ 9) 1, abs_sum_flip (size_in_parts w * 10 ^ 9 * 1) (a * parts_of_one)) (omega arith)

-- among the whole numbers, a is nearest to t times the size of the word u
record IsLeastApart (t u a : ℕ) : Type 0 where
  closest : (c : ℕ) → apart a t u ≤ apart c t u
  ties_even : (c : ℕ) → c ≢ a → apart c t u ≤ apart a t u → a % 2 ≡ 0

-- of two different ones both would be even, and a number between them nearer
not_two : (t u a b : ℕ) → a < b → IsLeastApart t u a → IsLeastApart t u b → ⊥
not_two t u a b l p q =
    let x = p.closest b in
    let y = q.closest a in
    let e : a % 2 ≡ 0 = p.ties_even b (λ z. omega arith) y in
    let f : b % 2 ≡ 0 = q.ties_even a (λ z. omega arith) x in
    let c = p.closest (a + 1) in
    let m : (a + 2) * parts_of_one ≤ b * parts_of_one = mul-le-mul_right parts_of_one (omega arith) in
    let d = parts_some in
    omega arith

least_one : (t u a b : ℕ) → IsLeastApart t u a → IsLeastApart t u b → a ≡ b
least_one t u a b p q = elim (cases_order a b) [
  | inl e ↦ e
  | inr (inl l) ↦ absurd (not_two t u a b l p q)
  | inr (inr l) ↦ absurd (not_two t u b a l q p)
]

least_positive : (w a : ℕ) → w < 2 ^ 63 → IsNearestWhole (nano_value w) (pos a) → IsLeastApart (10 ^ 9) w a
least_positive w a h r = record {
  closest = λ c. let g = at_most_to w (pos a) (pos c) (r.closest (pos c)) in let x = gap_positive w a h in let y = gap_positive w c h in omega arith;
  ties_even = λ c other tie.
      let x = gap_positive w a h in let y = gap_positive w c h in
      r.ties_even (pos c) (λ z. other (ap unsigned_abs z)) (at_most_from w (pos c) (pos a) (omega arith));
}

least_negative : (w a : ℕ) → 2 ^ 63 ≤ w → w < 2 ^ 64 → IsNearestWhole (nano_value w) (neg_ℤ (pos a)) → IsLeastApart (10 ^ 9) (w - 2 ^ 63) a
least_negative w a h k r = record {
  closest = λ c. let g = at_most_to w (neg_ℤ (pos a)) (neg_ℤ (pos c)) (r.closest (neg_ℤ (pos c))) in
      let x = gap_negative w a h k in let y = gap_negative w c h k in omega arith;
  ties_even = λ c other tie.
      let x = gap_negative w a h k in let y = gap_negative w c h k in
      let e = r.ties_even (neg_ℤ (pos c)) (λ z. other (same c a z)) (at_most_from w (neg_ℤ (pos c)) (neg_ℤ (pos a)) (omega arith)) in
      rw (size_of a) at e;
}
  where
    size_of : (x : ℕ) → unsigned_abs (neg_ℤ (pos x)) ≡ x
    size_of x = omega (arith, ints)

    same : (x y : ℕ) → neg_ℤ (pos x) ≡ neg_ℤ (pos y) → x ≡ y
    same x y z = sym (size_of x) ∙ ap unsigned_abs z ∙ size_of y

-- the nearest whole number isn't on the other side of 0
whole_positive : (w : ℕ) (n : ℤ) → w < 2 ^ 63 → IsNearestWhole (nano_value w) n → (a : ℕ) × (n ≡ pos a)
whole_positive w (pos a) h r = (a, refl)
whole_positive w (negsuc a) h r =
    let g : gap w (neg_ℤ (pos (suc a))) ≤ gap w (pos 0) = at_most_to w (negsuc a) (pos 0) (r.closest (pos 0)) in
    let x = gap_beyond w (suc a) h in let y = gap_positive w 0 h in let f = one_more a in let p = parts_some in absurd (omega arith)

whole_negative : (w : ℕ) (n : ℤ) → 2 ^ 63 ≤ w → w < 2 ^ 64 → IsNearestWhole (nano_value w) n → (a : ℕ) × (n ≡ neg_ℤ (pos a))
whole_negative w (pos zero) h k r = (0, refl)
whole_negative w (pos (suc a)) h k r =
    let g : gap w (pos (suc a)) ≤ gap w (pos 0) = at_most_to w (pos (suc a)) (pos 0) (r.closest (pos 0)) in
    let x = gap_beyond_negative w (suc a) h k in let y = gap_beyond_negative w 0 h k in let f = one_more a in let p = parts_some in absurd (omega arith)
whole_negative w (negsuc a) h k r = (suc a, refl)

-- the whole number nearest to a word's value is one
pub one_whole : (w : ℕ) (n m : ℤ) → w < 2 ^ 64 → IsNearestWhole (nano_value w) n → IsNearestWhole (nano_value w) m → n ≡ m
one_whole w n m f p q = elim (cases_lt w (2 ^ 63)) [
  | inl h ↦
      let x = whole_positive w n h p in
      let y = whole_positive w m h q in
      let a = least_positive w x.0 h (subst (IsNearestWhole (nano_value w)) x.1 p) in
      let b = least_positive w y.0 h (subst (IsNearestWhole (nano_value w)) y.1 q) in
      x.1 ∙ ap pos (least_one (10 ^ 9) w x.0 y.0 a b) ∙ sym y.1
  | inr h ↦
      let x = whole_negative w n h f p in
      let y = whole_negative w m h f q in
      let a = least_negative w x.0 h f (subst (IsNearestWhole (nano_value w)) x.1 p) in
      let b = least_negative w y.0 h f (subst (IsNearestWhole (nano_value w)) y.1 q) in
      x.1 ∙ ap (λ z. neg_ℤ (pos z)) (least_one (10 ^ 9) (w - 2 ^ 63) x.0 y.0 a b) ∙ sym y.1
]
