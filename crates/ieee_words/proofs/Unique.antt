-- a decimal has one nearest word
use Rattle.std.proofs.Common.{◌≡◌, ℕ, zero, suc, ◌+◌, ◌-◌, ◌*◌, ◌%◌, ◌^◌, ◌<◌, ◌≤◌, arith, sym, refl, ap, ◌∙◌, inl, inr, ℤ, pos, neg_ℤ, negsuc}
use Rattle.std.proofs.Math.Pow.{pow_mono}
use Rattle.std.proofs.Math.Nat.{mul-le-mul_right, mul-lt-mul_of_pos_right, one-le-pow, pow-le-pow_right}
use Rattle.std.proofs.lemmas.Bool.{cases_lt, cases_order}
use Rattle.ieee_words.specs.Word.{size_in_parts, parts_of_one}
use Rattle.ieee_words.specs.Near.{IsNearest}
use Rattle.ieee_words.specs.Sizes.{IsNearestSize, apart}
use Rattle.ieee_words.proofs.Sizes.{size_small, size_mono, size_grows}
use Rattle.ieee_words.proofs.Signed.{off, off_positive, off_negative, off_across, off_across_negative, at_most_from, at_most_to, finite_positive, finite_negative}

pub sizes_grow : (u v : ℕ) → u < v → v ≤ 2047 * 2 ^ 52 → size_in_parts u < size_in_parts v
sizes_grow u v h k =
    let g : size_in_parts u < size_in_parts (u + 1) = size_grows u (omega arith) in
    let m : size_in_parts (u + 1) ≤ size_in_parts v = size_mono (u + 1) v (omega arith) k in omega arith

-- of two different nearest ones both would be even, and a word between them nearer
not_two : (a t u v : ℕ) → 0 < t → u < v → IsNearestSize a t u → IsNearestSize a t v → ⊥
not_two a t u v some h p q =
    let f : v < 2047 * 2 ^ 52 = q.finite in
    let c : apart a t u ≤ apart a t v = p.closest v f in
    let d : apart a t v ≤ apart a t u = q.closest u (omega arith) in
    let e : u % 2 ≡ 0 = p.ties_even v f (λ z. omega arith) d in
    let g : v % 2 ≡ 0 = q.ties_even u (omega arith) (λ z. omega arith) c in
    let i : apart a t u ≤ apart a t (u + 1) = p.closest (u + 1) (omega arith) in
    let x : size_in_parts u * t < size_in_parts (u + 1) * t = mul-lt-mul_of_pos_right (sizes_grow u (u + 1) (omega arith) (omega arith)) some in
    let y : size_in_parts (u + 1) * t < size_in_parts v * t = mul-lt-mul_of_pos_right (sizes_grow (u + 1) v (omega arith) (omega arith)) some in
    omega arith

pub unique_size : (a t u v : ℕ) → 0 < t → IsNearestSize a t u → IsNearestSize a t v → u ≡ v
unique_size a t u v some p q = elim (cases_order u v) [
  | inl e ↦ e
  | inr (inl h) ↦ absurd (not_two a t u v some h p q)
  | inr (inr h) ↦ absurd (not_two a t v u some h q p)
]

chain : (a b c d : ℕ) → a ≤ b → b ≤ c → c ≤ d → a ≤ d
chain a b c d h k l = omega arith

pub few_parts : (k : ℕ) → k ≤ 9 → 10 ^ k * 2 ^ 60 ≤ parts_of_one
unfolding parts_of_one
few_parts k h =
    let p : 10 ^ k ≤ 10 ^ 9 = pow-le-pow_right (omega arith) h in
    chain (10 ^ k * 2 ^ 60) (10 ^ 9 * 2 ^ 60) (2 ^ 90) (2 ^ 1074) (mul-le-mul_right (2 ^ 60) p) (omega arith) (pow_mono {i = 90} {j = 1074} (omega arith))

pub ten_some : (k : ℕ) → 0 < 10 ^ k
ten_some k = one-le-pow k 10 (omega arith)

-- the word 1 is nearer than a zero
apart_one : (a k : ℕ) → k ≤ 9 → 0 < a → apart a (10 ^ k) 1 < a * parts_of_one
apart_one a k h some =
    let f = few_parts k h in
    let t = ten_some k in
    let m : 1 * parts_of_one ≤ a * parts_of_one = mul-le-mul_right parts_of_one some in
    let s : size_in_parts 1 ≡ 1 = size_small 1 (omega arith) in
    let e : size_in_parts 1 * 10 ^ k ≡ 10 ^ k = ap (λ x. x * 10 ^ k) s ∙ omega arith in
    omega arith

back_add : (v : ℕ) → v + 2 ^ 63 - 2 ^ 63 ≡ v
back_add v = omega arith

module _ (a k w : ℕ) (few : k ≤ 9) (some : 0 < a) where
  no_sign : IsNearest (pos a) k w → w < 2 ^ 63
  no_sign near = elim (cases_lt w (2 ^ 63)) [
    | inl h ↦ h
    | inr h ↦
        let x = off_across a k w h near.finite.0 in
        let o : off (pos a) k 1 ≡ apart a (10 ^ k) 1 = off_positive a k 1 (omega arith) in
        let c : off (pos a) k w ≤ off (pos a) k 1 = at_most_to (pos a) k w 1 (near.closest 1 (omega arith, omega arith)) in
        let n = apart_one a k few some in absurd (omega arith)
  ]

  pub size_of_positive : IsNearest (pos a) k w → (w < 2 ^ 63) × IsNearestSize a (10 ^ k) w
  size_of_positive near =
      let h : w < 2 ^ 63 = no_sign near in
      let o : off (pos a) k w ≡ apart a (10 ^ k) w = off_positive a k w h in (
        h,
        record {
          finite = finite_positive w near.finite h;
          closest = λ v f.
              let e : off (pos a) k v ≡ apart a (10 ^ k) v = off_positive a k v (omega arith) in
              let c : off (pos a) k w ≤ off (pos a) k v = at_most_to (pos a) k w v (near.closest v (omega arith, omega arith)) in omega arith;
          ties_even = λ v f other tie.
              let e : off (pos a) k v ≡ apart a (10 ^ k) v = off_positive a k v (omega arith) in
              let c : w % 2 ^ 52 % 2 ≡ 0 = near.ties_even v (omega arith, omega arith) other (at_most_from (pos a) k v w (omega arith)) in
              omega arith;
        },
      )

  sign : IsNearest (neg_ℤ (pos a)) k w → 2 ^ 63 ≤ w
  sign near = elim (cases_lt w (2 ^ 63)) [
    | inl h ↦
        let x = off_across_negative a k w h in
        let o : off (neg_ℤ (pos a)) k (1 + 2 ^ 63) ≡ apart a (10 ^ k) 1 = off_negative a k (1 + 2 ^ 63) (omega arith) (omega arith) in
        let c : off (neg_ℤ (pos a)) k w ≤ off (neg_ℤ (pos a)) k (1 + 2 ^ 63) =
        at_most_to (neg_ℤ (pos a)) k w (1 + 2 ^ 63) (near.closest (1 + 2 ^ 63) (omega arith, omega arith)) in
        let n = apart_one a k few some in absurd (omega arith)
    | inr h ↦ h
  ]

  pub size_of_negative : IsNearest (neg_ℤ (pos a)) k w → (2 ^ 63 ≤ w) × IsNearestSize a (10 ^ k) (w - 2 ^ 63)
  size_of_negative near =
      let h : 2 ^ 63 ≤ w = sign near in
      let o : off (neg_ℤ (pos a)) k w ≡ apart a (10 ^ k) (w - 2 ^ 63) = off_negative a k w h near.finite.0 in (
        h,
        record {
          finite = finite_negative w near.finite h;
          closest = λ v f.
              let e : off (neg_ℤ (pos a)) k (v + 2 ^ 63) ≡ apart a (10 ^ k) v =
              off_negative a k (v + 2 ^ 63) (omega arith) (omega arith) ∙ ap (apart a (10 ^ k)) (back_add v) in
              let c : off (neg_ℤ (pos a)) k w ≤ off (neg_ℤ (pos a)) k (v + 2 ^ 63) =
              at_most_to (neg_ℤ (pos a)) k w (v + 2 ^ 63) (near.closest (v + 2 ^ 63) (omega arith, omega arith)) in omega arith;
          ties_even = λ v f other tie.
              let e : off (neg_ℤ (pos a)) k (v + 2 ^ 63) ≡ apart a (10 ^ k) v =
              off_negative a k (v + 2 ^ 63) (omega arith) (omega arith) ∙ ap (apart a (10 ^ k)) (back_add v) in
              let c : w % 2 ^ 52 % 2 ≡ 0 = near.ties_even (v + 2 ^ 63) (omega arith, omega arith) (λ z. other (omega arith))
              (at_most_from (neg_ℤ (pos a)) k (v + 2 ^ 63) w (omega arith)) in
              omega arith;
        },
      )

-- the nearest word is one
pub unique : (n : ℤ) (k w v : ℕ) → k ≤ 9 → IsNearest n k w → IsNearest n k v → w ≡ v
unique (pos zero) k w v few p q = p.zero refl ∙ sym (q.zero refl)
unique (pos (suc a)) k w v few p q =
    let x = size_of_positive (suc a) k w few (omega arith) p in
    let y = size_of_positive (suc a) k v few (omega arith) q in
    unique_size (suc a) (10 ^ k) w v (ten_some k) x.1 y.1
unique (negsuc a) k w v few p q =
    let x = size_of_negative (suc a) k w few (omega arith) p in
    let y = size_of_negative (suc a) k v few (omega arith) q in
    let e = unique_size (suc a) (10 ^ k) (w - 2 ^ 63) (v - 2 ^ 63) (ten_some k) x.1 y.1 in
    let f = x.0 in let g = y.0 in omega arith
