-- digits with zeros before them, two at a time
use Rattle.std.proofs.Common.{◌≡◌, ℕ, zero, suc, ◌+◌, ◌-◌, ◌*◌, ◌/◌, ◌%◌, ◌^◌, ◌<◌, ◌≤◌, arith, sym, refl, ap, ◌∙◌, inl, inr, List, [], ◌∷◌, ◌++◌, length, replicate, append_assoc, length-append, take, take-take}
use Rattle.std.specs.Prelude.{decimal}
use Rattle.std.proofs.Math.Pow.{pow-add}
use Rattle.std.proofs.lemmas.Nat.{div_below}
use Rattle.std.proofs.Math.ListN.{length-replicate}
use Rattle.std.proofs.lemmas.Bool.{cases_lt}
use Rattle.std.proofs.lemmas.Fmt.{decimal_digit, decimal_step, length-decimal-le}
use Rattle.decimal_coords.specs.Fixed.{padded_digits}

replicate_last : (k : ℕ) → replicate {A = ℕ} (suc k) 48 ≡ replicate k 48 ++ 48 ∷ []
replicate_last zero = refl
replicate_last (suc k) = ap (λ z. 48 ∷ z) (replicate_last k)

-- the last digit
padded_step : (p n : ℕ) → 0 < p → n < 2 ^ 64 → padded_digits (p + 1) n ≡ padded_digits p (n / 10) ++ (48 + n % 10) ∷ []
padded_step p n some fits = elim (cases_lt n 10) [
  | inl h ↦ short h
  | inr h ↦
      let d : decimal n ≡ decimal (n / 10) ++ (48 + n % 10) ∷ [] = decimal_step n h fits in
      let l : length (decimal n) ≡ length (decimal (n / 10)) + 1 = ap length d ∙ length-append _ _ in
      let e : p + 1 - length (decimal n) ≡ p - length (decimal (n / 10)) = omega arith in
      rw (e, d) (sym (append_assoc (replicate {A = ℕ} (p - length (decimal (n / 10))) 48) (decimal (n / 10)) ((48 + n % 10) ∷ [])))
]
  where
    zeros : (p : ℕ) → 0 < p → replicate {A = ℕ} (p + 1 - 1) 48 ≡ replicate (p - 1) 48 ++ 48 ∷ []
    zeros p h = let e : p + 1 - 1 ≡ suc (p - 1) = omega arith in rw e (replicate_last (p - 1))

    short : n < 10 → padded_digits (p + 1) n ≡ padded_digits p (n / 10) ++ (48 + n % 10) ∷ []
    short h =
        let d : decimal n ≡ (48 + n) ∷ [] = decimal_digit n h in
        let q : n / 10 ≡ 0 = omega arith in
        let m : n % 10 ≡ n = omega arith in
        let z : decimal 0 ≡ 48 ∷ [] = decimal_digit 0 (omega arith) in
        rw (d, q, m, z, zeros p some) refl

pub padded_one : (n : ℕ) → n < 10 → padded_digits 1 n ≡ (48 + n) ∷ []
padded_one n h = rw (decimal_digit n h) refl

-- the last two digits
pub padded_two : (n : ℕ) → n < 100 → padded_digits 2 n ≡ (48 + n / 10) ∷ (48 + n % 10) ∷ []
padded_two n h = padded_step 1 n (omega arith) (omega arith) ∙ rw (padded_one (n / 10) (omega arith)) refl

pub padded_pair : (p n : ℕ) → 0 < p → n < 2 ^ 64 → padded_digits (p + 2) n ≡ padded_digits p (n / 100) ++ (48 + n % 100 / 10) ∷ (48 + n % 100 % 10) ∷ []
padded_pair p n some fits =
    let a : n / 10 / 10 ≡ n / 100 = omega arith in
    let b : n / 10 % 10 ≡ n % 100 / 10 = omega arith in
    let c : n % 10 ≡ n % 100 % 10 = omega arith in
    let e : p + 2 ≡ p + 1 + 1 = omega arith in
    rw e (padded_step (p + 1) n (omega arith) fits ∙ rw (padded_step p (n / 10) some (omega arith), append_assoc (padded_digits p (n / 10 / 10)) ((48 + n / 10 % 10) ∷ []) ((48 + n % 10) ∷ []), a, b, c) refl)

pub length_padded : (p n : ℕ) → 0 < p → n < 10 ^ p → n < 2 ^ 64 → length (padded_digits p n) ≡ p
length_padded p n some small fits =
    let l = length-decimal-le p n some small fits in
    length-append (replicate {A = ℕ} (p - length (decimal n)) 48) (decimal n) ∙ (rw length-replicate (omega arith))

-- one step of the loop: the last two digits go before what is written
pub padded_before : (p n : ℕ) (xs ys : List ℕ) → 2 < p → n < 2 ^ 64 → padded_digits p n ++ xs ≡ ys →
    padded_digits (p - 2) (n / 100) ++ (48 + n % 100 / 10) ∷ (48 + n % 100 % 10) ∷ xs ≡ ys
padded_before p n xs ys h fits e =
    let q : p - 2 + 2 ≡ p = omega arith in
    let s : padded_digits p n ≡ padded_digits (p - 2) (n / 100) ++ (48 + n % 100 / 10) ∷ (48 + n % 100 % 10) ∷ [] =
    ap (λ k. padded_digits k n) (sym q) ∙ padded_pair (p - 2) n (omega arith) fits in
    sym (append_assoc (padded_digits (p - 2) (n / 100)) ((48 + n % 100 / 10) ∷ (48 + n % 100 % 10) ∷ []) xs) ∙ ap (λ z. z ++ xs) (sym s) ∙ e

pub rest_below : (p n : ℕ) → 2 < p → n < 10 ^ p → n / 100 < 10 ^ (p - 2)
rest_below p n h l =
    let e : 10 ^ (p - 2) * 10 ^ 2 ≡ 10 ^ p = sym (pow-add 10 (p - 2) 2) ∙ ap (λ k. 10 ^ k) (let q : p - 2 + 2 ≡ p = omega arith in q) in
    div_below n 100 (10 ^ (p - 2)) (omega arith) (omega arith)

-- what stays before a place stays before a lower one
pub take_shorter : (m n : ℕ) (xs ys : List ℕ) → m ≤ n → take n xs ≡ take n ys → take m xs ≡ take m ys
take_shorter m n xs ys h e = sym (take-take m n xs h) ∙ ap (take m) e ∙ take-take m n ys h
