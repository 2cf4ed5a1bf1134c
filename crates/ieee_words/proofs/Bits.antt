-- the leading bits of a number
use Rattle.std.proofs.Common.{◌≡◌, ℕ, suc, ◌+◌, ◌-◌, ◌*◌, ◌/◌, ◌%◌, ◌^◌, ◌<◌, ◌≤◌, arith, sym, ap, ◌∙◌, inl, inr}
use Rattle.std.proofs.Math.Pow.{pow-add, pow_mono, pow_pos}
use Rattle.std.proofs.Math.Nat.{mul-le-mul_right, mul-lt-mul_of_pos_right, mod-eq_of_lt}
use Rattle.std.specs.Int.Count.{count_leading_zeros}
use Rattle.std.proofs.lemmas.Nat.{leading_top, le-div, div_below, one_shl}
use Rattle.std.proofs.lemmas.Bool.{cases_lt}

pub pow_back : (i j : ℕ) → 2 ^ i < 2 ^ j → i < j
pow_back i j h = elim (cases_lt i j) [
  | inl a ↦ a
  | inr b ↦ let m : 2 ^ j ≤ 2 ^ i = pow_mono b in absurd (omega arith)
]

pub pow_sum : (i j k : ℕ) → i + j ≡ k → 2 ^ i * 2 ^ j ≡ 2 ^ k
pow_sum i j k e = sym (pow-add 2 i j) ∙ ap (λ x. 2 ^ x) e

-- a number below 2 ^ 64, shifted so that its top bit is the bit 126
pub shifted_up : (a : ℕ) → 0 < a → a < 2 ^ 64 →
    let c : ℕ = count_leading_zeros 128 a in
    (64 ≤ c) × (c ≤ 127) × (2 ^ 126 ≤ a * 2 ^ (c - 1)) × (a * 2 ^ (c - 1) < 2 ^ 127)
shifted_up a pos small =
    let c : ℕ = count_leading_zeros 128 a in
    let wide : a < 2 ^ 128 = omega arith in
    let t = leading_top 128 a pos wide in
    let j : ℕ = t.0 in
    let e : c + suc j ≡ 128 = t.1 in
    let low : 2 ^ j ≤ a = t.2 in
    let high : a < 2 ^ suc j = t.3 in
    let jb : j < 64 = pow_back j 64 (omega arith) in
    let p : 2 ^ j * 2 ^ (c - 1) ≡ 2 ^ 126 = pow_sum j (c - 1) 126 (omega arith) in
    let q : 2 ^ suc j * 2 ^ (c - 1) ≡ 2 ^ 127 = pow_sum (suc j) (c - 1) 127 (omega arith) in
    let x : 2 ^ j * 2 ^ (c - 1) ≤ a * 2 ^ (c - 1) = mul-le-mul_right (2 ^ (c - 1)) low in
    let y : a * 2 ^ (c - 1) < 2 ^ suc j * 2 ^ (c - 1) = mul-lt-mul_of_pos_right high (pow_pos (c - 1)) in
    (omega arith, omega arith, omega arith, omega arith)

-- the 53 leading bits of a number of 97 to 127 bits
pub leading_53 : (n : ℕ) → 2 ^ 96 ≤ n → n < 2 ^ 127 →
    let c : ℕ = count_leading_zeros 128 n in
    (1 ≤ c) × (c ≤ 31) × (2 ^ 52 ≤ n / 2 ^ (75 - c)) × (n / 2 ^ (75 - c) < 2 ^ 53)
leading_53 n least most =
    let c : ℕ = count_leading_zeros 128 n in
    let t = leading_top 128 n (omega arith) (omega arith) in
    let j : ℕ = t.0 in
    let e : c + suc j ≡ 128 = t.1 in
    let low : 2 ^ j ≤ n = t.2 in
    let high : n < 2 ^ suc j = t.3 in
    let jl : 96 < suc j = pow_back 96 (suc j) (omega arith) in
    let jh : j < 127 = pow_back j 127 (omega arith) in
    let p : 2 ^ 52 * 2 ^ (75 - c) ≡ 2 ^ j = pow_sum 52 (75 - c) j (omega arith) in
    let q : 2 ^ 53 * 2 ^ (75 - c) ≡ 2 ^ suc j = pow_sum 53 (75 - c) (suc j) (omega arith) in (
      omega arith,
      omega arith,
      le-div (2 ^ 52) n (2 ^ (75 - c)) (pow_pos (75 - c)) (omega arith),
      div_below n (2 ^ (75 - c)) (2 ^ 53) (pow_pos (75 - c)) (omega arith),
    )

-- what fits is kept whole
pub kept_whole : (n m : ℕ) → n < m → n % m ≡ n
kept_whole n m h = mod-eq_of_lt h

pub half_of : (d : ℕ) → 1 ≤ d → 2 ^ d ≡ 2 ^ (d - 1) * 2
half_of d h = let e : d ≡ d - 1 + 1 = omega arith in ap (λ x. 2 ^ x) e ∙ pow-add 2 (d - 1) 1

pub half_shifted : (d : ℕ) → d ≤ 74 → 1 * 2 ^ (d - 1) % 2 ^ 128 ≡ 2 ^ (d - 1)
half_shifted d h = one_shl (d - 1) 128 (omega arith)
