-- A quotient that is guessed by a reciprocal, and one of a wide number that is found digit by digit.
use Rattle.std.proofs.Common.{◌≡◌, ℕ, ◌+◌, ◌-◌, ◌*◌, ◌/◌, ◌%◌, ◌^◌, ◌<◌, ◌≤◌, arith, sym, refl, ap, ◌∙◌}
use Rattle.std.proofs.Math.Nat.{div-mul-le_self, mul-le-mul_left, mul-le-mul_right}
use Rattle.std.proofs.lemmas.Nat.{div-mul-add, div-add-mod', mod_below}

module _ (n r by : ℕ) where
  -- it is never too great
  pub guess_below : r * by ≤ 2 ^ 64 → n * r / 2 ^ 64 * by ≤ n
  guess_below below = go (n * r / 2 ^ 64) (div-mul-le_self (n * r) (2 ^ 64))
    where
      go : (guess : ℕ) → guess * 2 ^ 64 ≤ n * r → guess * by ≤ n
      go guess h =
          let left : guess * 2 ^ 64 * by ≤ n * r * by = mul-le-mul_right by h in
          let right : n * (r * by) ≤ n * 2 ^ 64 = mul-le-mul_left n below in
          omega (arith, left, right)

  -- and too small by one at most
  pub guess_near : 1 ≤ by → 2 ^ 64 ≤ r * by + by → n < 2 ^ 64 → n < (n * r / 2 ^ 64 + 2) * by
  guess_near some near fits = go (n * r / 2 ^ 64) (let p = div-add-mod' (n * r) (2 ^ 64) in let m = mod_below (n * r) (2 ^ 64) (omega arith) in omega arith)
    where
      go : (guess : ℕ) → n * r + 1 ≤ (guess + 1) * 2 ^ 64 → n < (guess + 2) * by
      go guess h =
          let left : (n * r + 1) * by ≤ (guess + 1) * 2 ^ 64 * by = mul-le-mul_right by h in
          let right : n * 2 ^ 64 ≤ n * (r * by + by) = mul-le-mul_left n near in
          let top : n * by ≤ 2 ^ 64 * by = mul-le-mul_right by (omega arith) in
          omega (arith, left, right, top, some)

-- what is left below the divisor is the rest, and the number in front the quotient
pub parts : (n q by : ℕ) → q * by ≤ n → n - q * by < by → (q ≡ n / by) × (n - q * by ≡ n % by)
parts n q by below rest =
    let all : q * by + (n - q * by) ≡ n = omega arith in
    let quotient : q ≡ n / by = sym (div-mul-add q by (n - q * by) rest) ∙ ap (λ z. z / by) all in
    let whole : n / by * by + n % by ≡ n = div-add-mod' n by in
    let same : q * by ≡ n / by * by = ap (λ z. z * by) quotient in
    (quotient, omega (arith, whole, same))

-- a digit more
module _ (a b base by : ℕ) (some : 1 ≤ by) where
  more : (q r : ℕ) → q * by + r ≡ a → ((a * base + b) / by ≡ q * base + (r * base + b) / by) × ((a * base + b) % by ≡ (r * base + b) % by)
  more q r e =
      let inner = div-add-mod' (r * base + b) by in
      let small = mod_below (r * base + b) by some in
      let whole : q * by * base + r * base ≡ a * base = omega (arith, ap (λ z. z * base) e) in
      let found = parts (a * base + b) (q * base + (r * base + b) / by) by (omega (arith, inner, whole)) (omega (arith, inner, small, whole)) in
      (sym found.0, sym found.1 ∙ omega (arith, inner, whole))

  digit : (a * base + b) / by ≡ a / by * base + (a % by * base + b) / by
  digit = (more (a / by) (a % by) (div-add-mod' a by)).0

  rest : (a * base + b) % by ≡ (a % by * base + b) % by
  rest = (more (a / by) (a % by) (div-add-mod' a by)).1

-- the quotient and the rest of a number of three digits: what is left of each digit is carried to the next one
module _ (h m l by : ℕ) (some : 1 ≤ by) where
  pub three_digits : ((h * 2 ^ 32 + m) * 2 ^ 32 + l) / by
      ≡ h / by * 2 ^ 64 + (h % by * 2 ^ 32 + m) / by * 2 ^ 32 + ((h % by * 2 ^ 32 + m) % by * 2 ^ 32 + l) / by
  three_digits =
      rw (digit (h * 2 ^ 32 + m) l (2 ^ 32) by some, rest h m (2 ^ 32) by some, digit h m (2 ^ 32) by some) (omega arith)

  pub last_rest : ((h * 2 ^ 32 + m) * 2 ^ 32 + l) % by ≡ ((h % by * 2 ^ 32 + m) % by * 2 ^ 32 + l) % by
  last_rest = rw (rest (h * 2 ^ 32 + m) l (2 ^ 32) by some, rest h m (2 ^ 32) by some) refl
