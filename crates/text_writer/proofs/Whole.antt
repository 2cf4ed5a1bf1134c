-- Whole numbers in a line.
use Rattle.std.proofs.Common.{◌≡◌, ℕ, ◌+◌, ◌*◌, ◌/◌, ◌^◌, ◌<◌, ◌≤◌, length, decimal, ap, ◌∙◌, arith}
use Rattle.std.proofs.lemmas.Fmt.{length-decimal-le}
use Rattle.std.proofs.lemmas.Nat.{div-mul-add}
use Rattle.cloud_points.specs.Points.{whole}
use Rattle.decimal_coords.specs.Fixed.{fixed_text}

-- a whole number of nanounits without places is that number
pub whole_is_decimal : (n : ℕ) → fixed_text (whole n) 0 ≡ decimal n
whole_is_decimal n =
    let sum : 2 * (n * 1000000000) + 1000000000 ≡ n * 2000000000 + 1000000000 = omega arith in
    let small : 1000000000 < 2000000000 = omega arith in
    ap decimal (ap (λ k. k / 2000000000) sum ∙ div-mul-add n 2000000000 1000000000 small)

pub short_decimal : (n : ℕ) → n < 2 ^ 16 → length (decimal n) ≤ 5
short_decimal n small = length-decimal-le 5 n (omega arith) (omega arith) (omega arith)
