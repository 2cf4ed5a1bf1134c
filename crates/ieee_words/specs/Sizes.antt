-- nearest words and counts among sizes alone, for the contracts of private functions
use Rattle.std.specs.Prelude.{◌≡◌, ◌≢◌, ℕ, ◌+◌, ◌-◌, ◌*◌, ◌%◌, ◌^◌, ◌<◌, ◌≤◌}
use Rattle.ieee_words.specs.Word.{size_in_parts, parts_of_one}

-- how far the sizes a / t and that of the word u are apart, in parts of t * 2 ^ 1074
abbrev pub apart : ℕ → ℕ → ℕ → ℕ
apart a t u = (a * parts_of_one - size_in_parts u * t) + (size_in_parts u * t - a * parts_of_one)

-- among the words without a sign, u is nearest to a / t
pub record IsNearestSize (a t u : ℕ) : Type 0 where
  pub finite : u < 2047 * 2 ^ 52
  pub closest : (v : ℕ) → v < 2047 * 2 ^ 52 → apart a t u ≤ apart a t v
  pub ties_even : (v : ℕ) → v < 2047 * 2 ^ 52 → v ≢ u → apart a t v ≤ apart a t u → u % 2 ≡ 0

-- n is the whole number nearest to t times the size of the word u, and of two such numbers the even one
pub record IsNearestCount (u t n : ℕ) : Type 0 where
  pub half : 2 * apart n t u ≤ parts_of_one
  pub tie_even : 2 * apart n t u ≡ parts_of_one → n % 2 ≡ 0

-- n is wide / 2 ^ down rounded, and a half goes to the even number
pub record IsRounded (wide down n : ℕ) : Type 0 where
  pub half : 2 * ((n * 2 ^ down - wide) + (wide - n * 2 ^ down)) ≤ 2 ^ down
  pub tie_even : 2 * ((n * 2 ^ down - wide) + (wide - n * 2 ^ down)) ≡ 2 ^ down → n % 2 ≡ 0
