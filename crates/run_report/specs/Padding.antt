-- Texts with zeros behind them.
use Rattle.std.specs.Prelude.{◌≡◌, ℕ, List, ◌≤◌, ◌-◌, ◌++◌, length, take, replicate, IsUtf8}

-- the bytes are a text of so many bytes, and zeros up to the greatest length
pub record IsPadded (most len : ℕ) (bytes : List ℕ) : Type 0 where
  pub short : len ≤ most
  pub counted : length (take len bytes) ≡ len
  pub padded : take len bytes ++ replicate (most - length (take len bytes)) 0 ≡ bytes
  pub utf8 : ∥ IsUtf8 (take len bytes) ∥₁
