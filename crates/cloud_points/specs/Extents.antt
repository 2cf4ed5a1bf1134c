-- The points in what a leaf reads.
use Rattle.std.specs.Prelude.{ℕ}

-- how many there are, where the first begins, and how many bytes each takes
pub record Extent : Type 0 where
  pub points : ℕ
  pub begin : ℕ
  pub stride : ℕ
