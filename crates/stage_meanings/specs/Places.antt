-- Places of points in a chunk.
use Rattle.std.specs.Prelude.{◌≡◌, ℕ, ◌+◌, Bool, List, length, take, filter}

-- the point at this place passes, and k points before it do
pub record IsPlaceOf {P : Type 0} (passing : P → Bool) (points : List P) (k at : ℕ) : Type 0 where
  pub before : length (filter passing (take at points)) ≡ k
  pub with_it : length (filter passing (take (at + 1) points)) ≡ k + 1
