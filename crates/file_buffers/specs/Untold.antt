-- What an object of the system tells of its bytes.
use Rattle.std.specs.Prelude.{◌≡◌, ℕ, ◌<◌, ◌-◌, ◌^◌, List, length, min, Option, Some, None}

-- nothing
abbrev pub untold : Option (List ℕ)
untold = None

-- so what it tells is short
pub untold_is_short : (b : List ℕ) → untold ≡ Some b → length b < 2 ^ 64
untold_is_short b e = cc

-- and any count is that of it
pub untold_is_counted : (n : ℕ) (b : List ℕ) → untold ≡ Some b → n ≡ min (length b) (2 ^ 64 - 1)
untold_is_counted n b e = cc
