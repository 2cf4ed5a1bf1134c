-- Little-endian numbers in lists of bytes.
use Rattle.std.specs.Prelude.{ℕ, zero, suc, ◌+◌, ◌*◌, List, [], ◌∷◌, take, drop, slice_index}

-- the number in n bytes from a place, the lowest byte first
abbrev pub number_at : ℕ → ℕ → List ℕ → ℕ
number_at at zero bytes = 0
number_at at (suc n) bytes = slice_index bytes at + 256 * number_at (at + 1) n bytes

-- n numbers of a width, one after another from a place
abbrev pub numbers_at : ℕ → ℕ → ℕ → List ℕ → List ℕ
numbers_at at zero width bytes = []
numbers_at at (suc n) width bytes = number_at at width bytes ∷ numbers_at (at + width) n width bytes

-- the n bytes from a place
abbrev pub piece : ℕ → ℕ → List ℕ → List ℕ
piece at n bytes = take n (drop at bytes)
