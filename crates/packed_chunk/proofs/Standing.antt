-- Where the rows of a list stand in its pieces.
use Rattle.std.proofs.Common.{◌≡◌, ℕ, ◌+◌, ◌*◌, ◌/◌, ◌%◌, ◌<◌, ◌≤◌, ◌⊎◌, inl, inr, if◌then◌else◌, refl, subst, ap, arith}
use Rattle.std.proofs.lemmas.Bool.{cases_lt, lt-ltb, le-ltb}
use Rattle.std.proofs.Math.Logic.{⊎_elim}
use Rattle.std.proofs.Math.Nat.{suc-mul, mul-le-mul_right}
use Rattle.packed_chunk.specs.Held.{piece_of, offset_of, rows_of}

abbrev IsShort : ℕ → Type 0
IsShort place = (place < 1024) × (piece_of place ≡ place / 8) × (offset_of place ≡ place % 8)

abbrev IsLong : ℕ → Type 0
IsLong place = (1024 ≤ place) × (piece_of place ≡ 127 + place / 1024) × (offset_of place ≡ place % 1024)

either : (place : ℕ) → IsShort place ⊎ IsLong place
unfolding piece_of offset_of
either place = ⊎_elim
    (λ low. inl (low, ap (λ b. if b then place / 8 else 127 + place / 1024) (lt-ltb place 1024 low), ap (λ b. if b then place % 8 else place % 1024) (lt-ltb place 1024 low)))
    (λ high. inr (high, ap (λ b. if b then place / 8 else 127 + place / 1024) (le-ltb place 1024 high), ap (λ b. if b then place % 8 else place % 1024) (le-ltb place 1024 high)))
    (cases_lt place 1024)

either_rows : (piece : ℕ) → ((piece < 128) × (rows_of piece ≡ 8)) ⊎ ((128 ≤ piece) × (rows_of piece ≡ 1024))
unfolding rows_of
either_rows piece = ⊎_elim
    (λ low. inl (low, ap (λ b. if b then 8 else 1024) (lt-ltb piece 128 low)))
    (λ high. inr (high, ap (λ b. if b then 8 else 1024) (le-ltb piece 128 high)))
    (cases_lt piece 128)

-- a row stands inside its piece
pub place_low : (place : ℕ) → offset_of place < rows_of (piece_of place)
place_low place = ⊎_elim
    (λ s. ⊎_elim
    (λ t. omega (arith, s.0, s.1, s.2, t.0, t.1))
    (λ t. omega (arith, s.0, s.1, s.2, t.0, t.1))
    (either_rows (piece_of place)))
    (λ l. ⊎_elim
    (λ t. omega (arith, l.0, l.1, l.2, t.0, t.1))
    (λ t. omega (arith, l.0, l.1, l.2, t.0, t.1))
    (either_rows (piece_of place)))
    (either place)

-- later rows stand in later pieces
pub piece_later : (a b : ℕ) → a ≤ b → piece_of a ≤ piece_of b
piece_later a b low = ⊎_elim
    (λ s. ⊎_elim (λ t. omega (arith, s.0, s.1, t.0, t.1)) (λ t. omega (arith, s.0, s.1, t.0, t.1)) (either b))
    (λ s. ⊎_elim (λ t. omega (arith, s.0, s.1, t.0, t.1)) (λ t. omega (arith, s.0, s.1, t.0, t.1)) (either b))
    (either a)

-- or later in the same one
pub offset_later : (a b : ℕ) → a < b → piece_of a ≡ piece_of b → offset_of a < offset_of b
offset_later a b low same = ⊎_elim
    (λ s. ⊎_elim (λ t. omega (arith, same, s.0, s.1, s.2, t.0, t.1, t.2)) (λ t. omega (arith, same, s.0, s.1, s.2, t.0, t.1, t.2)) (either b))
    (λ s. ⊎_elim (λ t. omega (arith, same, s.0, s.1, s.2, t.0, t.1, t.2)) (λ t. omega (arith, same, s.0, s.1, s.2, t.0, t.1, t.2)) (either b))
    (either a)

-- the next row stands in the same piece or the next one
pub piece_next : (a : ℕ) → piece_of (a + 1) ≤ piece_of a + 1
piece_next a = ⊎_elim
    (λ s. ⊎_elim (λ t. omega (arith, s.0, s.1, t.0, t.1)) (λ t. omega (arith, s.0, s.1, t.0, t.1)) (either (a + 1)))
    (λ s. ⊎_elim (λ t. omega (arith, s.0, s.1, t.0, t.1)) (λ t. omega (arith, s.0, s.1, t.0, t.1)) (either (a + 1)))
    (either a)

pub piece_first : piece_of 0 ≡ 0
unfolding piece_of
piece_first = refl

-- the bytes of a row lie inside those of its piece
pub row_inside : (at rows size : ℕ) → at < rows → at * size + size ≤ rows * size
row_inside at rows size low = subst (λ (m : ℕ). m ≤ rows * size) (suc-mul at size) (mul-le-mul_right size (omega arith))
