-- The numbers that stand in the row of a point.
use Rattle.std.proofs.Common.{◌≡◌, ℕ, ◌+◌, ◌^◌, ◌<◌, Bool, true, false, List, [], ◌∷◌, ◌++◌, length, map, if◌then◌else◌, refl, ap, sym, ◌∙◌, append_assoc}
use Rattle.std.specs.Prelude.{⊤}
use Rattle.std.specs.List.{flat_map}
use Rattle.std.specs.Int.{Width, byte_len, to_le_bytes}
use Rattle.byte_numbers.proofs.Written.{number_read}
use Rattle.cloud_points.specs.Layouts.{holds}
use Rattle.cloud_points.specs.declared.dims.Dim.{Dim}
use Rattle.cloud_points.specs.declared.layout.Layout.{Layout}
use Rattle.cloud_points.specs.declared.point.Point.{Point}
use Rattle.packed_chunk.specs.Rows.{width, stored, where_held, cell, cells, size_in}
use Rattle.packed_chunk.specs.Unpacked.{number_where, number_in, numbers_in, numbers}
use Rattle.packed_chunk.proofs.Sizes.{cell_length, joined_length}

-- the number that a row keeps of a point in a dimension
abbrev pub kept_number : Layout → Point → Dim → ℕ
kept_number layout p dim = if holds layout dim then stored p dim else 0

abbrev pub AllFit : Point → List Dim → Type 0
AllFit p [] = ⊤
AllFit p (dim ∷ rest) = (stored p dim < 256 ^ byte_len (width dim)) × AllFit p rest

number_back : (held : Bool) (w : Width) (n at : ℕ) (before rest : List ℕ) → n < 256 ^ byte_len w → length before ≡ at
    → number_where held at (byte_len w) (before ++ (where_held held (to_le_bytes w n) ++ rest)) ≡ (if held then n else 0)
number_back true w n at before rest fits is = number_read w n at before rest fits is
number_back false w n at before rest fits is = refl

all_back : (layout : Layout) (p : Point) → (dims : List Dim) → AllFit p dims → (at : ℕ) (before rest : List ℕ) → length before ≡ at
    → numbers_in layout dims at (before ++ (flat_map (cell layout p) dims ++ rest)) ≡ map (kept_number layout p) dims
all_back layout p [] fit at before rest is = refl
all_back layout p (dim ∷ others) fit at before rest is =
    let first = cell layout p dim in
    let more = flat_map (cell layout p) others in
    let next = at + size_in layout dim in
    let split : before ++ ((first ++ more) ++ rest) ≡ before ++ (first ++ (more ++ rest)) = ap (λ l. before ++ l) (append_assoc first more rest) in
    let here = number_back (holds layout dim) (width dim) (stored p dim) at before (more ++ rest) fit.0 is in
    let there = ap (numbers_in layout others next) (sym (append_assoc before first (more ++ rest)))
    ∙ all_back layout p others fit.1 next (before ++ first) rest (joined_length before first at (size_in layout dim) is (cell_length layout p dim)) in
    ap (λ l. number_in layout dim at l ∷ numbers_in layout others next l) split
    ∙ ap (λ n. n ∷ numbers_in layout others next (before ++ (first ++ (more ++ rest)))) here
    ∙ ap (λ ns. kept_number layout p dim ∷ ns) there

-- the numbers of a part of a row that stands behind others
pub numbers_back : (layout : Layout) (p : Point) → (dims : List Dim) → AllFit p dims → (at : ℕ) (before rest : List ℕ) → length before ≡ at
    → numbers layout dims at (before ++ (cells layout p dims ++ rest)) ≡ map (kept_number layout p) dims
unfolding numbers cells
numbers_back layout p dims fit at before rest is = all_back layout p dims fit at before rest is
