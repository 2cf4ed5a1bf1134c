-- The point of a row is the same wherever its bytes stand.
use Rattle.std.proofs.Common.{◌≡◌, ℕ, ◌+◌, ◌≤◌, Bool, true, false, List, [], ◌∷◌, ◌++◌, length, take, drop, refl, ap, sym, ◌∙◌, arith, length-drop}
use Rattle.std.proofs.lemmas.List.{take_at, take_all, length-take-le, take-append-drop}
use Rattle.std.specs.Int.{byte_len}
use Rattle.byte_numbers.proofs.Written.{number_past}
use Rattle.cloud_points.specs.Layouts.{holds}
use Rattle.cloud_points.specs.Points.{zero_point}
use Rattle.cloud_points.specs.declared.dims.Dim.{Dim}
use Rattle.cloud_points.specs.declared.layout.Layout.{Layout}
use Rattle.cloud_points.specs.declared.point.Point.{Point}
use Rattle.packed_chunk.specs.Rows.{width, size_in, size_of, row_size, first_dims, middle_dims, late_dims, extra_dims}
use Rattle.packed_chunk.specs.Unpacked.{number_where, numbers_in, numbers, with_first, with_middle, with_late, with_extras, unpacked_at}
use Rattle.packed_chunk.proofs.Fronts.{unpacked_front}
use Rattle.packed_chunk.proofs.Growing.{IsRow}

where_past : (held : Bool) (size at k : ℕ) (before bytes : List ℕ) → length before ≡ at → number_where held (at + k) size (before ++ bytes) ≡ number_where held k size bytes
where_past true size at k before bytes is = number_past size k at before bytes is
where_past false size at k before bytes is = refl

all_past : (layout : Layout) (dims : List Dim) (at k : ℕ) (before bytes : List ℕ) → length before ≡ at → numbers_in layout dims (at + k) (before ++ bytes) ≡ numbers_in layout dims k bytes
all_past layout [] at k before bytes is = refl
all_past layout (dim ∷ rest) at k before bytes is =
    let here = where_past (holds layout dim) (byte_len (width dim)) at k before bytes is in
    let onward : (at + k) + size_in layout dim ≡ at + (k + size_in layout dim) = omega arith in
    let there = ap (λ n. numbers_in layout rest n (before ++ bytes)) onward ∙ all_past layout rest at (k + size_in layout dim) before bytes is in
    λ i. here i ∷ there i

numbers_past : (layout : Layout) (dims : List Dim) (at k there : ℕ) (before bytes : List ℕ) → length before ≡ at → there ≡ at + k
    → numbers layout dims there (before ++ bytes) ≡ numbers layout dims k bytes
unfolding numbers
numbers_past layout dims at k there before bytes is same = ap (λ n. numbers_in layout dims n (before ++ bytes)) same ∙ all_past layout dims at k before bytes is

unpacked_past : (layout : Layout) (at : ℕ) (before bytes : List ℕ) → length before ≡ at → unpacked_at layout at (before ++ bytes) ≡ unpacked_at layout 0 bytes
unfolding unpacked_at
unpacked_past layout at before bytes is =
    let to_b = size_of layout first_dims in
    let to_c = to_b + size_of layout middle_dims in
    let to_d = to_c + size_of layout late_dims in
    let fa = numbers_past layout first_dims at 0 at before bytes is (omega arith) in
    let fb = numbers_past layout middle_dims at (0 + to_b) (at + to_b) before bytes is (omega arith) in
    let fc = numbers_past layout late_dims at ((0 + to_b) + size_of layout middle_dims) ((at + to_b) + size_of layout middle_dims) before bytes is (omega arith) in
    let fd = numbers_past layout extra_dims at (((0 + to_b) + size_of layout middle_dims) + size_of layout late_dims)
    (((at + to_b) + size_of layout middle_dims) + size_of layout late_dims) before bytes is (omega arith) in
    λ i. with_extras (fd i) (with_late (fc i) (with_middle (fb i) (with_first (fa i) zero_point)))

-- so bytes of the size of a row are one
pub bytes_are : (layout : Layout) (r : List ℕ) (p : Point) → length r ≡ row_size layout → unpacked_at layout 0 r ≡ p → IsRow layout r p
bytes_are layout r p size given = record {
  size = size;
  gives = λ at before rest is.
      unpacked_past layout at before (r ++ rest) is
      ∙ unpacked_front layout 0 (row_size layout) (r ++ rest) r (omega arith) (take_at r rest (row_size layout) size ∙ sym (take_all (row_size layout) r (omega (arith, size))))
      ∙ given;
}

-- and those of a row that are taken from others give its point
pub row_taken : (layout : Layout) (at : ℕ) (bytes : List ℕ) → at + row_size layout ≤ length bytes
    → unpacked_at layout 0 (take (row_size layout) (drop at bytes)) ≡ unpacked_at layout at bytes
row_taken layout at bytes room =
    let w = row_size layout in
    let rest = drop at bytes in
    let size : length (take w rest) ≡ w = length-take-le w rest (omega (arith, room, length-drop at bytes)) in
    unpacked_front layout 0 w (take w rest) rest (omega arith) (take_all w (take w rest) (omega (arith, size)))
    ∙ sym (unpacked_past layout at (take at bytes) rest (length-take-le at bytes (omega (arith, room))))
    ∙ ap (unpacked_at layout at) (take-append-drop at bytes)
