-- The point of a row depends on the bytes of the row alone.
use Rattle.std.proofs.Common.{◌≡◌, ℕ, ◌+◌, ◌≤◌, Bool, true, false, List, [], ◌∷◌, take, refl, arith}
use Rattle.std.specs.Int.{byte_len}
use Rattle.byte_numbers.proofs.Fronts.{number_front}
use Rattle.cloud_points.specs.Layouts.{holds}
use Rattle.cloud_points.specs.Points.{zero_point}
use Rattle.cloud_points.specs.declared.dims.Dim.{Dim}
use Rattle.cloud_points.specs.declared.layout.Layout.{Layout}
use Rattle.packed_chunk.specs.Rows.{width, size_where, size_in, sizes_in, size_of, row_size, first_dims, middle_dims, late_dims, extra_dims}
use Rattle.packed_chunk.specs.Unpacked.{number_where, numbers_in, numbers, with_first, with_middle, with_late, with_extras, unpacked_at}

where_front : (held : Bool) (size at m : ℕ) (a b : List ℕ) → at + size_where held size ≤ m → take m a ≡ take m b → number_where held at size a ≡ number_where held at size b
where_front true size at m a b room same = number_front size at m a b room same
where_front false size at m a b room same = refl

all_front : (layout : Layout) (dims : List Dim) (at m : ℕ) (a b : List ℕ) → at + sizes_in layout dims ≤ m → take m a ≡ take m b → numbers_in layout dims at a ≡ numbers_in layout dims at b
all_front layout [] at m a b room same = refl
all_front layout (dim ∷ rest) at m a b room same =
    let here = where_front (holds layout dim) (byte_len (width dim)) at m a b (omega arith) same in
    let there = all_front layout rest (at + size_in layout dim) m a b (omega arith) same in
    λ i. here i ∷ there i

numbers_front : (layout : Layout) (dims : List Dim) (at m : ℕ) (a b : List ℕ) → at + size_of layout dims ≤ m → take m a ≡ take m b → numbers layout dims at a ≡ numbers layout dims at b
unfolding numbers size_of
numbers_front layout dims at m a b room same = all_front layout dims at m a b room same

pub unpacked_front : (layout : Layout) (at m : ℕ) (a b : List ℕ) → at + row_size layout ≤ m → take m a ≡ take m b → unpacked_at layout at a ≡ unpacked_at layout at b
unfolding unpacked_at
unpacked_front layout at m a b room same =
    let in_b = at + size_of layout first_dims in
    let in_c = in_b + size_of layout middle_dims in
    let in_d = in_c + size_of layout late_dims in
    let fa = numbers_front layout first_dims at m a b (omega arith) same in
    let fb = numbers_front layout middle_dims in_b m a b (omega arith) same in
    let fc = numbers_front layout late_dims in_c m a b (omega arith) same in
    let fd = numbers_front layout extra_dims in_d m a b (omega arith) same in
    λ i. with_extras (fd i) (with_late (fc i) (with_middle (fb i) (with_first (fa i) zero_point)))
