-- How many bytes a row has.
use Rattle.std.proofs.Common.{◌≡◌, ℕ, zero, suc, ◌+◌, Bool, true, false, List, [], ◌∷◌, ◌++◌, length, refl, ap, ◌∙◌, length-append}
use Rattle.std.specs.List.{flat_map}
use Rattle.std.specs.Int.{byte_len, bytes_low_first}
use Rattle.cloud_points.specs.Layouts.{holds}
use Rattle.cloud_points.specs.declared.dims.Dim.{Dim}
use Rattle.cloud_points.specs.declared.layout.Layout.{Layout}
use Rattle.cloud_points.specs.declared.point.Point.{Point}
use Rattle.packed_chunk.specs.Rows.{width, stored, where_held, cell, cells, size_where, size_in, sizes_in, size_of, row, row_size, first_dims, middle_dims, late_dims, extra_dims}

low_length : (i k n : ℕ) → length (bytes_low_first i k n) ≡ k
low_length i zero n = refl
low_length i (suc k) n = ap suc (low_length (suc i) k n)

held_length : (held : Bool) (bytes : List ℕ) (size : ℕ) → length bytes ≡ size → length (where_held held bytes) ≡ size_where held size
held_length true bytes size is = is
held_length false bytes size is = refl

pub cell_length : (layout : Layout) (p : Point) (dim : Dim) → length (cell layout p dim) ≡ size_in layout dim
cell_length layout p dim = held_length (holds layout dim) _ (byte_len (width dim)) (low_length 0 (byte_len (width dim)) (stored p dim))

all_length : (layout : Layout) (p : Point) (dims : List Dim) → length (flat_map (cell layout p) dims) ≡ sizes_in layout dims
all_length layout p [] = refl
all_length layout p (dim ∷ rest) =
    length-append (cell layout p dim) (flat_map (cell layout p) rest)
    ∙ ap (λ n. n + length (flat_map (cell layout p) rest)) (cell_length layout p dim)
    ∙ ap (λ n. size_in layout dim + n) (all_length layout p rest)

pub cells_length : (layout : Layout) (p : Point) (dims : List Dim) → length (cells layout p dims) ≡ size_of layout dims
unfolding cells size_of
cells_length layout p dims = all_length layout p dims

-- two pieces, one behind the other
pub joined_length : (a b : List ℕ) (m n : ℕ) → length a ≡ m → length b ≡ n → length (a ++ b) ≡ m + n
joined_length a b m n ea eb = length-append a b ∙ ap (λ k. k + length b) ea ∙ ap (λ k. m + k) eb

pub row_length : (layout : Layout) (p : Point) → length (row layout p) ≡ row_size layout
row_length layout p =
    joined_length _ _ _ _ (cells_length layout p first_dims)
    (joined_length _ _ _ _ (cells_length layout p middle_dims)
    (joined_length _ _ _ _ (cells_length layout p late_dims) (cells_length layout p extra_dims)))
