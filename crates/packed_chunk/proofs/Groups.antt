-- Dimensions that a layout has all, or not at all.
use Rattle.std.proofs.Common.{◌≡◌, ℕ, ◌+◌, Bool, true, false, List, [], ◌∷◌, ◌++◌, refl, ap, sym, ◌∙◌, append_assoc, append-nil, add_assoc, add-zero, zero-add}
use Rattle.std.specs.List.{flat_map}
use Rattle.std.specs.Int.{byte_len}
use Rattle.cloud_points.specs.declared.dims.Dim.{Dim}
use Rattle.cloud_points.specs.declared.layout.Layout.{Layout}
use Rattle.cloud_points.specs.declared.point.Point.{Point}
use Rattle.packed_chunk.specs.Rows.{width, where_held, cell, cells, number_bytes, all_bytes, AllAre, size_where, size_in, sizes_in, size_of}

-- how many bytes these take together
abbrev pub bytes_in : List Dim → ℕ
bytes_in [] = 0
bytes_in (dim ∷ rest) = byte_len (width dim) + bytes_in rest

had : (layout : Layout) (p : Point) (dims : List Dim) → AllAre true layout dims → flat_map (cell layout p) dims ≡ flat_map (number_bytes p) dims
had layout p [] held = refl
had layout p (dim ∷ rest) held =
    ap (λ h. where_held h (number_bytes p dim) ++ flat_map (cell layout p) rest) held.0
    ∙ ap (λ l. number_bytes p dim ++ l) (had layout p rest held.1)

had_not : (layout : Layout) (p : Point) (dims : List Dim) → AllAre false layout dims → flat_map (cell layout p) dims ≡ []
had_not layout p [] held = refl
had_not layout p (dim ∷ rest) held =
    ap (λ h. where_held h (number_bytes p dim) ++ flat_map (cell layout p) rest) held.0 ∙ had_not layout p rest held.1

pub group_cells : (held : Bool) (layout : Layout) (p : Point) (dims : List Dim) → AllAre held layout dims → cells layout p dims ≡ where_held held (all_bytes p dims)
unfolding cells all_bytes
group_cells true layout p dims held = had layout p dims held
group_cells false layout p dims held = had_not layout p dims held

had_size : (layout : Layout) (dims : List Dim) → AllAre true layout dims → sizes_in layout dims ≡ bytes_in dims
had_size layout [] held = refl
had_size layout (dim ∷ rest) held =
    ap (λ h. size_where h (byte_len (width dim)) + sizes_in layout rest) held.0
    ∙ ap (λ n. byte_len (width dim) + n) (had_size layout rest held.1)

no_size : (layout : Layout) (dims : List Dim) → AllAre false layout dims → sizes_in layout dims ≡ 0
no_size layout [] held = refl
no_size layout (dim ∷ rest) held =
    ap (λ h. size_where h (byte_len (width dim)) + sizes_in layout rest) held.0 ∙ zero-add (sizes_in layout rest) ∙ no_size layout rest held.1

pub group_size : (held : Bool) (layout : Layout) (dims : List Dim) → AllAre held layout dims → size_of layout dims ≡ size_where held (bytes_in dims)
unfolding size_of
group_size true layout dims held = had_size layout dims held
group_size false layout dims held = no_size layout dims held

all_join : (layout : Layout) (p : Point) (a b : List Dim) → flat_map (cell layout p) (a ++ b) ≡ flat_map (cell layout p) a ++ flat_map (cell layout p) b
all_join layout p [] b = refl
all_join layout p (dim ∷ rest) b =
    ap (λ l. cell layout p dim ++ l) (all_join layout p rest b)
    ∙ sym (append_assoc (cell layout p dim) (flat_map (cell layout p) rest) (flat_map (cell layout p) b))

-- the cells of two parts stand one behind the other
pub cells_join : (layout : Layout) (p : Point) (a b : List Dim) → cells layout p (a ++ b) ≡ cells layout p a ++ cells layout p b
unfolding cells
cells_join layout p a b = all_join layout p a b

sizes_join : (layout : Layout) (a b : List Dim) → sizes_in layout (a ++ b) ≡ sizes_in layout a + sizes_in layout b
sizes_join layout [] b = sym (zero-add (sizes_in layout b))
sizes_join layout (dim ∷ rest) b =
    ap (λ n. size_in layout dim + n) (sizes_join layout rest b) ∙ sym (add_assoc (size_in layout dim) (sizes_in layout rest) (sizes_in layout b))

pub size_join : (layout : Layout) (a b : List Dim) → size_of layout (a ++ b) ≡ size_of layout a + size_of layout b
unfolding size_of
size_join layout a b = sizes_join layout a b

-- a part of one dimension
pub one_cell : (layout : Layout) (p : Point) (dim : Dim) → cells layout p (dim ∷ []) ≡ cell layout p dim
unfolding cells
one_cell layout p dim = append-nil (cell layout p dim)

pub one_size : (layout : Layout) (dim : Dim) → size_of layout (dim ∷ []) ≡ size_in layout dim
unfolding size_of
one_size layout dim = add-zero (size_in layout dim)
