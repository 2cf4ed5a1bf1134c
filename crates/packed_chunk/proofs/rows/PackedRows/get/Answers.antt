use Rattle.std.proofs.Common.{◌≡◌, ℕ, ◌+◌, ◌-◌, ◌*◌, ◌<◌, Some, List, [], length, get_or, slice_get, ap, sym, subst, ◌∙◌, arith}
use Rattle.std.proofs.lemmas.List.{get_or_default}
use Rattle.std.proofs.lemmas.Option.{slice_get-get_or}
use Rattle.cloud_points.specs.Clearing.{IsWithin}
use Rattle.cloud_points.specs.Layouts.{holds}
use Rattle.cloud_points.specs.declared.layout.Layout.{Layout}
use Rattle.cloud_points.specs.declared.point.Point.{Point}
use Rattle.packed_chunk.specs.Rows.{row_size}
use Rattle.packed_chunk.specs.Unpacked.{unpacked_at}
use Rattle.packed_chunk.specs.Held.{Held, piece_of, offset_of, point_at, points_from, ArePieces}
use Rattle.packed_chunk.proofs.Listed.{listed_length, listed_get}
use Rattle.packed_chunk.proofs.Growing.{Stands, row_stands}
use Rattle.packed_chunk.proofs.Within.{unpacked_within}
use Rattle.packed_chunk.proofs.rows.PackedRows.get.Goals as goal

-- a place among the points is one among so many
low : (layout : Layout) (gone : ℕ) (pieces : List (List ℕ)) (first len k : ℕ) (seen : Held)
    → record { layout = layout; points = points_from layout gone pieces first len } ≡ seen → k < length seen.points → k < len
low layout gone pieces first len k seen same before =
    omega (arith, before, ap (λ (h : Held). length h.points) same, listed_length (λ n. point_at layout gone pieces (first + n)) len)

stands : (layout : Layout) (gone : ℕ) (pieces : List (List ℕ)) (first len k : ℕ) (seen : Held) → ArePieces layout gone pieces first (first + len)
    → record { layout = layout; points = points_from layout gone pieces first len } ≡ seen → k < length seen.points → Stands layout gone pieces (first + k)
stands layout gone pieces first len k seen are same before =
    let less = low layout gone pieces first len k seen same before in
    row_stands layout gone pieces first (first + len) (first + k) are (omega arith) (omega (arith, less))

pub overflow_add-place : goal.overflow_add-place
overflow_add-place c =
    let i = c.self.inside in
    omega (arith, c.self.invariant.most, low i.packing.layout i.gone i.pieces.items i.first i.len c.args.k _ c.self.view_is c.requires)

pub overflow_sub-piece_of : goal.overflow_sub-piece_of
overflow_sub-piece_of c =
    let i = c.self.inside in
    let here = stands i.packing.layout i.gone i.pieces.items i.first i.len c.args.k _ c.self.invariant c.self.view_is c.requires in
    omega (arith, here.begins, c.piece_of.ensures)

pub index-piece-requires : goal.index-piece-requires
index-piece-requires c =
    let i = c.self.inside in
    let here = stands i.packing.layout i.gone i.pieces.items i.first i.len c.args.k _ c.self.invariant c.self.view_is c.requires in
    omega (arith, here.inside, c.piece_of.ensures)

pub unpack_at-requires : goal.unpack_at-requires
unpack_at-requires c =
    let i = c.self.inside in
    let here = stands i.packing.layout i.gone i.pieces.items i.first i.len c.args.k _ c.self.invariant c.self.view_is c.requires in
    let inside : c.piece_of.result - i.gone < length i.pieces.items = omega (arith, here.inside, c.piece_of.ensures) in
    let found : c.bytes.result.now ≡ get_or i.pieces.items (piece_of (i.first + c.args.k) - i.gone) [] =
    c.bytes.ensures ∙ c.index-piece.ensures ∙ get_or_default i.pieces.items (c.piece_of.result - i.gone) c.index-piece.result.now [] inside
    ∙ ap (λ n. get_or i.pieces.items (n - i.gone) []) c.piece_of.ensures in
    let at : c.offset_of.result * c.width.result ≡ offset_of (i.first + c.args.k) * row_size i.packing.layout = λ j. c.offset_of.ensures.value j * c.width.ensures.value j in
    omega (arith, here.room, ap (λ (bytes : List ℕ). length bytes) found, at)

pub returns-clause-value : goal.returns-clause-value
unfolding point_at
returns-clause-value c =
    let i = c.self.inside in
    let layout = i.packing.layout in
    let k = c.args.k in
    let place = i.first + k in
    let less = low layout i.gone i.pieces.items i.first i.len k _ c.self.view_is c.requires in
    let seen : points_from layout i.gone i.pieces.items i.first i.len ≡ c.args.self.now.points = ap (λ h. h.points) c.self.view_is in
    let many : length (points_from layout i.gone i.pieces.items i.first i.len) ≡ i.len = listed_length (λ n. point_at layout i.gone i.pieces.items (i.first + n)) i.len in
    let here = stands layout i.gone i.pieces.items i.first i.len k _ c.self.invariant c.self.view_is c.requires in
    let inside : c.piece_of.result - i.gone < length i.pieces.items = omega (arith, here.inside, c.piece_of.ensures) in
    let found : c.bytes.result.now ≡ get_or i.pieces.items (piece_of place - i.gone) [] =
    c.bytes.ensures ∙ c.index-piece.ensures ∙ get_or_default i.pieces.items (c.piece_of.result - i.gone) c.index-piece.result.now [] inside
    ∙ ap (λ n. get_or i.pieces.items (n - i.gone) []) c.piece_of.ensures in
    let read : c.unpack_at.result ≡ point_at layout i.gone i.pieces.items place =
    c.unpack_at.ensures ∙ (λ j. unpacked_at layout (c.offset_of.ensures.value j * c.width.ensures.value j) (found j)) in
    ap (λ ps. slice_get ps k) (sym seen)
    ∙ slice_get-get_or (points_from layout i.gone i.pieces.items i.first i.len) k c.unpack_at.result (omega (arith, less, many))
    ∙ ap Some (listed_get (λ n. point_at layout i.gone i.pieces.items (i.first + n)) i.len k c.unpack_at.result less ∙ sym read)

pub returns-clause-within : goal.returns-clause-within
returns-clause-within c =
    subst (λ (l : Layout). IsWithin (holds l) c.unpack_at.result) (ap (λ h. h.layout) c.self.view_is)
    (subst (λ (q : Point). IsWithin (holds c.self.inside.packing.layout) q) (sym c.unpack_at.ensures)
    (unpacked_within c.self.inside.packing.layout (c.offset_of.result * c.width.result) c.bytes.result.now))
