use Rattle.std.proofs.Common.{◌≡◌, ℕ, ◌+◌, ◌-◌, ◌*◌, List, [], ◌∷◌, ◌++◌, get_or, set, ap, sym, subst, ◌∙◌, arith}
use Rattle.cloud_points.specs.Clearing.{IsWithin}
use Rattle.cloud_points.specs.Layouts.{holds}
use Rattle.cloud_points.specs.declared.layout.Layout.{Layout}
use Rattle.packed_chunk.specs.Rows.{row, row_size}
use Rattle.packed_chunk.specs.Held.{piece_of, offset_of, rows_of, points_from, ArePieces, HasRoom}
use Rattle.packed_chunk.proofs.Standing.{piece_later}
use Rattle.packed_chunk.proofs.Growing.{written, row_is, sized_room, row_room, points_more, pieces_more}
use Rattle.packed_chunk.proofs.Sizes.{row_length}
use Rattle.packed_chunk.proofs.rows.PackedRows.push.Goals as goal

pub returns-clause-ok : goal.returns-clause-ok
returns-clause-ok c =
    let i = c.self.inside in
    let are = c.self.invariant in
    let layout = i.packing.layout in
    let p = c.args.p.now in
    let end = i.first + i.len in
    let piece = c.piece_of.result - i.gone in
    let mid = c.make_room.new.pieces.items in
    let seen : points_from layout i.gone i.pieces.items i.first i.len ≡ c.args.self.now.points = ap (λ h. h.points) c.self.view_is in
    let lay : layout ≡ c.args.self.now.layout = ap (λ h. h.layout) c.self.view_is in
    let within = subst (λ (l : Layout). IsWithin (holds l) p) (sym lay) c.requires in
    let here : i.gone + piece ≡ piece_of end = omega (arith, c.piece_of.ensures, are.begins, piece_later i.first end (omega arith)) in
    let size : c.rows_of.result * c.width-width.result ≡ rows_of (i.gone + piece) * row_size layout = λ j. c.rows_of.ensures.value j * c.width-width.ensures.value j in
    let room = subst (λ (n : ℕ). HasRoom i.pieces.items piece n mid) size c.in_ok-make_room.ensures.ok in
    let at : c.offset_of.result * c.width-width.result ≡ offset_of end * row_size layout = λ j. c.offset_of.ensures.value j * c.width-width.ensures.value j in
    let new = c.put_row.ensures.items ∙ ap (λ n. set mid piece (written layout n (row layout p) (get_or mid piece []))) at in
    let more = ap (λ ps. points_from layout i.gone ps i.first (i.len + 1)) new
    ∙ points_more layout i.gone i.pieces.items mid piece i.first i.len (row layout p) p (row_is layout p c.put_row.ensures.fits within) are room here ∙ ap (λ ps. ps ++ p ∷ []) seen in
    λ j. record { layout = lay j; points = more j }

pub make_room-requires : goal.make_room-requires
make_room-requires c =
    let i = c.self.inside in
    let are = c.self.invariant in
    let end = i.first + i.len in
    let piece = c.piece_of.result - i.gone in
    let here : i.gone + piece ≡ piece_of end = omega (arith, c.piece_of.ensures, are.begins, piece_later i.first end (omega arith)) in
    omega (arith, here, are.next)

pub put_row-requires-clause-piece : goal.put_row-requires-clause-piece
put_row-requires-clause-piece c = c.in_ok-make_room.ensures.ok.room

pub put_row-requires-clause-room : goal.put_row-requires-clause-room
put_row-requires-clause-room c =
    let i = c.self.inside in
    let are = c.self.invariant in
    let end = i.first + i.len in
    let piece = c.piece_of.result - i.gone in
    let here : i.gone + piece ≡ piece_of end = omega (arith, c.piece_of.ensures, are.begins, piece_later i.first end (omega arith)) in
    let layout = i.packing.layout in
    let mid = c.make_room.new.pieces.items in
    let size : c.rows_of.result * c.width-width.result ≡ rows_of (i.gone + piece) * row_size layout = λ j. c.rows_of.ensures.value j * c.width-width.ensures.value j in
    let room = subst (λ (n : ℕ). HasRoom i.pieces.items piece n mid) size c.in_ok-make_room.ensures.ok in
    let at : c.offset_of.result * c.width-width.result ≡ offset_of end * row_size layout = λ j. c.offset_of.ensures.value j * c.width-width.ensures.value j in
    omega (arith, at, row_room layout i.gone mid piece end (sized_room layout i.gone i.pieces.items mid piece are.sized room) room.room here)

pub overflow_sub-piece : goal.overflow_sub-piece
overflow_sub-piece c =
    let i = c.self.inside in
    omega (arith, c.piece_of.ensures, c.self.invariant.begins, piece_later i.first (i.first + i.len) (omega arith))

pub invariant_of-self-2 : goal.invariant_of-self-2
invariant_of-self-2 c =
    let i = c.self.inside in
    let are = c.self.invariant in
    let layout = i.packing.layout in
    let p = c.args.p.now in
    let end = i.first + i.len in
    let piece = c.piece_of.result - i.gone in
    let mid = c.make_room.new.pieces.items in
    let here : i.gone + piece ≡ piece_of end = omega (arith, c.piece_of.ensures, are.begins, piece_later i.first end (omega arith)) in
    let size : c.rows_of.result * c.width-width.result ≡ rows_of (i.gone + piece) * row_size layout = λ j. c.rows_of.ensures.value j * c.width-width.ensures.value j in
    let room = subst (λ (n : ℕ). HasRoom i.pieces.items piece n mid) size c.in_ok-make_room.ensures.ok in
    let at : c.offset_of.result * c.width-width.result ≡ offset_of end * row_size layout = λ j. c.offset_of.ensures.value j * c.width-width.ensures.value j in
    let new = c.put_row.ensures.items ∙ ap (λ n. set mid piece (written layout n (row layout p) (get_or mid piece []))) at in
    let one_more : end + 1 ≡ i.first + (i.len + 1) = omega arith in
    subst (λ (ps : List (List ℕ)). ArePieces layout i.gone ps i.first (i.first + (i.len + 1))) (sym new)
    (subst (λ (e : ℕ). ArePieces layout i.gone (set mid piece (written layout (offset_of end * row_size layout) (row layout p) (get_or mid piece []))) i.first e) one_more
    (pieces_more layout i.gone i.pieces.items mid piece i.first end (row layout p) (row_length layout p) are room here (omega (arith, c.if-place-ge-MOST_ROWS.false))))
