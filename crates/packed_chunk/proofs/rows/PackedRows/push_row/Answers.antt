use Rattle.std.proofs.Common.{◌≡◌, ℕ, ◌+◌, ◌-◌, ◌*◌, List, [], ◌∷◌, ◌++◌, length, take, drop, get_or, set, ap, sym, subst, ◌∙◌, arith}
use Rattle.cloud_points.specs.Points.{zero_point}
use Rattle.cloud_points.specs.declared.layout.Layout.{Layout}
use Rattle.packed_chunk.specs.Rows.{row_size}
use Rattle.packed_chunk.specs.Unpacked.{unpacked_at}
use Rattle.packed_chunk.specs.Held.{piece_of, offset_of, rows_of, points_from, ArePieces, HasRoom}
use Rattle.packed_chunk.proofs.Standing.{piece_later}
use Rattle.packed_chunk.proofs.Growing.{written, sized_room, row_room, points_more, pieces_more}
use Rattle.packed_chunk.proofs.Moving.{bytes_are}
use Rattle.packed_chunk.proofs.rows.PackedRows.push_row.Goals as goal

pub returns-clause-ok : goal.returns-clause-ok
returns-clause-ok c =
    let i = c.self.inside in
    let are = c.self.invariant in
    let layout = i.packing.layout in
    let r = c.row-bytes.result.now in
    let lay : layout ≡ c.args.self.now.layout = ap (λ h. h.layout) c.self.view_is in
    let size_is : length r ≡ row_size layout = c.row-bytes.ensures.size ∙ ap row_size (c.requires.same ∙ sym lay) in
    let end = i.first + i.len in
    let piece = c.piece_of.result - i.gone in
    let mid = c.make_room.new.pieces.items in
    let seen : points_from layout i.gone i.pieces.items i.first i.len ≡ c.args.self.now.points = ap (λ h. h.points) c.self.view_is in
    let p = get_or c.args.other.now.points c.args.k zero_point in
    let given = ap (λ (l : Layout). unpacked_at l 0 r) (lay ∙ sym c.requires.same) ∙ c.row-bytes.ensures.point in
    let is = bytes_are layout r p size_is given in
    let here : i.gone + piece ≡ piece_of end = omega (arith, c.piece_of.ensures, are.begins, piece_later i.first end (omega arith)) in
    let size : c.rows_of.result * c.width-width.result ≡ rows_of (i.gone + piece) * row_size layout = λ j. c.rows_of.ensures.value j * c.width-width.ensures.value j in
    let room = subst (λ (n : ℕ). HasRoom i.pieces.items piece n mid) size c.in_ok-make_room.ensures.ok in
    let at : c.offset_of.result * c.width-width.result ≡ offset_of end * row_size layout = λ j. c.offset_of.ensures.value j * c.width-width.ensures.value j in
    let over : c.put_bytes.new.pieces.items ≡ set mid piece (written layout (c.offset_of.result * c.width-width.result) r (get_or mid piece [])) =
    c.put_bytes.ensures ∙ ap (λ n. set mid piece (take (c.offset_of.result * c.width-width.result) (get_or mid piece []) ++ (r ++ drop (c.offset_of.result * c.width-width.result + n) (get_or mid piece [])))) size_is in
    let new = over ∙ ap (λ n. set mid piece (written layout n r (get_or mid piece []))) at in
    let more = ap (λ ps. points_from layout i.gone ps i.first (i.len + 1)) new
    ∙ points_more layout i.gone i.pieces.items mid piece i.first i.len r p is are room here ∙ ap (λ ps. ps ++ p ∷ []) seen in
    λ j. record { layout = lay j; points = more j }

pub make_room-requires : goal.make_room-requires
make_room-requires c =
    let i = c.self.inside in
    let are = c.self.invariant in
    let end = i.first + i.len in
    let piece = c.piece_of.result - i.gone in
    let here : i.gone + piece ≡ piece_of end = omega (arith, c.piece_of.ensures, are.begins, piece_later i.first end (omega arith)) in
    omega (arith, here, are.next)

pub put_bytes-requires-clause-piece : goal.put_bytes-requires-clause-piece
put_bytes-requires-clause-piece c = c.in_ok-make_room.ensures.ok.room

pub put_bytes-requires-clause-room : goal.put_bytes-requires-clause-room
put_bytes-requires-clause-room c =
    let i = c.self.inside in
    let are = c.self.invariant in
    let end = i.first + i.len in
    let piece = c.piece_of.result - i.gone in
    let here : i.gone + piece ≡ piece_of end = omega (arith, c.piece_of.ensures, are.begins, piece_later i.first end (omega arith)) in
    let layout = i.packing.layout in
    let mid = c.make_room.new.pieces.items in
    let size : c.rows_of.result * c.width-width.result ≡ rows_of (i.gone + piece) * row_size layout = λ j. c.rows_of.ensures.value j * c.width-width.ensures.value j in
    let room = subst (λ (n : ℕ). HasRoom i.pieces.items piece n mid) size c.in_ok-make_room.ensures.ok in
    let at : c.offset_of.result * c.width-width.result ≡ offset_of end * row_size layout = λ j. c.offset_of.ensures.value j * c.width-width.ensures.value j in
    let r = c.row-bytes.result.now in
    let lay : layout ≡ c.args.self.now.layout = ap (λ h. h.layout) c.self.view_is in
    let size_is : length r ≡ row_size layout = c.row-bytes.ensures.size ∙ ap row_size (c.requires.same ∙ sym lay) in
    omega (arith, at, size_is, row_room layout i.gone mid piece end (sized_room layout i.gone i.pieces.items mid piece are.sized room) room.room here)

pub overflow_sub-piece : goal.overflow_sub-piece
overflow_sub-piece c =
    let i = c.self.inside in
    omega (arith, c.piece_of.ensures, c.self.invariant.begins, piece_later i.first (i.first + i.len) (omega arith))

pub invariant_of-self-2 : goal.invariant_of-self-2
invariant_of-self-2 c =
    let i = c.self.inside in
    let are = c.self.invariant in
    let layout = i.packing.layout in
    let r = c.row-bytes.result.now in
    let lay : layout ≡ c.args.self.now.layout = ap (λ h. h.layout) c.self.view_is in
    let size_is : length r ≡ row_size layout = c.row-bytes.ensures.size ∙ ap row_size (c.requires.same ∙ sym lay) in
    let end = i.first + i.len in
    let piece = c.piece_of.result - i.gone in
    let mid = c.make_room.new.pieces.items in
    let here : i.gone + piece ≡ piece_of end = omega (arith, c.piece_of.ensures, are.begins, piece_later i.first end (omega arith)) in
    let size : c.rows_of.result * c.width-width.result ≡ rows_of (i.gone + piece) * row_size layout = λ j. c.rows_of.ensures.value j * c.width-width.ensures.value j in
    let room = subst (λ (n : ℕ). HasRoom i.pieces.items piece n mid) size c.in_ok-make_room.ensures.ok in
    let at : c.offset_of.result * c.width-width.result ≡ offset_of end * row_size layout = λ j. c.offset_of.ensures.value j * c.width-width.ensures.value j in
    let over : c.put_bytes.new.pieces.items ≡ set mid piece (written layout (c.offset_of.result * c.width-width.result) r (get_or mid piece [])) =
    c.put_bytes.ensures ∙ ap (λ n. set mid piece (take (c.offset_of.result * c.width-width.result) (get_or mid piece []) ++ (r ++ drop (c.offset_of.result * c.width-width.result + n) (get_or mid piece [])))) size_is in
    let new = over ∙ ap (λ n. set mid piece (written layout n r (get_or mid piece []))) at in
    let one_more : end + 1 ≡ i.first + (i.len + 1) = omega arith in
    subst (λ (ps : List (List ℕ)). ArePieces layout i.gone ps i.first (i.first + (i.len + 1))) (sym new)
    (subst (λ (e : ℕ). ArePieces layout i.gone (set mid piece (written layout (offset_of end * row_size layout) r (get_or mid piece []))) i.first e) one_more
    (pieces_more layout i.gone i.pieces.items mid piece i.first end r size_is are room here (omega (arith, c.if-place-ge-MOST_ROWS.false))))
