use Rattle.std.proofs.Common.{◌≡◌, ℕ, ◌+◌, ◌-◌, ◌*◌, List, [], ◌++◌, length, take, drop, get_or, set, refl, ap, sym, subst, ◌∙◌, arith}
use Rattle.cloud_points.specs.declared.layout.Layout.{Layout}
use Rattle.packed_chunk.specs.Rows.{row_size}
use Rattle.packed_chunk.specs.Unpacked.{unpacked_at}
use Rattle.packed_chunk.specs.Held.{Held, offset_of, points_from, ArePieces}
use Rattle.packed_chunk.proofs.Growing.{written}
use Rattle.packed_chunk.proofs.Moving.{bytes_are}
use Rattle.packed_chunk.proofs.Exchanging.{held_low, held_stands, points_set, pieces_set}
use Rattle.packed_chunk.proofs.rows.PackedRows.put_over.Goals as goal

pub overflow_add-place : goal.overflow_add-place
overflow_add-place c =
    let i = c.self.inside in
    omega (arith, c.self.invariant.most, held_low i.packing.layout i.gone i.pieces.items i.first i.len c.args.k _ c.self.view_is c.requires.inside)

pub overflow_sub-piece : goal.overflow_sub-piece
overflow_sub-piece c =
    let i = c.self.inside in
    let here = held_stands i.packing.layout i.gone i.pieces.items i.first i.len c.args.k _ c.self.invariant c.self.view_is c.requires.inside in
    omega (arith, here.begins, c.piece_of.ensures)

pub put_bytes-requires-clause-piece : goal.put_bytes-requires-clause-piece
put_bytes-requires-clause-piece c =
    let i = c.self.inside in
    let here = held_stands i.packing.layout i.gone i.pieces.items i.first i.len c.args.k _ c.self.invariant c.self.view_is c.requires.inside in
    omega (arith, here.inside, c.piece_of.ensures)

pub put_bytes-requires-clause-room : goal.put_bytes-requires-clause-room
put_bytes-requires-clause-room c =
    let i = c.self.inside in
    let layout = i.packing.layout in
    let place = i.first + c.args.k in
    let here = held_stands layout i.gone i.pieces.items i.first i.len c.args.k _ c.self.invariant c.self.view_is c.requires.inside in
    let at : c.offset_of.result * c.width.result ≡ offset_of place * row_size layout = λ j. c.offset_of.ensures.value j * c.width.ensures.value j in
    let size : length c.args.bytes.now ≡ row_size layout = c.requires.size ∙ ap row_size (sym (ap (λ (h : Held). h.layout) c.self.view_is)) in
    let found = ap (λ n. length (get_or i.pieces.items (n - i.gone) [])) c.piece_of.ensures in
    omega (arith, at, size, here.room, found)

pub invariant_of-self : goal.invariant_of-self
invariant_of-self c =
    let i = c.self.inside in
    let layout = i.packing.layout in
    let place = i.first + c.args.k in
    let r = c.args.bytes.now in
    let old = i.pieces.items in
    let here = held_stands layout i.gone old i.first i.len c.args.k _ c.self.invariant c.self.view_is c.requires.inside in
    let at : c.offset_of.result * c.width.result ≡ offset_of place * row_size layout = λ j. c.offset_of.ensures.value j * c.width.ensures.value j in
    let size : length r ≡ row_size layout = c.requires.size ∙ ap row_size (sym (ap (λ (h : Held). h.layout) c.self.view_is)) in
    let piece = c.piece_of.result - i.gone in
    let over = c.put_bytes.ensures
    ∙ ap (λ n. set old piece (take (c.offset_of.result * c.width.result) (get_or old piece []) ++ (r ++ drop (c.offset_of.result * c.width.result + n) (get_or old piece [])))) size
    ∙ ap (λ n. set old piece (written layout n r (get_or old piece []))) at
    ∙ ap (λ n. set old (n - i.gone) (written layout (offset_of place * row_size layout) r (get_or old (n - i.gone) []))) c.piece_of.ensures in
    subst (λ (ps : List (List ℕ)). ArePieces layout i.gone ps i.first (i.first + i.len)) (sym over)
    (pieces_set layout i.gone old i.first (i.first + i.len) place r size c.self.invariant here)

pub returns : goal.returns
returns c =
    let i = c.self.inside in
    let layout = i.packing.layout in
    let k = c.args.k in
    let place = i.first + k in
    let r = c.args.bytes.now in
    let old = i.pieces.items in
    let lay : layout ≡ c.args.self.now.layout = ap (λ (h : Held). h.layout) c.self.view_is in
    let seen : points_from layout i.gone old i.first i.len ≡ c.args.self.now.points = ap (λ (h : Held). h.points) c.self.view_is in
    let less = held_low layout i.gone old i.first i.len k _ c.self.view_is c.requires.inside in
    let here = held_stands layout i.gone old i.first i.len k _ c.self.invariant c.self.view_is c.requires.inside in
    let at : c.offset_of.result * c.width.result ≡ offset_of place * row_size layout = λ j. c.offset_of.ensures.value j * c.width.ensures.value j in
    let size : length r ≡ row_size layout = c.requires.size ∙ ap row_size (sym lay) in
    let piece = c.piece_of.result - i.gone in
    let over = c.put_bytes.ensures
    ∙ ap (λ n. set old piece (take (c.offset_of.result * c.width.result) (get_or old piece []) ++ (r ++ drop (c.offset_of.result * c.width.result + n) (get_or old piece [])))) size
    ∙ ap (λ n. set old piece (written layout n r (get_or old piece []))) at
    ∙ ap (λ n. set old (n - i.gone) (written layout (offset_of place * row_size layout) r (get_or old (n - i.gone) []))) c.piece_of.ensures in
    let p = unpacked_at layout 0 r in
    let is = bytes_are layout r p size refl in
    let points = ap (λ ps. points_from layout i.gone ps i.first i.len) over
    ∙ points_set layout i.gone old i.first i.len k r p is c.self.invariant less here
    ∙ ap (λ ps. set ps k p) seen ∙ ap (λ (l : Layout). set c.args.self.now.points k (unpacked_at l 0 r)) lay in
    λ j. record { layout = lay j; points = points j }
