-- How pieces of rows grow.
use Rattle.std.proofs.Common.{◌≡◌, ℕ, ◌+◌, ◌-◌, ◌*◌, ◌^◌, ◌<◌, ◌≤◌, List, [], ◌∷◌, ◌++◌, length, take, drop, get_or, set, ap, sym, ◌∙◌, arith, length-append, length-drop}
use Rattle.std.proofs.lemmas.List.{take-append-le, length-take-le, take_all, get_or-set_same, get_or-set_other, get_or-drop}
use Rattle.std.proofs.lemmas.List.{length-set}
use Rattle.std.proofs.lemmas.Bool.{cases_lt, cases_eq}
use Rattle.std.proofs.Math.Logic.{⊎_elim}
use Rattle.cloud_points.specs.Clearing.{IsWithin}
use Rattle.cloud_points.specs.Layouts.{holds}
use Rattle.cloud_points.specs.declared.layout.Layout.{Layout}
use Rattle.cloud_points.specs.declared.point.Point.{Point}
use Rattle.packed_chunk.specs.Fitting.{FitsTypes}
use Rattle.packed_chunk.specs.Rows.{row, row_size}
use Rattle.packed_chunk.specs.Unpacked.{unpacked_at}
use Rattle.packed_chunk.specs.Held.{piece_of, offset_of, rows_of, point_at, points_from, AreSized, ArePieces, HasRoom}
use Rattle.packed_chunk.proofs.Fronts.{unpacked_front}
use Rattle.packed_chunk.proofs.Listed.{listed_same, listed_more, listed_drop}
use Rattle.packed_chunk.proofs.Standing.{place_low, piece_later, offset_later, piece_next, row_inside}
use Rattle.packed_chunk.proofs.Returning.{row_back}
use Rattle.packed_chunk.proofs.Sizes.{row_length}

-- bytes over which a row was written
abbrev pub written : Layout → ℕ → List ℕ → List ℕ → List ℕ
written layout at r bytes = take at bytes ++ (r ++ drop (at + row_size layout) bytes)

-- the bytes of a row that gives a point, wherever it stands
pub record IsRow (layout : Layout) (r : List ℕ) (p : Point) : Type 0 where
  pub size : length r ≡ row_size layout
  pub gives : (at : ℕ) (before rest : List ℕ) → length before ≡ at → unpacked_at layout at (before ++ (r ++ rest)) ≡ p

-- as that of a point does
pub row_is : (layout : Layout) (p : Point) → FitsTypes p → IsWithin (holds layout) p → IsRow layout (row layout p) p
row_is layout p fits within = record {
  size = row_length layout p;
  gives = λ at before rest is. row_back layout p fits at before rest is ∙ within;
}

pub front_stays : (layout : Layout) (at : ℕ) (r bytes : List ℕ) → at ≤ length bytes → take at (written layout at r bytes) ≡ take at bytes
front_stays layout at r bytes low =
    let front = take at bytes in
    let size : length front ≡ at = length-take-le at bytes low in
    take-append-le at front _ (omega (arith, size)) ∙ take_all at front (omega (arith, size))

pub written_length : (layout : Layout) (at : ℕ) (r bytes : List ℕ) → length r ≡ row_size layout → at + row_size layout ≤ length bytes → length (written layout at r bytes) ≡ length bytes
written_length layout at r bytes size room =
    let front = take at bytes in
    let back = drop (at + row_size layout) bytes in
    omega (arith, room, size, length-append front (r ++ back), length-append r back, length-take-le at bytes (omega arith), length-drop (at + row_size layout) bytes)

-- pieces with room are sized
pub sized_room : (layout : Layout) (gone : ℕ) (old mid : List (List ℕ)) (piece : ℕ) → AreSized layout gone old
    → HasRoom old piece (rows_of (gone + piece) * row_size layout) mid → AreSized layout gone mid
sized_room layout gone old mid piece sized room = λ i inside. ⊎_elim
    (λ low. ap length (room.kept i low) ∙ sized i low)
    (λ high. (room.blank i inside high).1 ∙ ap (λ k. rows_of (gone + k) * row_size layout) (sym (room.blank i inside high).0))
    (cases_lt i (length old))

-- and there is room for a row
pub row_room : (layout : Layout) (gone : ℕ) (mid : List (List ℕ)) (piece place : ℕ) → AreSized layout gone mid → piece < length mid → gone + piece ≡ piece_of place
    → offset_of place * row_size layout + row_size layout ≤ length (get_or mid piece [])
row_room layout gone mid piece place sized inside same =
    let rows = ap (λ k. rows_of k * row_size layout) same in
    let room = row_inside (offset_of place) (rows_of (piece_of place)) (row_size layout) (place_low place) in
    omega (arith, room, rows, sized piece inside)

-- a row that is held has a piece, and stands inside it
pub record Stands (layout : Layout) (gone : ℕ) (pieces : List (List ℕ)) (place : ℕ) : Type 0 where
  pub begins : gone ≤ piece_of place
  pub inside : piece_of place - gone < length pieces
  pub room : offset_of place * row_size layout + row_size layout ≤ length (get_or pieces (piece_of place - gone) [])

pub row_stands : (layout : Layout) (gone : ℕ) (pieces : List (List ℕ)) (first end place : ℕ) → ArePieces layout gone pieces first end → first ≤ place → place < end
    → Stands layout gone pieces place
row_stands layout gone pieces first end place are low high =
    let begins : gone ≤ piece_of place = omega (arith, are.begins, piece_later first place low) in
    let inside : piece_of place - gone < length pieces = omega (arith, begins, are.held place high) in
    record {
      begins = begins;
      inside = inside;
      room = row_room layout gone pieces (piece_of place - gone) place are.sized inside (omega (arith, begins));
    }

pub sized_written : (layout : Layout) (gone : ℕ) (mid : List (List ℕ)) (piece at : ℕ) (r : List ℕ) → length r ≡ row_size layout → AreSized layout gone mid → piece < length mid
    → at + row_size layout ≤ length (get_or mid piece []) → AreSized layout gone (set mid piece (written layout at r (get_or mid piece [])))
sized_written layout gone mid piece at r size sized inside room = λ i low. ⊎_elim
    (λ same.
    ap (λ k. length (get_or (set mid piece (written layout at r (get_or mid piece []))) k [])) same
    ∙ ap length (get_or-set_same mid piece (written layout at r (get_or mid piece [])) [] inside)
    ∙ written_length layout at r (get_or mid piece []) size room ∙ sized piece inside ∙ ap (λ k. rows_of (gone + k) * row_size layout) (sym same))
    (λ other.
    ap length (get_or-set_other mid piece i (written layout at r (get_or mid piece [])) [] other)
    ∙ sized i (omega (arith, low, length-set mid piece (written layout at r (get_or mid piece [])))))
    (cases_eq i piece)

-- the rows before a row that is written stay
row_stays : (layout : Layout) (gone : ℕ) (old mid : List (List ℕ)) (piece size end place : ℕ) (r : List ℕ) → HasRoom old piece size mid
    → gone + piece ≡ piece_of end → offset_of end * row_size layout ≤ length (get_or mid piece []) → gone ≤ piece_of place → piece_of place < gone + length old → place < end
    → point_at layout gone (set mid piece (written layout (offset_of end * row_size layout) r (get_or mid piece []))) place ≡ point_at layout gone old place
unfolding point_at
row_stays layout gone old mid piece size end place r room here low begins held before =
    let w = row_size layout in
    let b = get_or mid piece [] in
    let b' = written layout (offset_of end * w) r b in
    let j = piece_of place - gone in
    let kept : get_or mid j [] ≡ get_or old j [] = room.kept j (omega (arith, begins, held)) in
    ⊎_elim
    (λ same.
    let one : piece_of place ≡ piece_of end = omega (arith, same, begins, here) in
    let inside = row_inside (offset_of place) (offset_of end) w (offset_later place end before one) in
    let front = unpacked_front layout (offset_of place * w) (offset_of end * w) b' b inside (front_stays layout (offset_of end * w) r b low) in
    ap (λ k. unpacked_at layout (offset_of place * w) (get_or (set mid piece b') k [])) same
    ∙ ap (unpacked_at layout (offset_of place * w)) (get_or-set_same mid piece b' [] room.room)
    ∙ front ∙ ap (λ k. unpacked_at layout (offset_of place * w) (get_or mid k [])) (sym same) ∙ ap (unpacked_at layout (offset_of place * w)) kept)
    (λ other. ap (unpacked_at layout (offset_of place * w)) (get_or-set_other mid piece j b' [] other ∙ kept))
    (cases_eq j piece)

-- and that row has its point
row_new : (layout : Layout) (gone : ℕ) (mid : List (List ℕ)) (piece end : ℕ) (r : List ℕ) (p : Point) → IsRow layout r p → piece < length mid
    → gone + piece ≡ piece_of end → offset_of end * row_size layout ≤ length (get_or mid piece [])
    → point_at layout gone (set mid piece (written layout (offset_of end * row_size layout) r (get_or mid piece []))) end ≡ p
unfolding point_at
row_new layout gone mid piece end r p is inside here low =
    let w = row_size layout in
    let b = get_or mid piece [] in
    let b' = written layout (offset_of end * w) r b in
    let at : piece_of end - gone ≡ piece = omega (arith, here) in
    ap (λ k. unpacked_at layout (offset_of end * w) (get_or (set mid piece b') k [])) at
    ∙ ap (unpacked_at layout (offset_of end * w)) (get_or-set_same mid piece b' [] inside)
    ∙ is.gives (offset_of end * w) (take (offset_of end * w) b) (drop (offset_of end * w + w) b) (length-take-le (offset_of end * w) b low)

-- the points with one more
pub points_more : (layout : Layout) (gone : ℕ) (old mid : List (List ℕ)) (piece first len : ℕ) (r : List ℕ) (p : Point) → IsRow layout r p
    → ArePieces layout gone old first (first + len) → HasRoom old piece (rows_of (gone + piece) * row_size layout) mid → gone + piece ≡ piece_of (first + len)
    → points_from layout gone (set mid piece (written layout (offset_of (first + len) * row_size layout) r (get_or mid piece []))) first (len + 1)
    ≡ points_from layout gone old first len ++ p ∷ []
points_more layout gone old mid piece first len r p is are room here =
    let end = first + len in
    let new = set mid piece (written layout (offset_of end * row_size layout) r (get_or mid piece [])) in
    let low = row_room layout gone mid piece end (sized_room layout gone old mid piece are.sized room) room.room here in
    let stay = listed_same (λ k. point_at layout gone new (first + k)) (λ k. point_at layout gone old (first + k)) len
    (λ k inside. row_stays layout gone old mid piece _ end (first + k) r room here (omega (arith, low))
    (omega (arith, are.begins, piece_later first (first + k) (omega arith))) (are.held (first + k) (omega (arith, inside))) (omega (arith, inside))) in
    listed_more (λ k. point_at layout gone new (first + k)) len
    ∙ (λ i. stay i ++ row_new layout gone mid piece end r p is room.room here (omega (arith, low)) i ∷ [])

-- and their pieces
pub pieces_more : (layout : Layout) (gone : ℕ) (old mid : List (List ℕ)) (piece first end : ℕ) (r : List ℕ) → length r ≡ row_size layout → ArePieces layout gone old first end
    → HasRoom old piece (rows_of (gone + piece) * row_size layout) mid → gone + piece ≡ piece_of end → end < 2 ^ 56
    → ArePieces layout gone (set mid piece (written layout (offset_of end * row_size layout) r (get_or mid piece []))) first (end + 1)
pieces_more layout gone old mid piece first end r size are room here most =
    let new = set mid piece (written layout (offset_of end * row_size layout) r (get_or mid piece [])) in
    let sized = sized_room layout gone old mid piece are.sized room in
    let many : length new ≡ length mid = length-set mid piece _ in
    let low = row_room layout gone mid piece end sized room.room here in
    record {
      sized = sized_written layout gone mid piece (offset_of end * row_size layout) r size sized room.room low;
      begins = are.begins;
      held = λ place before. omega (arith, here, many, room.room, piece_later place end (omega (arith, before)));
      next = omega (arith, here, many, room.room, piece_next end);
      most = omega (arith, most);
    }

-- without the first rows, and without the pieces before them
pub points_less : (layout : Layout) (gone : ℕ) (pieces : List (List ℕ)) (first len skipped : ℕ) → gone ≤ piece_of (first + skipped) → skipped ≤ len
    → points_from layout (piece_of (first + skipped)) (drop (piece_of (first + skipped) - gone) pieces) (first + skipped) (len - skipped)
    ≡ drop skipped (points_from layout gone pieces first len)
unfolding point_at
points_less layout gone pieces first len skipped begins low =
    let later = piece_of (first + skipped) in
    let same = listed_same (λ k. point_at layout later (drop (later - gone) pieces) ((first + skipped) + k)) (λ k. point_at layout gone pieces (first + (skipped + k))) (len - skipped)
    (λ k inside.
    let place : (first + skipped) + k ≡ first + (skipped + k) = omega arith in
    let beyond = piece_later (first + skipped) (first + (skipped + k)) (omega arith) in
    let at : (later - gone) + (piece_of (first + (skipped + k)) - later) ≡ piece_of (first + (skipped + k)) - gone = omega (arith, begins, beyond) in
    ap (point_at layout later (drop (later - gone) pieces)) place
    ∙ ap (unpacked_at layout (offset_of (first + (skipped + k)) * row_size layout))
    (get_or-drop (later - gone) pieces (piece_of (first + (skipped + k)) - later) [] ∙ ap (λ n. get_or pieces n []) at)) in
    same ∙ sym (listed_drop (λ k. point_at layout gone pieces (first + k)) skipped len low)

pub pieces_less : (layout : Layout) (gone : ℕ) (pieces : List (List ℕ)) (first end later : ℕ) → ArePieces layout gone pieces first end → first ≤ later → later ≤ end
    → ArePieces layout (piece_of later) (drop (piece_of later - gone) pieces) later end
pieces_less layout gone pieces first end later are low high =
    let n = piece_of later - gone in
    let begins : gone ≤ piece_of later = omega (arith, are.begins, piece_later first later low) in
    let many : length (drop n pieces) ≡ length pieces - n = length-drop n pieces in
    let last : piece_of later ≤ gone + length pieces = omega (arith, are.next, piece_later later end high) in
    record {
      sized = λ i inside.
          let at : gone + (n + i) ≡ piece_of later + i = omega (arith, begins) in
          ap length (get_or-drop n pieces i []) ∙ are.sized (n + i) (omega (arith, inside, many)) ∙ ap (λ k. rows_of k * row_size layout) at;
      begins = omega arith;
      held = λ place before. omega (arith, many, begins, last, are.held place before);
      next = omega (arith, many, begins, last, are.next);
      most = are.most;
    }

-- as many pieces serve fewer rows
pub pieces_fewer : (layout : Layout) (gone : ℕ) (pieces : List (List ℕ)) (first end fewer : ℕ) → ArePieces layout gone pieces first end → fewer ≤ end
    → ArePieces layout gone pieces first fewer
pieces_fewer layout gone pieces first end fewer are low = record {
  sized = are.sized;
  begins = are.begins;
  held = λ place before. are.held place (omega (arith, before));
  next = omega (arith, are.next, piece_later fewer end low);
  most = omega (arith, are.most);
}
