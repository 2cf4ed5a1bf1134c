-- Rows that are written over others.
use Rattle.std.proofs.Common.{◌≡◌, ℕ, ◌+◌, ◌-◌, ◌*◌, ◌<◌, ◌≤◌, List, [], ◌++◌, length, take, drop, get_or, set, ⊎_elim, ap, sym, ◌∙◌, arith, append_assoc, length-append}
use Rattle.std.proofs.lemmas.Bool.{cases_lt, cases_eq}
use Rattle.std.proofs.lemmas.List.{same_lists, length-set, length-take-le, get_or-set_same, get_or-set_other}
use Rattle.std.proofs.lemmas.Slice.{drop-append-drop}
use Rattle.cloud_points.specs.declared.layout.Layout.{Layout}
use Rattle.cloud_points.specs.declared.point.Point.{Point}
use Rattle.packed_chunk.specs.Rows.{row_size}
use Rattle.packed_chunk.specs.Unpacked.{unpacked_at}
use Rattle.packed_chunk.specs.Held.{Held, piece_of, offset_of, point_at, listed, points_from, ArePieces}
use Rattle.packed_chunk.proofs.Fronts.{unpacked_front}
use Rattle.packed_chunk.proofs.Listed.{listed_length, listed_get}
use Rattle.packed_chunk.proofs.Standing.{offset_later, row_inside}
use Rattle.packed_chunk.proofs.Growing.{written, IsRow, Stands, front_stays, written_length, sized_written, row_stands}
use Rattle.packed_chunk.proofs.Moving.{row_taken}

-- listed points of which one is another
listed_set : (point other : ℕ → Point) (n k : ℕ) (p : Point) → other k ≡ p → ((j : ℕ) → j < n → (j ≡ k → ⊥) → other j ≡ point j) → listed other n ≡ set (listed point n) k p
listed_set point other n k p here there = same_lists _ _ (listed_length other n ∙ sym (length-set (listed point n) k p ∙ listed_length point n)) each
  where
    each : (j : ℕ) (d : Point) → j < length (listed other n) → get_or (listed other n) j d ≡ get_or (set (listed point n) k p) j d
    each j d low =
        let inside : j < n = omega (arith, low, listed_length other n) in
        listed_get other n j d inside ∙ ⊎_elim
        (λ same. ap other same ∙ here
        ∙ sym (ap (λ i. get_or (set (listed point n) k p) i d) same ∙ get_or-set_same (listed point n) k p d (omega (arith, same, inside, listed_length point n))))
        (λ off. there j inside off ∙ sym (get_or-set_other (listed point n) k j p d off ∙ listed_get point n j d inside))
        (cases_eq j k)

-- a row behind one that is written stays
back_stays : (layout : Layout) (at later : ℕ) (r bytes : List ℕ) → length r ≡ row_size layout → at + row_size layout ≤ later → later + row_size layout ≤ length bytes
    → unpacked_at layout later (written layout at r bytes) ≡ unpacked_at layout later bytes
back_stays layout at later r bytes size behind room =
    let w = row_size layout in
    let front : length (take at bytes ++ r) ≡ at + w = omega (arith, length-append (take at bytes) r, length-take-le at bytes (omega (arith, behind, room)), size) in
    let same = ap (drop later) (sym (append_assoc (take at bytes) r (drop (at + w) bytes))) ∙ drop-append-drop (at + w) bytes (take at bytes ++ r) later behind front in
    sym (row_taken layout later (written layout at r bytes) (omega (arith, room, written_length layout at r bytes size (omega (arith, behind, room)))))
    ∙ ap (λ z. unpacked_at layout 0 (take w z)) same ∙ row_taken layout later bytes room

module _ (layout : Layout) (gone : ℕ) (pieces : List (List ℕ)) (place : ℕ) (r : List ℕ) (size : length r ≡ row_size layout) (here : Stands layout gone pieces place) where
  abbrev piece : ℕ
  piece = piece_of place - gone

  abbrev at : ℕ
  at = offset_of place * row_size layout

  -- the pieces with the row written at the place
  abbrev pub over : List (List ℕ)
  over = set pieces piece (written layout at r (get_or pieces piece []))

  row_apart : (other : ℕ) → Stands layout gone pieces other → (other ≡ place → ⊥) → point_at layout gone over other ≡ point_at layout gone pieces other
  unfolding point_at
  row_apart other there off =
      let w = row_size layout in
      let b = get_or pieces piece [] in
      let b' = written layout at r b in
      ⊎_elim
      (λ same.
      let one : piece_of other ≡ piece_of place = omega (arith, same, here.begins, there.begins) in
      let room : offset_of other * w + w ≤ length b = omega (arith, there.room, ap (λ k. length (get_or pieces k [])) same) in
      let beside : unpacked_at layout (offset_of other * w) b' ≡ unpacked_at layout (offset_of other * w) b = ⊎_elim
      (λ low. unpacked_front layout (offset_of other * w) at b' b (row_inside (offset_of other) (offset_of place) w (offset_later other place low one)) (front_stays layout at r b (omega (arith, here.room))))
      (λ high. back_stays layout at (offset_of other * w) r b size (row_inside (offset_of place) (offset_of other) w (offset_later place other (omega (arith, high, off)) (sym one))) room)
      (cases_lt other place) in
      ap (λ k. unpacked_at layout (offset_of other * w) (get_or over k [])) same
      ∙ ap (unpacked_at layout (offset_of other * w)) (get_or-set_same pieces piece b' [] here.inside) ∙ beside
      ∙ sym (ap (λ k. unpacked_at layout (offset_of other * w) (get_or pieces k [])) same))
      (λ apart. ap (unpacked_at layout (offset_of other * w)) (get_or-set_other pieces piece (piece_of other - gone) b' [] apart))
      (cases_eq (piece_of other - gone) piece)

  row_over : (p : Point) → IsRow layout r p → point_at layout gone over place ≡ p
  unfolding point_at
  row_over p is =
      let b = get_or pieces piece [] in
      ap (unpacked_at layout at) (get_or-set_same pieces piece (written layout at r b) [] here.inside)
      ∙ is.gives at (take at b) (drop (at + row_size layout) b) (length-take-le at b (omega (arith, here.room)))

-- the points with another at a place
pub points_set : (layout : Layout) (gone : ℕ) (pieces : List (List ℕ)) (first len k : ℕ) (r : List ℕ) (p : Point) → IsRow layout r p → (are : ArePieces layout gone pieces first (first + len)) → (inside : k < len)
    → (here : Stands layout gone pieces (first + k))
    → points_from layout gone (set pieces (piece_of (first + k) - gone) (written layout (offset_of (first + k) * row_size layout) r (get_or pieces (piece_of (first + k) - gone) []))) first len
    ≡ set (points_from layout gone pieces first len) k p
points_set layout gone pieces first len k r p is are inside here =
    listed_set (λ j. point_at layout gone pieces (first + j)) (λ j. point_at layout gone (over layout gone pieces (first + k) r is.size here) (first + j)) len k p
    (row_over layout gone pieces (first + k) r is.size here p is)
    (λ j low off. row_apart layout gone pieces (first + k) r is.size here (first + j) (row_stands layout gone pieces first (first + len) (first + j) are (omega arith) (omega (arith, low))) (λ same. off (omega (arith, same))))

-- and their pieces
pub pieces_set : (layout : Layout) (gone : ℕ) (pieces : List (List ℕ)) (first end place : ℕ) (r : List ℕ) → length r ≡ row_size layout → ArePieces layout gone pieces first end
    → Stands layout gone pieces place
    → ArePieces layout gone (set pieces (piece_of place - gone) (written layout (offset_of place * row_size layout) r (get_or pieces (piece_of place - gone) []))) first end
pieces_set layout gone pieces first end place r size are here =
    let many = length-set pieces (piece_of place - gone) (written layout (offset_of place * row_size layout) r (get_or pieces (piece_of place - gone) [])) in
    record {
      sized = sized_written layout gone pieces (piece_of place - gone) (offset_of place * row_size layout) r size are.sized here.inside here.room;
      begins = are.begins;
      held = λ other before. omega (arith, many, are.held other before);
      next = omega (arith, many, are.next);
      most = are.most;
    }

-- a place among the points is one among so many, and its row stands in a piece
pub held_low : (layout : Layout) (gone : ℕ) (pieces : List (List ℕ)) (first len k : ℕ) (seen : Held)
    → record { layout = layout; points = points_from layout gone pieces first len } ≡ seen → k < length seen.points → k < len
held_low layout gone pieces first len k seen same before =
    omega (arith, before, ap (λ (h : Held). length h.points) same, listed_length (λ n. point_at layout gone pieces (first + n)) len)

pub held_stands : (layout : Layout) (gone : ℕ) (pieces : List (List ℕ)) (first len k : ℕ) (seen : Held) → ArePieces layout gone pieces first (first + len)
    → record { layout = layout; points = points_from layout gone pieces first len } ≡ seen → k < length seen.points → Stands layout gone pieces (first + k)
held_stands layout gone pieces first len k seen are same before =
    let less = held_low layout gone pieces first len k seen same before in
    row_stands layout gone pieces first (first + len) (first + k) are (omega arith) (omega (arith, less))
