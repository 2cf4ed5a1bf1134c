use Rattle.std.proofs.Common.{◌≡◌, ℕ, ◌+◌, ◌-◌, ◌≤◌, List, length, drop, ap, sym, subst, ◌∙◌, arith}
use Rattle.cloud_points.specs.declared.layout.Layout.{Layout}
use Rattle.packed_chunk.specs.Held.{Held, piece_of, point_at, points_from, ArePieces}
use Rattle.packed_chunk.proofs.Listed.{listed_length}
use Rattle.packed_chunk.proofs.Standing.{piece_later}
use Rattle.packed_chunk.proofs.Growing.{points_less, pieces_less}
use Rattle.packed_chunk.proofs.rows.PackedRows.keep_last.Goals as goal

-- the pieces that are left
left_pieces : (layout : Layout) (gone : ℕ) (pieces : List (List ℕ)) (first len skipped later : ℕ) (left : List (List ℕ)) → ArePieces layout gone pieces first (first + len)
    → skipped ≤ len → later ≡ piece_of (first + skipped) → left ≡ drop (later - gone) pieces → ArePieces layout later left (first + skipped) ((first + skipped) + (len - skipped))
left_pieces layout gone pieces first len skipped later left are few at kept =
    let end : first + len ≡ (first + skipped) + (len - skipped) = omega (arith, few) in
    let same = ap (λ n. drop (n - gone) pieces) (sym at) ∙ sym kept in
    subst (λ (e : ℕ). ArePieces layout later left (first + skipped) e) end
    (subst (λ (ps : List (List ℕ)). ArePieces layout later ps (first + skipped) (first + len)) same
    (subst (λ (g : ℕ). ArePieces layout g (drop (piece_of (first + skipped) - gone) pieces) (first + skipped) (first + len)) (sym at)
    (pieces_less layout gone pieces first (first + len) (first + skipped) are (omega arith) (omega (arith, few)))))

-- and their points
left_points : (layout : Layout) (gone : ℕ) (pieces : List (List ℕ)) (first len skipped later : ℕ) (left : List (List ℕ)) → gone ≤ piece_of (first + skipped)
    → skipped ≤ len → later ≡ piece_of (first + skipped) → left ≡ drop (later - gone) pieces
    → points_from layout later left (first + skipped) (len - skipped) ≡ drop skipped (points_from layout gone pieces first len)
left_points layout gone pieces first len skipped later left begins few at kept =
    let same = kept ∙ ap (λ n. drop (n - gone) pieces) at in
    (λ i. points_from layout (at i) (same i) (first + skipped) (len - skipped)) ∙ points_less layout gone pieces first len skipped begins few

pub overflow_sub-gone : goal.overflow_sub-gone
overflow_sub-gone c =
    let i = c.self.inside in
    omega (arith, c.piece_of-gone.ensures, c.self.invariant.begins, piece_later i.first (i.first + c.saturating_sub-skipped.result) (omega arith))

pub let_go-requires : goal.let_go-requires
let_go-requires c =
    let i = c.self.inside in
    let later = i.first + c.saturating_sub-skipped.result in
    let end = piece_later later (i.first + i.len) (omega (arith, c.saturating_sub-skipped.ensures)) in
    omega (arith, c.piece_of-gone.ensures, end, c.self.invariant.next)

pub invariant_of-self : goal.invariant_of-self
invariant_of-self c =
    let i = c.self.inside in
    left_pieces i.packing.layout i.gone i.pieces.items i.first i.len c.saturating_sub-skipped.result c.piece_of-gone.result c.let_go.new.pieces.items c.self.invariant
    (omega (arith, c.saturating_sub-skipped.ensures)) c.piece_of-gone.ensures c.let_go.ensures

pub returns : goal.returns
returns c =
    let i = c.self.inside in
    let skipped = c.saturating_sub-skipped.result in
    let seen = ap (λ (h : Held). h.points) c.self.view_is in
    let many = listed_length (λ n. point_at i.packing.layout i.gone i.pieces.items (i.first + n)) i.len in
    let count : skipped ≡ length c.args.self.now.points - c.args.count = omega (arith, c.saturating_sub-skipped.ensures, many, ap (λ (h : Held). length h.points) c.self.view_is) in
    let begins : i.gone ≤ piece_of (i.first + skipped) = omega (arith, c.self.invariant.begins, piece_later i.first (i.first + skipped) (omega arith)) in
    let left = left_points i.packing.layout i.gone i.pieces.items i.first i.len skipped c.piece_of-gone.result c.let_go.new.pieces.items begins
    (omega (arith, c.saturating_sub-skipped.ensures)) c.piece_of-gone.ensures c.let_go.ensures in
    let points = left ∙ (λ j. drop (count j) (seen j)) in
    λ j. record { layout = (c.self.view_is j).layout; points = points j }
