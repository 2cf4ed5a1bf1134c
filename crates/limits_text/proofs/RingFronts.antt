-- what the words of a polygon show while it is read
use Rattle.std.specs.Prelude.{ℕ, ◌<◌, ◌≤◌, ℤ, ◌≡◌, List, [], ◌∷◌, codes, length, true, reverse}
use Rattle.limits_text.specs.declared.control.Control.{Control}
use Rattle.limits_text.specs.declared.control.Control.TheVariants.{Polygon, Shape, Ring, CornerX, CornerY, Corner, ShapeEnd, End}
use Rattle.limits_text.specs.Words.{Word}
use Rattle.limits_text.specs.Wrong.{is_ring}
use Rattle.limits_text.specs.Pieces.{Piece, AreShown, sign, keyword, number, second}
use Rattle.limits_text.proofs.BoxFronts.{IsAt}

-- the latest first, of corners that are the latest first: what stands before a further corner, and what a corner ends
abbrev pub before_corner : List (ℤ × ℤ) → List Piece
before_corner [] = sign 40 ∷ sign 40 ∷ keyword (codes "polygon") ∷ []
before_corner (p ∷ ps) = sign 44 ∷ second p.1 ∷ number p.0 ∷ before_corner ps

abbrev pub behind_corner : List (ℤ × ℤ) → List Piece
behind_corner [] = []
behind_corner (p ∷ ps) = second p.1 ∷ number p.0 ∷ before_corner ps

abbrev pub IsSome : List (ℤ × ℤ) → Type 0
IsSome [] = ⊥
IsSome (p ∷ ps) = Unit {0}

-- what the words show, the latest first, where c comes next; ps are the corners, the latest first
abbrev pub IsRingFront : Control → List (ℤ × ℤ) → ℤ → ℕ → List Word → Type 0
IsRingFront Polygon ps x k ws = AreShown [] ws × (ps ≡ [])
IsRingFront Shape ps x k ws = AreShown (keyword (codes "polygon") ∷ []) ws × (ps ≡ [])
IsRingFront Ring ps x k ws = AreShown (sign 40 ∷ keyword (codes "polygon") ∷ []) ws × (ps ≡ [])
IsRingFront CornerX ps x k ws = AreShown (before_corner ps) ws × (length ps ≤ 1024)
IsRingFront CornerY ps x k ws = AreShown (number x ∷ before_corner ps) ws × (length ps < 1024) × IsAt 0 k ws
IsRingFront Corner ps x k ws = AreShown (behind_corner ps) ws × (length ps ≤ 1024) × IsAt 1 k ws × IsSome ps
IsRingFront ShapeEnd ps x k ws = AreShown (sign 41 ∷ behind_corner ps) ws
    × (length ps ≤ 1024) × (is_ring (reverse ps) ≡ true)
IsRingFront End ps x k ws = AreShown (sign 41 ∷ sign 41 ∷ behind_corner ps) ws
    × (length ps ≤ 1024) × (is_ring (reverse ps) ≡ true)
IsRingFront _ ps x k ws = ⊥
