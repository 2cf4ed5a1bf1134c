-- the grammars as they are written: the pieces that the text of a value shows
use Rattle.std.specs.Prelude.{ℕ, ℤ, ◌≡◌, ◌≤◌, ◌≤ℤ◌, List, [], ◌∷◌, ◌++◌, length, reverse, codes, Bool, true, if◌then◌else◌, Option, Some, None, Ok}
use Rattle.decimal_coords.specs.DecimalOfText.{decimal_of_text}
use Rattle.limits_text.specs.declared.control.WordKind.TheVariants as kind
use Rattle.limits_text.specs.declared.shapes.Box3.{Box3}
use Rattle.limits_text.specs.declared.shapes.NamedRange.{NamedRange}
use Rattle.limits_text.specs.Words.{Word, front_of, words_in, kind_of}
use Rattle.limits_text.specs.Follows.{is_name}
use Rattle.limits_text.specs.Wrong.{is_ring}

pub data Piece : Type 0 where
  sign : ℕ → Piece
  name : List ℕ → Piece
  keyword : List ℕ → Piece
  number : ℤ → Piece
  second : ℤ → Piece

-- a sign is its byte, a name its letters, a keyword is read without regard to case, a number is a decimal of at most
-- 9 places and at most 4 * 10 ^ 9 in size, and a second one has a space before it
abbrev pub IsShown : Piece → Word → Type 0
IsShown (sign b) w = w.bytes ≡ b ∷ []
IsShown (name n) w = (w.bytes ≡ n) × (kind_of n ≡ kind.Name)
IsShown (keyword ks) w = is_name (Some ks) w.bytes ≡ true
IsShown (number n) w = decimal_of_text w.bytes ≡ Ok n
IsShown (second n) w = (decimal_of_text w.bytes ≡ Ok n) × (w.spaced ≡ true)

abbrev pub AreShown : List Piece → List Word → Type 0
AreShown [] [] = Unit {0}
AreShown (p ∷ ps) (w ∷ ws) = IsShown p w × AreShown ps ws
AreShown _ _ = ⊥

-- the words of a text, in their order
abbrev pub words_of : List ℕ → List Word
words_of text = reverse (words_in (front_of text))

-- `POINT (x y)`
abbrev pub point_pieces : ℤ × ℤ → List Piece
point_pieces p = keyword (codes "point") ∷ sign 40 ∷ number p.0 ∷ second p.1 ∷ sign 41 ∷ []

abbrev pub IsPointText : List ℕ → ℤ × ℤ → Type 0
IsPointText text p = AreShown (point_pieces p) (words_of text)

-- `[a, b]`
abbrev pub pair_pieces : ℤ × ℤ → List Piece
pair_pieces p = sign 91 ∷ number p.0 ∷ sign 44 ∷ number p.1 ∷ sign 93 ∷ []

abbrev pub further_pair : Option (ℤ × ℤ) → List Piece
further_pair None = []
further_pair (Some p) = sign 44 ∷ pair_pieces p

-- `([a, b], [c, d])` or `([a, b], [c, d], [e, f])`
abbrev pub box_pieces : Box3 → List Piece
box_pieces b = sign 40 ∷ pair_pieces b.x ++ sign 44 ∷ pair_pieces b.y ++ further_pair b.z ++ sign 41 ∷ []

abbrev pub IsInOrder : ℤ × ℤ → Type 0
IsInOrder p = p.0 ≤ℤ p.1

abbrev pub AreInOrder : Option (ℤ × ℤ) → Type 0
AreInOrder None = Unit {0}
AreInOrder (Some p) = IsInOrder p

abbrev pub IsBoundsText : List ℕ → Box3 → Type 0
IsBoundsText text b = AreShown (box_pieces b) (words_of text) × IsInOrder b.x × IsInOrder b.y × AreInOrder b.z

abbrev pub corner_pieces : ℤ × ℤ → List Piece
corner_pieces p = number p.0 ∷ second p.1 ∷ []

abbrev pub further_corners : List (ℤ × ℤ) → List Piece
further_corners [] = []
further_corners (p ∷ ps) = sign 44 ∷ corner_pieces p ++ further_corners ps

-- `x y, x y, ..`
abbrev pub corners_pieces : List (ℤ × ℤ) → List Piece
corners_pieces [] = []
corners_pieces (p ∷ ps) = corner_pieces p ++ further_corners ps

-- `POLYGON ((x y, x y, ..))`
abbrev pub polygon_pieces : List (ℤ × ℤ) → List Piece
polygon_pieces ps = keyword (codes "polygon") ∷ sign 40 ∷ sign 40 ∷ corners_pieces ps ++ sign 41 ∷ sign 41 ∷ []

abbrev pub IsPolygonText : List ℕ → List (ℤ × ℤ) → Type 0
IsPolygonText text ps = AreShown (polygon_pieces ps) (words_of text) × (is_ring ps ≡ true) × (length ps ≤ 1024)

abbrev pub open_byte : Bool → ℕ
open_byte inside = if inside then 91 else 40

abbrev pub close_byte : Bool → ℕ
close_byte inside = if inside then 93 else 41

-- an end, where there is one, and what stands behind it
abbrev pub end_then : Option ℤ → List Piece → List Piece
end_then None ps = ps
end_then (Some a) ps = number a ∷ ps

abbrev pub negation_then : Bool → List Piece → List Piece
negation_then negated ps = if negated then sign 33 ∷ ps else ps

-- `NAME [a : b]`, `NAME ! (a : b)` and the like, and what stands behind it
abbrev pub range_then : NamedRange → List Piece → List Piece
range_then r ps =
    let i = r.interval in
    name r.name ∷ negation_then i.negated (sign (open_byte i.low_in)
    ∷ end_then i.low (sign 58 ∷ end_then i.high (sign (close_byte i.high_in) ∷ ps)))

abbrev pub further_ranges : List NamedRange → List Piece
further_ranges [] = []
further_ranges (r ∷ rs) = sign 44 ∷ range_then r (further_ranges rs)

-- `NAME [a : b], NAME [a : b], ..`
abbrev pub ranges_pieces : List NamedRange → List Piece
ranges_pieces [] = []
ranges_pieces (r ∷ rs) = range_then r (further_ranges rs)

abbrev pub IsRangesText : List ℕ → List NamedRange → Type 0
IsRangesText text rs = AreShown (ranges_pieces rs) (words_of text) × (1 ≤ length rs) × (length rs ≤ 64)
