-- what the words of a box show while it is read
use Rattle.std.specs.Prelude.{ℕ, zero, suc, ℤ, ◌≡◌, List, [], ◌∷◌, Option, Some, None}
use Rattle.limits_text.specs.declared.control.PairAxis.{PairAxis}
use Rattle.limits_text.specs.declared.control.PairAxis.TheVariants.{X, Y, Z}
use Rattle.limits_text.specs.declared.control.Control.{Control}
use Rattle.limits_text.specs.declared.control.Control.TheVariants.{Box, Pair, PairLow, PairComma, PairHigh, PairClose, Paired, End}
use Rattle.limits_text.specs.declared.bounds.Sides.{Sides}
use Rattle.limits_text.specs.Words.{Word}
use Rattle.limits_text.specs.Pieces.{Piece, AreShown, sign, number, IsInOrder}
use Rattle.limits_text.specs.Boxes.{side}

-- the word is at this place, so many words before the last one
abbrev pub IsAt : ℕ → ℕ → List Word → Type 0
IsAt n p [] = ⊥
IsAt zero p (w ∷ ws) = w.at ≡ p
IsAt (suc n) p (w ∷ ws) = IsAt n p ws

-- the latest first
abbrev pub behind_pair : ℤ × ℤ → List Piece → List Piece
behind_pair p ps = sign 93 ∷ number p.1 ∷ sign 44 ∷ number p.0 ∷ sign 91 ∷ ps

abbrev pub before : PairAxis → Sides → List Piece
before X f = sign 40 ∷ []
before Y f = sign 44 ∷ behind_pair f.x (sign 40 ∷ [])
before Z f = sign 44 ∷ behind_pair f.y (sign 44 ∷ behind_pair f.x (sign 40 ∷ []))

abbrev pub AreBefore : PairAxis → Sides → Type 0
AreBefore X f = f.z ≡ None
AreBefore Y f = (f.z ≡ None) × IsInOrder f.x
AreBefore Z f = IsInOrder f.x × IsInOrder f.y

abbrev pub AreSides : PairAxis → Sides → Type 0
AreSides X f = (f.z ≡ None) × IsInOrder f.x
AreSides Y f = (f.z ≡ None) × IsInOrder f.x × IsInOrder f.y
AreSides Z f = (f.z ≡ Some (side Z f)) × IsInOrder f.x × IsInOrder f.y × IsInOrder (side Z f)

abbrev pub AreToBe : PairAxis → Sides → Type 0
AreToBe X f = f.z ≡ None
AreToBe Y f = (f.z ≡ None) × IsInOrder f.x
AreToBe Z f = (f.z ≡ Some (side Z f)) × IsInOrder f.x × IsInOrder f.y

abbrev pub IsBoxEnd : Option (ℤ × ℤ) → Sides → List Word → Type 0
IsBoxEnd None f ws = AreShown (sign 41 ∷ behind_pair f.y (before Y f)) ws × IsInOrder f.x × IsInOrder f.y
IsBoxEnd (Some p) f ws = AreShown (sign 41 ∷ behind_pair p (before Z f)) ws × IsInOrder f.x × IsInOrder f.y × IsInOrder p

-- what the words show, the latest first, where c comes next
abbrev pub IsBoxFront : Control → Sides → List Word → Type 0
IsBoxFront Box f ws = AreShown [] ws × (f.z ≡ None)
IsBoxFront (Pair k) f ws = AreShown (before k f) ws × AreBefore k f
IsBoxFront (PairLow k) f ws = AreShown (sign 91 ∷ before k f) ws × AreBefore k f × IsAt 0 f.pair ws
IsBoxFront (PairComma k) f ws = AreShown (number f.low ∷ sign 91 ∷ before k f) ws × AreBefore k f × IsAt 1 f.pair ws
IsBoxFront (PairHigh k) f ws = AreShown (sign 44 ∷ number f.low ∷ sign 91 ∷ before k f) ws
    × AreBefore k f × IsAt 2 f.pair ws
IsBoxFront (PairClose k) f ws = AreShown (number (side k f).1 ∷ sign 44 ∷ number (side k f).0 ∷ sign 91 ∷ before k f) ws
    × AreToBe k f × IsAt 3 f.pair ws
IsBoxFront (Paired k) f ws = AreShown (behind_pair (side k f) (before k f)) ws × AreSides k f
IsBoxFront End f ws = IsBoxEnd f.z f ws
IsBoxFront _ f ws = ⊥
