-- what the words of ranges show while they are read
use Rattle.std.specs.Prelude.{ℕ, ◌<◌, ◌≤◌, ℤ, ◌≡◌, List, [], ◌∷◌, length, true, if◌then◌else◌, Option, Some, None}
use Rattle.limits_text.specs.declared.control.Control.{Control}
use Rattle.limits_text.specs.declared.control.Control.TheVariants.{Name, Named, Negated, Low, Colon, High, Close, Ranged}
use Rattle.limits_text.specs.declared.shapes.Interval.{Interval}
use Rattle.limits_text.specs.declared.shapes.NamedRange.{NamedRange}
use Rattle.limits_text.specs.Words.{Word}
use Rattle.limits_text.specs.Pieces.{Piece, AreShown, sign, name, number, open_byte, close_byte}
use Rattle.limits_text.specs.Ranges.{any_interval}

-- the latest first, of ranges that are the latest first
abbrev pub behind_name : Interval → List ℕ → List Piece → List Piece
behind_name i n ps = if i.negated then sign 33 ∷ name n ∷ ps else name n ∷ ps

abbrev pub behind_end : Option ℤ → List Piece → List Piece
behind_end None ps = ps
behind_end (Some a) ps = number a ∷ ps

abbrev pub behind_open : Interval → List ℕ → List Piece → List Piece
behind_open i n ps = sign (open_byte i.low_in) ∷ behind_name i n ps

abbrev pub behind_colon : Interval → List ℕ → List Piece → List Piece
behind_colon i n ps = sign 58 ∷ behind_end i.low (behind_open i n ps)

abbrev pub behind_range : NamedRange → List Piece → List Piece
behind_range r ps = sign (close_byte r.interval.high_in) ∷ behind_end r.interval.high (behind_colon r.interval r.name ps)

abbrev pub before_range : List NamedRange → List Piece
before_range [] = []
before_range (r ∷ rs) = sign 44 ∷ behind_range r (before_range rs)

abbrev pub behind_ranges : List NamedRange → List Piece
behind_ranges [] = []
behind_ranges (r ∷ rs) = behind_range r (before_range rs)

abbrev pub AreSome : List NamedRange → Type 0
AreSome [] = ⊥
AreSome (r ∷ rs) = Unit {0}

-- what the words show, the latest first, where c comes next; rs are the ranges before, the latest first
abbrev pub IsRangeFront : Control → List NamedRange → Interval → List ℕ → List Word → Type 0
IsRangeFront Name rs i n ws = AreShown (before_range rs) ws × (length rs ≤ 64)
IsRangeFront Named rs i n ws = AreShown (name n ∷ before_range rs) ws × (length rs < 64) × (i ≡ any_interval)
IsRangeFront Negated rs i n ws = AreShown (sign 33 ∷ name n ∷ before_range rs) ws × (length rs < 64)
    × (i.negated ≡ true) × (i.low ≡ None) × (i.high ≡ None)
IsRangeFront Low rs i n ws = AreShown (behind_open i n (before_range rs)) ws × (length rs < 64)
    × (i.low ≡ None) × (i.high ≡ None)
IsRangeFront Colon rs i n ws = AreShown (behind_end i.low (behind_open i n (before_range rs))) ws × (length rs < 64)
    × (i.high ≡ None)
IsRangeFront High rs i n ws = AreShown (behind_colon i n (before_range rs)) ws × (length rs < 64) × (i.high ≡ None)
IsRangeFront Close rs i n ws = AreShown (behind_end i.high (behind_colon i n (before_range rs))) ws × (length rs < 64)
IsRangeFront Ranged rs i n ws = AreShown (behind_ranges rs) ws × (length rs ≤ 64) × AreSome rs
IsRangeFront _ rs i n ws = ⊥
