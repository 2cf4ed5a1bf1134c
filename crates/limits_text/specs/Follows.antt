-- the grammars: which word may follow which
use Rattle.std.specs.Prelude.{ℕ, ◌+◌, List, [], ◌∷◌, length, codes, Bool, true, false, not, ◌&&◌, ◌||◌, ◌==◌, nat_le, if◌then◌else◌, Option, Some, None, is_some}
use Rattle.std.specs.Bool.{then_some}
use Rattle.decimal_coords.specs.Scanning.{accepts, run as scan}
use Rattle.decimal_coords.specs.DecimalOfText.{is_dead}
use Rattle.decimal_coords.specs.declared.scan.Scan.TheVariants.{Start}
use Rattle.limits_text.specs.declared.control.WordKind.{WordKind}
use Rattle.limits_text.specs.declared.control.WordKind.TheVariants as kind
use Rattle.limits_text.specs.declared.control.PairAxis.TheVariants.{X, Y, Z}
use Rattle.limits_text.specs.declared.control.Control.{Control}
use Rattle.limits_text.specs.declared.control.Control.TheVariants.{Name, Named, Negated, Low, Colon, High, Close, Ranged, Box, Pair, PairLow, PairComma, PairHigh, PairClose, Paired, Polygon, Shape, Ring, CornerX, CornerY, Corner, ShapeEnd, Point, PointOpen, PointX, PointY, PointClose, End}
use Rattle.limits_text.specs.Words.{Word, Front, gap, inside, kind_of}

abbrev pub if_is : ℕ → ℕ → Control → Option Control → Option Control
if_is b sign c other = if b == sign then Some c else other

-- behind a sign
abbrev pub behind_sign : Control → ℕ → Option Control
behind_sign Named b = if_is b 33 Negated (then_some (b == 91 || b == 40) Low)
behind_sign Negated b = then_some (b == 91 || b == 40) Low
behind_sign Low b = then_some (b == 58) High
behind_sign Colon b = then_some (b == 58) High
behind_sign High b = then_some (b == 93 || b == 41) Ranged
behind_sign Close b = then_some (b == 93 || b == 41) Ranged
behind_sign Ranged b = then_some (b == 44) Name
behind_sign Box b = then_some (b == 40) (Pair X)
behind_sign (Pair k) b = then_some (b == 91) (PairLow k)
behind_sign (PairComma k) b = then_some (b == 44) (PairHigh k)
behind_sign (PairClose k) b = then_some (b == 93) (Paired k)
behind_sign (Paired X) b = then_some (b == 44) (Pair Y)
behind_sign (Paired Y) b = if_is b 44 (Pair Z) (then_some (b == 41) End)
behind_sign (Paired Z) b = then_some (b == 41) End
behind_sign Shape b = then_some (b == 40) Ring
behind_sign Ring b = then_some (b == 40) CornerX
behind_sign Corner b = if_is b 44 CornerX (then_some (b == 41) ShapeEnd)
behind_sign ShapeEnd b = then_some (b == 41) End
behind_sign PointOpen b = then_some (b == 40) PointX
behind_sign PointClose b = then_some (b == 41) End
behind_sign _ b = None

abbrev pub behind_name : Control → Option Control
behind_name Name = Some Named
behind_name Polygon = Some Shape
behind_name Point = Some PointOpen
behind_name _ = None

abbrev pub behind_number : Control → Option Control
behind_number Low = Some Colon
behind_number High = Some Close
behind_number (PairLow k) = Some (PairComma k)
behind_number (PairHigh k) = Some (PairClose k)
behind_number CornerX = Some CornerY
behind_number CornerY = Some Corner
behind_number PointX = Some PointY
behind_number PointY = Some PointClose
behind_number _ = None

abbrev pub behind : Control → WordKind → Option Control
behind c kind.Name = behind_name c
behind c kind.Number = behind_number c
behind c (kind.Sign b) = behind_sign c b

-- the one name that may stand here, in small letters
abbrev pub keyword : Control → Option (List ℕ)
keyword Polygon = Some (codes "polygon")
keyword Point = Some (codes "point")
keyword _ = None

-- a decimal must have a space before it here
abbrev pub wants_space : Control → Bool
wants_space CornerY = true
wants_space PointY = true
wants_space _ = false

abbrev pub small : ℕ → ℕ
small b = if nat_le 65 b && nat_le b 90 then b + 32 else b

-- the bytes are the first ones of the keyword, without regard to case
abbrev pub begins : List ℕ → List ℕ → Bool
begins [] ks = true
begins (b ∷ bs) [] = false
begins (b ∷ bs) (k ∷ ks) = small b == k && begins bs ks

abbrev pub may_name : Option (List ℕ) → List ℕ → Bool
may_name None bs = true
may_name (Some ks) bs = begins bs ks

abbrev pub is_name : Option (List ℕ) → List ℕ → Bool
is_name None bs = true
is_name (Some ks) bs = begins bs ks && length bs == length ks

-- a word of this sort may begin so
abbrev pub may_stand : Control → WordKind → Word → Bool
may_stand c kind.Name w = may_name (keyword c) w.bytes
may_stand c kind.Number w = (w.spaced || not (wants_space c)) && not (is_dead (scan Start w.bytes))
may_stand c (kind.Sign b) w = true

-- it may stand there as it is
abbrev pub stands : Control → WordKind → Word → Bool
stands c kind.Name w = is_name (keyword c) w.bytes
stands c kind.Number w = (w.spaced || not (wants_space c)) && accepts (scan Start w.bytes)
stands c (kind.Sign b) w = true

abbrev pub fits : Control → Word → Bool
fits c w = is_some (behind c (kind_of w.bytes)) && may_stand c (kind_of w.bytes) w

-- what may come behind the word
abbrev pub behind_word : Control → Word → Option Control
behind_word c w = if stands c (kind_of w.bytes) w then behind c (kind_of w.bytes) else None

abbrev pub next_behind : Option Control → Word → Option Control
next_behind None w = None
next_behind (Some c) w = behind_word c w

-- what may come behind words, the latest first
abbrev pub control : Control → List Word → Option Control
control start [] = Some start
control start (w ∷ ws) = next_behind (control start ws) w

abbrev pub is_end : Control → Bool
is_end Ranged = true
is_end End = true
is_end _ = false

abbrev pub may_be_end : Option Control → Bool
may_be_end None = false
may_be_end (Some c) = is_end c

abbrev pub may_fit : Option Control → Word → Bool
may_fit None w = false
may_fit (Some c) w = fits c w

-- a text of the grammar may begin so
abbrev pub is_alive : Control → Front → Bool
is_alive start (gap n ws) = is_some (control start ws)
is_alive start (inside n ws w) = may_fit (control start ws) w

abbrev pub is_whole : Control → Front → Bool
is_whole start (gap n ws) = may_be_end (control start ws)
is_whole start (inside n ws w) = may_be_end (next_behind (control start ws) w)
