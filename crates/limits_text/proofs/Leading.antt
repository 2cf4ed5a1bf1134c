-- pieces in the order of their grammar lead on, from one control to the next
use Rattle.std.proofs.Common.{◌≡◌, ℕ, ◌+◌, arith, sym, refl, ap, ◌∙◌, inl, inr, List, [], ◌∷◌, Bool, true, false}
use Rattle.std.specs.Prelude.{◌==◌, bytes_eq, nat_le, length, ◌&&◌, ◌||◌, ℤ, Ok, Option, Some, None, reverse, codes, if◌then◌else◌}
use Rattle.std.proofs.lemmas.Bool.{true≢false, cases_Bool, eqb-true, and_parts}
use Rattle.decimal_coords.specs.DecimalOfText.{decimal_of_text}
use Rattle.decimal_coords.specs.Scanning.{accepts, run, is_digit}
use Rattle.decimal_coords.specs.declared.scan.Scan.TheVariants as scan
use Rattle.limits_text.specs.declared.control.WordKind.{WordKind}
use Rattle.limits_text.specs.declared.control.WordKind.TheVariants as kind
use Rattle.limits_text.specs.declared.control.PairAxis.{PairAxis}
use Rattle.limits_text.specs.declared.control.PairAxis.TheVariants.{X, Y, Z}
use Rattle.limits_text.specs.declared.control.Control.{Control}
use Rattle.limits_text.specs.declared.control.Control.TheVariants.{Name, Named, Negated, Low, Colon, High, Close, Ranged, Box, Pair, PairLow, PairComma, PairHigh, PairClose, Paired, Polygon, Shape, Ring, CornerX, CornerY, Corner, ShapeEnd, Point, PointOpen, PointX, PointY, PointClose, End}
use Rattle.limits_text.specs.declared.shapes.Box3.{Box3}
use Rattle.limits_text.specs.declared.shapes.Interval.{Interval}
use Rattle.limits_text.specs.declared.shapes.NamedRange.{NamedRange}
use Rattle.limits_text.specs.Words.{Word, kind_of, kind_from}
use Rattle.text_bytes.specs.Bytes.{is_letter}
use Rattle.limits_text.specs.Follows.{small, begins as begins_with, behind, behind_word, control, keyword, is_name, wants_space}
use Rattle.limits_text.specs.Wrong.{is_comma, commas}
use Rattle.limits_text.specs.Pieces as piece
use Rattle.limits_text.specs.Pieces.{Piece, IsShown, AreShown, sign, name, number, second, open_byte, close_byte, box_pieces}
use Rattle.limits_text.proofs.BoxFronts.{behind_pair}
use Rattle.limits_text.proofs.RingFronts.{before_corner, behind_corner, IsSome}
use Rattle.limits_text.proofs.RangeFronts.{behind_name, behind_end, behind_open, behind_colon, behind_range, before_range, behind_ranges, AreSome}
use Rattle.limits_text.proofs.Exits.{value_accepts}

-- the sort of the word that shows it
abbrev pub kind_shown : Piece → WordKind
kind_shown (sign b) = kind.Sign b
kind_shown (name n) = kind.Name
kind_shown (piece.keyword ks) = kind.Name
kind_shown (number n) = kind.Number
kind_shown (second n) = kind.Number

-- a word that shows it may stand there
abbrev pub Suits : Control → Piece → Type 0
Suits c (sign b) = kind_from b ≡ kind.Sign b
Suits c (name n) = keyword c ≡ None
Suits c (piece.keyword ks) = (keyword c ≡ Some ks) × ((w : Word) → is_name (Some ks) w.bytes ≡ true → kind_of w.bytes ≡ kind.Name)
Suits c (number n) = wants_space c ≡ false
Suits c (second n) = Unit {0}

dead_stays : (bs : List ℕ) → accepts (run scan.Dead bs) ≡ false
dead_stays [] = refl
dead_stays (b ∷ bs) = dead_stays bs

no_letter : (b : ℕ) → is_digit b ≡ true → is_letter b ≡ false
no_letter b e = grind arith

begins : (b : ℕ) (bs : List ℕ) → accepts (run scan.Start (b ∷ bs)) ≡ true → kind_from b ≡ kind.Number
begins b bs a = elim (cases_Bool (b == 43)) [
  | inl e ↦ ap kind_from (eqb-true b 43 e)
  | inr e ↦ elim (cases_Bool (b == 45)) [
    | inl f ↦ ap kind_from (eqb-true b 45 f)
    | inr f ↦ elim (cases_Bool (is_digit b)) [
      | inl g ↦ rw (no_letter b g, g) refl
      | inr g ↦ elim (cases_Bool (b == 46)) [
        | inl d ↦ ap kind_from (eqb-true b 46 d)
        | inr d ↦ absurd (true≢false (sym (rw (e, f, g, d) at a) ∙ dead_stays bs))
      ]
    ]
  ]
]

number_kind : (bs : List ℕ) (n : ℤ) → decimal_of_text bs ≡ Ok n → kind_of bs ≡ kind.Number
number_kind bs n e = go bs (value_accepts bs n e)
  where
    go : (bs : List ℕ) → accepts (run scan.Start bs) ≡ true → kind_of bs ≡ kind.Number
    go [] a = absurd (true≢false (sym a))
    go (b ∷ bs) a = begins b bs a

or_any : (a : Bool) → (a || true) ≡ true
or_any true = refl
or_any false = refl

pub shown_kind : (c : Control) (p : Piece) (w : Word) → Suits c p → IsShown p w → kind_of w.bytes ≡ kind_shown p
shown_kind c (sign b) w s h = rw h s
shown_kind c (name n) w s h = ap kind_of h.0 ∙ h.1
shown_kind c (piece.keyword ks) w s h = s.1 w h
shown_kind c (number n) w s h = number_kind w.bytes n h
shown_kind c (second n) w s h = number_kind w.bytes n h.0

shown_behind : (c : Control) (p : Piece) (w : Word) → Suits c p → IsShown p w → behind_word c w ≡ behind c (kind_shown p)
shown_behind c (sign b) w s h = rw (shown_kind c (sign b) w s h) refl
shown_behind c (name n) w s h = rw (shown_kind c (name n) w s h, s) refl
shown_behind c (piece.keyword ks) w s h = rw (shown_kind c (piece.keyword ks) w s h, s.0, h) refl
shown_behind c (number n) w s h = rw (shown_kind c (number n) w s h, s, or_any w.spaced, value_accepts w.bytes n h) refl
shown_behind c (second n) w s h = rw (shown_kind c (second n) w s h, h.1, value_accepts w.bytes n h.0) refl

-- from `start` on pieces, the latest first, lead to `end`
abbrev pub Leads : Control → List Piece → Control → Type 0
Leads start [] end = start ≡ end
Leads start (p ∷ ps) end = (c : Control) × Leads start ps c × Suits c p × (behind c (kind_shown p) ≡ Some end)

pub led : (start end : Control) (ps : List Piece) (ws : List Word) → Leads start ps end → AreShown ps ws → control start ws ≡ Some end
led start end [] [] l h = ap Some l
led start end [] (w ∷ ws) l h = absurd h
led start end (p ∷ ps) [] l h = absurd h
led start end (p ∷ ps) (w ∷ ws) l h = rw (led start l.0 ps ws l.1 h.1) (shown_behind l.0 p w l.2 h.0 ∙ l.3)

-- a letter in small letters
small_letter : (b k : ℕ) → is_letter k ≡ true → (small b == k) ≡ true → is_letter b ≡ true
small_letter b k l e = elim (cases_Bool (nat_le 65 b && nat_le b 90)) [
  | inl c ↦ rw c refl
  | inr c ↦ ap is_letter (eqb-true b k (rw c at e)) ∙ l
]

keyword_kind : (w : Word) (k : ℕ) (ks : List ℕ) → is_letter k ≡ true → is_name (Some (k ∷ ks)) w.bytes ≡ true → kind_of w.bytes ≡ kind.Name
keyword_kind w k ks l h = go w.bytes h
  where
    go : (bs : List ℕ) → is_name (Some (k ∷ ks)) bs ≡ true → kind_of bs ≡ kind.Name
    go [] h = absurd (omega (arith, eqb-true 0 (length (k ∷ ks)) h))
    go (b ∷ bs) h = rw (small_letter b k l (and_parts (small b == k) (begins_with bs ks) (and_parts _ _ h).0).0) refl

pub polygon_word : (w : Word) → is_name (Some (codes "polygon")) w.bytes ≡ true → kind_of w.bytes ≡ kind.Name
polygon_word w h = keyword_kind w 112 (codes "olygon") refl h

pub point_word : (w : Word) → is_name (Some (codes "point")) w.bytes ≡ true → kind_of w.bytes ≡ kind.Name
point_word w h = keyword_kind w 112 (codes "oint") refl h

-- ---- commas

no_comma : (bs : List ℕ) → (bs ≡ 44 ∷ [] → ⊥) → bytes_eq bs (44 ∷ []) ≡ false
no_comma [] h = refl
no_comma (b ∷ []) h = elim (cases_Bool (b == 44)) [
  | inl e ↦ absurd (h (ap (λ x. x ∷ []) (eqb-true b 44 e)))
  | inr e ↦ rw e refl
]
no_comma (b ∷ c ∷ bs) h = elim (cases_Bool (b == 44)) [
  | inl e ↦ rw e refl
  | inr e ↦ rw e refl
]

abbrev pub is_comma_piece : Piece → Bool
is_comma_piece (sign b) = b == 44
is_comma_piece _ = false

abbrev pub comma_pieces : List Piece → ℕ
comma_pieces [] = 0
comma_pieces (p ∷ ps) = if is_comma_piece p then comma_pieces ps + 1 else comma_pieces ps

-- a word of another sort is no comma
other_comma : (w : Word) (k : WordKind) → kind_of w.bytes ≡ k → (k ≡ kind.Sign 44 → ⊥) → is_comma w ≡ false
other_comma w k e n = no_comma w.bytes (λ z. n (sym e ∙ ap kind_of z))

no_name : kind.Name ≡ kind.Sign 44 → ⊥
no_name z = cc

no_number : kind.Number ≡ kind.Sign 44 → ⊥
no_number z = cc

shown_comma : (c : Control) (p : Piece) (w : Word) → Suits c p → IsShown p w → is_comma w ≡ is_comma_piece p
shown_comma c (sign b) w s h = rw h (go (b == 44))
  where
    go : (t : Bool) → (t && true) ≡ t
    go true = refl
    go false = refl
shown_comma c (name n) w s h = other_comma w kind.Name (shown_kind c (name n) w s h) no_name
shown_comma c (piece.keyword ks) w s h = other_comma w kind.Name (s.1 w h) no_name
shown_comma c (number n) w s h = other_comma w kind.Number (number_kind w.bytes n h) no_number
shown_comma c (second n) w s h = other_comma w kind.Number (number_kind w.bytes n h.0) no_number

pub commas_led : (start end : Control) (ps : List Piece) (ws : List Word) → Leads start ps end → AreShown ps ws → commas ws ≡ comma_pieces ps
commas_led start end [] [] l h = refl
commas_led start end [] (w ∷ ws) l h = absurd h
commas_led start end (p ∷ ps) [] l h = absurd h
commas_led start end (p ∷ ps) (w ∷ ws) l h = rw (shown_comma l.0 p w l.2 h.0, commas_led start l.0 ps ws l.1 h.1) refl

-- ---- points

pub point_leads : (p : ℤ × ℤ) → Leads Point (reverse (piece.point_pieces p)) End
point_leads p = (PointClose, (PointY, (PointX, (PointOpen, (Point, refl, (refl, point_word), refl), refl, refl), refl, refl), tt, refl), refl, refl)

-- ---- polygons

pub before_corner_leads : (ps : List (ℤ × ℤ)) → Leads Polygon (before_corner ps) CornerX
before_corner_leads [] = (Ring, (Shape, (Polygon, refl, (refl, polygon_word), refl), refl, refl), refl, refl)
before_corner_leads (p ∷ ps) = (Corner, (CornerY, (CornerX, before_corner_leads ps, refl, refl), tt, refl), refl, refl)

pub behind_corner_leads : (ps : List (ℤ × ℤ)) → IsSome ps → Leads Polygon (behind_corner ps) Corner
behind_corner_leads [] i = absurd i
behind_corner_leads (p ∷ ps) i = (CornerY, (CornerX, before_corner_leads ps, refl, refl), tt, refl)

pub polygon_leads : (ps : List (ℤ × ℤ)) → IsSome ps → Leads Polygon (sign 41 ∷ sign 41 ∷ behind_corner ps) End
polygon_leads ps i = (ShapeEnd, (Corner, behind_corner_leads ps i, refl, refl), refl, refl)

-- ---- boxes

pair_leads : (k : PairAxis) (p : ℤ × ℤ) (ps : List Piece) → Leads Box ps (Pair k) → Leads Box (behind_pair p ps) (Paired k)
pair_leads X p ps l = (PairClose X, (PairHigh X, (PairComma X, (PairLow X, (Pair X, l, refl, refl), refl, refl), refl, refl), refl, refl), refl, refl)
pair_leads Y p ps l = (PairClose Y, (PairHigh Y, (PairComma Y, (PairLow Y, (Pair Y, l, refl, refl), refl, refl), refl, refl), refl, refl), refl, refl)
pair_leads Z p ps l = (PairClose Z, (PairHigh Z, (PairComma Z, (PairLow Z, (Pair Z, l, refl, refl), refl, refl), refl, refl), refl, refl), refl, refl)

abbrev pub flat_pieces : ℤ × ℤ → ℤ × ℤ → List Piece
flat_pieces x y = behind_pair y (sign 44 ∷ behind_pair x (sign 40 ∷ []))

pub flat_leads : (x y : ℤ × ℤ) → Leads Box (flat_pieces x y) (Paired Y)
flat_leads x y = pair_leads Y y (sign 44 ∷ behind_pair x (sign 40 ∷ [])) (Paired X, pair_leads X x (sign 40 ∷ []) (Box, refl, refl, refl), refl, refl)

pub box_leads : (b : Box3) → Leads Box (reverse (box_pieces b)) End
box_leads b = go b.z refl
  where
    go : (z : Option (ℤ × ℤ)) → b.z ≡ z → Leads Box (reverse (box_pieces b)) End
    go None e = rw e (Paired Y, flat_leads b.x b.y, refl, refl)
    go (Some z) e = rw e (Paired Z, pair_leads Z z (sign 44 ∷ flat_pieces b.x b.y) (Paired Y, flat_leads b.x b.y, refl, refl), refl, refl)

-- ---- ranges

abbrev negated_or : Bool → Control
negated_or t = if t then Negated else Named

name_leads : (i : Interval) (n : List ℕ) (ps : List Piece) → Leads Name ps Name → Leads Name (behind_name i n ps) (negated_or i.negated)
name_leads i n ps l = go i.negated
  where
    go : (t : Bool) → Leads Name (if t then sign 33 ∷ name n ∷ ps else name n ∷ ps) (negated_or t)
    go true = (Named, (Name, l, refl, refl), refl, refl)
    go false = (Name, l, refl, refl)

open_leads : (t o : Bool) (ps : List Piece) → Leads Name ps (negated_or t) → Leads Name (sign (open_byte o) ∷ ps) Low
open_leads true true ps l = (Negated, l, refl, refl)
open_leads true false ps l = (Negated, l, refl, refl)
open_leads false true ps l = (Named, l, refl, refl)
open_leads false false ps l = (Named, l, refl, refl)

colon_leads : (o : Option ℤ) (ps : List Piece) → Leads Name ps Low → Leads Name (sign 58 ∷ behind_end o ps) High
colon_leads None ps l = (Low, l, refl, refl)
colon_leads (Some a) ps l = (Colon, (Low, l, refl, refl), refl, refl)

close_leads : (o : Option ℤ) (t : Bool) (ps : List Piece) → Leads Name ps High → Leads Name (sign (close_byte t) ∷ behind_end o ps) Ranged
close_leads None true ps l = (High, l, refl, refl)
close_leads None false ps l = (High, l, refl, refl)
close_leads (Some a) true ps l = (Close, (High, l, refl, refl), refl, refl)
close_leads (Some a) false ps l = (Close, (High, l, refl, refl), refl, refl)

range_leads : (r : NamedRange) (ps : List Piece) → Leads Name ps Name → Leads Name (behind_range r ps) Ranged
range_leads r ps l =
    let i = r.interval in
    close_leads i.high i.high_in (behind_colon i r.name ps) (colon_leads i.low (behind_open i r.name ps)
    (open_leads i.negated i.low_in (behind_name i r.name ps) (name_leads i r.name ps l)))

pub before_range_leads : (rs : List NamedRange) → Leads Name (before_range rs) Name
before_range_leads [] = refl
before_range_leads (r ∷ rs) = (Ranged, range_leads r (before_range rs) (before_range_leads rs), refl, refl)

pub ranges_lead : (rs : List NamedRange) → AreSome rs → Leads Name (behind_ranges rs) Ranged
ranges_lead [] i = absurd i
ranges_lead (r ∷ rs) i = range_leads r (before_range rs) (before_range_leads rs)

end_commas : (o : Option ℤ) (ps : List Piece) → comma_pieces (behind_end o ps) ≡ comma_pieces ps
end_commas None ps = refl
end_commas (Some a) ps = refl

open_commas : (t : Bool) (ps : List Piece) → comma_pieces (sign (open_byte t) ∷ ps) ≡ comma_pieces ps
open_commas true ps = refl
open_commas false ps = refl

close_commas : (t : Bool) (ps : List Piece) → comma_pieces (sign (close_byte t) ∷ ps) ≡ comma_pieces ps
close_commas true ps = refl
close_commas false ps = refl

name_commas : (i : Interval) (n : List ℕ) (ps : List Piece) → comma_pieces (behind_name i n ps) ≡ comma_pieces ps
name_commas i n ps = go i.negated
  where
    go : (t : Bool) → comma_pieces (if t then sign 33 ∷ name n ∷ ps else name n ∷ ps) ≡ comma_pieces ps
    go true = refl
    go false = refl

pub range_commas : (r : NamedRange) (ps : List Piece) → comma_pieces (behind_range r ps) ≡ comma_pieces ps
range_commas r ps =
    let i = r.interval in
    close_commas i.high_in (behind_end i.high (behind_colon i r.name ps)) ∙ end_commas i.high (behind_colon i r.name ps)
    ∙ end_commas i.low (behind_open i r.name ps) ∙ open_commas i.low_in (behind_name i r.name ps) ∙ name_commas i r.name ps

pub before_range_commas : (rs : List NamedRange) → comma_pieces (before_range rs) ≡ length rs
before_range_commas [] = refl
before_range_commas (r ∷ rs) = omega (arith, range_commas r (before_range rs), before_range_commas rs)

pub before_corner_commas : (ps : List (ℤ × ℤ)) → comma_pieces (before_corner ps) ≡ length ps
before_corner_commas [] = refl
before_corner_commas (p ∷ ps) = omega (arith, before_corner_commas ps)
