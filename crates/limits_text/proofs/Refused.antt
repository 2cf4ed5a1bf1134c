-- a text with a fault says nothing, and decimals are held
use Rattle.std.proofs.Common.{◌≡◌, ℕ, zero, suc, ◌≤◌, arith, subst, sym, refl, ap, ◌∙◌, List, [], ◌∷◌, ◌++◌, length, Bool, true, false}
use Rattle.std.specs.Prelude.{ℤ, Option, Some, None, Result, Ok, Err, IfOk, IfErr, reverse, unsigned_abs}
use Rattle.std.proofs.lemmas.Bool.{true≢false}
use Rattle.std.proofs.lemmas.List.{reverse-reverse, length-reverse}
use Rattle.decimal_coords.specs.Grammar.{with_sign}
use Rattle.decimal_coords.specs.DecimalOfText.{decimal_of_text}
use Rattle.decimal_coords.proofs.TextDecimals.{decimal_of_text_is}
use Rattle.limits_text.specs.declared.control.Control.{Control}
use Rattle.limits_text.specs.declared.control.Control.TheVariants.{Name, Ranged, Box, Polygon, Point, End}
use Rattle.limits_text.specs.declared.faults.TextErr.{TextErr}
use Rattle.limits_text.specs.declared.faults.TextErr.TheVariants.{Fault, Memory}
use Rattle.limits_text.specs.declared.shapes.Box3.{Box3}
use Rattle.limits_text.specs.declared.shapes.NamedRange.{NamedRange}
use Rattle.limits_text.specs.Words.{Word, front_of, words_in}
use Rattle.limits_text.specs.Follows.{is_end, may_be_end}
use Rattle.limits_text.specs.Wrong.{is_ring}
use Rattle.limits_text.specs.Fronts.{IsText, IsFault}
use Rattle.limits_text.specs.Pieces.{IsBoundsText, Piece, IsShown, AreShown, words_of, sign, number, second, point_pieces, box_pieces, polygon_pieces, ranges_pieces, further_corners, IsPointText, IsPolygonText}
use Rattle.limits_text.proofs.RingFronts.{behind_corner, IsSome}
use Rattle.limits_text.proofs.RangeFronts.{behind_ranges, AreSome}
use Rattle.limits_text.specs.Texts.{point_of, bounds_of, polygon_of, ranges_of}
use Rattle.limits_text.specs.Causes.{IsCause, IsRefused}
use Rattle.limits_text.specs.Held.{IsHeld, AreHeld, IsBoxHeld}
use Rattle.limits_text.proofs.Exits.{whole_is}
use Rattle.limits_text.proofs.Shown.{shown_reverse}
use Rattle.limits_text.proofs.Leading.{Leads, led, point_leads, box_leads, polygon_leads, ranges_lead}
use Rattle.limits_text.proofs.Right.{point_holds, box_holds, polygon_holds, ranges_hold}
use Rattle.limits_text.proofs.OneFault.{right_text}
use Rattle.limits_text.proofs.RingSteps.{ring_some}
use Rattle.limits_text.proofs.RangeSteps.{some_back}
use Rattle.limits_text.proofs.Said.{point_said, box_said, polygon_said, ranges_said}

back : (ps : List Piece) (text : List ℕ) → AreShown ps (words_of text) → AreShown (reverse ps) (words_in (front_of text))
back ps text h = subst (AreShown (reverse ps)) (reverse-reverse (words_in (front_of text))) (shown_reverse ps (words_of text) h)

-- pieces that lead to an end
ended : (start end : Control) (ps : List Piece) (text : List ℕ) → Leads start ps end → is_end end ≡ true → AreShown ps (words_in (front_of text)) → IsText start text
ended start end ps text l e h = whole_is start (front_of text) ∙ ap may_be_end (led start end ps (words_in (front_of text)) l h) ∙ e

nothing : {V : Type 0} (said : Option V) → ((v : V) → said ≡ Some v → ⊥) → said ≡ None
nothing None f = refl
nothing (Some v) f = absurd (f v refl)

pub point_refused : (text : List ℕ) (at : ℕ) → IsFault Point text at → point_of text ≡ None
point_refused text at f = nothing (point_of text) go
  where
    go : (p : ℤ × ℤ) → point_of text ≡ Some p → ⊥
    go p e =
        let h = back (point_pieces p) text (point_said text p e) in
        right_text Point text at (ended Point End (reverse (point_pieces p)) text (point_leads p) refl h) (point_holds p (words_in (front_of text)) h) f

pub box_refused : (text : List ℕ) (at : ℕ) → IsFault Box text at → bounds_of text ≡ None
box_refused text at f = nothing (bounds_of text) go
  where
    go : (b : Box3) → bounds_of text ≡ Some b → ⊥
    go b e =
        let s = box_said text b e in
        let h = back (box_pieces b) text s.0 in
        right_text Box text at (ended Box End (reverse (box_pieces b)) text (box_leads b) refl h) (box_holds b (words_in (front_of text)) h s.1 s.2 s.3) f

ring_is_some : (ps : List (ℤ × ℤ)) → is_ring (reverse ps) ≡ true → IsSome ps
ring_is_some [] r = absurd (true≢false (sym r))
ring_is_some (p ∷ ps) r = tt

pub polygon_refused : (text : List ℕ) (at : ℕ) → IsFault Polygon text at → polygon_of text ≡ None
polygon_refused text at f = nothing (polygon_of text) go
  where
    go : (ps : List (ℤ × ℤ)) → polygon_of text ≡ Some ps → ⊥
    go ps e =
        let s = polygon_said text ps e in
        let h : AreShown (sign 41 ∷ sign 41 ∷ behind_corner (reverse ps)) (words_in (front_of text)) = rw (← ring_some ps s.1) (back (polygon_pieces ps) text s.0) in
        let r : is_ring (reverse (reverse ps)) ≡ true = ap is_ring (reverse-reverse ps) ∙ s.1 in
        let i = ring_is_some (reverse ps) r in
        right_text Polygon text at (ended Polygon End (sign 41 ∷ sign 41 ∷ behind_corner (reverse ps)) text (polygon_leads (reverse ps) i) refl h)
        (polygon_holds (reverse ps) (words_in (front_of text)) h i r (omega (arith, length-reverse ps, s.2))) f

are_some : (rs : List NamedRange) → 1 ≤ length rs → AreSome rs
are_some [] l = absurd (omega arith)
are_some (r ∷ rs) l = tt

pub ranges_refused : (text : List ℕ) (at : ℕ) → IsFault Name text at → ranges_of text ≡ None
ranges_refused text at f = nothing (ranges_of text) go
  where
    go : (rs : List NamedRange) → ranges_of text ≡ Some rs → ⊥
    go rs e =
        let s = ranges_said text rs e in
        let i = are_some (reverse rs) (omega (arith, length-reverse rs, s.1)) in
        let h : AreShown (behind_ranges (reverse rs)) (words_in (front_of text)) = rw (← some_back rs i) (back (ranges_pieces rs) text s.0) in
        right_text Name text at (ended Name Ranged (behind_ranges (reverse rs)) text (ranges_lead (reverse rs) i) refl h)
        (ranges_hold (reverse rs) (words_in (front_of text)) h i (omega (arith, length-reverse rs, s.2))) f

-- ---- held decimals

size_signed : (t : Bool) (n : ℕ) → unsigned_abs (with_sign t n) ≡ n
size_signed true zero = refl
size_signed true (suc n) = refl
size_signed false n = refl

decimal_held : (bs : List ℕ) (n : ℤ) → decimal_of_text bs ≡ Ok n → IsHeld n
decimal_held bs n e =
    let h = rw e at (decimal_of_text_is bs) in
    rw (h.value, size_signed h.negative _) h.held

abbrev IsPieceHeld : Piece → Type 0
IsPieceHeld (number n) = IsHeld n
IsPieceHeld (second n) = IsHeld n
IsPieceHeld _ = Unit {0}

abbrev ArePiecesHeld : List Piece → Type 0
ArePiecesHeld [] = Unit {0}
ArePiecesHeld (p ∷ ps) = IsPieceHeld p × ArePiecesHeld ps

piece_held : (p : Piece) (w : Word) → IsShown p w → IsPieceHeld p
piece_held (number n) w h = decimal_held w.bytes n h
piece_held (second n) w h = decimal_held w.bytes n h.0
piece_held _ w h = tt

pieces_held : (ps : List Piece) (ws : List Word) → AreShown ps ws → ArePiecesHeld ps
pieces_held [] ws h = tt
pieces_held (p ∷ ps) [] h = absurd h
pieces_held (p ∷ ps) (w ∷ ws) h = (piece_held p w h.0, pieces_held ps ws h.1)

pub point_held : (text : List ℕ) (p : ℤ × ℤ) → IsPointText text p → IsHeld p.0 × IsHeld p.1
point_held text p h = let s = pieces_held (point_pieces p) (words_of text) h in (s.1.1.0, s.1.1.1.0)

pub box_held : (text : List ℕ) (b : Box3) → IsBoundsText text b → IsBoxHeld b
box_held text b h = go b.z refl (pieces_held (box_pieces b) (words_of text) h.0)
  where
    go : (z : Option (ℤ × ℤ)) → b.z ≡ z → ArePiecesHeld (box_pieces (record b { z = z })) → IsBoxHeld b
    go None e s = ((s.1.1.0, s.1.1.1.1.0), (s.1.1.1.1.1.1.1.1.0, s.1.1.1.1.1.1.1.1.1.1.0), rw e tt)
    go (Some z) e s =
        let t = s.1.1.1.1.1.1.1.1.1.1.1.1 in
        ((s.1.1.0, s.1.1.1.1.0), (s.1.1.1.1.1.1.1.1.0, s.1.1.1.1.1.1.1.1.1.1.0), rw e (t.1.1.0, t.1.1.1.1.0))

further_held : (ps : List (ℤ × ℤ)) → ArePiecesHeld (further_corners ps ++ sign 41 ∷ sign 41 ∷ []) → AreHeld ps
further_held [] h = tt
further_held (p ∷ ps) h = (h.1.0, h.1.1.0, further_held ps h.1.1.1)

pub polygon_held : (text : List ℕ) (ps : List (ℤ × ℤ)) → IsPolygonText text ps → AreHeld ps
polygon_held text [] h = tt
polygon_held text (p ∷ ps) h =
    let s = pieces_held (polygon_pieces (p ∷ ps)) (words_of text) h.0 in
    (s.1.1.1.0, s.1.1.1.1.0, further_held ps s.1.1.1.1.1)

-- ---- results

pub ok_so : {V E : Type 0} (P Q : V → Type 0) (r : Result V E) → ((v : V) → P v → Q v) → IfOk r P → IfOk r Q
ok_so P Q (Ok v) f h = f v h
ok_so P Q (Err e) f h = tt

pub err_so : {V E : Type 0} (P Q : E → Type 0) (r : Result V E) → ((e : E) → P e → Q e) → IfErr r P → IfErr r Q
err_so P Q (Ok v) f h = tt
err_so P Q (Err e) f h = f e h

pub cause_refused : {V : Type 0} (start : Control) (text : List ℕ) (said : Option V) → ((at : ℕ) → IsFault start text at → said ≡ None) → (e : TextErr) → IsCause start text e
    → IsRefused e said
cause_refused start text said f (Fault g) h = f g.at h
cause_refused start text said f Memory h = tt
