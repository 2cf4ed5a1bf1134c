-- words that show the pieces of a value hold no wrong value
use Rattle.std.proofs.Common.{◌≡◌, ℕ, ◌+◌, ◌<◌, ◌≤◌, arith, sym, refl, inl, inr, List, [], ◌∷◌, length, Bool, true, false}
use Rattle.std.specs.Prelude.{nat_le, ℤ, ◌≤ℤ◌, ◌<ℤ◌, Option, Some, None, reverse, int_lt, if◌then◌else◌}
use Rattle.std.proofs.lemmas.Bool.{true≢false, cases_Bool, lt-leb}
use Rattle.std.specs.Int.Signed.{lt_z_yes, clash_ℤ}
use Rattle.limits_text.specs.declared.control.Control.{Control}
use Rattle.limits_text.specs.declared.control.Control.TheVariants.{Name, Box, Polygon, Corner, ShapeEnd, Point}
use Rattle.limits_text.specs.declared.shapes.Box3.{Box3}
use Rattle.limits_text.specs.declared.shapes.NamedRange.{NamedRange}
use Rattle.limits_text.specs.Words.{Word, kind_of}
use Rattle.limits_text.specs.Follows.{control}
use Rattle.limits_text.specs.Wrong.{first_wrong, wrong_word, wrong_sign, wrong_pair, wrong_ring, is_past, are_too_many, begins_part, commas, is_comma, is_ring}
use Rattle.limits_text.specs.Pieces as piece
use Rattle.limits_text.specs.Pieces.{Piece, IsShown, AreShown, IsInOrder, AreInOrder, box_pieces, point_pieces, sign, name, number, second}
use Rattle.limits_text.proofs.Exits.{and_false}
use Rattle.limits_text.proofs.BoxFronts.{behind_pair}
use Rattle.limits_text.proofs.RingFronts.{before_corner, behind_corner, IsSome}
use Rattle.limits_text.proofs.RangeFronts.{before_range, behind_ranges, AreSome}
use Rattle.limits_text.proofs.Leading.{Leads, Suits, shown_kind, led, comma_pieces, commas_led, point_leads, behind_corner_leads, polygon_leads, box_leads, flat_pieces, ranges_lead, before_range_commas, before_corner_commas, range_commas}
use Rattle.limits_text.proofs.RingSteps.{corners_are}

-- no sign ends a wrong value behind words that show the pieces
abbrev IsSignRight : Control → Piece → List Piece → Type 0
IsSignRight start (sign b) ps = (ws : List Word) → AreShown ps ws → wrong_sign start b ws ≡ None
IsSignRight start _ ps = Unit {0}

abbrev EndRight : Control → List Piece → Type 0
EndRight start [] = Unit {0}
EndRight start (p ∷ ps) = IsSignRight start p ps × EndRight start ps

word_right : (start c : Control) (p : Piece) (ps : List Piece) (w : Word) (ws : List Word) → Suits c p → IsShown p w → AreShown ps ws → IsSignRight start p ps
    → wrong_word start (kind_of w.bytes) w ws ≡ None
word_right start c (sign b) ps w ws s h hs g = rw (shown_kind c (sign b) w s h) (g ws hs)
word_right start c (name n) ps w ws s h hs g = rw (shown_kind c (name n) w s h) refl
word_right start c (piece.keyword ks) ps w ws s h hs g = rw (shown_kind c (piece.keyword ks) w s h) refl
word_right start c (number n) ps w ws s h hs g = rw (shown_kind c (number n) w s h, h) refl
word_right start c (second n) ps w ws s h hs g = rw (shown_kind c (second n) w s h, h.0) refl

roomy : (start : Control) (ws : List Word) → are_too_many start (commas ws) ≡ false → is_past start ws ≡ false
roomy start ws e = rw e (and_false (begins_part (control start ws)))

fewer : (w : Word) (ws : List Word) → commas ws ≤ commas (w ∷ ws)
fewer w ws = go (is_comma w)
  where
    go : (t : Bool) → commas ws ≤ (if t then commas ws + 1 else commas ws)
    go true = omega arith
    go false = omega arith

all_right : (start end : Control) (ps : List Piece) (ws : List Word) → Leads start ps end → AreShown ps ws → EndRight start ps
    → ((n : ℕ) → n ≤ commas ws → are_too_many start n ≡ false) → first_wrong start ws ≡ None
all_right start end [] [] l h g f = refl
all_right start end [] (w ∷ ws) l h g f = absurd h
all_right start end (p ∷ ps) [] l h g f = absurd h
all_right start end (p ∷ ps) (w ∷ ws) l h g f =
    let few = fewer w ws in
    rw (all_right start l.0 ps ws l.1 h.1 g.1 (λ n z. f n (omega arith)), roomy start ws (f (commas ws) few))
    (word_right start l.0 p ps w ws l.2 h.0 h.1 g.0)

-- a grammar in which no sign ends a wrong value
quiet : (start : Control) → ((b : ℕ) (ws : List Word) → wrong_sign start b ws ≡ None) → (ps : List Piece) → EndRight start ps
quiet start q [] = tt
quiet start q (sign b ∷ ps) = ((λ ws h. q b ws), quiet start q ps)
quiet start q (name n ∷ ps) = (tt, quiet start q ps)
quiet start q (piece.keyword ks ∷ ps) = (tt, quiet start q ps)
quiet start q (number n ∷ ps) = (tt, quiet start q ps)
quiet start q (second n ∷ ps) = (tt, quiet start q ps)

-- ---- points

pub point_holds : (p : ℤ × ℤ) (ws : List Word) → AreShown (reverse (point_pieces p)) ws → first_wrong Point ws ≡ None
point_holds p ws h =
    let ps = reverse (point_pieces p) in
    all_right Point _ ps ws (point_leads p) h (quiet Point (λ b ws. refl) ps) (λ n z. refl)

-- ---- boxes

not_less : (a b : ℤ) → a ≤ℤ b → int_lt b a ≡ false
not_less a b h = elim (cases_Bool (int_lt b a)) [
  | inl e ↦ let l : b <ℤ a = lt_z_yes {a = b} {b = a} (rw e tt) in clash_ℤ l h
  | inr e ↦ e
]

pair_fine : (p : ℤ × ℤ) (ps : List Piece) (ws : List Word) → IsInOrder p → AreShown (number p.1 ∷ sign 44 ∷ number p.0 ∷ sign 91 ∷ ps) ws → wrong_pair ws ≡ None
pair_fine p ps [] o h = absurd h
pair_fine p ps (w ∷ []) o h = absurd h.1
pair_fine p ps (w ∷ v ∷ []) o h = absurd h.1.1
pair_fine p ps (w ∷ v ∷ u ∷ []) o h = absurd h.1.1.1
pair_fine p ps (w ∷ v ∷ u ∷ t ∷ ws) o h = rw (h.0, h.1.1.0, not_less p.0 p.1 o) refl

pair_ends : (p : ℤ × ℤ) (ps : List Piece) → IsInOrder p → EndRight Box ps → EndRight Box (behind_pair p ps)
pair_ends p ps o e = ((λ ws h. pair_fine p ps ws o h), (tt, ((λ ws h. refl), (tt, ((λ ws h. refl), e)))))

flat_ends : (x y : ℤ × ℤ) → IsInOrder x → IsInOrder y → EndRight Box (flat_pieces x y)
flat_ends x y a b =
    pair_ends y (sign 44 ∷ behind_pair x (sign 40 ∷ [])) b ((λ ws h. refl), pair_ends x (sign 40 ∷ []) a ((λ ws h. refl), tt))

box_ends : (b : Box3) (z : Option (ℤ × ℤ)) → b.z ≡ z → IsInOrder b.x → IsInOrder b.y → AreInOrder z → EndRight Box (reverse (box_pieces b))
box_ends b None e x y z = rw e ((λ ws h. refl), flat_ends b.x b.y x y)
box_ends b (Some p) e x y z = rw e ((λ ws h. refl), pair_ends p (sign 44 ∷ flat_pieces b.x b.y) z ((λ ws h. refl), flat_ends b.x b.y x y))

pub box_holds : (b : Box3) (ws : List Word) → AreShown (reverse (box_pieces b)) ws → IsInOrder b.x → IsInOrder b.y → AreInOrder b.z → first_wrong Box ws ≡ None
box_holds b ws h x y z = all_right Box _ (reverse (box_pieces b)) ws (box_leads b) h (box_ends b b.z refl x y z) (λ n z. refl)

-- ---- polygons

before_ends : (ps : List (ℤ × ℤ)) → EndRight Polygon (before_corner ps)
before_ends [] = ((λ ws h. refl), ((λ ws h. refl), (tt, tt)))
before_ends (p ∷ ps) = ((λ ws h. refl), (tt, (tt, before_ends ps)))

behind_ends : (ps : List (ℤ × ℤ)) → EndRight Polygon (behind_corner ps)
behind_ends [] = tt
behind_ends (p ∷ ps) = (tt, (tt, before_ends ps))

ring_fine : (ps : List (ℤ × ℤ)) (ws : List Word) → is_ring (reverse ps) ≡ true → AreShown (behind_corner ps) ws → wrong_ring ws ≡ None
ring_fine [] ws r h = absurd (true≢false (sym r))
ring_fine (p ∷ ps) [] r h = absurd h
ring_fine (p ∷ ps) (y ∷ []) r h = absurd h.1
ring_fine (p ∷ ps) (y ∷ x ∷ ws) r h = rw (corners_are (p ∷ ps) (y ∷ x ∷ ws) h, r) refl

first_end : (ps : List (ℤ × ℤ)) (ws : List Word) → IsSome ps → is_ring (reverse ps) ≡ true → AreShown (behind_corner ps) ws → wrong_sign Polygon 41 ws ≡ None
first_end ps ws i r h = rw (led Polygon Corner (behind_corner ps) ws (behind_corner_leads ps i) h) (ring_fine ps ws r h)

second_end : (ps : List (ℤ × ℤ)) (ws : List Word) → IsSome ps → AreShown (sign 41 ∷ behind_corner ps) ws → wrong_sign Polygon 41 ws ≡ None
second_end ps ws i h =
    rw (led Polygon ShapeEnd (sign 41 ∷ behind_corner ps) ws (Corner, behind_corner_leads ps i, refl, refl) h) refl

corner_commas : (ps : List (ℤ × ℤ)) → IsSome ps → comma_pieces (sign 41 ∷ sign 41 ∷ behind_corner ps) < length ps
corner_commas [] i = absurd i
corner_commas (p ∷ ps) i = omega (arith, before_corner_commas ps)

few_corners : (n k : ℕ) → n ≤ k → k < 1024 → nat_le 1024 n ≡ false
few_corners n k a b = lt-leb 1024 n (omega arith)

pub polygon_holds : (ps : List (ℤ × ℤ)) (ws : List Word) → AreShown (sign 41 ∷ sign 41 ∷ behind_corner ps) ws → IsSome ps → is_ring (reverse ps) ≡ true → length ps ≤ 1024
    → first_wrong Polygon ws ≡ None
polygon_holds ps ws h i r l =
    let qs = sign 41 ∷ sign 41 ∷ behind_corner ps in
    let c = commas_led Polygon _ qs ws (polygon_leads ps i) h in
    all_right Polygon _ qs ws (polygon_leads ps i) h ((λ ws h. second_end ps ws i h), ((λ ws h. first_end ps ws i r h), behind_ends ps))
    (λ n z. few_corners n (commas ws) z (omega (arith, c, corner_commas ps i)))

-- ---- ranges

range_count : (rs : List NamedRange) → AreSome rs → comma_pieces (behind_ranges rs) < length rs
range_count [] i = absurd i
range_count (r ∷ rs) i = omega (arith, range_commas r (before_range rs), before_range_commas rs)

few_ranges : (n k : ℕ) → n ≤ k → k < 64 → nat_le 64 n ≡ false
few_ranges n k a b = lt-leb 64 n (omega arith)

pub ranges_hold : (rs : List NamedRange) (ws : List Word) → AreShown (behind_ranges rs) ws → AreSome rs → length rs ≤ 64 → first_wrong Name ws ≡ None
ranges_hold rs ws h i l =
    let c = commas_led Name _ (behind_ranges rs) ws (ranges_lead rs i) h in
    all_right Name _ (behind_ranges rs) ws (ranges_lead rs i) h (quiet Name (λ b ws. refl) (behind_ranges rs))
    (λ n z. few_ranges n (commas ws) z (omega (arith, c, range_count rs i)))
