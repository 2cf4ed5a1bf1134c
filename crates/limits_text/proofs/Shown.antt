-- words that are taken show what they stand for
use Rattle.std.proofs.Common.{◌≡◌, ℕ, sym, refl, ap, ◌∙◌, inl, inr, List, [], ◌∷◌, ◌++◌, take, Bool, true, false}
use Rattle.std.specs.Prelude.{◌||◌, ◌==◌, not, ℤ, Ok, Option, Some, None, IfSome, slice_range, reverse}
use Rattle.std.proofs.lemmas.Bool.{true≢false, cases_Bool, eqb-true}
use Rattle.std.proofs.lemmas.List.{reverse-append}
use Rattle.limits_text.specs.declared.control.WordKind.{WordKind}
use Rattle.limits_text.specs.declared.control.WordKind.TheVariants as kind
use Rattle.limits_text.specs.declared.control.Control.{Control}
use Rattle.limits_text.specs.declared.control.Control.TheVariants.{Point, PointOpen, PointX, PointY, PointClose, Ranged, End}
use Rattle.limits_text.specs.declared.steps.NextWord.{NextWord}
use Rattle.limits_text.specs.Words.{Word, front_of, words_in, kind_of}
use Rattle.limits_text.specs.Follows.{control, is_end, behind, keyword, wants_space, is_name}
use Rattle.limits_text.specs.Wrong.{begins_part, first_wrong, wrong_word, wrong_sign, is_past, are_too_many, commas}
use Rattle.limits_text.specs.Fronts.{IsWrong}
use Rattle.limits_text.proofs.Exits.{and_false}
use Rattle.limits_text.proofs.Alive.{alive, settled_alive}
use Rattle.limits_text.specs.Behind.{word_to}
use Rattle.limits_text.specs.Taken.{IsTaken}
use Rattle.decimal_coords.specs.DecimalOfText.{decimal_of_text}
use Rattle.limits_text.specs.Pieces as piece
use Rattle.limits_text.specs.Pieces.{Piece, IsShown, AreShown, IsPointText}
use Rattle.limits_text.specs.Points.{point_with}
use Rattle.limits_text.proofs.PointFronts.{IsPointFront}

-- what a word of this sort shows
abbrev pub named : Option (List ℕ) → List ℕ → Piece
named None bs = piece.name bs
named (Some ks) bs = piece.keyword ks

abbrev pub valued : Bool → ℤ → Piece
valued true v = piece.second v
valued false v = piece.number v

abbrev pub piece_of : Control → WordKind → ℤ → List ℕ → Piece
piece_of c kind.Name v bs = named (keyword c) bs
piece_of c kind.Number v bs = valued (wants_space c) v
piece_of c (kind.Sign b) v bs = piece.sign b

named_shown : (o : Option (List ℕ)) (w : Word) → kind_of w.bytes ≡ kind.Name → is_name o w.bytes ≡ true → IsShown (named o w.bytes) w
named_shown None w k n = (refl, k)
named_shown (Some ks) w k n = n

valued_shown : (t : Bool) (v : ℤ) (w : Word) → (w.spaced || not t) ≡ true → decimal_of_text w.bytes ≡ Ok v → IsShown (valued t v) w
valued_shown true v w s e = (e, or_left w.spaced s)
  where
    or_left : (x : Bool) → (x || false) ≡ true → x ≡ true
    or_left true y = refl
    or_left false y = y
valued_shown false v w s e = e

pub taken_shown : (start c : Control) (text : List ℕ) (at : ℕ) (s : NextWord) → IsTaken start c text at s → IsShown (piece_of c s.kind s.value (slice_range text s.start s.end)) (word_to text s.start s.end)
taken_shown start c text at s t = go s.kind refl
  where
    go : (k : WordKind) → s.kind ≡ k → IsShown (piece_of c k s.value (slice_range text s.start s.end)) (word_to text s.start s.end)
    go kind.Name e = named_shown (keyword c) (word_to text s.start s.end) (t.kind ∙ e) (t.name e)
    go kind.Number e = valued_shown (wants_space c) s.value (word_to text s.start s.end) (t.spaced e) (t.value e)
    go (kind.Sign b) e = t.sign b e

-- ---- a point

pub point_step : (c : Control) (k : WordKind) (p : ℤ × ℤ) (v : ℤ) (bs : List ℕ) (w : Word) (ws : List Word) → IsPointFront c p ws → IsShown (piece_of c k v bs) w
    → IfSome (behind c k) (λ d. IsPointFront d (point_with c v p) (w ∷ ws))
point_step Point kind.Name p v bs w ws h s = (s, h)
point_step Point kind.Number p v bs w ws h s = tt
point_step Point (kind.Sign b) p v bs w ws h s = tt
point_step PointOpen kind.Name p v bs w ws h s = tt
point_step PointOpen kind.Number p v bs w ws h s = tt
point_step PointOpen (kind.Sign b) p v bs w ws h s = elim (cases_Bool (b == 40)) [
  | inl e ↦ rw e (s ∙ ap (λ x. x ∷ []) (eqb-true b 40 e), h)
  | inr e ↦ rw e tt
]
point_step PointX kind.Name p v bs w ws h s = tt
point_step PointX kind.Number p v bs w ws h s = (s, h)
point_step PointX (kind.Sign b) p v bs w ws h s = tt
point_step PointY kind.Name p v bs w ws h s = tt
point_step PointY kind.Number p v bs w ws h s = (s, h)
point_step PointY (kind.Sign b) p v bs w ws h s = tt
point_step PointClose kind.Name p v bs w ws h s = tt
point_step PointClose kind.Number p v bs w ws h s = tt
point_step PointClose (kind.Sign b) p v bs w ws h s = elim (cases_Bool (b == 41)) [
  | inl e ↦ rw e (s ∙ ap (λ x. x ∷ []) (eqb-true b 41 e), h)
  | inr e ↦ rw e tt
]
point_step End kind.Name p v bs w ws h s = tt
point_step End kind.Number p v bs w ws h s = tt
point_step End (kind.Sign b) p v bs w ws h s = tt
point_step _ k p v bs w ws h s = absurd h

-- ---- any text

pub taken_right : (start c : Control) (text : List ℕ) (at : ℕ) (s : NextWord) → IsTaken start c text at s → first_wrong start (words_in (front_of (take at text))) ≡ None
    → is_past start (words_in (front_of (take at text))) ≡ false → ((b : ℕ) → s.kind ≡ kind.Sign b → wrong_sign start b (words_in (front_of (take at text))) ≡ None)
    → first_wrong start (words_in (front_of (take s.end text))) ≡ None
taken_right start c text at s t r p g = rw (t.words, r, p, t.kind) (go s.kind refl)
  where
    go : (k : WordKind) → s.kind ≡ k → wrong_word start k (word_to text s.start s.end) (words_in (front_of (take at text))) ≡ None
    go kind.Name e = refl
    go kind.Number e = rw (t.value e) refl
    go (kind.Sign b) e = g b e

pub no_limit : (start : Control) (ws : List Word) → ((n : ℕ) → are_too_many start n ≡ false) → is_past start ws ≡ false
no_limit start ws h = rw (h (commas ws)) (and_false (begins_part (control start ws)))

shown_more : (ps qs : List Piece) (ws us : List Word) → AreShown ps ws → AreShown qs us → AreShown (ps ++ qs) (ws ++ us)
shown_more [] qs [] us a b = b
shown_more [] qs (w ∷ ws) us a b = absurd a
shown_more (p ∷ ps) qs [] us a b = absurd a
shown_more (p ∷ ps) qs (w ∷ ws) us a b = (a.0, shown_more ps qs ws us a.1 b)

pub shown_reverse : (ps : List Piece) (ws : List Word) → AreShown ps ws → AreShown (reverse ps) (reverse ws)
shown_reverse [] [] a = a
shown_reverse [] (w ∷ ws) a = absurd a
shown_reverse (p ∷ ps) [] a = absurd a
shown_reverse (p ∷ ps) (w ∷ ws) a = rw (reverse-append (p ∷ []) ps, reverse-append (w ∷ []) ws) (shown_more (reverse ps) (p ∷ []) (reverse ws) (w ∷ []) (shown_reverse ps ws a.1) (a.0, tt))

pub point_taken : (c : Control) (text : List ℕ) (at : ℕ) (p : ℤ × ℤ) (s : NextWord) → IsTaken Point c text at s → IsPointFront c p (words_in (front_of (take at text)))
    → IsPointFront s.control (point_with c s.value p) (words_in (front_of (take s.end text)))
point_taken c text at p s t h =
    let g = point_step c s.kind p s.value (slice_range text s.start s.end) (word_to text s.start s.end) (words_in (front_of (take at text))) h (taken_shown Point c text at s t) in
    rw t.words (rw t.behind at g)

pub point_right : (c : Control) (text : List ℕ) (at : ℕ) (s : NextWord) → IsTaken Point c text at s → first_wrong Point (words_in (front_of (take at text))) ≡ None → first_wrong Point (words_in (front_of (take s.end text))) ≡ None
point_right c text at s t r = taken_right Point c text at s t r (no_limit Point (words_in (front_of (take at text))) (λ n. refl)) (λ b e. refl)

point_end : (c : Control) (p : ℤ × ℤ) (ws : List Word) → is_end c ≡ true → IsPointFront c p ws → AreShown (reverse (piece.point_pieces p)) ws
point_end End p ws e h = h
point_end Ranged p ws e h = absurd h
point_end _ p ws e h = absurd (true≢false (sym e))

pub point_whole : (c : Control) (text : List ℕ) (at : ℕ) (p : ℤ × ℤ) → is_end c ≡ true → words_in (front_of text) ≡ words_in (front_of (take at text)) → IsPointFront c p (words_in (front_of (take at text))) → IsPointText text p
point_whole c text at p e w h = shown_reverse (reverse (piece.point_pieces p)) (words_in (front_of text)) (rw w (point_end c p (words_in (front_of (take at text))) e h))

-- a value that the word makes wrong
pub taken_wrong : (start c : Control) (text : List ℕ) (at : ℕ) (s : NextWord) (p : ℕ) → IsTaken start c text at s → first_wrong start (words_in (front_of (take at text))) ≡ None
    → is_past start (words_in (front_of (take at text))) ≡ false → (b : ℕ) → s.kind ≡ kind.Sign b → wrong_sign start b (words_in (front_of (take at text))) ≡ Some p
    → IsWrong start text p
taken_wrong start c text at s p t r o b k e = record {
  found = s.end;
  within = t.within;
  cut = t.reached.cut;
  front = alive start (take s.end text) (settled_alive start (front_of (take s.end text)) (rw t.reached.next refl));
  wrong = rw (t.words, r, o, t.kind, k) e;
}
