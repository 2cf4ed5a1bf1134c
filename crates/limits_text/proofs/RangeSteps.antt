-- ranges, a word at a time
use Rattle.std.proofs.Common.{◌≡◌, ℕ, ◌+◌, ◌-◌, ◌<◌, ◌≤◌, arith, subst, sym, refl, ap, ◌∙◌, inl, inr, List, [], ◌∷◌, ◌++◌, length, take, append_assoc, append-nil, Bool, true, false}
use Rattle.std.specs.Prelude.{◌==◌, nat_le, ℤ, Option, Some, None, IfSome, is_some, slice_range, reverse}
use Rattle.std.specs.Str.{IsCharBoundary, IsUtf8}
use Rattle.std.proofs.lemmas.Str.{IsCharBoundary-before_ascii, IsCharBoundary-after_ascii}
use Rattle.std.proofs.lemmas.Bool.{true≢false, cases_Bool, eqb-true}
use Rattle.std.proofs.lemmas.List.{reverse-append, reverse-reverse, length-reverse}
use Rattle.limits_text.specs.declared.control.WordKind.{WordKind}
use Rattle.limits_text.specs.declared.control.WordKind.TheVariants as kind
use Rattle.limits_text.specs.declared.control.Control.{Control}
use Rattle.limits_text.specs.declared.control.Control.TheVariants.{Name, Named, Negated, Low, Colon, High, Close, Ranged, CornerX, End}
use Rattle.limits_text.specs.declared.steps.NextWord.{NextWord}
use Rattle.limits_text.specs.declared.shapes.Interval.{Interval}
use Rattle.limits_text.specs.declared.shapes.NamedRange.{NamedRange}
use Rattle.limits_text.specs.Words.{Word, front_of, words_in}
use Rattle.limits_text.specs.Follows.{behind, is_end, control}
use Rattle.limits_text.specs.Wrong.{first_wrong, is_past}
use Rattle.limits_text.specs.Behind.{word_to}
use Rattle.limits_text.specs.Taken.{IsTaken}
use Rattle.limits_text.specs.Pieces.{Piece, IsShown, AreShown, IsRangesText, range_then, further_ranges, ranges_pieces, sign, close_byte}
use Rattle.limits_text.specs.Ranges.{interval_with, name_with, ranges_with, are_full, place_or, IsNamed}
use Rattle.limits_text.proofs.RangeFronts.{behind_end, behind_colon, behind_range, before_range, behind_ranges, AreSome, IsRangeFront}
use Rattle.limits_text.proofs.Shown.{piece_of, taken_shown, taken_right, shown_reverse}
use Rattle.limits_text.proofs.BoxSteps.{as_sign}
use Rattle.limits_text.proofs.Leading.{commas_led, before_range_leads, before_range_commas}

further_range : (rs : List NamedRange) (w : Word) (ws : List Word) → AreSome rs → w.bytes ≡ 44 ∷ [] → AreShown (behind_ranges rs) ws → AreShown (before_range rs) (w ∷ ws)
further_range [] w ws i s h = absurd i
further_range (r ∷ rs) w ws i s h = (s, h)

below : (n : ℕ) → nat_le 64 n ≡ false → n < 64
below n e = grind arith

closed : (i : Interval) (n : List ℕ) (cs : List NamedRange) (w : Word) (ws : List Word) (b : ℕ) → w.bytes ≡ b ∷ [] → b ≡ close_byte i.high_in
    → AreShown (behind_end i.high (behind_colon i n (before_range (reverse cs)))) ws → length (reverse cs) < 64
    → IsRangeFront Ranged (reverse (cs ++ record { name = n; interval = i } ∷ [])) i n (w ∷ ws)
closed i n cs w ws b s e h l = rw (reverse-append cs (record { name = n; interval = i } ∷ [])) ((s ∙ ap (λ x. x ∷ []) e, h), omega arith, tt)

pub range_step : (c : Control) (l : WordKind) (v : ℤ) (cs : List NamedRange) (i : Interval) (n : List ℕ) (w : Word) (ws : List Word) → IsRangeFront c (reverse cs) i n ws → are_full c (length cs) ≡ false
    → IsShown (piece_of c l v w.bytes) w
    → IfSome (behind c l) (λ d. IsRangeFront d (reverse (ranges_with c l n (interval_with c l v i) cs)) (interval_with c l v i) (name_with c w.bytes n) (w ∷ ws))
range_step Name kind.Name v cs i n w ws h f s = ((s, h.0), omega (arith, below (length cs) f, length-reverse cs), refl)
range_step Name kind.Number v cs i n w ws h f s = tt
range_step Name (kind.Sign b) v cs i n w ws h f s = tt
range_step Named kind.Name v cs i n w ws h f s = tt
range_step Named kind.Number v cs i n w ws h f s = tt
range_step Named (kind.Sign b) v cs i n w ws h f s = elim (cases_Bool (b == 33)) [
  | inl e ↦ rw (e, h.2) ((as_sign w.bytes b 33 s e, h.0), h.1, refl, refl, refl)
  | inr e ↦ elim (cases_Bool (b == 91)) [
    | inl g ↦ rw (e, g, h.2) ((as_sign w.bytes b 91 s g, h.0), h.1, refl, refl)
    | inr g ↦ elim (cases_Bool (b == 40)) [
      | inl k ↦ rw (e, g, k, h.2) ((as_sign w.bytes b 40 s k, h.0), h.1, refl, refl)
      | inr k ↦ rw (e, g, k) tt
    ]
  ]
]
range_step Negated kind.Name v cs i n w ws h f s = tt
range_step Negated kind.Number v cs i n w ws h f s = tt
range_step Negated (kind.Sign b) v cs i n w ws h f s = elim (cases_Bool (b == 91)) [
  | inl g ↦ rw (g, h.2) ((as_sign w.bytes b 91 s g, h.0), h.1, h.3, h.4)
  | inr g ↦ elim (cases_Bool (b == 40)) [
    | inl k ↦ rw (g, k, h.2) ((as_sign w.bytes b 40 s k, h.0), h.1, h.3, h.4)
    | inr k ↦ rw (g, k) tt
  ]
]
range_step Low kind.Name v cs i n w ws h f s = tt
range_step Low kind.Number v cs i n w ws h f s = ((s, h.0), h.1, h.3)
range_step Low (kind.Sign b) v cs i n w ws h f s = elim (cases_Bool (b == 58)) [
  | inl e ↦ rw (e, h.2) ((as_sign w.bytes b 58 s e, h.0), h.1, h.3)
  | inr e ↦ rw e tt
]
range_step Colon kind.Name v cs i n w ws h f s = tt
range_step Colon kind.Number v cs i n w ws h f s = tt
range_step Colon (kind.Sign b) v cs i n w ws h f s = elim (cases_Bool (b == 58)) [
  | inl e ↦ rw e ((as_sign w.bytes b 58 s e, h.0), h.1, h.2)
  | inr e ↦ rw e tt
]
range_step High kind.Name v cs i n w ws h f s = tt
range_step High kind.Number v cs i n w ws h f s = ((s, h.0), h.1)
range_step High (kind.Sign b) v cs i n w ws h f s = elim (cases_Bool (b == 93)) [
  | inl e ↦ rw e (closed (record i { high_in = true }) n cs w ws b s (eqb-true b 93 e) (rw h.2 h.0) h.1)
  | inr e ↦ elim (cases_Bool (b == 41)) [
    | inl g ↦ rw (e, g) (closed (record i { high_in = false }) n cs w ws b s (eqb-true b 41 g) (rw h.2 h.0) h.1)
    | inr g ↦ rw (e, g) tt
  ]
]
range_step Close kind.Name v cs i n w ws h f s = tt
range_step Close kind.Number v cs i n w ws h f s = tt
range_step Close (kind.Sign b) v cs i n w ws h f s = elim (cases_Bool (b == 93)) [
  | inl e ↦ rw e (closed (record i { high_in = true }) n cs w ws b s (eqb-true b 93 e) h.0 h.1)
  | inr e ↦ elim (cases_Bool (b == 41)) [
    | inl g ↦ rw (e, g) (closed (record i { high_in = false }) n cs w ws b s (eqb-true b 41 g) h.0 h.1)
    | inr g ↦ rw (e, g) tt
  ]
]
range_step Ranged kind.Name v cs i n w ws h f s = tt
range_step Ranged kind.Number v cs i n w ws h f s = tt
range_step Ranged (kind.Sign b) v cs i n w ws h f s = elim (cases_Bool (b == 44)) [
  | inl e ↦ rw e (further_range (reverse cs) w ws h.2 (as_sign w.bytes b 44 s e) h.0, h.1)
  | inr e ↦ rw e tt
]
range_step _ l v cs i n w ws h f s = absurd h

-- ---- how many ranges

pub range_past : (c : Control) (cs : List NamedRange) (i : Interval) (n : List ℕ) (ws : List Word) → IsRangeFront c (reverse cs) i n ws → control Name ws ≡ Some c → is_past Name ws ≡ are_full c (length cs)
range_past Name cs i n ws h e =
    let rs = reverse cs in
    rw (e, commas_led Name Name (before_range rs) ws (before_range_leads rs) h.0, before_range_commas rs, length-reverse cs) refl
range_past CornerX cs i n ws h e = absurd h
range_past _ cs i n ws h e = rw e refl

-- ---- the loop

pub range_taken : (c : Control) (text : List ℕ) (at : ℕ) (cs : List NamedRange) (i : Interval) (n : List ℕ) (s : NextWord) → IsTaken Name c text at s → IsRangeFront c (reverse cs) i n (words_in (front_of (take at text)))
    → are_full c (length cs) ≡ false
    → IsRangeFront s.control (reverse (ranges_with c s.kind n (interval_with c s.kind s.value i) cs)) (interval_with c s.kind s.value i) (name_with c (slice_range text s.start s.end) n) (words_in (front_of (take s.end text)))
range_taken c text at cs i n s t h f =
    let g = range_step c s.kind s.value cs i n (word_to text s.start s.end) (words_in (front_of (take at text))) h f (taken_shown Name c text at s t) in
    rw t.words (rw t.behind at g)

pub range_right : (c : Control) (text : List ℕ) (at : ℕ) (cs : List NamedRange) (i : Interval) (n : List ℕ) (s : NextWord) → IsTaken Name c text at s → IsRangeFront c (reverse cs) i n (words_in (front_of (take at text)))
    → control Name (words_in (front_of (take at text))) ≡ Some c → are_full c (length cs) ≡ false
    → first_wrong Name (words_in (front_of (take at text))) ≡ None → first_wrong Name (words_in (front_of (take s.end text))) ≡ None
range_right c text at cs i n s t h e f o = taken_right Name c text at s t o (range_past c cs i n (words_in (front_of (take at text))) h e ∙ f) (λ b k. refl)

name_kind : (k : WordKind) → is_some (behind Name k) ≡ true → k ≡ kind.Name
name_kind kind.Name e = refl
name_kind kind.Number e = absurd (true≢false (sym e))
name_kind (kind.Sign b) e = absurd (true≢false (sym e))

pub full_name : (c : Control) (n : ℕ) → are_full c n ≡ true → is_end c ≡ false
full_name Name n e = refl
full_name _ n e = absurd (true≢false (sym e))

pub range_named : (c : Control) (text : List ℕ) (at from to : ℕ) (s : NextWord) → IsUtf8 text → IsTaken Name c text at s → IsNamed text from to
    → IsNamed text (place_or c s.start from) (place_or c s.end to)
range_named Name text at from to s u t n =
    let k = name_kind s.kind (ap is_some t.behind) in
    let z : s.end - 1 + 1 ≡ s.end = omega (arith, t.low) in (
      omega (arith, t.low),
      t.within,
      IsCharBoundary-before_ascii text s.start (omega (arith, t.low, t.within)) (t.first k),
      subst (IsCharBoundary text) z (IsCharBoundary-after_ascii text (s.end - 1) u (omega (arith, t.low, t.within)) (t.last k)),
    )
range_named _ text at from to s u t n = n

-- ---- the whole text

range_back : (r : NamedRange) (ps : List Piece) → reverse (range_then r []) ++ ps ≡ behind_range r ps
range_back r ps = go r.interval.negated r.interval.low r.interval.high refl refl refl
  where
    go : (t : Bool) (a b : Option ℤ) → r.interval.negated ≡ t → r.interval.low ≡ a → r.interval.high ≡ b → reverse (range_then r []) ++ ps ≡ behind_range r ps
    go true None None e f g = rw (e, f, g) refl
    go true None (Some b) e f g = rw (e, f, g) refl
    go true (Some a) None e f g = rw (e, f, g) refl
    go true (Some a) (Some b) e f g = rw (e, f, g) refl
    go false None None e f g = rw (e, f, g) refl
    go false None (Some b) e f g = rw (e, f, g) refl
    go false (Some a) None e f g = rw (e, f, g) refl
    go false (Some a) (Some b) e f g = rw (e, f, g) refl

range_append : (r : NamedRange) (ps : List Piece) → range_then r ps ≡ range_then r [] ++ ps
range_append r ps = go r.interval.negated r.interval.low r.interval.high refl refl refl
  where
    go : (t : Bool) (a b : Option ℤ) → r.interval.negated ≡ t → r.interval.low ≡ a → r.interval.high ≡ b → range_then r ps ≡ range_then r [] ++ ps
    go true None None e f g = rw (e, f, g) refl
    go true None (Some b) e f g = rw (e, f, g) refl
    go true (Some a) None e f g = rw (e, f, g) refl
    go true (Some a) (Some b) e f g = rw (e, f, g) refl
    go false None None e f g = rw (e, f, g) refl
    go false None (Some b) e f g = rw (e, f, g) refl
    go false (Some a) None e f g = rw (e, f, g) refl
    go false (Some a) (Some b) e f g = rw (e, f, g) refl

before_is : (rs : List NamedRange) → AreSome rs → before_range rs ≡ sign 44 ∷ behind_ranges rs
before_is [] i = absurd i
before_is (r ∷ rs) i = refl

ranges_back : (ps rs : List NamedRange) → AreSome rs → reverse (further_ranges ps) ++ behind_ranges rs ≡ behind_ranges (reverse ps ++ rs)
ranges_back [] rs i = refl
ranges_back (q ∷ ps) rs i =
    let f = further_ranges ps in
    let g = range_then q [] in
    ap (λ z. reverse (sign 44 ∷ z) ++ behind_ranges rs) (range_append q f)
    ∙ ap (λ z. z ++ behind_ranges rs) (reverse-append (sign 44 ∷ g) f)
    ∙ append_assoc (reverse f) (reverse (sign 44 ∷ g)) (behind_ranges rs)
    ∙ ap (λ z. reverse f ++ (z ++ behind_ranges rs)) (reverse-append (sign 44 ∷ []) g)
    ∙ ap (λ z. reverse f ++ z) (append_assoc (reverse g) (sign 44 ∷ []) (behind_ranges rs) ∙ ap (λ z. reverse g ++ z) (sym (before_is rs i)) ∙ range_back q (before_range rs))
    ∙ ranges_back ps (q ∷ rs) tt
    ∙ ap behind_ranges (sym (ap (λ z. z ++ rs) (reverse-append (q ∷ []) ps) ∙ append_assoc (reverse ps) (q ∷ []) rs))

all_back : (r : NamedRange) (rs : List NamedRange) → reverse (ranges_pieces (r ∷ rs)) ≡ behind_ranges (reverse (r ∷ rs))
all_back r rs =
    ap reverse (range_append r (further_ranges rs))
    ∙ reverse-append (range_then r []) (further_ranges rs)
    ∙ ap (λ z. reverse (further_ranges rs) ++ z) (sym (append-nil (reverse (range_then r []))) ∙ range_back r [])
    ∙ ranges_back rs (r ∷ []) tt
    ∙ ap behind_ranges (sym (reverse-append (r ∷ []) rs))

pub some_back : (cs : List NamedRange) → AreSome (reverse cs) → reverse (ranges_pieces cs) ≡ behind_ranges (reverse cs)
some_back [] i = absurd i
some_back (r ∷ rs) i = all_back r rs

some_least : (rs : List NamedRange) → AreSome rs → 1 ≤ length rs
some_least [] i = absurd i
some_least (r ∷ rs) i = omega arith

record Whole (cs : List NamedRange) (ws : List Word) : Type 0 where
  shown : AreShown (behind_ranges (reverse cs)) ws
  few : length (reverse cs) ≤ 64
  some : AreSome (reverse cs)

range_end : (c : Control) (cs : List NamedRange) (i : Interval) (n : List ℕ) (ws : List Word) → is_end c ≡ true → IsRangeFront c (reverse cs) i n ws → Whole cs ws
range_end Ranged cs i n ws e h = record { shown = h.0; few = h.1; some = h.2 }
range_end End cs i n ws e h = absurd h
range_end _ cs i n ws e h = absurd (true≢false (sym e))

pub range_whole : (c : Control) (text : List ℕ) (at : ℕ) (cs : List NamedRange) (i : Interval) (n : List ℕ) → is_end c ≡ true → words_in (front_of text) ≡ words_in (front_of (take at text))
    → IsRangeFront c (reverse cs) i n (words_in (front_of (take at text))) → IsRangesText text cs
range_whole c text at cs i n e w h =
    let g = range_end c cs i n (words_in (front_of (take at text))) e h in
    let s : AreShown (reverse (ranges_pieces cs)) (words_in (front_of text)) = rw (some_back cs g.some, w) g.shown in (
      rw (reverse-reverse (ranges_pieces cs)) at (shown_reverse (reverse (ranges_pieces cs)) (words_in (front_of text)) s),
      omega (arith, some_least (reverse cs) g.some, length-reverse cs),
      omega (arith, g.few, length-reverse cs),
    )
