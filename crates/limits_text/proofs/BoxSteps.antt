-- a box, a word at a time
use Rattle.std.proofs.Common.{◌≡◌, ℕ, sym, refl, ap, ◌∙◌, inl, inr, List, [], ◌∷◌, take, true, false}
use Rattle.std.specs.Prelude.{◌==◌, ℤ, Option, Some, None, IfSome, is_some, reverse, int_lt, ◌≤ℤ◌, if◌then◌else◌}
use Rattle.std.proofs.lemmas.Bool.{true≢false, cases_Bool, eqb-true}
use Rattle.std.proofs.lemmas.List.{reverse-reverse}
use Rattle.std.specs.Int.Signed.{lt_z_no}
use Rattle.limits_text.specs.declared.control.WordKind.{WordKind}
use Rattle.limits_text.specs.declared.control.WordKind.TheVariants as kind
use Rattle.limits_text.specs.declared.control.PairAxis.TheVariants.{X, Y, Z}
use Rattle.limits_text.specs.declared.control.Control.{Control}
use Rattle.limits_text.specs.declared.control.Control.TheVariants.{Box, Pair, PairLow, PairComma, PairHigh, PairClose, Paired, High, Close, Ranged, End}
use Rattle.limits_text.specs.declared.steps.NextWord.{NextWord}
use Rattle.limits_text.specs.declared.bounds.Sides.{Sides}
use Rattle.limits_text.specs.Words.{Word, front_of, words_in}
use Rattle.limits_text.specs.Follows.{behind, is_end}
use Rattle.limits_text.specs.Wrong.{first_wrong, wrong_pair, wrong_sign}
use Rattle.limits_text.specs.Fronts.{IsFault}
use Rattle.limits_text.specs.Behind.{word_to}
use Rattle.limits_text.specs.Taken.{IsTaken}
use Rattle.limits_text.specs.Pieces.{Piece, IsShown, AreShown, IsBoundsText, IsInOrder, AreInOrder, box_pieces, sign, number}
use Rattle.limits_text.specs.Boxes.{sides_with, is_reversed, side}
use Rattle.limits_text.proofs.BoxFronts.{before, IsBoxFront, IsBoxEnd, IsAt}
use Rattle.limits_text.proofs.Shown.{piece_of, taken_shown, taken_right, taken_wrong, no_limit, shown_reverse}

pub as_sign : (bs : List ℕ) (b n : ℕ) → bs ≡ b ∷ [] → (b == n) ≡ true → bs ≡ n ∷ []
as_sign bs b n s e = s ∙ ap (λ x. x ∷ []) (eqb-true b n e)

in_order : (a b : ℤ) → int_lt b a ≡ false → a ≤ℤ b
in_order a b e = lt_z_no {a = b} {b = a} (rw e tt)

pub box_step : (c : Control) (t : NextWord) (f : Sides) (w : Word) (ws : List Word) → IsBoxFront c f ws → is_reversed c f ≡ false → w.at ≡ t.start → IsShown (piece_of c t.kind t.value w.bytes) w
    → IfSome (behind c t.kind) (λ d. IsBoxFront d (sides_with c t f) (w ∷ ws))
box_step c t f w ws h r a s = go c t.kind h r s
  where
    go : (c : Control) (k : WordKind) → IsBoxFront c f ws → is_reversed c f ≡ false → IsShown (piece_of c k t.value w.bytes) w → IfSome (behind c k) (λ d. IsBoxFront d (sides_with c t f) (w ∷ ws))
    go Box kind.Name h r s = tt
    go Box kind.Number h r s = tt
    go Box (kind.Sign b) h r s = elim (cases_Bool (b == 40)) [
      | inl e ↦ rw e ((as_sign w.bytes b 40 s e, h.0), h.1)
      | inr e ↦ rw e tt
    ]
    go (Pair k) kind.Name h r s = tt
    go (Pair k) kind.Number h r s = tt
    go (Pair X) (kind.Sign b) h r s = elim (cases_Bool (b == 91)) [
      | inl e ↦ rw e ((as_sign w.bytes b 91 s e, h.0), h.1, a)
      | inr e ↦ rw e tt
    ]
    go (Pair Y) (kind.Sign b) h r s = elim (cases_Bool (b == 91)) [
      | inl e ↦ rw e ((as_sign w.bytes b 91 s e, h.0), h.1, a)
      | inr e ↦ rw e tt
    ]
    go (Pair Z) (kind.Sign b) h r s = elim (cases_Bool (b == 91)) [
      | inl e ↦ rw e ((as_sign w.bytes b 91 s e, h.0), h.1, a)
      | inr e ↦ rw e tt
    ]
    go (PairLow k) kind.Name h r s = tt
    go (PairLow X) kind.Number h r s = ((s, h.0), h.1, h.2)
    go (PairLow Y) kind.Number h r s = ((s, h.0), h.1, h.2)
    go (PairLow Z) kind.Number h r s = ((s, h.0), h.1, h.2)
    go (PairLow k) (kind.Sign b) h r s = tt
    go (PairComma k) kind.Name h r s = tt
    go (PairComma k) kind.Number h r s = tt
    go (PairComma k) (kind.Sign b) h r s = elim (cases_Bool (b == 44)) [
      | inl e ↦ rw e ((as_sign w.bytes b 44 s e, h.0), h.1, h.2)
      | inr e ↦ rw e tt
    ]
    go (PairHigh k) kind.Name h r s = tt
    go (PairHigh X) kind.Number h r s = ((s, h.0), h.1, h.2)
    go (PairHigh Y) kind.Number h r s = ((s, h.0), h.1, h.2)
    go (PairHigh Z) kind.Number h r s = ((s, h.0), (refl, h.1.0, h.1.1), h.2)
    go (PairHigh k) (kind.Sign b) h r s = tt
    go (PairClose k) kind.Name h r s = tt
    go (PairClose k) kind.Number h r s = tt
    go (PairClose X) (kind.Sign b) h r s = elim (cases_Bool (b == 93)) [
      | inl e ↦ rw e ((as_sign w.bytes b 93 s e, h.0), (h.1, in_order f.x.0 f.x.1 r))
      | inr e ↦ rw e tt
    ]
    go (PairClose Y) (kind.Sign b) h r s = elim (cases_Bool (b == 93)) [
      | inl e ↦ rw e ((as_sign w.bytes b 93 s e, h.0), (h.1.0, h.1.1, in_order f.y.0 f.y.1 r))
      | inr e ↦ rw e tt
    ]
    go (PairClose Z) (kind.Sign b) h r s = elim (cases_Bool (b == 93)) [
      | inl e ↦ rw e ((as_sign w.bytes b 93 s e, h.0), (h.1.0, h.1.1, h.1.2, in_order (side Z f).0 (side Z f).1 r))
      | inr e ↦ rw e tt
    ]
    go (Paired X) kind.Name h r s = tt
    go (Paired Y) kind.Name h r s = tt
    go (Paired Z) kind.Name h r s = tt
    go (Paired X) kind.Number h r s = tt
    go (Paired Y) kind.Number h r s = tt
    go (Paired Z) kind.Number h r s = tt
    go (Paired X) (kind.Sign b) h r s = elim (cases_Bool (b == 44)) [
      | inl e ↦ rw e ((as_sign w.bytes b 44 s e, h.0), h.1)
      | inr e ↦ rw e tt
    ]
    go (Paired Y) (kind.Sign b) h r s = elim (cases_Bool (b == 44)) [
      | inl e ↦ rw e ((as_sign w.bytes b 44 s e, h.0), (h.1.1, h.1.2))
      | inr e ↦ elim (cases_Bool (b == 41)) [
        | inl g ↦ rw (e, g, h.1.0) ((as_sign w.bytes b 41 s g, h.0), h.1.1, h.1.2)
        | inr g ↦ rw (e, g) tt
      ]
    ]
    go (Paired Z) (kind.Sign b) h r s = elim (cases_Bool (b == 41)) [
      | inl e ↦ rw (e, h.1.0) ((as_sign w.bytes b 41 s e, h.0), h.1.1, h.1.2, h.1.3)
      | inr e ↦ rw e tt
    ]
    go End kind.Name h r s = tt
    go End kind.Number h r s = tt
    go End (kind.Sign b) h r s = tt
    go _ k h r s = absurd h

pair_wrong : (a b : ℤ) (p : ℕ) (qs : List Piece) (ws : List Word) → AreShown (number b ∷ sign 44 ∷ number a ∷ sign 91 ∷ qs) ws → IsAt 3 p ws → wrong_pair ws ≡ (if int_lt b a then Some p else None)
pair_wrong a b p qs [] h i = absurd h
pair_wrong a b p qs (w ∷ []) h i = absurd h.1
pair_wrong a b p qs (w ∷ v ∷ []) h i = absurd h.1.1
pair_wrong a b p qs (w ∷ v ∷ u ∷ []) h i = absurd h.1.1.1
pair_wrong a b p qs (w ∷ v ∷ u ∷ o ∷ ws) h i = rw (h.0, h.1.1.0, i) refl

close_sign : (c : Control) (f : Sides) (ws : List Word) → is_some (behind c (kind.Sign 93)) ≡ true → IsBoxFront c f ws → wrong_pair ws ≡ (if is_reversed c f then Some f.pair else None)
close_sign (PairClose k) f ws e h = pair_wrong (side k f).0 (side k f).1 f.pair (before k f) ws h.0 h.2
close_sign High f ws e h = absurd h
close_sign Close f ws e h = absurd h
close_sign (Paired X) f ws e h = absurd (true≢false (sym e))
close_sign (Paired Y) f ws e h = absurd (true≢false (sym e))
close_sign (Paired Z) f ws e h = absurd (true≢false (sym e))
close_sign _ f ws e h = absurd (true≢false (sym e))

pub box_taken : (c : Control) (text : List ℕ) (at : ℕ) (f : Sides) (s : NextWord) → IsTaken Box c text at s → IsBoxFront c f (words_in (front_of (take at text))) → is_reversed c f ≡ false
    → IsBoxFront s.control (sides_with c s f) (words_in (front_of (take s.end text)))
box_taken c text at f s t h r =
    let g = box_step c s f (word_to text s.start s.end) (words_in (front_of (take at text))) h r refl (taken_shown Box c text at s t) in
    rw t.words (rw t.behind at g)

pub box_right : (c : Control) (text : List ℕ) (at : ℕ) (f : Sides) (s : NextWord) → IsTaken Box c text at s → IsBoxFront c f (words_in (front_of (take at text))) → is_reversed c f ≡ false
    → first_wrong Box (words_in (front_of (take at text))) ≡ None → first_wrong Box (words_in (front_of (take s.end text))) ≡ None
box_right c text at f s t h r o = taken_right Box c text at s t o (no_limit Box (words_in (front_of (take at text))) (λ n. refl)) go
  where
    go : (b : ℕ) → s.kind ≡ kind.Sign b → wrong_sign Box b (words_in (front_of (take at text))) ≡ None
    go b k = elim (cases_Bool (b == 93)) [
      | inl e ↦ rw e (close_sign c f (words_in (front_of (take at text))) (ap (λ x. is_some (behind c x)) (sym (k ∙ ap kind.Sign (eqb-true b 93 e))) ∙ ap is_some t.behind) h ∙ rw r refl)
      | inr e ↦ rw e refl
    ]

reversed_close : (c : Control) (f : Sides) (k : WordKind) → is_reversed c f ≡ true → is_some (behind c k) ≡ true → k ≡ kind.Sign 93
reversed_close (PairClose x) f kind.Name r e = absurd (true≢false (sym e))
reversed_close (PairClose x) f kind.Number r e = absurd (true≢false (sym e))
reversed_close (PairClose x) f (kind.Sign b) r e = elim (cases_Bool (b == 93)) [
  | inl z ↦ ap kind.Sign (eqb-true b 93 z)
  | inr z ↦ absurd (true≢false (sym (rw z at e)))
]
reversed_close _ f k r e = absurd (true≢false (sym r))

pub box_fault : (c : Control) (text : List ℕ) (at : ℕ) (f : Sides) (s : NextWord) → IsTaken Box c text at s → IsBoxFront c f (words_in (front_of (take at text))) → is_reversed c f ≡ true
    → first_wrong Box (words_in (front_of (take at text))) ≡ None → IsFault Box text f.pair
box_fault c text at f s t h r o =
    let k = reversed_close c f s.kind r (rw t.behind refl) in
    inr (inl (taken_wrong Box c text at s f.pair t o (no_limit Box (words_in (front_of (take at text))) (λ n. refl)) 93 k
    (close_sign c f (words_in (front_of (take at text))) (ap (λ x. is_some (behind c x)) (sym k) ∙ ap is_some t.behind) h ∙ rw r refl)))

record Whole (f : Sides) (ws : List Word) : Type 0 where
  shown : AreShown (reverse (box_pieces (record { x = f.x; y = f.y; z = f.z }))) ws
  x : IsInOrder f.x
  y : IsInOrder f.y
  z : AreInOrder f.z

box_end : (c : Control) (f : Sides) (ws : List Word) → is_end c ≡ true → IsBoxFront c f ws → Whole f ws
box_end End f ws e h = go f.z refl h
  where
    go : (z : Option (ℤ × ℤ)) → f.z ≡ z → IsBoxEnd z f ws → Whole f ws
    go None i g = record { shown = rw i g.0; x = g.1; y = g.2; z = rw i tt }
    go (Some p) i g = record { shown = rw i g.0; x = g.1; y = g.2; z = rw i g.3 }
box_end Ranged f ws e h = absurd h
box_end _ f ws e h = absurd (true≢false (sym e))

pub box_whole : (c : Control) (text : List ℕ) (at : ℕ) (f : Sides) → is_end c ≡ true → words_in (front_of text) ≡ words_in (front_of (take at text)) → IsBoxFront c f (words_in (front_of (take at text)))
    → IsBoundsText text (record { x = f.x; y = f.y; z = f.z })
box_whole c text at f e w h =
    let b = box_pieces (record { x = f.x; y = f.y; z = f.z }) in
    let g = box_end c f (words_in (front_of (take at text))) e h in
    (rw (reverse-reverse b) at (shown_reverse (reverse b) (words_in (front_of text)) (rw w g.shown)), g.x, g.y, g.z)
