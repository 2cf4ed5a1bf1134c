-- a polygon, a word at a time
use Rattle.std.proofs.Common.{◌≡◌, ℕ, zero, suc, ◌<◌, ◌≤◌, arith, sym, refl, ap, ◌∙◌, inl, inr, List, [], ◌∷◌, ◌++◌, length, take, append_assoc, get_or, ◌-◌, Bool, true, false}
use Rattle.std.specs.Prelude.{◌&&◌, ◌==◌, not, nat_le, ℤ, Some, None, IfSome, reverse, codes, if◌then◌else◌}
use Rattle.std.proofs.lemmas.Bool.{true≢false, cases_Bool, le-leb}
use Rattle.std.proofs.lemmas.List.{reverse-append, reverse-reverse, length-reverse}
use Rattle.limits_text.specs.declared.control.WordKind.{WordKind}
use Rattle.limits_text.specs.declared.control.WordKind.TheVariants as kind
use Rattle.limits_text.specs.declared.control.Control.{Control}
use Rattle.limits_text.specs.declared.control.Control.TheVariants.{Polygon, Name, Shape, Ring, CornerX, CornerY, Corner, ShapeEnd, Ranged, End}
use Rattle.limits_text.specs.declared.steps.NextWord.{NextWord}
use Rattle.limits_text.specs.Words.{Word, front_of, words_in}
use Rattle.limits_text.specs.Follows.{behind, is_end, control}
use Rattle.limits_text.specs.Wrong.{first_wrong, wrong_ring, wrong_sign, ends_corner, corners, is_past, is_ring, is_last, is_same}
use Rattle.limits_text.specs.Fronts.{IsFault}
use Rattle.limits_text.specs.Behind.{word_to}
use Rattle.limits_text.specs.Taken.{IsTaken}
use Rattle.limits_text.specs.Pieces.{IsShown, AreShown, IsPolygonText, polygon_pieces, further_corners, sign, number, second, keyword}
use Rattle.limits_text.proofs.BoxFronts.{IsAt}
use Rattle.limits_text.specs.Rings.{is_full, ends_ring, x_with, place_with, corners_with}
use Rattle.limits_text.proofs.RingFronts.{before_corner, behind_corner, IsSome, IsRingFront}
use Rattle.limits_text.proofs.Leading.{commas_led, before_corner_leads, before_corner_commas}
use Rattle.limits_text.proofs.Shown.{piece_of, taken_shown, taken_right, taken_wrong, shown_reverse}
use Rattle.limits_text.proofs.BoxSteps.{as_sign}

comma_more : (rs : List (ℤ × ℤ)) (w : Word) (ws : List Word) → IsSome rs → w.bytes ≡ 44 ∷ [] → AreShown (behind_corner rs) ws → AreShown (before_corner rs) (w ∷ ws)
comma_more [] w ws i s h = absurd i
comma_more (p ∷ ps) w ws i s h = (s, h)

not_broken : (b : ℕ) (t : Bool) → (b == 41) ≡ true → ((b == 41) && not t) ≡ false → t ≡ true
not_broken b true e h = refl
not_broken b false e h = absurd (true≢false (rw e at h))

below : (n : ℕ) → nat_le 1024 n ≡ false → n < 1024
below n e = grind arith

pub ring_step : (c : Control) (t : NextWord) (cs : List (ℤ × ℤ)) (x : ℤ) (k : ℕ) (w : Word) (ws : List Word) → IsRingFront c (reverse cs) x k ws → is_full c (length cs) ≡ false
    → (ends_ring c t.kind && not (is_ring cs)) ≡ false → w.at ≡ t.start → IsShown (piece_of c t.kind t.value w.bytes) w
    → IfSome (behind c t.kind) (λ d. IsRingFront d (reverse (corners_with c t x cs)) (x_with c t x) (place_with c t k) (w ∷ ws))
ring_step c t cs x k w ws h f r a s = go c t.kind h f r s
  where
    go : (c : Control) (l : WordKind) → IsRingFront c (reverse cs) x k ws → is_full c (length cs) ≡ false → (ends_ring c l && not (is_ring cs)) ≡ false → IsShown (piece_of c l t.value w.bytes) w
        → IfSome (behind c l) (λ d. IsRingFront d (reverse (corners_with c t x cs)) (x_with c t x) (place_with c t k) (w ∷ ws))
    go Polygon kind.Name h f r s = ((s, h.0), h.1)
    go Polygon kind.Number h f r s = tt
    go Polygon (kind.Sign b) h f r s = tt
    go Shape kind.Name h f r s = tt
    go Shape kind.Number h f r s = tt
    go Shape (kind.Sign b) h f r s = elim (cases_Bool (b == 40)) [
      | inl e ↦ rw e ((as_sign w.bytes b 40 s e, h.0), h.1)
      | inr e ↦ rw e tt
    ]
    go Ring kind.Name h f r s = tt
    go Ring kind.Number h f r s = tt
    go Ring (kind.Sign b) h f r s = elim (cases_Bool (b == 40)) [
      | inl e ↦ rw (e, h.1) ((as_sign w.bytes b 40 s e, h.0), omega arith)
      | inr e ↦ rw e tt
    ]
    go CornerX kind.Name h f r s = tt
    go CornerX kind.Number h f r s = ((s, h.0), omega (arith, below (length cs) f, length-reverse cs), a)
    go CornerX (kind.Sign b) h f r s = tt
    go CornerY kind.Name h f r s = tt
    go CornerY kind.Number h f r s = rw (reverse-append cs ((x, t.value) ∷ [])) ((s, h.0), omega (arith, h.1), h.2, tt)
    go CornerY (kind.Sign b) h f r s = tt
    go Corner kind.Name h f r s = tt
    go Corner kind.Number h f r s = tt
    go Corner (kind.Sign b) h f r s = elim (cases_Bool (b == 44)) [
      | inl e ↦ rw e (comma_more (reverse cs) w ws h.3 (as_sign w.bytes b 44 s e) h.0, h.1)
      | inr e ↦ elim (cases_Bool (b == 41)) [
        | inl g ↦ rw (e, g) ((as_sign w.bytes b 41 s g, h.0), h.1, ap is_ring (reverse-reverse cs) ∙ not_broken b (is_ring cs) g r)
        | inr g ↦ rw (e, g) tt
      ]
    ]
    go ShapeEnd kind.Name h f r s = tt
    go ShapeEnd kind.Number h f r s = tt
    go ShapeEnd (kind.Sign b) h f r s = elim (cases_Bool (b == 41)) [
      | inl e ↦ rw e ((as_sign w.bytes b 41 s e, h.0), h.1, h.2)
      | inr e ↦ rw e tt
    ]
    go End kind.Name h f r s = tt
    go End kind.Number h f r s = tt
    go End (kind.Sign b) h f r s = tt
    go _ l h f r s = absurd h

-- ---- how many corners

pub past_is : (c : Control) (cs : List (ℤ × ℤ)) (x : ℤ) (k : ℕ) (ws : List Word) → IsRingFront c (reverse cs) x k ws → control Polygon ws ≡ Some c → is_past Polygon ws ≡ is_full c (length cs)
past_is CornerX cs x k ws h e =
    let ps = reverse cs in
    rw (e, commas_led Polygon CornerX (before_corner ps) ws (before_corner_leads ps) h.0, before_corner_commas ps, length-reverse cs) refl
past_is Name cs x k ws h e = absurd h
past_is _ cs x k ws h e = rw e refl

pub full_further : (c : Control) (n : ℕ) → is_full c n ≡ true → is_end c ≡ false
full_further CornerX n e = refl
full_further _ n e = absurd (true≢false (sym e))

-- ---- a ring that isn't one

pub corners_are : (rs : List (ℤ × ℤ)) (ws : List Word) → AreShown (behind_corner rs) ws → corners ws ≡ rs
corners_are [] [] h = refl
corners_are [] (w ∷ ws) h = absurd h
corners_are (p ∷ ps) [] h = absurd h
corners_are (p ∷ ps) (y ∷ []) h = absurd h.1
corners_are (p ∷ []) (y ∷ x ∷ []) h = absurd h.1.1
corners_are (p ∷ []) (y ∷ x ∷ a ∷ []) h = absurd h.1.1.1
corners_are (p ∷ []) (y ∷ x ∷ a ∷ b ∷ []) h = absurd h.1.1.1.1
corners_are (p ∷ []) (y ∷ x ∷ a ∷ b ∷ c ∷ []) h = rw (h.0.0, h.1.0) refl
corners_are (p ∷ []) (y ∷ x ∷ a ∷ b ∷ c ∷ d ∷ ws) h = absurd h.1.1.1.1.1
corners_are (p ∷ q ∷ ps) (y ∷ x ∷ []) h = absurd h.1.1
corners_are (p ∷ q ∷ ps) (y ∷ x ∷ c ∷ ws) h = rw (h.0.0, h.1.0) (ap (λ z. p ∷ z) (corners_are (q ∷ ps) ws h.1.1.1))

ring_wrong : (rs : List (ℤ × ℤ)) (k : ℕ) (ws : List Word) → AreShown (behind_corner rs) ws → IsSome rs → IsAt 1 k ws → wrong_ring ws ≡ (if is_ring (reverse rs) then None else Some k)
ring_wrong [] k ws h i a = absurd i
ring_wrong (p ∷ ps) k [] h i a = absurd h
ring_wrong (p ∷ ps) k (y ∷ []) h i a = absurd h.1
ring_wrong (p ∷ ps) k (y ∷ x ∷ ws) h i a = rw (corners_are (p ∷ ps) (y ∷ x ∷ ws) h, a) (go (is_ring (reverse (p ∷ ps))))
  where
    go : (t : Bool) → (if not t then Some k else None) ≡ (if t then None else Some k)
    go true = refl
    go false = refl

pub ring_taken : (c : Control) (text : List ℕ) (at : ℕ) (cs : List (ℤ × ℤ)) (x : ℤ) (k : ℕ) (s : NextWord) → IsTaken Polygon c text at s → IsRingFront c (reverse cs) x k (words_in (front_of (take at text)))
    → is_full c (length cs) ≡ false → (ends_ring c s.kind && not (is_ring cs)) ≡ false
    → IsRingFront s.control (reverse (corners_with c s x cs)) (x_with c s x) (place_with c s k) (words_in (front_of (take s.end text)))
ring_taken c text at cs x k s t h f r =
    let g = ring_step c s cs x k (word_to text s.start s.end) (words_in (front_of (take at text))) h f r refl (taken_shown Polygon c text at s t) in
    rw t.words (rw t.behind at g)

corner_only : (c : Control) (ps : List (ℤ × ℤ)) (x : ℤ) (k : ℕ) (ws : List Word) (P : Type 0) → IsRingFront c ps x k ws → (c ≡ Corner → P) → (ends_corner (Some c) ≡ false → P) → P
corner_only Corner ps x k ws P h a b = a refl
corner_only _ ps x k ws P h a b = b refl

close_ring : (c : Control) (cs : List (ℤ × ℤ)) (x : ℤ) (k b : ℕ) (ws : List Word) → IsRingFront c (reverse cs) x k ws → control Polygon ws ≡ Some c
    → wrong_sign Polygon b ws ≡ (if ends_ring c (kind.Sign b) && not (is_ring cs) then Some k else None)
close_ring Corner cs x k b ws h e = rw e (go (b == 41) (is_ring cs) (ring_wrong (reverse cs) k ws h.0 h.3 h.2 ∙ ap (λ r. if is_ring r then None else Some k) (reverse-reverse cs)))
  where
    go : (t u : Bool) → wrong_ring ws ≡ (if u then None else Some k) → (if t && true then wrong_ring ws else None) ≡ (if t && not u then Some k else None)
    go true true r = r
    go true false r = r
    go false u r = refl
close_ring _ cs x k b ws h e = rw e (go (b == 41))
  where
    go : (t : Bool) → (if t && false then wrong_ring ws else None) ≡ None
    go true = refl
    go false = refl

pub ring_right : (c : Control) (text : List ℕ) (at : ℕ) (cs : List (ℤ × ℤ)) (x : ℤ) (k : ℕ) (s : NextWord) → IsTaken Polygon c text at s → IsRingFront c (reverse cs) x k (words_in (front_of (take at text)))
    → control Polygon (words_in (front_of (take at text))) ≡ Some c → is_full c (length cs) ≡ false → (ends_ring c s.kind && not (is_ring cs)) ≡ false
    → first_wrong Polygon (words_in (front_of (take at text))) ≡ None → first_wrong Polygon (words_in (front_of (take s.end text))) ≡ None
ring_right c text at cs x k s t h n f r o =
    taken_right Polygon c text at s t o (past_is c cs x k (words_in (front_of (take at text))) h n ∙ f)
    (λ b e. close_ring c cs x k b (words_in (front_of (take at text))) h n ∙ ap (λ u. if u then Some k else None) (ap (λ l. ends_ring c l && not (is_ring cs)) (sym e) ∙ r))

broken_sign : (c : Control) (l : WordKind) (t : Bool) → (ends_ring c l && t) ≡ true → (b : ℕ) × (l ≡ kind.Sign b)
broken_sign Corner kind.Name t e = absurd (true≢false (sym e))
broken_sign Corner kind.Number t e = absurd (true≢false (sym e))
broken_sign Corner (kind.Sign b) t e = (b, refl)
broken_sign _ l t e = absurd (true≢false (sym e))

pub ring_fault : (c : Control) (text : List ℕ) (at : ℕ) (cs : List (ℤ × ℤ)) (x : ℤ) (k : ℕ) (s : NextWord) → IsTaken Polygon c text at s → IsRingFront c (reverse cs) x k (words_in (front_of (take at text)))
    → control Polygon (words_in (front_of (take at text))) ≡ Some c → is_full c (length cs) ≡ false → (ends_ring c s.kind && not (is_ring cs)) ≡ true
    → first_wrong Polygon (words_in (front_of (take at text))) ≡ None → IsFault Polygon text k
ring_fault c text at cs x k s t h n f r o =
    let b = broken_sign c s.kind (not (is_ring cs)) r in
    inr (inl (taken_wrong Polygon c text at s k t o (past_is c cs x k (words_in (front_of (take at text))) h n ∙ f) b.0 b.1
    (close_ring c cs x k b.0 (words_in (front_of (take at text))) h n ∙ ap (λ u. if u then Some k else None) (ap (λ l. ends_ring c l && not (is_ring cs)) (sym b.1) ∙ r))))

-- ---- the whole polygon

before_is : (rs : List (ℤ × ℤ)) → IsSome rs → before_corner rs ≡ sign 44 ∷ behind_corner rs
before_is [] i = absurd i
before_is (p ∷ ps) i = refl

further_back : (ps rs : List (ℤ × ℤ)) → IsSome rs → reverse (further_corners ps) ++ behind_corner rs ≡ behind_corner (reverse ps ++ rs)
further_back [] rs i = refl
further_back (q ∷ ps) rs i =
    let f = further_corners ps in
    ap (λ z. z ++ behind_corner rs) (reverse-append (sign 44 ∷ number q.0 ∷ second q.1 ∷ []) f)
    ∙ append_assoc (reverse f) (second q.1 ∷ number q.0 ∷ sign 44 ∷ []) (behind_corner rs)
    ∙ ap (λ z. reverse f ++ (second q.1 ∷ number q.0 ∷ z)) (sym (before_is rs i))
    ∙ further_back ps (q ∷ rs) tt
    ∙ ap behind_corner (sym (ap (λ z. z ++ rs) (reverse-append (q ∷ []) ps) ∙ append_assoc (reverse ps) (q ∷ []) rs))

polygon_back : (p : ℤ × ℤ) (ps : List (ℤ × ℤ)) → reverse (polygon_pieces (p ∷ ps)) ≡ sign 41 ∷ sign 41 ∷ behind_corner (reverse (p ∷ ps))
polygon_back p ps =
    let f = further_corners ps in
    reverse-append (keyword (codes "polygon") ∷ sign 40 ∷ sign 40 ∷ number p.0 ∷ second p.1 ∷ []) (f ++ sign 41 ∷ sign 41 ∷ [])
    ∙ ap (λ z. z ++ behind_corner (p ∷ [])) (reverse-append f (sign 41 ∷ sign 41 ∷ []))
    ∙ ap (λ z. sign 41 ∷ sign 41 ∷ z) (further_back ps (p ∷ []) tt ∙ ap behind_corner (sym (reverse-append (p ∷ []) ps)))

pub ring_some : (cs : List (ℤ × ℤ)) → is_ring cs ≡ true → reverse (polygon_pieces cs) ≡ sign 41 ∷ sign 41 ∷ behind_corner (reverse cs)
ring_some [] e = absurd (true≢false (sym e))
ring_some (p ∷ ps) e = polygon_back p ps

record Whole (cs : List (ℤ × ℤ)) (ws : List Word) : Type 0 where
  shown : AreShown (sign 41 ∷ sign 41 ∷ behind_corner (reverse cs)) ws
  few : length (reverse cs) ≤ 1024
  ring : is_ring (reverse (reverse cs)) ≡ true

ring_end : (c : Control) (cs : List (ℤ × ℤ)) (x : ℤ) (k : ℕ) (ws : List Word) → is_end c ≡ true → IsRingFront c (reverse cs) x k ws → Whole cs ws
ring_end End cs x k ws e h = record { shown = h.0; few = h.1; ring = h.2 }
ring_end Ranged cs x k ws e h = absurd h
ring_end _ cs x k ws e h = absurd (true≢false (sym e))

pub ring_whole : (c : Control) (text : List ℕ) (at : ℕ) (cs : List (ℤ × ℤ)) (x : ℤ) (k : ℕ) → is_end c ≡ true → words_in (front_of text) ≡ words_in (front_of (take at text))
    → IsRingFront c (reverse cs) x k (words_in (front_of (take at text))) → IsPolygonText text cs
ring_whole c text at cs x k e w h =
    let g = ring_end c cs x k (words_in (front_of (take at text))) e h in
    let r : is_ring cs ≡ true = ap is_ring (sym (reverse-reverse cs)) ∙ g.ring in
    let s : AreShown (reverse (polygon_pieces cs)) (words_in (front_of text)) = rw (ring_some cs r, w) g.shown in
    (rw (reverse-reverse (polygon_pieces cs)) at (shown_reverse (reverse (polygon_pieces cs)) (words_in (front_of text)) s), r, omega (arith, g.few, length-reverse cs))

-- ---- whether corners are a ring

last_is : (p q : ℤ × ℤ) (ps : List (ℤ × ℤ)) → is_last p (q ∷ ps) ≡ is_same p (get_or (q ∷ ps) (length ps) p)
last_is p q [] = refl
last_is p q (r ∷ ps) = last_is p r ps

get_any : (ps : List (ℤ × ℤ)) (i : ℕ) (d e : ℤ × ℤ) → i < length ps → get_or ps i d ≡ get_or ps i e
get_any [] i d e h = absurd (omega arith)
get_any (p ∷ ps) zero d e h = refl
get_any (p ∷ ps) (suc i) d e h = get_any ps i d e (omega arith)

pub ring_is : (ps : List (ℤ × ℤ)) (d : ℤ × ℤ) → 4 ≤ length ps → is_same (get_or ps 0 d) (get_or ps (length ps - 1) d) ≡ is_ring ps
ring_is [] d h = absurd (omega arith)
ring_is (p ∷ []) d h = absurd (omega arith)
ring_is (p ∷ q ∷ ps) d h =
    let z : length (p ∷ q ∷ ps) - 1 ≡ suc (length ps) = omega arith in
    let m : nat_le 3 (length (q ∷ ps)) ≡ true = le-leb 3 (length (q ∷ ps)) (omega arith) in
    rw (z, m) (ap (is_same p) (get_any (q ∷ ps) (length ps) d p (omega arith)) ∙ sym (last_is p q ps))
