-- the way round a ring, a corner at a time
use Rattle.std.proofs.Common.{◌≡◌, ℕ, zero, suc, ◌+◌, ◌-◌, ◌<◌, ◌≤◌, arith, sym, refl, ap, subst, ◌∙◌, List, [], ◌∷◌, length, drop, get_or, drop-cons, add-one, Bool, true, false, ℤ, ◌||◌}
use Rattle.limits_text.specs.Held.{AreHeld}
use Rattle.geo_tests.specs.Tests.{on_edge, crosses, on_border, is_odd, different, last_of, way_round, in_polygon}

pub held_at : (ps : List (ℤ × ℤ)) (i : ℕ) (d : ℤ × ℤ) → AreHeld ps → i < length ps → AreHeld (get_or ps i d ∷ [])
held_at [] i d h l = absurd (omega arith)
held_at (p ∷ ps) zero d h l = (h.0, h.1, tt)
held_at (p ∷ ps) (suc i) d h l = held_at ps i d h.2 (omega arith)

pub held_last : (ps : List (ℤ × ℤ)) (last : ℤ × ℤ) → AreHeld ps → 0 < length ps → last ≡ get_or ps (length ps - 1) last
    → AreHeld (last ∷ [])
held_last ps last h some e = subst (λ (q : ℤ × ℤ). AreHeld (q ∷ [])) (sym e) (held_at ps (length ps - 1) last h (omega arith))

last_is : (a : ℤ × ℤ) (rest : List (ℤ × ℤ)) (d : ℤ × ℤ) → get_or (a ∷ rest) (length rest) d ≡ last_of a rest
last_is a [] d = refl
last_is a (b ∷ rest) d = last_is b rest d

-- it begins with the last corner
pub way_round_is : (ps : List (ℤ × ℤ)) (last : ℤ × ℤ) → 0 < length ps → last ≡ get_or ps (length ps - 1) last
    → way_round ps ≡ last ∷ ps
way_round_is [] last h e = absurd (omega arith)
way_round_is (a ∷ rest) last h e =
    let n : length (a ∷ rest) - 1 ≡ length rest = omega arith in
    ap (λ z. z ∷ a ∷ rest) (sym (e ∙ ap (λ i. get_or (a ∷ rest) i last) n ∙ last_is a rest last))

next_is : (ps : List (ℤ × ℤ)) (i : ℕ) (d : ℤ × ℤ) → i < length ps → drop i ps ≡ get_or ps i d ∷ drop (i + 1) ps
next_is ps i d h = rw (add-one i) (drop-cons ps i d h)

pub border_next : (ps : List (ℤ × ℤ)) (i : ℕ) (d from p : ℤ × ℤ) → i < length ps
    → on_border (from ∷ drop i ps) p ≡ (on_edge from (get_or ps i d) p || on_border (get_or ps i d ∷ drop (i + 1) ps) p)
border_next ps i d from p h = ap (λ z. on_border (from ∷ z) p) (next_is ps i d h)

pub odd_next : (ps : List (ℤ × ℤ)) (i : ℕ) (d from p : ℤ × ℤ) → i < length ps
    → is_odd (from ∷ drop i ps) p ≡ different (crosses from (get_or ps i d) p) (is_odd (get_or ps i d ∷ drop (i + 1) ps) p)
odd_next ps i d from p h = ap (λ z. is_odd (from ∷ z) p) (next_is ps i d h)

pub different_assoc : (a b c : Bool) → different a (different b c) ≡ different (different a b) c
different_assoc true true true = refl
different_assoc true true false = refl
different_assoc true false c = refl
different_assoc false b c = refl

pub different_false : (a : Bool) → different a false ≡ a
different_false true = refl
different_false false = refl

none_left : (ps : List (ℤ × ℤ)) (i : ℕ) → length ps ≤ i → drop i ps ≡ []
none_left [] zero h = refl
none_left [] (suc i) h = refl
none_left (p ∷ ps) zero h = absurd (omega arith)
none_left (p ∷ ps) (suc i) h = none_left ps i (omega arith)

-- behind the last corner
pub at_end : (ps : List (ℤ × ℤ)) (i : ℕ) (from p : ℤ × ℤ) (odd : Bool) → length ps ≤ i
    → on_border (way_round ps) p ≡ on_border (from ∷ drop i ps) p
    → is_odd (way_round ps) p ≡ different odd (is_odd (from ∷ drop i ps) p) → odd ≡ in_polygon p ps
at_end ps i from p odd h b o =
    let e = none_left ps i h in
    let none : on_border (from ∷ drop i ps) p ≡ false = ap (λ z. on_border (from ∷ z) p) e in
    let even : is_odd (from ∷ drop i ps) p ≡ false = ap (λ z. is_odd (from ∷ z) p) e in
    sym (rw (b, none, o, even) (different_false odd))

-- an edge that doesn't have the point on it
pub border_kept : (ps : List (ℤ × ℤ)) (i : ℕ) (d from p : ℤ × ℤ) (on : Bool) → i < length ps
    → on ≡ on_edge from (get_or ps i d) p → on ≡ false
    → on_border (from ∷ drop i ps) p ≡ on_border (get_or ps i d ∷ drop (i + 1) ps) p
border_kept ps i d from p on h e f =
    border_next ps i d from p h ∙ ap (λ t. t || on_border (get_or ps i d ∷ drop (i + 1) ps) p) (sym e ∙ f)

-- an edge that has it on it
pub border_met : (ps : List (ℤ × ℤ)) (i : ℕ) (d from p : ℤ × ℤ) (on : Bool) → i < length ps
    → on ≡ on_edge from (get_or ps i d) p → on ≡ true
    → on_border (way_round ps) p ≡ on_border (from ∷ drop i ps) p → true ≡ in_polygon p ps
border_met ps i d from p on h e f b =
    let met : on_border (way_round ps) p ≡ true =
    b ∙ border_next ps i d from p h ∙ ap (λ t. t || on_border (get_or ps i d ∷ drop (i + 1) ps) p) (sym e ∙ f) in
    sym (rw met refl)

pub odd_kept : (ps : List (ℤ × ℤ)) (i : ℕ) (d from p : ℤ × ℤ) (odd new crossing : Bool) → i < length ps
    → crossing ≡ crosses from (get_or ps i d) p
    → new ≡ different odd crossing
    → different odd (is_odd (from ∷ drop i ps) p) ≡ different new (is_odd (get_or ps i d ∷ drop (i + 1) ps) p)
odd_kept ps i d from p odd new crossing h e f =
    let rest = is_odd (get_or ps i d ∷ drop (i + 1) ps) p in
    ap (different odd) (odd_next ps i d from p h ∙ ap (λ t. different t rest) (sym e))
    ∙ different_assoc odd crossing rest
    ∙ ap (λ t. different t rest) (sym f)
