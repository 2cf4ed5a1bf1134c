-- a text says what its pieces stand for, and nothing else
use Rattle.std.proofs.Common.{◌≡◌, ℕ, zero, suc, ◌<◌, arith, subst, sym, refl, ap, ◌∙◌, List, [], ◌∷◌, ◌++◌, length, Bool, true, false}
use Rattle.std.specs.Prelude.{ℤ, pos, ◌≤ℤ◌, ◌==◌, Option, Some, None, codes, int_le, T, option_map}
use Rattle.std.specs.Option.{option_and_then}
use Rattle.std.specs.Int.Signed.{le_z_yes}
use Rattle.std.proofs.lemmas.Bool.{true≢false}
use Rattle.decimal_coords.specs.Scanning.{accepts, run}
use Rattle.decimal_coords.specs.declared.scan.Scan.TheVariants.{Start}
use Rattle.limits_text.specs.declared.shapes.Box3.{Box3}
use Rattle.limits_text.specs.declared.shapes.NamedRange.{NamedRange}
use Rattle.limits_text.specs.Words.{Word}
use Rattle.limits_text.specs.Wrong.{is_ring}
use Rattle.limits_text.specs.Pieces.{Piece, words_of, sign, IsPointText, IsInOrder, AreInOrder, IsBoundsText, IsPolygonText, IsRangesText, pair_pieces, further_pair, box_pieces, corner_pieces, further_corners, open_byte, close_byte, range_then, further_ranges}
use Rattle.limits_text.specs.Texts.{Reading, the_end, either, this_sign, this_word, a_pair, flat_end, high_end, last_corner, then_more, an_optional, one_of, a_range, point_of, bounds_of, corners_in, if_ring, polygon_of, ranges_in, ranges_of}
use Rattle.limits_text.proofs.Reading.{Shows, end_says, sign_says, sign_not, first_says, other_says, one_says, perhaps_says, word_says, name_says, decimal_says, second_says, optional_says, end_said, if_true, sign_said, either_said, one_said, perhaps_said, word_said, name_said, decimal_said, second_said, optional_said}

-- ---- points

pub point_says : (text : List ℕ) (p : ℤ × ℤ) → IsPointText text p → point_of text ≡ Some p
unfolding point_of
point_says text p h =
    word_says (codes "point") _ _ (words_of text) p (record { are = h }) (λ us i. sign_says 40 _ _ us p i (λ us i. decimal_says p.0 _ _ us p i
    (λ us i. second_says p.1 _ _ us p i (λ us i. sign_says 41 _ _ us p i (end_says p)))))

pub point_said : (text : List ℕ) (p : ℤ × ℤ) → point_of text ≡ Some p → IsPointText text p
unfolding point_of
point_said text p e =
    (word_said {Q = Unit {0}} (codes "point") _ _ (words_of text) p e (λ us e. sign_said 40 _ _ us p e (λ us e. decimal_said p.0 _ _ us p e
    (λ x us e. second_said p.1 _ _ us p e (λ y us e. sign_said 41 _ _ us p e
    (λ us e. let z = end_said (x, y) p us e in (((tt, ap (λ q. q.0) z.0), ap (λ q. q.1) z.0), z.1))))))).1.are

-- ---- boxes

is_true : (t : Bool) → T t → t ≡ true
is_true true h = refl
is_true false h = absurd h

is_le : (a b : ℤ) → a ≤ℤ b → int_le a b ≡ true
is_le a b h = is_true (int_le a b) h.le

le_is : (a b : ℤ) → int_le a b ≡ true → a ≤ℤ b
le_is a b e = le_z_yes {a = a} {b = b} (rw e tt)

pair_says : {A : Type 0} (p : ℤ × ℤ) (rest : ℤ × ℤ → Reading A) (ps : List Piece) (ws : List Word) (v : A) → Shows (pair_pieces p ++ ps) ws → IsInOrder p
    → ((us : List Word) → Shows ps us → rest p us ≡ Some v) → a_pair rest ws ≡ Some v
pair_says p rest ps ws v h o k =
    sign_says 91 _ _ ws v h (λ us i. decimal_says p.0 _ _ us v i (λ us i. sign_says 44 _ _ us v i (λ us i. decimal_says p.1 _ _ us v i
    (λ us i. sign_says 93 _ _ us v i (λ us i. rw (is_le p.0 p.1 o) (k us i))))))

pair_said : {A Q : Type 0} (p : ℤ × ℤ) (rest : ℤ × ℤ → Reading A) (ps : List Piece) (ws : List Word) (v : A) → a_pair rest ws ≡ Some v
    → ((q : ℤ × ℤ) (us : List Word) → rest q us ≡ Some v → (Q × (q ≡ p)) × Shows ps us) → (Q × IsInOrder p) × Shows (pair_pieces p ++ ps) ws
pair_said p rest ps ws v e k =
    sign_said 91 _ _ ws v e (λ us e. decimal_said p.0 _ _ us v e (λ a us e. sign_said 44 _ _ us v e (λ us e. decimal_said p.1 _ _ us v e
    (λ b us e. sign_said 93 _ _ us v e (λ us e.
    let t = if_true (int_le a b) (rest (a, b) us) v e in
    let s = k (a, b) us t.1 in
    ((((s.0.0, subst IsInOrder s.0.1 (le_is a b t.0)), ap (λ q. q.0) s.0.1), ap (λ q. q.1) s.0.1), s.1))))))

box_end_says : (b : Box3) (ws : List Word) → Shows (further_pair b.z ++ sign 41 ∷ []) ws → AreInOrder b.z
    → either (flat_end b.x b.y) (high_end b.x b.y) ws ≡ Some b
box_end_says b ws h o = go b.z refl h o
  where
    ends : (z : Option (ℤ × ℤ)) → b.z ≡ z → (us : List Word) → Shows [] us → the_end (record { x = b.x; y = b.y; z = z }) us ≡ Some b
    ends z e us i = end_says (record { x = b.x; y = b.y; z = z }) us i ∙ ap (λ z. Some (record { x = b.x; y = b.y; z = z })) (sym e)

    go : (z : Option (ℤ × ℤ)) → b.z ≡ z → Shows (further_pair z ++ sign 41 ∷ []) ws → AreInOrder z → either (flat_end b.x b.y) (high_end b.x b.y) ws ≡ Some b
    go None e h o = first_says (flat_end b.x b.y) (high_end b.x b.y) ws b (sign_says 41 _ _ ws b h (ends None e))
    go (Some z) e h o =
        other_says (flat_end b.x b.y) (high_end b.x b.y) ws b (sign_not 44 41 _ _ ws h refl)
        (sign_says 44 _ _ ws b h (λ us i. pair_says z (λ z. this_sign 41 (the_end (record { x = b.x; y = b.y; z = Some z }))) (sign 41 ∷ []) us b i o
        (λ us i. sign_says 41 _ _ us b i (ends (Some z) e))))

abbrev second_pair : ℤ × ℤ → Reading Box3
second_pair x = this_sign 44 (a_pair (λ y. either (flat_end x y) (high_end x y)))

pub box_says : (text : List ℕ) (b : Box3) → IsBoundsText text b → bounds_of text ≡ Some b
unfolding bounds_of
box_says text b h =
    sign_says 40 _ _ (words_of text) b (record { are = h.0 }) (λ us i. pair_says b.x second_pair _ us b i h.1 (λ us i. sign_says 44 _ _ us b i
    (λ us i. pair_says b.y (λ y. either (flat_end b.x y) (high_end b.x y)) _ us b i h.2 (λ us i. box_end_says b us i h.3))))

no_height : (q : ℤ × ℤ) → Some q ≡ None → ⊥
no_height q e = cc

one_height : (q p : ℤ × ℤ) → Some q ≡ Some p → q ≡ p
one_height q p e = cc

record IsEnd (x y : ℤ × ℤ) (b : Box3) (ws : List Word) : Type 0 where
  x_is : x ≡ b.x
  y_is : y ≡ b.y
  order : AreInOrder b.z
  shown : Shows (further_pair b.z ++ sign 41 ∷ []) ws

flat_said : (x y : ℤ × ℤ) (b : Box3) (ws : List Word) → flat_end x y ws ≡ Some b → IsEnd x y b ws
flat_said x y b ws h =
    let r = sign_said 41 (the_end (record { x = x; y = y; z = None })) [] ws b h (end_said (record { x = x; y = y; z = None }) b) in
    let z : None ≡ b.z = ap (λ b. b.z) r.0 in
    record { x_is = ap (λ b. b.x) r.0; y_is = ap (λ b. b.y) r.0; order = rw (← z) tt; shown = rw (← z) r.1 }

abbrev third_pair : ℤ × ℤ → ℤ × ℤ → ℤ × ℤ → Reading Box3
third_pair x y z = this_sign 41 (the_end (record { x = x; y = y; z = Some z }))

high_said : (x y : ℤ × ℤ) (b : Box3) (z : Option (ℤ × ℤ)) (ws : List Word) → b.z ≡ z → high_end x y ws ≡ Some b → IsEnd x y b ws
high_said x y b None ws i h = absurd (sign_said {Q = ⊥} 44 _ [] ws b h (λ us e. absurd (third us e))).0
  where
    third : (us : List Word) → a_pair (third_pair x y) us ≡ Some b → ⊥
    third us e = (pair_said {Q = ⊥} (pos 0, pos 0) (third_pair x y) [] us b e
        (λ q us e. absurd (sign_said {Q = ⊥} 41 _ [] us b e (λ us e. absurd (no_height q (ap (λ b. b.z) (end_said _ b us e).0 ∙ i)))).0)).0.0
high_said x y b (Some p) ws i h =
    let r = sign_said {Q = ((x ≡ b.x) × (y ≡ b.y)) × IsInOrder p} 44 _ (pair_pieces p ++ sign 41 ∷ []) ws b h
    (λ us e. pair_said p (third_pair x y) (sign 41 ∷ []) us b e (λ q us e. sign_said 41 _ [] us b e (third q))) in
    record { x_is = r.0.0.0; y_is = r.0.0.1; order = rw i r.0.1; shown = rw i r.1 }
  where
    third : (q : ℤ × ℤ) (us : List Word) → the_end (record { x = x; y = y; z = Some q }) us ≡ Some b → (((x ≡ b.x) × (y ≡ b.y)) × (q ≡ p)) × Shows [] us
    third q us e =
        let z = end_said (record { x = x; y = y; z = Some q }) b us e in
        (((ap (λ b. b.x) z.0, ap (λ b. b.y) z.0), one_height q p (ap (λ b. b.z) z.0 ∙ i)), z.1)

pub box_said : (text : List ℕ) (b : Box3) → bounds_of text ≡ Some b → IsBoundsText text b
unfolding bounds_of
box_said text b e = (r.1.are, r.0.1, r.0.0.0, r.0.0.1)
  where
    third : (x y : ℤ × ℤ) (us : List Word) → either (flat_end x y) (high_end x y) us ≡ Some b
        → (((x ≡ b.x) × AreInOrder b.z) × (y ≡ b.y)) × Shows (further_pair b.z ++ sign 41 ∷ []) us
    third x y us e =
        let z = either_said (flat_end x y) (high_end x y) us b e (flat_said x y b us) (high_said x y b b.z us refl) in
        (((z.x_is, z.order), z.y_is), z.shown)

    second : (x : ℤ × ℤ) (us : List Word) → second_pair x us ≡ Some b
        → ((IsInOrder b.y × AreInOrder b.z) × (x ≡ b.x)) × Shows (sign 44 ∷ pair_pieces b.y ++ further_pair b.z ++ sign 41 ∷ []) us
    second x us e =
        let r = sign_said {Q = ((x ≡ b.x) × AreInOrder b.z) × IsInOrder b.y} 44 _ (pair_pieces b.y ++ further_pair b.z ++ sign 41 ∷ []) us b e
        (λ us e. pair_said b.y (λ y. either (flat_end x y) (high_end x y)) (further_pair b.z ++ sign 41 ∷ []) us b e (third x)) in
        (((r.0.1, r.0.0.1), r.0.0.0), r.1)

    r : ((IsInOrder b.y × AreInOrder b.z) × IsInOrder b.x) × Shows (box_pieces b) (words_of text)
    r = sign_said 40 (a_pair second_pair) _ (words_of text) b e (λ us e. pair_said b.x second_pair _ us b e second)

-- ---- lists of parts

cons_first : {X : Type 0} (x y : X) (xs ys : List X) → x ∷ xs ≡ y ∷ ys → x ≡ y
cons_first x y xs ys e = cc

cons_rest : {X : Type 0} (x y : X) (xs ys : List X) → x ∷ xs ≡ y ∷ ys → xs ≡ ys
cons_rest x y xs ys e = cc

no_parts : {X : Type 0} (x : X) (xs : List X) → x ∷ xs ≡ [] → ⊥
no_parts x xs e = cc

-- a first part and more
record IsMore {X : Type 0} (x y : X) (xs : List X) (o : Option (List X)) : Type 0 where
  first : x ≡ y
  further : o ≡ Some xs

more_said : {X : Type 0} (x y : X) (xs : List X) (o : Option (List X)) → option_map (λ ys. x ∷ ys) o ≡ Some (y ∷ xs) → IsMore x y xs o
more_said x y xs None e = let z : None ≡ Some (y ∷ xs) = e in cc
more_said x y xs (Some ys) e = let z : Some (x ∷ ys) ≡ Some (y ∷ xs) = e in record { first = cc; further = cc }

none_more : {X : Type 0} (x : X) (o : Option (List X)) → option_map (λ ys. x ∷ ys) o ≡ Some [] → ⊥
none_more x None e = let z : None ≡ Some [] = e in cc
none_more x (Some ys) e = let z : Some (x ∷ ys) ≡ Some [] = e in cc

-- ---- polygons

corners_says : (n : ℕ) (p : ℤ × ℤ) (ps : List (ℤ × ℤ)) (ws : List Word) → length ps < n → Shows (corner_pieces p ++ further_corners ps ++ sign 41 ∷ sign 41 ∷ []) ws
    → corners_in n ws ≡ Some (p ∷ ps)
unfolding corners_in
corners_says zero p ps ws l h = absurd (omega arith)
corners_says (suc n) p ps ws l h =
    decimal_says p.0 _ _ ws (p ∷ ps) h (λ us i. second_says p.1 _ _ us (p ∷ ps) i (more ps l (corners_says n)))
  where
    more : (ps : List (ℤ × ℤ)) → length ps < suc n → ((q : ℤ × ℤ) (qs : List (ℤ × ℤ)) (us : List Word) → length qs < n → Shows (corner_pieces q ++ further_corners qs ++ sign 41 ∷ sign 41 ∷ []) us
        → corners_in n us ≡ Some (q ∷ qs)) → (us : List Word) → Shows (further_corners ps ++ sign 41 ∷ sign 41 ∷ []) us
        → either (last_corner p) (then_more p (corners_in n)) us ≡ Some (p ∷ ps)
    more [] l g us h =
        first_says (last_corner p) (then_more p (corners_in n)) us (p ∷ []) (sign_says 41 _ _ us (p ∷ []) h (λ us i. sign_says 41 _ _ us (p ∷ []) i (end_says (p ∷ []))))
    more (q ∷ qs) l g us h =
        other_says (last_corner p) (then_more p (corners_in n)) us (p ∷ q ∷ qs) (sign_not 44 41 _ _ us h refl)
        (sign_says 44 _ _ us (p ∷ q ∷ qs) h (λ us i. ap (option_map (λ qs. p ∷ qs)) (g q qs us (omega arith) i)))

corners_some : (n : ℕ) (ws : List Word) → corners_in n ws ≡ Some [] → ⊥
unfolding corners_in
corners_some zero ws e = let z : None ≡ Some [] = e in cc
corners_some (suc n) ws e = (decimal_said {Q = ⊥} (pos 0) _ [] ws [] e (λ x us e. absurd (second_said {Q = ⊥} (pos 0) _ [] us [] e (λ y us e. absurd (last (x, y) us e))).0)).0
  where
    last : (p : ℤ × ℤ) (us : List Word) → either (last_corner p) (then_more p (corners_in n)) us ≡ Some [] → ⊥
    last p us e = either_said (last_corner p) (then_more p (corners_in n)) us [] e
        (λ h. (sign_said {Q = ⊥} 41 _ [] us [] h (λ us e. absurd (sign_said {Q = ⊥} 41 _ [] us [] e (λ us e. absurd (no_parts p [] (end_said _ [] us e).0))).0)).0)
        (λ h. (sign_said {Q = ⊥} 44 _ [] us [] h (λ us e. absurd (none_more p _ e))).0)

corners_said : (n : ℕ) (p : ℤ × ℤ) (ps : List (ℤ × ℤ)) (ws : List Word) → corners_in n ws ≡ Some (p ∷ ps)
    → (length ps < n) × Shows (corner_pieces p ++ further_corners ps ++ sign 41 ∷ sign 41 ∷ []) ws
unfolding corners_in
corners_said zero p ps ws e = let z : None ≡ Some (p ∷ ps) = e in cc
corners_said (suc n) p ps ws e =
    decimal_said p.0 _ _ ws (p ∷ ps) e (λ x us e. second_said p.1 _ _ us (p ∷ ps) e (λ y us e. both (corners_said n) (x, y) us e))
  where
    last : (q : ℤ × ℤ) (us : List Word) → last_corner q us ≡ Some (p ∷ ps) → ((length ps < suc n) × (q ≡ p)) × Shows (further_corners ps ++ sign 41 ∷ sign 41 ∷ []) us
    last q us h =
        let r = sign_said 41 _ (sign 41 ∷ []) us (p ∷ ps) h (λ us e. sign_said 41 _ [] us (p ∷ ps) e (end_said (q ∷ []) (p ∷ ps))) in
        let b : [] ≡ ps = cons_rest q p [] ps r.0 in
        ((rw (← b) (omega arith), cons_first q p [] ps r.0), rw (← b) r.1)

    more : (q : ℤ × ℤ) (ps : List (ℤ × ℤ)) → ((r : ℤ × ℤ) (rs : List (ℤ × ℤ)) (ws : List Word) → corners_in n ws ≡ Some (r ∷ rs)
        → (length rs < n) × Shows (corner_pieces r ++ further_corners rs ++ sign 41 ∷ sign 41 ∷ []) ws)
        → (us : List Word) → then_more q (corners_in n) us ≡ Some (p ∷ ps) → ((length ps < suc n) × (q ≡ p)) × Shows (further_corners ps ++ sign 41 ∷ sign 41 ∷ []) us
    more q [] g us h = absurd (sign_said {Q = ⊥} 44 _ [] us (p ∷ []) h (λ us e. absurd (corners_some n us (more_said q p [] (corners_in n us) e).further))).0
    more q (r ∷ rs) g us h =
        let s = sign_said {Q = (length rs < n) × (q ≡ p)} 44 _ (corner_pieces r ++ further_corners rs ++ sign 41 ∷ sign 41 ∷ []) us (p ∷ r ∷ rs) h (λ us e.
        let m = more_said q p (r ∷ rs) (corners_in n us) e in
        let t = g r rs us m.further in
        ((t.0, m.first), t.1)) in
        ((omega (arith, s.0.0), s.0.1), s.1)

    both : ((r : ℤ × ℤ) (rs : List (ℤ × ℤ)) (ws : List Word) → corners_in n ws ≡ Some (r ∷ rs) → (length rs < n) × Shows (corner_pieces r ++ further_corners rs ++ sign 41 ∷ sign 41 ∷ []) ws)
        → (q : ℤ × ℤ) (us : List Word) → either (last_corner q) (then_more q (corners_in n)) us ≡ Some (p ∷ ps)
        → (((length ps < suc n) × (q.0 ≡ p.0)) × (q.1 ≡ p.1)) × Shows (further_corners ps ++ sign 41 ∷ sign 41 ∷ []) us
    both g q us e =
        let r = either_said (last_corner q) (then_more q (corners_in n)) us (p ∷ ps) e (last q us) (more q ps g us) in
        (((r.0.0, ap (λ q. q.0) r.0.1), ap (λ q. q.1) r.0.1), r.1)

pub polygon_says : (text : List ℕ) (ps : List (ℤ × ℤ)) → IsPolygonText text ps → polygon_of text ≡ Some ps
unfolding polygon_of
polygon_says text [] h = absurd (true≢false (sym h.1))
polygon_says text (p ∷ ps) h =
    ap (option_and_then if_ring) (word_says (codes "polygon") _ _ (words_of text) (p ∷ ps) (record { are = h.0 })
    (λ us i. sign_says 40 _ _ us (p ∷ ps) i (λ us i. sign_says 40 _ _ us (p ∷ ps) i (λ us i. corners_says 1024 p ps us (omega (arith, h.2)) i))))
    ∙ rw h.1 refl

record IsRing (o : Option (List (ℤ × ℤ))) (ps : List (ℤ × ℤ)) : Type 0 where
  is : o ≡ Some ps
  ring : is_ring ps ≡ true

ring_said : (o : Option (List (ℤ × ℤ))) (ps : List (ℤ × ℤ)) → option_and_then if_ring o ≡ Some ps → IsRing o ps
ring_said None ps e = let z : None ≡ Some ps = e in cc
ring_said (Some qs) ps e =
    let t = if_true (is_ring qs) (Some qs) ps e in
    let z : qs ≡ ps = some_one qs ps t.1 in
    record { is = t.1; ring = ap is_ring (sym z) ∙ t.0 }
  where
    some_one : (qs ps : List (ℤ × ℤ)) → Some qs ≡ Some ps → qs ≡ ps
    some_one qs ps e = cc

pub polygon_said : (text : List ℕ) (ps : List (ℤ × ℤ)) → polygon_of text ≡ Some ps → IsPolygonText text ps
unfolding polygon_of
polygon_said text ps e = go ps (ring_said _ ps e)
  where
    go : (ps : List (ℤ × ℤ)) → IsRing (this_word (codes "polygon") (this_sign 40 (this_sign 40 (corners_in 1024))) (words_of text)) ps → IsPolygonText text ps
    go [] r = absurd (true≢false (sym r.ring))
    go (p ∷ ps) r =
        let s = word_said (codes "polygon") _ _ (words_of text) (p ∷ ps) r.is
        (λ us e. sign_said 40 _ _ us (p ∷ ps) e (λ us e. sign_said 40 _ _ us (p ∷ ps) e (λ us e. corners_said 1024 p ps us e))) in
        (s.1.are, r.ring, omega (arith, s.0))

-- ---- ranges

not_negation : (t : Bool) → (open_byte t == 33) ≡ false
not_negation true = refl
not_negation false = refl

no_decimal : (t : Bool) → accepts (run Start (close_byte t ∷ [])) ≡ false
no_decimal true = refl
no_decimal false = refl

-- what is read behind the parts of a range
abbrev behind_all : {A : Type 0} → (NamedRange → Reading A) → List ℕ → Bool → Bool → Option ℤ → Option ℤ → Bool → Reading A
behind_all rest n t a low high b = rest (record { name = n; interval = record { low = low; low_in = a; high = high; high_in = b; negated = t } })

abbrev behind_high : {A : Type 0} → (NamedRange → Reading A) → List ℕ → Bool → Bool → Option ℤ → Option ℤ → Reading A
behind_high rest n t a low high = one_of 93 41 (behind_all rest n t a low high)

abbrev behind_low : {A : Type 0} → (NamedRange → Reading A) → List ℕ → Bool → Bool → Option ℤ → Reading A
behind_low rest n t a low = this_sign 58 (an_optional (behind_high rest n t a low))

abbrev behind_opening : {A : Type 0} → (NamedRange → Reading A) → List ℕ → Bool → Bool → Reading A
behind_opening rest n t a = an_optional (behind_low rest n t a)

range_says : {A : Type 0} (r : NamedRange) (rest : NamedRange → Reading A) (ps : List Piece) (ws : List Word) (v : A) → Shows (range_then r ps) ws
    → ((us : List Word) → Shows ps us → rest r us ≡ Some v) → a_range rest ws ≡ Some v
range_says r rest ps ws v h k =
    let i = r.interval in
    name_says r.name _ _ ws v h (λ us s. perhaps_says (λ t. one_of 91 40 (behind_opening rest r.name t)) i.negated (open_byte i.low_in) _ us v (not_negation i.low_in) s
    (λ us s. one_says 91 40 (behind_opening rest r.name i.negated) i.low_in _ us v refl s
    (λ us s. optional_says (behind_low rest r.name i.negated i.low_in) i.low 58 _ us v refl s
    (λ us s. sign_says 58 (an_optional (behind_high rest r.name i.negated i.low_in i.low)) _ us v s
    (λ us s. optional_says (behind_high rest r.name i.negated i.low_in i.low) i.high (close_byte i.high_in) _ us v (no_decimal i.high_in) s
    (λ us s. one_says 93 41 (behind_all rest r.name i.negated i.low_in i.low i.high) i.high_in ps us v refl s k))))))

range_said : {A Q : Type 0} (r : NamedRange) (rest : NamedRange → Reading A) (ps : List Piece) (ws : List Word) (v : A) → a_range rest ws ≡ Some v
    → ((q : NamedRange) (us : List Word) → rest q us ≡ Some v → (Q × (q ≡ r)) × Shows ps us) → Q × Shows (range_then r ps) ws
range_said r rest ps ws v e k =
    let i = r.interval in
    name_said r.name _ _ ws v e (λ n us e. perhaps_said _ i.negated _ us v e (λ t us e. one_said 91 40 _ i.low_in _ us v e
    (λ a us e. optional_said _ i.low _ us v e (λ low us e. sign_said 58 _ _ us v e (λ us e. optional_said _ i.high _ us v e
    (λ high us e. one_said 93 41 _ i.high_in ps us v e (λ b us e.
    let s = k (record { name = n; interval = record { low = low; low_in = a; high = high; high_in = b; negated = t } }) us e in
    let z = s.0.1 in (
      (
        (
          ((((s.0.0, ap (λ r. r.name) z), ap (λ r. r.interval.negated) z), ap (λ r. r.interval.low_in) z), ap (λ r. r.interval.low) z),
          ap (λ r. r.interval.high) z,
        ),
        ap (λ r. r.interval.high_in) z,
      ),
      s.1,
    ))))))))

all_says : (n : ℕ) (r : NamedRange) (rs : List NamedRange) (ws : List Word) → length rs < n → Shows (range_then r (further_ranges rs)) ws
    → ranges_in n ws ≡ Some (r ∷ rs)
unfolding ranges_in
all_says zero r rs ws l h = absurd (omega arith)
all_says (suc n) r rs ws l h = range_says r (λ r. either (the_end (r ∷ [])) (then_more r (ranges_in n))) _ ws (r ∷ rs) h (more rs l (all_says n))
  where
    more : (rs : List NamedRange) → length rs < suc n
        → ((q : NamedRange) (qs : List NamedRange) (us : List Word) → length qs < n → Shows (range_then q (further_ranges qs)) us → ranges_in n us ≡ Some (q ∷ qs))
        → (us : List Word) → Shows (further_ranges rs) us → either (the_end (r ∷ [])) (then_more r (ranges_in n)) us ≡ Some (r ∷ rs)
    more [] l g us h = first_says (the_end (r ∷ [])) (then_more r (ranges_in n)) us (r ∷ []) (end_says (r ∷ []) us h)
    more (q ∷ qs) l g [] h = absurd h.are
    more (q ∷ qs) l g (w ∷ us) h =
        other_says (the_end (r ∷ [])) (then_more r (ranges_in n)) (w ∷ us) (r ∷ q ∷ qs) refl
        (sign_says 44 _ _ (w ∷ us) (r ∷ q ∷ qs) h (λ us i. ap (option_map (λ qs. r ∷ qs)) (g q qs us (omega arith) i)))

any_range : NamedRange
any_range = record { name = []; interval = record { low = None; low_in = false; high = None; high_in = false; negated = false } }

all_some : (n : ℕ) (ws : List Word) → ranges_in n ws ≡ Some [] → ⊥
unfolding ranges_in
all_some zero ws e = let z : None ≡ Some [] = e in cc
all_some (suc n) ws e = (range_said {Q = ⊥} any_range (λ r. either (the_end (r ∷ [])) (then_more r (ranges_in n))) [] ws [] e (λ r us e. absurd (last r us e))).0
  where
    last : (r : NamedRange) (us : List Word) → either (the_end (r ∷ [])) (then_more r (ranges_in n)) us ≡ Some [] → ⊥
    last r us e = either_said (the_end (r ∷ [])) (then_more r (ranges_in n)) us [] e
        (λ h. no_parts r [] (end_said (r ∷ []) [] us h).0)
        (λ h. (sign_said {Q = ⊥} 44 _ [] us [] h (λ us e. absurd (none_more r _ e))).0)

all_said : (n : ℕ) (r : NamedRange) (rs : List NamedRange) (ws : List Word) → ranges_in n ws ≡ Some (r ∷ rs)
    → (length rs < n) × Shows (range_then r (further_ranges rs)) ws
unfolding ranges_in
all_said zero r rs ws e = let z : None ≡ Some (r ∷ rs) = e in cc
all_said (suc n) r rs ws e =
    range_said r (λ r. either (the_end (r ∷ [])) (then_more r (ranges_in n))) (further_ranges rs) ws (r ∷ rs) e (both (all_said n))
  where
    last : (q : NamedRange) (us : List Word) → the_end (q ∷ []) us ≡ Some (r ∷ rs) → ((length rs < suc n) × (q ≡ r)) × Shows (further_ranges rs) us
    last q us h =
        let s = end_said (q ∷ []) (r ∷ rs) us h in
        let b : [] ≡ rs = cons_rest q r [] rs s.0 in
        ((rw (← b) (omega arith), cons_first q r [] rs s.0), rw (← b) s.1)

    more : (q : NamedRange) (rs : List NamedRange)
        → ((p : NamedRange) (ps : List NamedRange) (ws : List Word) → ranges_in n ws ≡ Some (p ∷ ps) → (length ps < n) × Shows (range_then p (further_ranges ps)) ws)
        → (us : List Word) → then_more q (ranges_in n) us ≡ Some (r ∷ rs) → ((length rs < suc n) × (q ≡ r)) × Shows (further_ranges rs) us
    more q [] g us h = absurd (sign_said {Q = ⊥} 44 _ [] us (r ∷ []) h (λ us e. absurd (all_some n us (more_said q r [] (ranges_in n us) e).further))).0
    more q (p ∷ ps) g us h =
        let s = sign_said {Q = (length ps < n) × (q ≡ r)} 44 _ (range_then p (further_ranges ps)) us (r ∷ p ∷ ps) h (λ us e.
        let m = more_said q r (p ∷ ps) (ranges_in n us) e in
        let t = g p ps us m.further in
        ((t.0, m.first), t.1)) in
        ((omega (arith, s.0.0), s.0.1), s.1)

    both : ((p : NamedRange) (ps : List NamedRange) (ws : List Word) → ranges_in n ws ≡ Some (p ∷ ps) → (length ps < n) × Shows (range_then p (further_ranges ps)) ws)
        → (q : NamedRange) (us : List Word) → either (the_end (q ∷ [])) (then_more q (ranges_in n)) us ≡ Some (r ∷ rs)
        → ((length rs < suc n) × (q ≡ r)) × Shows (further_ranges rs) us
    both g q us e = either_said (the_end (q ∷ [])) (then_more q (ranges_in n)) us (r ∷ rs) e (last q us) (more q rs g us)

pub ranges_says : (text : List ℕ) (rs : List NamedRange) → IsRangesText text rs → ranges_of text ≡ Some rs
unfolding ranges_of
ranges_says text [] h = absurd (omega (arith, h.1))
ranges_says text (r ∷ rs) h = all_says 64 r rs (words_of text) (omega (arith, h.2)) (record { are = h.0 })

pub ranges_said : (text : List ℕ) (rs : List NamedRange) → ranges_of text ≡ Some rs → IsRangesText text rs
unfolding ranges_of
ranges_said text [] e = absurd (all_some 64 (words_of text) e)
ranges_said text (r ∷ rs) e =
    let s = all_said 64 r rs (words_of text) e in
    (s.1.are, omega arith, omega (arith, s.0))
