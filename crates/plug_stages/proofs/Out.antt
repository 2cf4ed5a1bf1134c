-- What is out of a caller's places, as works are taken, held and put back.
use Rattle.std.proofs.Common.{◌≡◌, ◌⊎◌, inl, inr, ℕ, ◌+◌, ◌<◌, zero, suc, Bool, true, false, cond, List, [], ◌∷◌, ◌++◌, reverse, set, length, get_or, Option, Some, None, refl, ap, subst, sym, ◌∙◌, arith, bytes_eq}
use Rattle.std.specs.Option.{option_map}
use Rattle.std.proofs.lemmas.Bool.{cases_eq}
use Rattle.std.proofs.lemmas.List.{ext_get_or, get_or-set_same, length-set, reverse-append, reverse-reverse}
use Rattle.cloud_points.specs.Meaning.{Nature}
use Rattle.cloud_points.specs.declared.point.Point.{Point}
use Rattle.plug_stages.specs.Handed.{at_place, named_in, natures_from}
use Rattle.plug_stages.specs.Out.{AreOut, IsAmong, IsHeld, nature_at}
use Rattle.plug_stages.proofs.Placing.{at_other, natures_at}

-- ---- among

module _ {A : Type 0} where
  pub among-front : (x : A) (xs ys : List A) → IsAmong x xs → IsAmong x (xs ++ ys)
  among-front x [] ys is = absurd is
  among-front x (y ∷ xs) ys (inl e) = inl e
  among-front x (y ∷ xs) ys (inr is) = inr (among-front x xs ys is)

  pub among-back : (x : A) (xs ys : List A) → IsAmong x ys → IsAmong x (xs ++ ys)
  among-back x [] ys is = is
  among-back x (y ∷ xs) ys is = inr (among-back x xs ys is)

  -- one of two lists behind each other is one of the first or of the second
  pub among-append : (x : A) (xs ys : List A) → IsAmong x (xs ++ ys) → IsAmong x xs ⊎ IsAmong x ys
  among-append x [] ys is = inr is
  among-append x (y ∷ xs) ys (inl e) = inl (inl e)
  among-append x (y ∷ xs) ys (inr is) = elim (among-append x xs ys is) [ inl before ↦ inl (inr before) | inr behind ↦ inr behind ]

  -- what isn't the last one is one of those before
  pub among-before : (x y : A) (xs : List A) → (x ≡ y → ⊥) → IsAmong x (xs ++ y ∷ []) → IsAmong x xs
  among-before x y xs other is = elim (among-append x xs (y ∷ []) is) [
    | inl before ↦ before
    | inr last ↦ elim last [ inl e ↦ absurd (other e) | inr none ↦ absurd none ]
  ]

  pub among-last : (x : A) (xs : List A) → IsAmong x (xs ++ x ∷ [])
  among-last x xs = among-back x xs (x ∷ []) (inl refl)

  among-turned : (x : A) (xs : List A) → IsAmong x xs → IsAmong x (reverse xs)
  among-turned x [] is = is
  among-turned x (y ∷ xs) is = rw (reverse-append (y ∷ []) xs) (go is (among-turned x xs))
    where
      go : IsAmong x (y ∷ xs) → (IsAmong x xs → IsAmong x (reverse xs)) → IsAmong x (reverse xs ++ y ∷ [])
      go (inl e) turned = among-back x (reverse xs) (y ∷ []) (inl e)
      go (inr is) turned = among-front x (reverse xs) (y ∷ []) (turned is)

  pub among-reverse : (x : A) (xs : List A) → (IsAmong x xs → IsAmong x (reverse xs)) × (IsAmong x (reverse xs) → IsAmong x xs)
  among-reverse x xs = (among-turned x xs, λ is. subst (λ (zs : List A). IsAmong x zs) (reverse-reverse xs) (among-turned x (reverse xs) is))

-- ---- what stands in places

some_inside : {A : Type 0} (xs : List (Option A)) (k : ℕ) (a : A) → get_or xs k None ≡ Some a → k < length xs
some_inside [] k a e = absurd cc
some_inside (x ∷ xs) zero a e = omega arith
some_inside (x ∷ xs) (suc k) a e = let h : k < length xs = some_inside xs k a e in omega (arith, h)

module _ {X : Type 0} (nature : ℕ → X → Nature Point) where
  length_natures : (k : ℕ) (xs : List (Option X)) → length (natures_from nature k xs) ≡ length xs
  length_natures k [] = refl
  length_natures k (x ∷ xs) = ap suc (length_natures (k + 1) xs)

  natures_at_first : (xs : List (Option X)) (k : ℕ) → get_or (natures_from nature 0 xs) k None ≡ nature_at nature xs k
  natures_at_first xs k = natures_at nature 0 xs k ∙ ap (λ i. option_map (nature i) (at_place xs k)) (let z : 0 + k ≡ k = omega arith in z)

  nature_inside : (xs : List (Option X)) (k : ℕ) (n : Nature Point) → nature_at nature xs k ≡ Some n → k < length xs
  nature_inside xs k n e =
      let h : k < length (natures_from nature 0 xs) = some_inside (natures_from nature 0 xs) k n (natures_at_first xs k ∙ e) in
      omega (arith, h, length_natures 0 xs)

  nature_set : (xs : List (Option X)) (k : ℕ) (o : Option X) → k < length xs → nature_at nature (set xs k o) k ≡ option_map (nature k) o
  nature_set xs k o inside = ap (option_map (nature k)) (get_or-set_same xs k o None inside)

-- ---- names

-- what is found by its name is one of them
named_index : (ns : List (Option (Nature Point))) (name : List ℕ) (n : Nature Point) → named_in ns name ≡ Some n → (i : ℕ) × (get_or ns i None ≡ Some n)
named_index [] name n e = absurd cc
named_index (None ∷ ns) name n e = let found = named_index ns name n e in (suc found.0, found.1)
named_index (Some m ∷ ns) name n e = go (bytes_eq m.called name) e (named_index ns name n)
  where
    go : (b : Bool) → cond b (Some m) (named_in ns name) ≡ Some n → (named_in ns name ≡ Some n → (i : ℕ) × (get_or ns i None ≡ Some n))
        → (i : ℕ) × (get_or (Some m ∷ ns) i None ≡ Some n)
    go true e later = (0, e)
    go false e later = let found = later e in (suc found.0, found.1)

module _ {X : Type 0} (nature : ℕ → X → Nature Point) (own : (k : ℕ) (x : X) → (nature k x).place ≡ k) where
  own_place : (k : ℕ) (o : Option X) (n : Nature Point) → option_map (nature k) o ≡ Some n → n.place ≡ k
  own_place k None n e = absurd cc
  own_place k (Some x) n e = let same : nature k x ≡ n = cc in ap (λ (m : Nature Point). m.place) (sym same) ∙ own k x

  -- what is found by its name stands in its place
  pub named-place : (xs : List (Option X)) (name : List ℕ) (n : Nature Point) → named_in (natures_from nature 0 xs) name ≡ Some n → nature_at nature xs n.place ≡ Some n
  named-place xs name n e =
      let found : (i : ℕ) × (get_or (natures_from nature 0 xs) i None ≡ Some n) = named_index (natures_from nature 0 xs) name n e in
      let there : nature_at nature xs found.0 ≡ Some n = sym (natures_at_first nature xs found.0) ∙ found.1 in
      subst (λ (k : ℕ). nature_at nature xs k ≡ Some n) (sym (own_place found.0 (at_place xs found.0) n there)) there

-- ---- what is out

module _ {X : Type 0} (nature : ℕ → X → Nature Point) (used : ℕ → Bool) where
  -- nothing, at first
  pub none-out : (before : List (Option X)) → AreOut nature used [] before before
  none-out before = record { count = refl; held = λ n is. absurd is; places = λ k. inl refl }

  -- where others are out
  held_with : {one other : List (Option (Nature Point))} (before now : List (Option X)) (k : ℕ) → ((n : Nature Point) → n.place ≡ k → IsAmong (Some n) one → IsAmong (Some n) other)
      → IsHeld nature used one before now k → IsHeld nature used other before now k
  held_with before now k there (inl same) = inl same
  held_with before now k there (inr (is_used, inl again)) = inr (is_used, inl again)
  held_with before now k there (inr (is_used, inr gone)) =
      inr (is_used, inr (record { one = gone.one; place = gone.place; among = there gone.one gone.place gone.among }))

  -- where another place is set
  held_beside : {out : List (Option (Nature Point))} (before now : List (Option X)) (k at : ℕ) (o : Option X) → (k ≡ at → ⊥)
      → IsHeld nature used out before now k → IsHeld nature used out before (set now at o) k
  held_beside before now k at o other (inl same) = inl (at_other now k at o other ∙ same)
  held_beside before now k at o other (inr (is_used, inl again)) = inr (is_used, inl (ap (option_map (nature k)) (at_other now k at o other) ∙ again))
  held_beside before now k at o other (inr (is_used, inr gone)) = inr (is_used, inr gone)

  -- the order in which they are out says nothing
  pub reordered : {one other : List (Option (Nature Point))} {before now : List (Option X)} → ((n : Option (Nature Point)) → IsAmong n one → IsAmong n other)
      → ((n : Option (Nature Point)) → IsAmong n other → IsAmong n one) → AreOut nature used one before now → AreOut nature used other before now
  reordered {one} {other} {before} {now} there back are = record {
    count = are.count;
    held = λ n is. are.held n (back (Some n) is);
    places = λ k. held_with before now k (λ n at is. there (Some n) is) (are.places k);
  }

  -- once nothing is out, each place holds what it held, but for what that remembers
  pub all-back : {before now : List (Option X)} → AreOut nature used [] before now → natures_from nature 0 now ≡ natures_from nature 0 before
  all-back {before} {now} are =
      ext_get_or None (natures_from nature 0 now) (natures_from nature 0 before) (length_natures nature 0 now ∙ are.count ∙ sym (length_natures nature 0 before))
      (λ k below. natures_at_first nature now k ∙ again k (are.places k) ∙ sym (natures_at_first nature before k))
    where
      again : (k : ℕ) → IsHeld nature used [] before now k → nature_at nature now k ≡ nature_at nature before k
      again k (inl same) = ap (option_map (nature k)) same
      again k (inr (is_used, inl same)) = same
      again k (inr (is_used, inr gone)) = absurd gone.among

-- ---- one more, or one less

module _ {X : Type 0} (nature : ℕ → X → Nature Point) (used : ℕ → Bool) {out : List (Option (Nature Point))} {before now : List (Option X)} where
  pub reversed : AreOut nature used out before now → AreOut nature used (reverse out) before now
  reversed are = reordered nature used (λ n. (among-reverse n out).0) (λ n. (among-reverse n out).1) are

  -- a place that isn't used holds what it held
  pub kept-or-used : AreOut nature used out before now → (k : ℕ) → (at_place now k ≡ at_place before k) ⊎ (used k ≡ true)
  kept-or-used are k = elim (are.places k) [ inl same ↦ inl same | inr other ↦ inr other.0 ]

  -- a work that holds nothing
  pub held-none : AreOut nature used out before now → AreOut nature used (out ++ None ∷ []) before now
  held-none are = record {
    count = are.count;
    held = λ n is. are.held n (among-before (Some n) None out (λ e. cc) is);
    places = λ k. held_with nature used before now k (λ n at is. among-front (Some n) out (None ∷ []) is) (are.places k);
  }

  pub put-none : AreOut nature used (out ++ None ∷ []) before now → AreOut nature used out before now
  put-none are = record {
    count = are.count;
    held = λ n is. are.held n (among-front (Some n) out (None ∷ []) is);
    places = λ k. held_with nature used before now k (λ n at is. among-before (Some n) None out (λ e. cc) is) (are.places k);
  }

  -- one more is taken out of its place
  pub taken-out : AreOut nature used out before now → (at : ℕ) (x : X) → nature_at nature before at ≡ Some (nature at x) → (nature at x).place ≡ at → used at ≡ true
      → AreOut nature used (out ++ Some (nature at x) ∷ []) before (set now at None)
  taken-out are at x there own is_used = record {
    count = length-set now at None ∙ are.count;
    held = λ n is. elim (among-append (Some n) out (Some (nature at x) ∷ []) is) [
      | inl earlier ↦ are.held n earlier
      | inr last ↦ elim last [ inl e ↦ taken n e | inr none ↦ absurd none ]
    ];
    places = λ k. elim (cases_eq k at) [
      | inl e ↦ inr (ap used e ∙ is_used, inr (record { one = nature at x; place = own ∙ sym e; among = among-last (Some (nature at x)) out }))
      | inr other ↦ held_beside nature used before now k at None other
          (held_with nature used before now k (λ n p is. among-front (Some n) out (Some (nature at x) ∷ []) is) (are.places k))
    ];
  }
    where
      taken : (n : Nature Point) → Some n ≡ Some (nature at x) → (nature_at nature before n.place ≡ Some n) × (used n.place ≡ true)
      taken n e =
          let same : nature at x ≡ n = cc in
          let placed : at ≡ n.place = sym own ∙ ap (λ (m : Nature Point). m.place) same in
          (subst (λ (k : ℕ). nature_at nature before k ≡ Some n) placed (there ∙ ap Some same), ap used (sym placed) ∙ is_used)

  -- one is put back into its place, whatever it remembers
  pub put-back : {n : Nature Point} → AreOut nature used (out ++ Some n ∷ []) before now → (x : X) → nature n.place x ≡ n
      → AreOut nature used out before (set now n.place (Some x))
  put-back {n} are x same = record {
    count = length-set now n.place (Some x) ∙ are.count;
    held = λ m is. are.held m (among-front (Some m) out (Some n ∷ []) is);
    places = λ k. elim (cases_eq k n.place) [
      | inl e ↦ subst (λ (i : ℕ). IsHeld nature used out before (set now n.place (Some x)) i) (sym e) (inr (own.1, inl again))
      | inr other ↦ held_beside nature used before now k n.place (Some x) other
          (held_with nature used before now k (λ m p is. among-before (Some m) (Some n) out (λ e. other (sym p ∙ one_place m e)) is) (are.places k))
    ];
  }
    where
      own : (nature_at nature before n.place ≡ Some n) × (used n.place ≡ true)
      own = are.held n (among-last (Some n) out)

      inside : n.place < length now
      inside = let h : n.place < length before = nature_inside nature before n.place n own.0 in omega (arith, h, are.count)

      again : nature_at nature (set now n.place (Some x)) n.place ≡ nature_at nature before n.place
      again = nature_set nature now n.place (Some x) inside ∙ ap Some same ∙ sym own.0

      one_place : (m : Nature Point) → Some m ≡ Some n → m.place ≡ n.place
      one_place m e = let one : m ≡ n = cc in ap (λ (z : Nature Point). z.place) one
