-- What stands in places, and by which name it is found.
use Rattle.std.proofs.Common.{◌≡◌, ℕ, zero, suc, ◌+◌, ◌<◌, ◌≤◌, Bool, true, false, cond, List, [], ◌∷◌, length, get_or, Option, Some, None, is_some, refl, ap, sym, ◌∙◌, arith, set-set, get_or-set_other}
use Rattle.std.specs.Prelude.{set, bytes_eq, position, nat_lt}
use Rattle.std.specs.List.{position_or_len}
use Rattle.std.specs.Option.{option_map}
use Rattle.std.proofs.lemmas.Bool.{ltb-false}
use Rattle.std.proofs.lemmas.List.{set-get_or, set_comm}
use Rattle.std.proofs.lemmas.List.Quantifiers.{position-Some}
use Rattle.std.proofs.lemmas.List.Sums.{fails_before_first}
use Rattle.std.proofs.lemmas.Slice.Eq.{bytes_eq-Decides}
use Rattle.cloud_points.specs.Meaning.{Nature}
use Rattle.cloud_points.specs.declared.point.Point.{Point}
use Rattle.plug_stages.specs.Handed.{at_place, named_in, natures_from}

-- ---- places

module _ {X : Type 0} where
  pub put_again : (xs : List (Option X)) (at : ℕ) (x : X) → at_place xs at ≡ Some x → set (set xs at None) at (Some x) ≡ xs
  put_again xs at x there = set-set xs at None (Some x) ∙ ap (λ o. set xs at o) (sym there) ∙ set-get_or xs at None

  pub at_other : (xs : List (Option X)) (i at : ℕ) (o : Option X) → (i ≡ at → ⊥) → at_place (set xs at o) i ≡ at_place xs i
  at_other xs i at o other = get_or-set_other xs at i o None other

  pub set_twice_apart : (xs : List (Option X)) (i j : ℕ) (a b : Option X) → (i ≡ j → ⊥) → set (set xs i a) j b ≡ set (set xs j b) i a
  set_twice_apart xs i j a b apart = set_comm xs i j a b apart

-- ---- natures

module _ {X : Type 0} (nature : ℕ → X → Nature Point) where
  natures_put : (k : ℕ) (xs : List (Option X)) (at : ℕ) (o : Option X) → natures_from nature k (set xs at o) ≡ set (natures_from nature k xs) at (option_map (nature (k + at)) o)
  natures_put k [] at o = refl
  natures_put k (y ∷ xs) zero o = ap (λ n. option_map (nature n) o ∷ natures_from nature (k + 1) xs) (let z : k ≡ k + 0 = omega arith in z)
  natures_put k (y ∷ xs) (suc at) o = ap (λ z. option_map (nature k) y ∷ z) (natures_put (k + 1) xs at o
      ∙ ap (λ n. set (natures_from nature (k + 1) xs) at (option_map (nature n) o)) (let z : k + 1 + at ≡ k + suc at = omega arith in z))

  pub natures_set : (k : ℕ) (xs : List (Option X)) (at : ℕ) (x : X) → natures_from nature k (set xs at (Some x)) ≡ set (natures_from nature k xs) at (Some (nature (k + at) x))
  natures_set k xs at x = natures_put k xs at (Some x)

  pub natures_left : (k : ℕ) (xs : List (Option X)) (at : ℕ) → natures_from nature k (set xs at None) ≡ set (natures_from nature k xs) at None
  natures_left k xs at = natures_put k xs at None

  pub natures_at : (k : ℕ) (xs : List (Option X)) (i : ℕ) → get_or (natures_from nature k xs) i None ≡ option_map (nature (k + i)) (at_place xs i)
  natures_at k [] i = refl
  natures_at k (x ∷ xs) zero = ap (λ n. option_map (nature n) x) (let z : k ≡ k + 0 = omega arith in z)
  natures_at k (x ∷ xs) (suc i) = natures_at (k + 1) xs i ∙ ap (λ n. option_map (nature n) (at_place xs i)) (let z : k + 1 + i ≡ k + suc i = omega arith in z)

-- ---- names

pub named_is : (ns : List (Option (Nature Point))) (name : List ℕ) (n : Nature Point) → named_in ns name ≡ Some n → n.called ≡ name
named_is [] name n e = absurd cc
named_is (None ∷ ns) name n e = named_is ns name n e
named_is (Some m ∷ ns) name n e = go (bytes_eq m.called name) refl (named_is ns name n) e
  where
    go : (b : Bool) → bytes_eq m.called name ≡ b → (named_in ns name ≡ Some n → n.called ≡ name) → cond b (Some m) (named_in ns name) ≡ Some n → n.called ≡ name
    go true is ih e = let same : m ≡ n = cc in ap (λ (z : Nature Point). z.called) (sym same) ∙ (bytes_eq-Decides m.called name).0 is
    go false is ih e = ih e

-- another name
not_named : (n : Nature Point) (name : List ℕ) → (n.called ≡ name → ⊥) → bytes_eq n.called name ≡ false
not_named n name other = go (bytes_eq n.called name) refl
  where
    go : (b : Bool) → bytes_eq n.called name ≡ b → b ≡ false
    go true is = absurd (other ((bytes_eq-Decides n.called name).0 is))
    go false is = refl

pub others_stay : (ns : List (Option (Nature Point))) (at : ℕ) (name : List ℕ) (n : Nature Point) → get_or ns at None ≡ Some n → (n.called ≡ name → ⊥)
    → named_in (set ns at None) name ≡ named_in ns name
others_stay [] at name n there other = refl
others_stay (None ∷ ns) zero name n there other = refl
others_stay (Some m ∷ ns) zero name n there other =
    let same : m ≡ n = cc in
    rw (not_named m name (λ e. other (ap (λ (z : Nature Point). z.called) (sym same) ∙ e))) refl
others_stay (None ∷ ns) (suc at) name n there other = others_stay ns at name n there other
others_stay (Some m ∷ ns) (suc at) name n there other = ap (λ z. cond (bytes_eq m.called name) (Some m) z) (others_stay ns at name n there other)

-- ---- a search for the first place of a name

-- whether what stands in a place has it
abbrev pub is_named : {X : Type 0} → (ℕ → X → Nature Point) → List ℕ → Option X → Bool
is_named nature name o = is_some (named_in (option_map (nature 0) o ∷ []) name)

module _ {X : Type 0} (nature : ℕ → X → Nature Point) (alike : (k : ℕ) (x : X) → (nature k x).called ≡ (nature 0 x).called) (name : List ℕ) where
  abbrev fits : Option X → Bool
  fits o = is_named nature name o

  abbrev named_from : ℕ → List (Option X) → Option (Nature Point)
  named_from k xs = named_in (natures_from nature k xs) name

  fits_by : (k : ℕ) (x : X) (b : Bool) → fits (Some x) ≡ b → bytes_eq (nature k x).called name ≡ b
  fits_by k x b e = ap (λ z. bytes_eq z name) (alike k x) ∙ go (bytes_eq (nature 0 x).called name) e
    where
      go : (c : Bool) → is_some (cond c (Some (nature 0 x)) None) ≡ b → c ≡ b
      go true e = e
      go false e = e

  named_later : (k : ℕ) (o : Option X) (xs : List (Option X)) → fits o ≡ false → named_from k (o ∷ xs) ≡ named_from (k + 1) xs
  named_later k None xs other = refl
  named_later k (Some x) xs other = rw (fits_by k x false other) refl

  first_named : (k : ℕ) (xs : List (Option X)) (i : ℕ) → fits (at_place xs i) ≡ true → ((j : ℕ) → j < i → fits (at_place xs j) ≡ false)
      → named_from k xs ≡ option_map (nature (k + i)) (at_place xs i)
  first_named k [] i is before = absurd cc
  first_named k (None ∷ xs) zero is before = absurd cc
  first_named k (Some x ∷ xs) zero is before = rw (fits_by k x true is) (ap (λ n. Some (nature n x)) (let z : k ≡ k + 0 = omega arith in z))
  first_named k (o ∷ xs) (suc i) is before = named_later k o xs (before 0 (omega arith))
      ∙ first_named (k + 1) xs i is (λ j below. before (suc j) (omega (arith, below)))
      ∙ ap (λ n. option_map (nature n) (at_place xs i)) (let z : k + 1 + i ≡ k + suc i = omega arith in z)

  none_named : (k : ℕ) (xs : List (Option X)) → ((j : ℕ) → j < length xs → fits (at_place xs j) ≡ false) → named_from k xs ≡ None
  none_named k [] other = refl
  none_named k (o ∷ xs) other = named_later k o xs (other 0 (omega arith)) ∙ none_named (k + 1) xs (λ j below. other (suc j) (omega (arith, below)))

  first_found : (xs : List (Option X)) (at : ℕ) → position fits xs ≡ Some at → named_from 0 xs ≡ option_map (nature at) (at_place xs at)
  first_found xs at e = let found = position-Some fits xs at None e in first_named 0 xs at found.1 found.2
      ∙ ap (λ n. option_map (nature n) (at_place xs at)) (let z : 0 + at ≡ at = omega arith in z)

  pub first_holds : (xs : List (Option X)) (at : ℕ) (x : X) → position (is_named nature name) xs ≡ Some at → at_place xs at ≡ Some x
      → named_in (natures_from nature 0 xs) name ≡ Some (nature at x)
  first_holds xs at x e there = first_found xs at e ∙ ap (option_map (nature at)) there

  pub none_found : (xs : List (Option X)) → position (is_named nature name) xs ≡ None → named_in (natures_from nature 0 xs) name ≡ None
  none_found xs e =
      let past : length xs ≤ position_or_len fits xs = go (nat_lt (position_or_len fits xs) (length xs)) refl e in
      none_named 0 xs (λ j below. fails_before_first fits xs j None (omega (arith, below, past)))
    where
      go : (b : Bool) → nat_lt (position_or_len fits xs) (length xs) ≡ b → cond b (Some (position_or_len fits xs)) None ≡ None → length xs ≤ position_or_len fits xs
      go true is e = absurd cc
      go false is e = ltb-false _ _ is

  held_found : (xs : List (Option X)) (o : Option X) (at : ℕ) → fits o ≡ true → named_from 0 xs ≡ option_map (nature at) o → true ≡ is_some (named_from 0 xs)
  held_found xs None at fit e = absurd cc
  held_found xs (Some x) at fit e = ap is_some (sym e)

  pub is_found : (xs : List (Option X)) → is_some (position (is_named nature name) xs) ≡ is_some (named_in (natures_from nature 0 xs) name)
  is_found xs = go (position fits xs) refl
    where
      go : (r : Option ℕ) → position fits xs ≡ r → is_some r ≡ is_some (named_from 0 xs)
      go None e = ap is_some (sym (none_found xs e))
      go (Some at) e = held_found xs (at_place xs at) at (position-Some fits xs at None e).1 (first_found xs at e)
