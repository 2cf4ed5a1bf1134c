-- What works take out of a caller's places, one work after the other.
use Rattle.std.proofs.Common.{◌≡◌, ℕ, zero, suc, ◌+◌, ◌≤◌, ◌<◌, ◌||◌, Bool, true, false, true≢false, List, [], ◌∷◌, ◌++◌, length, set, get_or, Option, Some, None, is_some, inl, inr, refl, ap, subst, sym, ◌∙◌, arith, bytes_eq, eq-eqb}
use Rattle.std.specs.List.{list_any, range_with_len}
use Rattle.std.specs.Option.{option_map}
use Rattle.std.proofs.lemmas.Bool.Decides.{eqb_tells, leb_tells, not_from_Decides}
use Rattle.std.proofs.lemmas.Option.{none-some, same_Some}
use Rattle.std.proofs.lemmas.Slice.Eq.{bytes_eq-Decides}
use Rattle.answer_model.specs.Naming.{AreNamed, found_in, is_at, is_name, is_taken, is_used, name_fault, unnamed}
use Rattle.answer_model.specs.Values.{options_at}
use Rattle.cloud_points.specs.Meaning.{Nature}
use Rattle.cloud_points.specs.declared.point.Point.{Point}
use Rattle.plug_stages.proofs.Out.{held-none, named-place, taken-out}
use Rattle.plug_stages.proofs.Placing.{named_is, natures_at, natures_left, others_stay}
use Rattle.plug_stages.specs.Handed.{Handed, at_place, named_in, natures_from}
use Rattle.plug_stages.specs.Out.{AreOut, nature_at}
use Rattle.stage_names.specs.Faults.{or_else}
use Rattle.stage_names.specs.declared.faults.PipeFault.{PipeFault}
use Rattle.stage_options.specs.Roles.{plug_of, tally_of}
use Rattle.stage_options.specs.declared.options.Options.{Options}
use Rattle.stage_options.specs.declared.stage.StageSpec.{StageSpec}
use Rattle.run_opening.specs.Taken.{AreFound, IsFound, without}

-- ---- names

-- a name by which one is found
found-name : (ns : List (Option (Nature Point))) (o : Option (List ℕ)) (n : Nature Point) → found_in ns o ≡ Some n → (name : List ℕ) × (o ≡ Some name) × (named_in ns name ≡ Some n)
found-name ns None n e = absurd (none-some n e)
found-name ns (Some name) n e = (name, refl, e)

or-true : (b : Bool) → (b || true) ≡ true
or-true true = refl
or-true false = refl

-- one of the numbers of a range
any-in : (p : ℕ → Bool) (a n i : ℕ) → a ≤ i → i < a + n → p i ≡ true → list_any p (range_with_len a n) ≡ true
any-in p a zero i low high e = absurd (omega (arith, low, high))
any-in p a (suc n) i low high e = elim (eqb_tells i a) [
  | inl same ↦ ap (λ b. b || list_any p (range_with_len (a + 1) n)) (ap p (sym same.1) ∙ e)
  | inr other ↦ (let apart = other.1 in ap (λ b. p a || b) (any-in p (a + 1) n i (omega (arith, low, apart)) (omega (arith, high)) e) ∙ or-true (p a))
]

-- what a stage names is used
named-used : (names : Options → Option (List ℕ)) (ns : List (Option (Nature Point))) (stages : List StageSpec) (i : ℕ) (n : Nature Point) → i < length stages
    → found_in ns (names (options_at stages i)) ≡ Some n → is_used names ns stages n.place ≡ true
named-used names ns stages i n lt e = any-in (λ j. is_at n.place (found_in ns (names (options_at stages j)))) 0 (length stages) i (omega arith) (omega (arith, lt))
    (ap (is_at n.place) e ∙ eq-eqb n.place n.place refl)

neither : (a b : Bool) → (a || b) ≡ false → (a ≡ false) × (b ≡ false)
neither true b e = absurd (true≢false e)
neither false b e = (refl, e)

not-taken : (names : Options → Option (List ℕ)) (stages : List StageSpec) (name : List ℕ) (k j : ℕ) → j < k → is_taken names stages name k ≡ false → is_name name (names (options_at stages j)) ≡ false
not-taken names stages name zero j lt e = absurd (omega (arith, lt))
not-taken names stages name (suc k) j lt e =
    let both : (is_name name (names (options_at stages k)) ≡ false) × (is_taken names stages name k ≡ false) = neither _ _ e in
    elim (eqb_tells j k) [
      | inl same ↦ ap (λ i. is_name name (names (options_at stages i))) same.1 ∙ both.0
      | inr other ↦ (let apart = other.1 in not-taken names stages name k j (omega (arith, lt, apart)) both.1)
    ]

-- a stage without a fault of its name names what is there, and what no earlier stage names
unnamed-none : (i : ℕ) (there taken : Bool) (name : List ℕ) → unnamed i there taken name ≡ None → (there ≡ true) × (taken ≡ false)
unnamed-none i false taken name e = absurd (none-some _ (sym e))
unnamed-none i true true name e = absurd (none-some _ (sym e))
unnamed-none i true false name e = (refl, refl)

name-found : (names : Options → Option (List ℕ)) (ns : List (Option (Nature Point))) (stages : List StageSpec) (i : ℕ) (o : Option (List ℕ)) → name_fault names ns stages i o ≡ None → IsFound ns o
name-found names ns stages i None e = refl
name-found names ns stages i (Some name) e = (unnamed-none i (is_some (named_in ns name)) (is_taken names stages name i) name e).0

both-none : (a b : Option PipeFault) → or_else a b ≡ None → (a ≡ None) × (b ≡ None)
both-none None b e = (refl, e)
both-none (Some f) b e = absurd (none-some _ (sym e))

module _ (handed : Handed) (stages : List StageSpec) (named : AreNamed handed stages) (i : ℕ) (lt : i < length stages) where
  pub filter-named : name_fault plug_of handed.filters stages i (plug_of (options_at stages i)) ≡ None
  filter-named = (both-none _ _ (named i lt)).0

  pub tally-named : name_fault tally_of handed.tallies stages i (tally_of (options_at stages i)) ≡ None
  tally-named = (both-none _ _ (named i lt)).1

  pub are-found : AreFound (options_at stages i) handed
  are-found = (name-found plug_of handed.filters stages i (plug_of (options_at stages i)) filter-named, name-found tally_of handed.tallies stages i (tally_of (options_at stages i)) tally-named)

-- where the same is found by those names
pub found-later : (o : Options) (before now : Handed) → found_in now.filters (plug_of o) ≡ found_in before.filters (plug_of o) → found_in now.tallies (tally_of o) ≡ found_in before.tallies (tally_of o)
    → AreFound o before → AreFound o now
found-later o before now filters tallies are = (ap is_some filters ∙ are.0, ap is_some tallies ∙ are.1)

-- ---- places

-- what stages from some number on name is still there
abbrev pub AreStill : {X : Type 0} → (ℕ → X → Nature Point) → (Options → Option (List ℕ)) → List StageSpec → List (Option X) → List (Option X) → ℕ → Type 0
AreStill nature names stages before now at = (j : ℕ) → at ≤ j → j < length stages
    → found_in (natures_from nature 0 now) (names (options_at stages j)) ≡ found_in (natures_from nature 0 before) (names (options_at stages j))

module _ {X : Type 0} (nature : ℕ → X → Nature Point) (own : (k : ℕ) (x : X) → (nature k x).place ≡ k) (names : Options → Option (List ℕ)) (stages : List StageSpec) (before now : List (Option X)) (at : ℕ)
    (still : AreStill nature names stages before now at) (lt : at < length stages) where
  -- once one is taken out that stage `at` names
  module _ (n : Nature Point) (is : found_in (natures_from nature 0 now) (names (options_at stages at)) ≡ Some n) where
    name-of : (name : List ℕ) × (names (options_at stages at) ≡ Some name) × (named_in (natures_from nature 0 now) name ≡ Some n)
    name-of = found-name (natures_from nature 0 now) (names (options_at stages at)) n is

    there : get_or (natures_from nature 0 now) n.place None ≡ Some n
    there = natures_at nature 0 now n.place ∙ ap (λ k. option_map (nature k) (at_place now n.place)) (let z : 0 + n.place ≡ n.place = omega arith in z)
        ∙ named-place nature own now name-of.0 n name-of.2

    -- a later stage names another one
    other-name : (j : ℕ) (name : List ℕ) → at < j → is_taken names stages name j ≡ false → n.called ≡ name → ⊥
    other-name j name later free same =
        not_from_Decides (bytes_eq name-of.0 name) (bytes_eq-Decides name-of.0 name) (sym (ap (is_name name) name-of.1) ∙ not-taken names stages name j at later free)
        (sym (named_is (natures_from nature 0 now) name-of.0 n name-of.2) ∙ same)

    stays : (j : ℕ) (o : Option (List ℕ)) → at < j → name_fault names (natures_from nature 0 before) stages j o ≡ None
        → found_in (natures_from nature 0 (set now n.place None)) o ≡ found_in (natures_from nature 0 now) o
    stays j None later free = refl
    stays j (Some name) later free = ap (λ ns. named_in ns name) (natures_left nature 0 now n.place)
        ∙ others_stay (natures_from nature 0 now) n.place name n there
        (other-name j name later (unnamed-none j (is_some (named_in (natures_from nature 0 before) name)) (is_taken names stages name j) name free).1)

  pub still-more : (o : Option (Nature Point)) → ((n : Nature Point) → o ≡ Some n → found_in (natures_from nature 0 now) (names (options_at stages at)) ≡ Some n)
      → ((j : ℕ) → j < length stages → name_fault names (natures_from nature 0 before) stages j (names (options_at stages j)) ≡ None) → AreStill nature names stages before (without o now) (at + 1)
  still-more None holds free = λ j le. still j (omega (arith, le))
  still-more (Some n) holds free = λ j le inside. stays n (holds n refl) j (names (options_at stages j)) (omega (arith, le)) (free j inside) ∙ still j (omega (arith, le)) inside

  pub out-more : (o : Option (Nature Point)) → ((n : Nature Point) → o ≡ Some n → found_in (natures_from nature 0 now) (names (options_at stages at)) ≡ Some n) → {out : List (Option (Nature Point))}
      → AreOut nature (is_used names (natures_from nature 0 before) stages) out before now → AreOut nature (is_used names (natures_from nature 0 before) stages) (out ++ o ∷ []) before (without o now)
  out-more None holds are = held-none nature (is_used names (natures_from nature 0 before) stages) are
  out-more (Some n) holds {out} are = go (at_place before n.place) refl (named-place nature own before name.0 n name.2)
    where
      was : found_in (natures_from nature 0 before) (names (options_at stages at)) ≡ Some n
      was = sym (still at (omega arith) lt) ∙ holds n refl

      name : (name : List ℕ) × (names (options_at stages at) ≡ Some name) × (named_in (natures_from nature 0 before) name ≡ Some n)
      name = found-name (natures_from nature 0 before) (names (options_at stages at)) n was

      go : (p : Option X) → at_place before n.place ≡ p → option_map (nature n.place) p ≡ Some n
          → AreOut nature (is_used names (natures_from nature 0 before) stages) (out ++ Some n ∷ []) before (set now n.place None)
      go None e t = absurd (none-some n t)
      go (Some x) e t = subst (λ (m : Nature Point). AreOut nature (is_used names (natures_from nature 0 before) stages) (out ++ Some m ∷ []) before (set now n.place None)) (same_Some _ _ t)
          (taken-out nature (is_used names (natures_from nature 0 before) stages) are n.place x (ap (option_map (nature n.place)) e) (own n.place x) (named-used names (natures_from nature 0 before) stages at n lt was))

-- ---- names that are named once

module _ {X : Type 0} (nature : ℕ → X → Nature Point) (own : (k : ℕ) (x : X) → (nature k x).place ≡ k) (names : Options → Option (List ℕ)) (stages : List StageSpec) (places : List (Option X))
    (free : (j : ℕ) → j < length stages → name_fault names (natures_from nature 0 places) stages j (names (options_at stages j)) ≡ None) where
  abbrev named_at : ℕ → Option (Nature Point)
  named_at i = found_in (natures_from nature 0 places) (names (options_at stages i))

  -- an earlier stage names what stands in another place
  none-earlier : (i j : ℕ) (n m : Nature Point) → i < j → j < length stages → named_at i ≡ Some n → named_at j ≡ Some m → m.place ≡ n.place → ⊥
  none-earlier i j n m lt inside a b same =
      let ns = natures_from nature 0 places in
      let x = found-name ns (names (options_at stages i)) n a in
      let y = found-name ns (names (options_at stages j)) m b in
      let one : n ≡ m = same_Some n m (sym (named-place nature own places x.0 n x.2) ∙ ap (nature_at nature places) (sym same) ∙ named-place nature own places y.0 m y.2) in
      let unused = unnamed-none j (is_some (named_in ns y.0)) (is_taken names stages y.0 j) y.0 (ap (name_fault names ns stages j) (sym y.1) ∙ free j inside) in
      not_from_Decides (bytes_eq x.0 y.0) (bytes_eq-Decides x.0 y.0) (sym (ap (is_name y.0) x.1) ∙ not-taken names stages y.0 j i lt unused.1)
      (sym (named_is ns x.0 n x.2) ∙ ap (λ (z : Nature Point). z.called) one ∙ named_is ns y.0 m y.2)

  -- so no two stages name what stands in one place
  pub named-once : (i j : ℕ) (n m : Nature Point) → i < length stages → j < length stages → named_at i ≡ Some n → named_at j ≡ Some m → m.place ≡ n.place → j ≡ i
  named-once i j n m here there a b same = elim (eqb_tells j i) [
    | inl is ↦ is.1
    | inr apart ↦ elim (leb_tells i j) [
      | inl first ↦ absurd (none-earlier i j n m (let x = apart.1 in let y = first.1 in omega (arith, x, y)) there a b same)
      | inr later ↦ absurd (none-earlier j i m n later.1 here b a (sym same))
    ]
  ]

  -- what a stage names stands in its place, within the places
  pub named-inside : (i : ℕ) (n : Nature Point) → named_at i ≡ Some n → n.place < length places
  named-inside i n a = let x = found-name (natures_from nature 0 places) (names (options_at stages i)) n a in at-inside places n.place n.place n (named-place nature own places x.0 n x.2)
    where
      at-inside : (xs : List (Option X)) (k at : ℕ) (n : Nature Point) → option_map (nature at) (get_or xs k None) ≡ Some n → k < length xs
      at-inside [] k at n e = absurd (none-some n e)
      at-inside (x ∷ xs) zero at n e = omega arith
      at-inside (x ∷ xs) (suc k) at n e = (let l = at-inside xs k at n e in omega (arith, l))
