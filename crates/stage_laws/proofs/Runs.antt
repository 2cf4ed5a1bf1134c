-- Each run of a plan lies in one part.
use Rattle.std.proofs.Common.{◌≡◌, ℕ, zero, suc, ◌+◌, ◌-◌, ◌<◌, ◌≤◌, ◌==◌, ◌⊎◌, inl, inr, Bool, true, false, true≢false, ◌||◌, not, cond, List, [], ◌∷◌, map, length, get_or, refl, ap, sym, ◌∙◌, subst, arith, nat_lt, Option, Some, None, unwrap_or, eqb-true, ltb-false}
use Rattle.std.specs.Prelude.{slice_get, count_by}
use Rattle.std.specs.Option.{option_map}
use Rattle.std.specs.List.{position_or_len}
use Rattle.std.proofs.lemmas.Bool.{or_parts}
use Rattle.std.proofs.lemmas.List.{length-map}
use Rattle.std.proofs.lemmas.List.Quantifiers.{position-Some}
use Rattle.std.proofs.lemmas.List.Sums.{sum_by-cons}
use Rattle.std.proofs.lemmas.Option.{slice_get-get_or, slice_get_within, slice_get-map, get_or_from_slice_get, unwrap_or-slice_get}
use Rattle.network_theory.specs.Forest.{children}
use Rattle.network_theory.specs.Shape.{In}
use Rattle.pipeline_json.specs.Lists.{has, times}
use Rattle.pipeline_json.specs.Stages.{taken}
use Rattle.pipeline_json.specs.Trees.{IsTree}
use Rattle.pipeline_json.proofs.Taken.{times-append}
use Rattle.stage_options.specs.Shapes.{shape, shapes}
use Rattle.stage_options.specs.declared.options.Options.TheVariants.{FiltersMerge}
use Rattle.stage_options.specs.declared.stage.StageSpec.{StageSpec}
use Rattle.stage_parts.specs.Parts.{gathers_at, home_at}
use Rattle.stage_planner.specs.Covering.{Takes, StandsIn, IsEnd, is_in, Covers}
use Rattle.stage_planner.specs.Plans.{needs_whole, is_whole, taker, plan_of}
use Rattle.stage_planner.specs.declared.steps.PlanStep.TheVariants.{Run, Whole}
use Rattle.stage_planner.proofs.Covers.{covered}
use Rattle.stage_planner.proofs.Forest.{IsForest, tree-forest}
use Rattle.stage_laws.specs.Runs.{AreHomesOf, EndsRun}

-- any stage
abbrev some_stage : StageSpec
some_stage = record { ins = []; options = FiltersMerge (record {}) }

-- ---- numbers in lists

in-has : (j : ℕ) (xs : List ℕ) → has xs j ≡ true → In j xs
in-has j [] h = absurd (true≢false (sym h))
in-has j (x ∷ xs) h = go (x == j) refl h (in-has j xs)
  where
    go : (b : Bool) → (x == j) ≡ b → (b || has xs j) ≡ true → (has xs j ≡ true → In j xs) → In j (x ∷ xs)
    go true e h later = inl (sym (eqb-true x j e))
    go false e h later = inr (later h)

absent : (j : ℕ) (xs : List ℕ) → has xs j ≡ false → times j xs ≡ 0
absent j [] h = refl
absent j (x ∷ xs) h =
    let p = or_parts (x == j) (has xs j) h in
    sum_by-cons (λ k. cond (k == j) 1 0) x xs ∙ ap (λ b. cond b 1 0 + times j xs) p.0 ∙ (let r = absent j xs p.1 in omega (arith, r))

-- what is counted once is somewhere
counted-at : {A : Type 0} (p : A → Bool) (xs : List A) → count_by p xs ≡ 1 → (b : ℕ) × ((x : A) × (slice_get xs b ≡ Some x) × (p x ≡ true))
counted-at p [] e = absurd (let no : ◌≡◌ {A = ℕ} 0 1 = e in omega (arith, no))
counted-at {A} p (x ∷ xs) e = go (p x) refl (counted-at p xs)
  where
    go : (t : Bool) → p x ≡ t → (count_by p xs ≡ 1 → (b : ℕ) × ((y : A) × (slice_get xs b ≡ Some y) × (p y ≡ true))) → (b : ℕ) × ((y : A) × (slice_get (x ∷ xs) b ≡ Some y) × (p y ≡ true))
    go true h later = (zero, (x, refl, h))
    go false h later =
        let more : count_by p (x ∷ xs) ≡ cond (p x) 1 0 + count_by p xs = sum_by-cons (λ y. cond (p y) 1 0) x xs in
        let none : ◌≡◌ {A = ℕ} (cond (p x) 1 0) 0 = ap (λ b. cond b 1 0) h in
        let rest = later (omega (arith, e, more, none)) in
        (suc rest.0, rest.1)

-- ---- what takes a stage

takes-taker : (stages : List StageSpec) (j i : ℕ) → taker stages j ≡ Some i → Takes stages i j
takes-taker stages j i e =
    let at = position-Some (λ (s : StageSpec). has s.ins j) stages i some_stage e in
    (get_or stages i some_stage, slice_get-get_or stages i some_stage at.0, at.1)

-- where the search for a taker comes to the end, no stage takes it
none-takes : (j : ℕ) (stages : List StageSpec) → length stages ≤ position_or_len (λ (s : StageSpec). has s.ins j) stages → times j (taken (shapes stages)) ≡ 0
none-takes j [] l = refl
none-takes j (s ∷ rest) l = go (has s.ins j) refl l (none-takes j rest)
  where
    go : (b : Bool) → has s.ins j ≡ b → suc (length rest) ≤ cond (not b) (1 + position_or_len (λ (s : StageSpec). has s.ins j) rest) 0
        → (length rest ≤ position_or_len (λ (s : StageSpec). has s.ins j) rest → times j (taken (shapes rest)) ≡ 0) → times j (taken (shapes (s ∷ rest))) ≡ 0
    go true e l more = absurd (omega (arith, l))
    go false e l more =
        let here = absent j s.ins e in let later = more (omega (arith, l)) in
        times-append j s.ins (taken (shapes rest)) ∙ (let z : times j s.ins + times j (taken (shapes rest)) ≡ 0 = omega (arith, here, later) in z)

no_taker : (stages : List StageSpec) (j : ℕ) → taker stages j ≡ None → times j (taken (shapes stages)) ≡ 0
no_taker stages j e = go (nat_lt (position_or_len (λ (s : StageSpec). has s.ins j) stages) (length stages)) refl e
  where
    go : (b : Bool) → nat_lt (position_or_len (λ (s : StageSpec). has s.ins j) stages) (length stages) ≡ b
        → cond b (Some (position_or_len (λ (s : StageSpec). has s.ins j) stages)) None ≡ None → times j (taken (shapes stages)) ≡ 0
    go true l e = absurd cc
    go false l e = none-takes j stages (ltb-false _ _ l)

module _ (stages : List StageSpec) (tree : IsTree (shapes stages)) where
  forest : IsForest stages
  forest = tree-forest stages tree

  covers : Covers stages (plan_of stages)
  covers = covered stages forest

  -- only the last stage is taken by none
  not_taken : (j : ℕ) → j < length stages → taker stages j ≡ None → j ≡ length stages - 1
  not_taken j l e = go (last_or_before j (length stages) l)
    where
      last_or_before : (j n : ℕ) → j < n → (j ≡ n - 1) ⊎ (j + 1 < n)
      last_or_before j n l = grind arith

      go : (j ≡ length stages - 1) ⊎ (j + 1 < length stages) → j ≡ length stages - 1
      go (inl same) = same
      go (inr before) = absurd (let none = no_taker stages j e in let once = tree.once j (let long = length-map stages shape in omega (arith, before, long)) in omega (arith, none, once))

  -- no stage of a run needs whole views
  streams : (i a : ℕ) (numbers : List ℕ) → slice_get (plan_of stages) a ≡ Some (Run numbers) → StandsIn (plan_of stages) i a → is_whole stages i ≡ false
  streams i a numbers r h = go (is_whole stages i) refl
    where
      go : (b : Bool) → is_whole stages i ≡ b → is_whole stages i ≡ false
      go true w = absurd (let other : Some (Whole i) ≡ Some (Run numbers) = sym (covers.whole i a h w) ∙ r in cc)
      go false w = w

  stands : (i : ℕ) → i < length stages → (b : ℕ) × StandsIn (plan_of stages) i b
  stands i l = counted-at (is_in i) (plan_of stages) (covers.one i l)

  module _ (e a : ℕ) (run : EndsRun stages e a) where
    in_run : (i : ℕ) → StandsIn (plan_of stages) i a → is_whole stages i ≡ false
    in_run i h = streams i a run.is_run.0 run.is_run.1 h

    -- what takes the end needs whole views
    pub end-taker : (w : ℕ) → taker stages e ≡ Some w → is_whole stages w ≡ true
    end-taker w t = go (is_whole stages w) refl
      where
        takes : Takes stages w e
        takes = takes-taker stages e w t

        go : (b : Bool) → is_whole stages w ≡ b → is_whole stages w ≡ true
        go true h = h
        go false h =
            let at = stands w (slice_get_within stages w takes.0 takes.1) in
            let same = covers.inside w e at.0 a takes h (in_run e run.end.stands) at.1 run.end.stands in
            absurd (let less = forest.earlier w e takes in let most = run.end.greatest w (subst (StandsIn (plan_of stages) w) (sym same) at.1) in omega (arith, less, most))

    pub end-last : taker stages e ≡ None → e + 1 ≡ length stages
    end-last t =
        let inside = covers.only e a run.end.stands in let last = not_taken e inside t in
        omega (arith, inside, last)

    -- ---- homes

    module _ (homes : List ℕ) (are : AreHomesOf stages homes) where
      gathers-whole : (i : ℕ) → gathers_at (map needs_whole stages) i ≡ is_whole stages i
      gathers-whole i = sym (unwrap_or-slice_get (map needs_whole stages) i false) ∙ ap (λ o. unwrap_or o false) (slice_get-map needs_whole stages i)

      child : (i j : ℕ) → Takes stages i j → In j (children (map (λ (s : StageSpec). s.ins) stages) i)
      child i j t =
          subst (In j) (sym (get_or_from_slice_get (map (λ (s : StageSpec). s.ins) stages) i t.0.ins [] (slice_get-map (λ (s : StageSpec). s.ins) stages i ∙ ap (option_map (λ (s : StageSpec). s.ins)) t.1)))
          (in-has j t.0.ins t.2)

      up : (i j : ℕ) → Takes stages i j → home_at homes j ≡ cond (is_whole stages i) i (home_at homes i)
      up i j t = are.below i j (child i j t) ∙ ap (λ b. cond b i (home_at homes i)) (gathers-whole i)

      at_end : (i : ℕ) → IsEnd (plan_of stages) i a → StandsIn (plan_of stages) i a → home_at homes i ≡ home_at homes e
      at_end i end h = ap (home_at homes) (let one = end.greatest e run.end.stands in let other = run.end.greatest i h in let z : i ≡ e = omega (arith, one, other) in z)

      -- a stage of the run has the home of its end
      along : (d i : ℕ) → e ≤ i + d → StandsIn (plan_of stages) i a → home_at homes i ≡ home_at homes e
      along zero i l h = elim (covers.joined i a h) [
        | inl end ↦ at_end i end h
        | inr k ↦ absurd (let less = forest.earlier k.0 i k.1 in let most = run.end.greatest k.0 k.2 in omega (arith, l, less, most))
      ]
      along (suc d) i l h = elim (covers.joined i a h) [
        | inl end ↦ at_end i end h
        | inr k ↦ up k.0 i k.1 ∙ ap (λ b. cond b k.0 (home_at homes k.0)) (in_run k.0 k.2)
            ∙ along d k.0 (let less = forest.earlier k.0 i k.1 in omega (arith, l, less)) k.2
      ]

      end-home : (t : Option ℕ) → taker stages e ≡ t → home_at homes e ≡ unwrap_or t (length stages)
      end-home (Some w) t = up w e (takes-taker stages e w t) ∙ ap (λ b. cond b w (home_at homes w)) (end-taker w t)
      end-home None t =
          let size = length-map stages (λ (s : StageSpec). s.ins) in
          ap (home_at homes) (let last = not_taken e (covers.only e a run.end.stands) t in let z : e ≡ length (map (λ (s : StageSpec). s.ins) stages) - 1 = omega (arith, last, size) in z)
          ∙ are.root ∙ size

      pub run-home : (i : ℕ) → StandsIn (plan_of stages) i a → home_at homes i ≡ unwrap_or (taker stages e) (length stages)
      run-home i h = along e i (omega arith) h ∙ end-home (taker stages e) refl
