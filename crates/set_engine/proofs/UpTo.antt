-- The stages of a tree that were evaluated so far.
use Rattle.std.proofs.Common.{◌≡◌, ℕ, zero, suc, ◌+◌, ◌<◌, ◌≤◌, Bool, true, false, ◌||◌, List, [], ◌∷◌, ◌++◌, length, map, take, Option, Some, None, refl, ap, sym, subst, ◌∙◌, arith, add-one, inl, inr, All, length-append}
use Rattle.std.specs.Option.{option_or}
use Rattle.std.specs.Prelude.{◌==◌, option_map, slice_get, slice_index_or}
use Rattle.std.proofs.lemmas.Bool.Decides.{eqb_tells}
use Rattle.std.proofs.lemmas.List.FromFn.{length-map-range_with_len}
use Rattle.std.proofs.lemmas.Option.{get_or_from_slice_get, same_Some, slice_get_within}
use Rattle.answer_model.specs.Values.{Opened, IsDown, stage_at, role_at, row_at, stage_value, stage_input, stage_fault, count_at, counts_of, value_of, wrote_with, files_with, or_shown, said_at, said_with, shown_with, las_at}
use Rattle.answer_model.proofs.Least.{least-nowhere}
use Rattle.answer_model.proofs.Values.{has-own, has-later, map-same, tree-down, value-input}
use Rattle.cloud_points.specs.Flows.{Flow, empty_flow, join_all, points}
use Rattle.cloud_points.specs.declared.faults.PointFault.{PointFault}
use Rattle.cloud_points.specs.declared.faults.StageFault.{StageFault}
use Rattle.cloud_points.specs.declared.faults.StageFault.TheVariants as stage
use Rattle.cloud_points.specs.declared.point.Point.{Point}
use Rattle.pipeline_json.specs.Lists.{has, times}
use Rattle.plug_stages.specs.declared.filter.PlugFilter as plug_type
use Rattle.plug_stages.specs.declared.tally.PlugTally as tally_type
use Rattle.run_report.specs.declared.tally.TallyLine.{TallyLine}
use Rattle.pipeline_json.specs.Stages.{taken}
use Rattle.pipeline_json.specs.Trees.{IsTree}
use Rattle.pipeline_json.proofs.Taken.{times-append, present}
use Rattle.run_report.specs.declared.report.StageCount.{StageCount}
use Rattle.stage_kinds.specs.Stages.{HoldsAll, files_by, keeps_of, says_of, shown_by, writing_of, written_by}
use Rattle.stage_kinds.specs.declared.file_form.Writing.{Writing}
use Rattle.stage_kinds.specs.declared.stage_work.StageWork.{StageWork}
use Rattle.stage_forms.specs.Later.{Remembers}
use Rattle.stage_options.specs.Shapes.{shapes}
use Rattle.stage_options.specs.declared.stage.StageSpec.{StageSpec}
use Rattle.run_outcome.specs.Faults.{AreSound, fault_at}
use Rattle.set_engine.proofs.Values.{AreEvaluated}
use Rattle.set_engine.specs.Given.{HoldsTaken, IsGivenBy, count_for, fault_of, kept_after}
use Rattle.set_engine.specs.declared.output.StageOutput.{StageOutput}
use Rattle.set_engine.specs.Taking.{value_in}
use Rattle.set_engine.proofs.After.{fault-front, fault-last}
use Rattle.set_engine.proofs.Joined.{none-has}
use Rattle.set_engine.proofs.Lists.{some-at, in-front, at-last, same-lists, range-at}

-- ---- what stages take

-- the stages that the first so many take
abbrev pub taken_by : List StageSpec → ℕ → List ℕ
taken_by stages i = taken (shapes (take i stages))

pub length-shapes : (stages : List StageSpec) → length (shapes stages) ≡ length stages
length-shapes [] = refl
length-shapes (s ∷ stages) = let r = length-shapes stages in omega (arith, r)

-- where stage i stands, the places that it takes, those taken before, and those taken behind it are all that are taken
taken-split : (stages : List StageSpec) (i j : ℕ) → i < length stages → (rest : ℕ) × (times j (taken (shapes stages)) ≡ times j (taken_by stages i) + times j ((stage_at stages i).ins) + rest)
taken-split [] i j lt = absurd (omega (arith, lt))
taken-split (s ∷ stages) zero j lt = (times j (taken (shapes stages)), let a = times-append j s.ins (taken (shapes stages)) in omega (arith, a))
taken-split (s ∷ stages) (suc i) j lt =
    let later = taken-split stages i j (omega (arith, lt)) in
    let a = times-append j s.ins (taken (shapes stages)) in
    let b = times-append j s.ins (taken (shapes (take i stages))) in
    let e = later.1 in
    (later.0, omega (arith, a, b, e))

pub taken-more : (stages : List StageSpec) (i j : ℕ) → i < length stages → times j (taken_by stages (i + 1)) ≡ times j (taken_by stages i) + times j ((stage_at stages i).ins)
taken-more stages i j lt = rw add-one (go stages i lt)
  where
    go : (stages : List StageSpec) (i : ℕ) → i < length stages → times j (taken (shapes (take (suc i) stages))) ≡ times j (taken (shapes (take i stages))) + times j ((stage_at stages i).ins)
    go [] i lt = absurd (omega (arith, lt))
    go (s ∷ stages) zero lt = let a = times-append j s.ins [] in omega (arith, a)
    go (s ∷ stages) (suc i) lt =
        let a = times-append j s.ins (taken (shapes (take (suc i) stages))) in
        let b = times-append j s.ins (taken (shapes (take i stages))) in
        let e = go stages i (omega (arith, lt)) in
        omega (arith, a, b, e)

length-more : {A : Type 0} (xs : List A) (y : A) → length (xs ++ y ∷ []) ≡ length xs + 1
length-more xs y = length-append xs (y ∷ [])

absent : (j : ℕ) (xs : List ℕ) → has xs j ≡ false → times j xs ≡ 0
absent j [] e = refl
absent j (x ∷ xs) e = go (x == j) refl (absent j xs) e
  where
    go : (b : Bool) → (x == j) ≡ b → (has xs j ≡ false → times j xs ≡ 0) → b || has xs j ≡ false → times j (x ∷ xs) ≡ 0
    go true is later e = absurd cc
    go false is later e = rw is (let r = later e in omega (arith, r))

has-at : (xs : List ℕ) (k d : ℕ) → k < length xs → has xs (slice_index_or xs k d) ≡ true
has-at [] k d lt = absurd (omega (arith, lt))
has-at (x ∷ xs) zero d lt = has-own x xs
has-at (x ∷ xs) (suc k) d lt = has-later x (slice_index_or xs k d) xs (has-at xs k d (omega (arith, lt)))

-- ---- in a tree

module _ (stages : List StageSpec) (tree : IsTree (shapes stages)) where
  down : IsDown stages
  down = tree-down stages tree

  -- a stage takes earlier ones
  pub inside : (i n : ℕ) → n ≡ i → All (λ j. j < n) ((stage_at stages i).ins)
  inside i n e = λ k d lt. (let l = down i (slice_index_or ((stage_at stages i).ins) k d) (has-at ((stage_at stages i).ins) k d lt) in omega (arith, l, e))

  total : (i j : ℕ) → i < length stages → has ((stage_at stages i).ins) j ≡ true → times j (taken_by stages i) + times j ((stage_at stages i).ins) ≤ 1
  total i j lt h =
      let split = taken-split stages i j lt in
      let e = split.1 in
      let l = down i j h in
      let n = length-shapes stages in
      let once = tree.once j (omega (arith, l, lt, n)) in
      omega (arith, e, once)

  -- each of them once
  pub once : (i : ℕ) → i < length stages → (j : ℕ) → times j ((stage_at stages i).ins) ≤ 1
  once i lt j = go (has ((stage_at stages i).ins) j) refl
    where
      go : (b : Bool) → has ((stage_at stages i).ins) j ≡ b → times j ((stage_at stages i).ins) ≤ 1
      go true h = let t = total i j lt h in omega (arith, t)
      go false h = let t = absent j ((stage_at stages i).ins) h in omega (arith, t)

  -- and none that was taken before
  untaken : (i j : ℕ) → i < length stages → has ((stage_at stages i).ins) j ≡ true → times j (taken_by stages i) ≡ 0
  untaken i j lt h = let t = total i j lt h in let p = present j ((stage_at stages i).ins) h in omega (arith, t, p)

-- ---- what was evaluated

no-point : (o : Option PointFault) → option_map stage.Point o ≡ None → o ≡ None
no-point None e = refl
no-point (Some f) e = absurd cc

pub or-is : (a b : Option ℕ) → option_or a b ≡ or_shown a b
or-is None b = refl
or-is (Some n) b = refl

-- how much a stage gave on, by its work then
abbrev pub count_with : {S K P Q : Type 0} → tally_type.Ghosts Q → ℕ → StageSpec → Flow Point → StageWork S K P Q → StageCount
count_with ts i s given w = count_for i s given (or_shown (written_by w) (shown_by w)) (files_by w) (says_of ts w)

module _ {S K P Q : Type 0} (bytes : K → Option (List ℕ)) (fs : plug_type.Ghosts P) (ts : tally_type.Ghosts Q) (stages : List StageSpec) where
  -- the first so many stages have their faults, their values stand at their places where no stage took them, and those without a fault
  -- gave on so much, the writers among them hold what they take, and what is shown points remembers what it is to
  pub record AreUpTo (opened : Opened) (start : List (StageWork S K P Q)) (count : ℕ) (values : List (Flow Point)) (counts : List StageCount) (found : List (Option StageFault)) (works : List (StageWork S K P Q)) : Type 0 where
    pub faults : (j : ℕ) → j < count → fault_at found j ≡ option_map stage.Point (stage_fault stages opened j)
    pub values_are : (j : ℕ) (v : Flow Point) → slice_get values j ≡ Some v → times j (taken_by stages count) ≡ 0 → v ≡ stage_value stages opened j
    pub counted : (j : ℕ) → j < count → stage_fault stages opened j ≡ None → slice_get counts j ≡ Some (count_at stages opened j)
    pub held : (j : ℕ) → j < count → stage_fault stages opened j ≡ None → (w : StageWork S K P Q) → slice_get works j ≡ Some w → (x : Writing) → writing_of w ≡ Some x → HoldsAll bytes x (points (stage_input stages opened j)) w
    pub leaves : (j : ℕ) → j < count → stage_fault stages opened j ≡ None → (w : StageWork S K P Q) → slice_get works j ≡ Some w → Remembers fs ts (row_at stages opened j) (stage_input stages opened j) w
    pub keeps : (j : ℕ) → j < count → (v w : StageWork S K P Q) → slice_get start j ≡ Some v → slice_get works j ≡ Some w → keeps_of w ≡ kept_after v (stage_value stages opened j)

  module _ (tree : IsTree (shapes stages)) where
    module _ (opened : Opened) (start : List (StageWork S K P Q)) (i : ℕ) (lt : i < length stages) (values : List (Flow Point)) (counts : List StageCount) (found : List (Option StageFault)) (works : List (StageWork S K P Q))
        (so_far : AreUpTo opened start i values counts found works) (size : length values ≡ i) where
      -- what the stage takes
      input-is : join_all (map (value_in values) ((stage_at stages i).ins)) ≡ stage_input stages opened i
      input-is = ap join_all (map-same (value_in values) (stage_value stages opened) ((stage_at stages i).ins) (λ j h.
          let at = some-at values j (let l = down stages tree i j h in omega (arith, l, size)) in
          get_or_from_slice_get values j at.0 empty_flow at.1 ∙ so_far.values_are j at.0 at.1 (untaken stages tree i j lt h)))

      module _ (s : StageSpec) (is : slice_get stages i ≡ Some s) (taken_now : Flow Point) (input : taken_now ≡ join_all (map (value_in values) ((stage_at stages i).ins)))
          (w : StageWork S K P Q) (given : StageOutput) (gave : IsGivenBy bytes fs ts (role_at stages i) (row_at stages opened i) (las_at stages opened i) taken_now w given) where
        taken-is : taken_now ≡ stage_input stages opened i
        taken-is = input ∙ input-is

        value-is : given.views ≡ stage_value stages opened i
        value-is = gave.value ∙ ap (λ f. value_of (role_at stages i) (row_at stages opened i) (las_at stages opened i) f) taken-is ∙ sym (value-input stages opened (down stages tree) i)

        fault-is : given.fault ≡ option_map stage.Point (stage_fault stages opened i)
        fault-is = gave.fault ∙ ap (λ f. option_map stage.Point (fault_of (role_at stages i) (row_at stages opened i) (las_at stages opened i) f)) taken-is

        stage-is : stage_at stages i ≡ s
        stage-is = get_or_from_slice_get stages i s _ is

        holds : stage_fault stages opened i ≡ None → HoldsTaken bytes fs ts (role_at stages i) (row_at stages opened i) taken_now given.views w
        holds none = gave.sound (fault-is ∙ ap (option_map stage.Point) none)

        count-is : stage_fault stages opened i ≡ None → count_with ts i s given.views w ≡ count_at stages opened i
        count-is none =
            let role = role_at stages i in
            let row = row_at stages opened i in
            let here = stage_at stages i in
            let value = stage_value stages opened i in
            let own = holds none in
            let wrote : written_by w ≡ wrote_with role row (stage_input stages opened i) value =
            own.wrote ∙ ap (λ f. wrote_with role row f given.views) taken-is ∙ ap (wrote_with role row (stage_input stages opened i)) value-is in
            let shown : shown_by w ≡ shown_with row (stage_input stages opened i) = own.says.shown ∙ ap (shown_with row) taken-is in
            let says : says_of ts w ≡ said_at stages opened i = own.says.says ∙ ap (said_with row) taken-is in
            let files : files_by w ≡ files_with role value = gave.files ∙ ap (files_with role) value-is in
            ap (λ (t : StageSpec). count_with ts i t given.views w) (sym stage-is) ∙ ap (λ f. count_with ts i here f w) value-is
            ∙ ap (λ o. count_for i here value (or_shown o (shown_by w)) (files_by w) (says_of ts w)) wrote
            ∙ ap (λ o. count_for i here value (or_shown (wrote_with role row (stage_input stages opened i) value) o) (files_by w) (says_of ts w)) shown
            ∙ ap (λ n. count_for i here value (count_at stages opened i).wrote n (says_of ts w)) files
            ∙ ap (λ (l : Option TallyLine). count_for i here value (count_at stages opened i).wrote (files_with role value) l) says

        -- with one more, where the values that the stage took are gone
        pub one-more : (rest values_then : List (Flow Point)) (counts_then : List StageCount) (found_then : List (Option StageFault)) (works_then : List (StageWork S K P Q)) → length rest ≡ i
            → ((j : ℕ) → has ((stage_at stages i).ins) j ≡ false → slice_get rest j ≡ slice_get values j) → values_then ≡ rest ++ given.views ∷ []
            → length counts ≡ i → counts_then ≡ counts ++ count_with ts i s given.views w ∷ [] → length found ≡ i → found_then ≡ found ++ given.fault ∷ []
            → slice_get works_then i ≡ Some w → ((j : ℕ) → j < i → slice_get works_then j ≡ slice_get works j)
            → (v : StageWork S K P Q) → slice_get start i ≡ Some v → keeps_of w ≡ kept_after v given.views → AreUpTo opened start (i + 1) values_then counts_then found_then works_then
        one-more rest values_then counts_then found_then works_then left others more few counted few-found pushed here same v was kept = record {
          faults = λ j l. ap (λ fs. fault_at fs j) pushed ∙ elim (eqb_tells j i) as (λ _. fault_at (found ++ given.fault ∷ []) j ≡ option_map stage.Point (stage_fault stages opened j)) [
            | inl p ↦ ap (fault_at (found ++ given.fault ∷ [])) (p.1 ∙ sym few-found) ∙ fault-last found given.fault ∙ fault-is ∙ ap (λ k. option_map stage.Point (stage_fault stages opened k)) (sym p.1)
            | inr p ↦ (let ne = p.1 in fault-front found given.fault j (omega (arith, l, ne, few-found)) ∙ so_far.faults j (omega (arith, l, ne)))
          ];
          counted = λ j l none. ap (λ cs. slice_get cs j) counted ∙ elim (eqb_tells j i) as (λ _. slice_get (counts ++ count_with ts i s given.views w ∷ []) j ≡ Some (count_at stages opened j)) [
            | inl p ↦ at-last counts (count_with ts i s given.views w) j (few ∙ sym p.1) ∙ ap Some (count-is (ap (stage_fault stages opened) (sym p.1) ∙ none)) ∙ ap (λ k. Some (count_at stages opened k)) (sym p.1)
            | inr p ↦ (let ne = p.1 in in-front counts (count_with ts i s given.views w ∷ []) j (omega (arith, l, ne, few)) ∙ so_far.counted j (omega (arith, l, ne)) none)
          ];
          values_are = λ j x e untook.
              let there : slice_get (rest ++ given.views ∷ []) j ≡ Some x = ap (λ vs. slice_get vs j) (sym more) ∙ e in
              let split = taken-more stages i j lt in
              elim (eqb_tells j i) as (λ _. x ≡ stage_value stages opened j) [
                | inl p ↦ (let q : Some given.views ≡ Some x = sym (at-last rest given.views j (left ∙ sym p.1)) ∙ there in let r : given.views ≡ x = cc in sym r ∙ value-is ∙ ap (stage_value stages opened) (sym p.1))
                | inr p ↦ (let ne = p.1 in let l : j < i = omega (arith, ne, slice_get_within (rest ++ given.views ∷ []) j x there, length-more rest given.views, left) in
                    let away = none-has j ((stage_at stages i).ins) (omega (arith, split, untook)) in
                    so_far.values_are j x (sym (others j away) ∙ sym (in-front rest (given.views ∷ []) j (omega (arith, l, left))) ∙ there) (omega (arith, split, untook)))
              ];
          held = λ j l none z e x is. elim (eqb_tells j i) as (λ _. HoldsAll bytes x (points (stage_input stages opened j)) z) [
            | inl p ↦ (let q : Some w ≡ Some z = sym here ∙ ap (λ k. slice_get works_then k) (sym p.1) ∙ e in let r : w ≡ z = cc in
                let own = holds (ap (stage_fault stages opened) (sym p.1) ∙ none) in
                subst (λ k. HoldsAll bytes x (points (stage_input stages opened k)) z) (sym p.1) (subst (λ f. HoldsAll bytes x (points f) z) taken-is
                (subst (HoldsAll bytes x (points taken_now)) r (own.held x (ap writing_of r ∙ is)))))
            | inr p ↦ (let ne = p.1 in let l : j < i = omega (arith, l, ne) in so_far.held j l none z (sym (same j l) ∙ e) x is)
          ];
          leaves = λ j l none z e. elim (eqb_tells j i) as (λ _. Remembers fs ts (row_at stages opened j) (stage_input stages opened j) z) [
            | inl p ↦ (
                let r : w ≡ z = same_Some w z (sym here ∙ ap (slice_get works_then) (sym p.1) ∙ e) in
                subst (λ k. Remembers fs ts (row_at stages opened k) (stage_input stages opened k) z) (sym p.1) (subst (λ f. Remembers fs ts (row_at stages opened i) f z) taken-is
                (subst (Remembers fs ts (row_at stages opened i) taken_now) r ((holds (ap (stage_fault stages opened) (sym p.1) ∙ none)).says.leaves))))
            | inr p ↦ (let ne = p.1 in let l : j < i = omega (arith, l, ne) in so_far.leaves j l none z (sym (same j l) ∙ e))
          ];
          keeps = λ j l y z a e. elim (eqb_tells j i) as (λ _. keeps_of z ≡ kept_after y (stage_value stages opened j)) [
            | inl p ↦ (
                let r : w ≡ z = same_Some w z (sym here ∙ ap (slice_get works_then) (sym p.1) ∙ e) in
                let q : v ≡ y = same_Some v y (sym was ∙ ap (slice_get start) (sym p.1) ∙ a) in
                ap keeps_of (sym r) ∙ kept ∙ ap (λ u. kept_after u given.views) q ∙ ap (kept_after y) (value-is ∙ ap (stage_value stages opened) (sym p.1)))
            | inr p ↦ (let ne = p.1 in let l : j < i = omega (arith, l, ne) in so_far.keeps j l y z a (sym (same j l) ∙ e))
          ];
        }

    -- nothing was evaluated yet
    pub none-yet : (opened : Opened) (start works : List (StageWork S K P Q)) → AreUpTo opened start 0 [] [] [] works
    none-yet opened start works = record {
      keeps = λ j l. absurd (omega (arith, l));
      leaves = λ j l. absurd (omega (arith, l));
      faults = λ j l. absurd (omega (arith, l));
      counted = λ j l. absurd (omega (arith, l));
      values_are = λ j v e none. absurd cc;
      held = λ j l. absurd (omega (arith, l));
    }

    -- all were, and no stage has a fault
    pub all-done : (opened : Opened) (start : List (StageWork S K P Q)) (n : ℕ) (values : List (Flow Point)) (counts : List StageCount) (found : List (Option StageFault)) (works : List (StageWork S K P Q)) → n ≡ length stages → length counts ≡ n
        → length works ≡ length stages → AreUpTo opened start n values counts found works → AreSound found → AreEvaluated bytes fs ts stages opened start works counts
    all-done opened start n values counts found works all few size up sound = record {
      sound = least-nowhere (stage_fault stages opened) (length stages) (λ j l. none j (omega (arith, l, all)));
      counted = same-lists counts (counts_of stages opened) (few ∙ all ∙ sym (length-map-range_with_len (count_at stages opened) 0 (length stages))) (λ j l.
          up.counted j (omega (arith, l, few)) (none j (omega (arith, l, few))) ∙ ap (λ k. Some (count_at stages opened k)) (zero-first j) ∙ sym (range-at (count_at stages opened) 0 (length stages) j (omega (arith, l, few, all))));
      held = λ j w e x is. (let lt = (let a = slice_get_within works j w e in let l : j < n = omega (arith, a, size, all) in l) in up.held j lt (none j lt) w e x is);
      leaves = λ j w e. (let lt = (let a = slice_get_within works j w e in let l : j < n = omega (arith, a, size, all) in l) in up.leaves j lt (none j lt) w e);
      keeps = λ j v w a e. up.keeps j (let l = slice_get_within works j w e in omega (arith, l, size, all)) v w a e;
    }
      where
        none : (j : ℕ) → j < n → stage_fault stages opened j ≡ None
        none j l = no-point (stage_fault stages opened j) (sym (up.faults j l) ∙ sound j)

        zero-first : (n : ℕ) → n ≡ 0 + n
        zero-first n = omega arith
