-- One part more is run.
use Rattle.std.proofs.Common.{◌≡◌, ◌≢◌, ℕ, suc, ◌+◌, ◌-◌, ◌<◌, ◌≤◌, ◌==◌, ◌||◌, nat_lt, Bool, true, false, true≢false, List, length, Option, Some, None, is_some, refl, ap, sym, subst, ◌∙◌, inl, inr, arith}
use Rattle.std.specs.Prelude.{slice_get, option_map}
use Rattle.std.proofs.lemmas.Bool.Decides.{eqb_tells, leb_tells}
use Rattle.std.proofs.lemmas.Option.{none-some, same_Some, slice_get_within}
use Rattle.file_devices.specs.declared.devices.Source as source
use Rattle.file_devices.specs.declared.devices.Sink as sink
use Rattle.cloud_points.specs.Events.{is_device}
use Rattle.cloud_points.specs.declared.point.Point.{Point}
use Rattle.cloud_points.specs.declared.faults.StageFault.{StageFault}
use Rattle.cloud_points.specs.declared.faults.StageFault.TheVariants as stage
use Rattle.cloud_points.specs.Flows.{Flow}
use Rattle.cloud_points.specs.Marks.{flow_marks}
use Rattle.network_theory.specs.Forest.{IsForest}
use Rattle.network_core.specs.declared.node.Node.{Node}
use Rattle.network_core.proofs.Opened.{some_at}
use Rattle.network_solo.specs.Stopping.{SomeFault}
use Rattle.view_works.specs.Collecting.{Held, held}
use Rattle.stage_kinds.specs.declared.making.Making.{Making}
use Rattle.stage_kinds.specs.declared.file_form.StageForm.TheVariants.{Gathers}
use Rattle.stage_kinds.specs.declared.stage_work.StageState.{StageState}
use Rattle.stage_kinds.specs.declared.stage_work.StageState.TheVariants.{Collecting}
use Rattle.stage_kinds.specs.declared.stage_work.StageWork.{StageWork}
use Rattle.stage_kinds.specs.declared.stage_work.StageWork.TheVariants.{Reader, Filter, Plug, Tally, Collector, Views, ViewFiles, Writer}
use Rattle.stage_kinds.specs.Gathers.{IsGathered, IsMade}
use Rattle.stage_kinds.specs.Makings.{kept_by}
use Rattle.stage_kinds.specs.Stages.{state_of}
use Rattle.stage_options.specs.Roles.{is_gathering}
use Rattle.stage_options.specs.declared.stage.StageSpec.{StageSpec}
use Rattle.stage_parts.specs.Parts.{AreHomes, gathers_at, home_at, is_of, part_ins}
use Rattle.stage_parts.proofs.Tops.{homes-above}
use Rattle.answer_model.specs.Values.{Opened, IsDown, options_at, role_at, setting_at, stage_value, stage_input, stage_fault}
use Rattle.stage_forms.specs.Starts.{form_for, kept_for}
use Rattle.stage_runs.specs.Works.{as_works, ins_of, AreNewStages, RunOn}
use Rattle.stage_runs.specs.Ran.{EndsAsStage}
use Rattle.stage_runs.specs.Parts.{gathers_of, IsNewLeaf, GivesAsStage, IsPart, IsPartRun, IsPartStopped, IsGatheredAt, is_past, NoneFailedBefore, AreRunBefore, Besides}
use Rattle.stage_runs.proofs.Later.{AreTurnedNodes, ran-turned, stopped-turned}
use Rattle.stage_runs.proofs.Part.{IsRoot, gathers-are, home-ends, root-holds, root-ends, home-fault, root-fault, stranger-sound}
use Rattle.stage_runs.proofs.Choices.{same-number, other-number}
use Rattle.stage_runs.proofs.Ran.{gathers-value, gathers-fault}
use Rattle.plug_stages.specs.declared.filter.PlugFilter as plug_type
use Rattle.plug_stages.specs.declared.tally.PlugTally as tally_type

-- ---- numbers

pub lt-true : (a b : ℕ) → a < b → nat_lt a b ≡ true
lt-true a b l = elim (leb_tells (suc a) b) [ inl p ↦ p.0 | inr p ↦ (let m = p.1 in absurd (omega (arith, l, m))) ]

pub lt-false : (a b : ℕ) → b ≤ a → nat_lt a b ≡ false
lt-false a b l = elim (leb_tells (suc a) b) [ inl p ↦ (let m = p.1 in absurd (omega (arith, l, m))) | inr p ↦ p.0 ]

pub true-lt : (a b : ℕ) → nat_lt a b ≡ true → a < b
true-lt a b e = elim (leb_tells (suc a) b) [ inl p ↦ (let m = p.1 in omega (arith, m)) | inr p ↦ absurd (true≢false (sym e ∙ p.0)) ]

false-le : (a b : ℕ) → nat_lt a b ≡ false → b ≤ a
false-le a b e = elim (leb_tells (suc a) b) [ inl p ↦ absurd (true≢false (sym p.0 ∙ e)) | inr p ↦ (let m = p.1 in omega (arith, m)) ]

-- ---- what a collector that holds a flow becomes

abbrev held-in : StageState → Option (Making × Held)
held-in (Collecting g h) = Some (g, h)
held-in _ = None

module _ {S K P Q : Type 0} (fs : plug_type.Ghosts P) (ts : tally_type.Ghosts Q) where
  pub gives-gathered : (m : Making) (flow : Flow Point) (v w : StageWork S K P Q) → state_of fs ts v ≡ Collecting m (Some flow) → IsGathered v w → IsMade m flow w
  gives-gathered m flow (Collector c) w e is = subst (λ (x : Making × Flow Point). IsMade x.0 x.1 w) same is.made
    where
      at : ◌≡◌ {A = Making × Held} (c.making, held c.short c.views) (m, Some flow)
      at = same_Some _ _ (ap held-in e)

      views : c.views ≡ flow
      views = same_Some c.views flow (ap (λ b. held b c.views) (sym is.enough) ∙ ap (λ t. t.1) at)

      same : ◌≡◌ {A = Making × Flow Point} (c.making, c.views) (m, flow)
      same = ap (λ x. (x, c.views)) (ap (λ t. t.0) at) ∙ ap (λ f. (m, f)) views
  gives-gathered m flow (Reader r) w e is = absurd (none-some _ (ap held-in e))
  gives-gathered m flow (Filter f) w e is = absurd (none-some _ (ap held-in e))
  gives-gathered m flow (Plug v) w e is = absurd (none-some _ (ap held-in e))
  gives-gathered m flow (Tally v) w e is = absurd (none-some _ (ap held-in e))
  gives-gathered m flow (Views h) w e is = absurd (none-some _ (ap held-in e))
  gives-gathered m flow (ViewFiles t) w e is = absurd (none-some _ (ap held-in e))
  gives-gathered m flow (Writer x) w e is = absurd (none-some _ (ap held-in e))

module _ {S K P Q : Type 0} (s : source.Ghosts S) (k : sink.Ghosts K) (fs : plug_type.Ghosts P) (ts : tally_type.Ghosts Q) (stages : List StageSpec) (old : List (Node (StageWork S K P Q))) (new : AreNewStages s k fs ts stages old) (down : IsDown stages)
    (forest : IsForest (ins_of stages) (length (ins_of stages) - 1)) (size : length (ins_of stages) ≡ length stages)
    (homes : List ℕ) (are : AreHomes (gathers_of stages) (ins_of stages) homes) (besides : Besides S K P Q) where
  abbrev Done : ℕ → List (Node (StageWork S K P Q)) → Type 0
  Done done now = AreRunBefore s k fs ts stages homes old done now

  abbrev Part : ℕ → ℕ → List (Node (StageWork S K P Q)) → List (Node (StageWork S K P Q)) → Type 0
  Part home root now after = IsPartRun s k fs ts besides (part_ins (gathers_of stages) (ins_of stages) homes home root) homes home root now after

  abbrev PartBy : (List (Node (StageWork S K P Q)) → List (Node (StageWork S K P Q)) → Type 0) → ℕ → ℕ → List (Node (StageWork S K P Q)) → List (Node (StageWork S K P Q)) → Type 0
  PartBy became home root now after = IsPart s k fs ts became (part_ins (gathers_of stages) (ins_of stages) homes home root) homes home root now after

  abbrev PartStopped : Type 0 → ℕ → ℕ → ℕ → ℕ → List (Node (StageWork S K P Q)) → List (Node (StageWork S K P Q)) → Type 0
  PartStopped bounded queue chunk home root now after = IsPartStopped s k fs ts bounded queue chunk (part_ins (gathers_of stages) (ins_of stages) homes home root) homes home root now after

  abbrev Sound : ℕ → List (Node (StageWork S K P Q)) → Type 0
  Sound done now = NoneFailedBefore s k fs ts stages homes old done now

  abbrev past : ℕ → ℕ → Bool
  past done i = is_past s k fs ts stages homes old done i

  -- no part was run yet
  pub none-run : Done 0 old
  none-run = record {
    past = λ opened sound on i m e p. absurd (let l = true-lt (home_at homes i) 0 p in omega (arith, l));
    held = λ i m e p l g. absurd (omega (arith, l));
    gives = λ opened sound on i m e p l g. absurd (omega (arith, l));
    waits = λ i m e p no. e;
  }

  -- a home is the number of a stage that gathers
  pub home-gathers : (i : ℕ) → i < length stages → (w : ℕ) → w < length stages → home_at homes i ≡ w → is_gathering (role_at stages w) ≡ true
  home-gathers i l w m e =
      let h = homes-above (gathers_of stages) (ins_of stages) homes forest are i (omega (arith, l, size)) in
      sym (gathers-are stages w) ∙ ap (gathers_at (gathers_of stages)) (sym e) ∙ h.gathering (omega (arith, e, m, size))

  pub above : (i : ℕ) → i < length stages → i < home_at homes i
  above i l = (homes-above (gathers_of stages) (ins_of stages) homes forest are i (omega (arith, l, size))).above

  -- a stage that doesn't gather has no part of its own
  pub none-here : (w : ℕ) (now : List (Node (StageWork S K P Q))) → length now ≡ length stages → w < length stages → is_gathering (role_at stages w) ≡ false → Done w now → Done (w + 1) now
  none-here w now count inside streams done = record {
    past = λ opened sound on i m e p. done.past opened (fewer sound) on i m e (earlier i (within i m e) p);
    held = λ i m e p l g. done.held i m e (before i p) (other i l g) g;
    gives = λ opened sound on i m e p l g. done.gives opened (fewer sound) on i m e (before i p) (other i l g) g;
    waits = λ i m e p no. done.waits i m e (before i p) (λ l g. no (omega (arith, l)) g);
  }
    where
      within : (i : ℕ) (m : Node (StageWork S K P Q)) → slice_get now i ≡ Some m → i < length stages
      within i m e = let a = slice_get_within now i m e in omega (arith, a, count)

      earlier : (i : ℕ) → i < length stages → past (w + 1) i ≡ true → past w i ≡ true
      earlier i l p = elim (eqb_tells (home_at homes i) w) [
        | inl q ↦ absurd (true≢false (sym (home-gathers i l w inside q.1) ∙ streams))
        | inr q ↦ lt-true (home_at homes i) w (let a = true-lt (home_at homes i) (w + 1) p in let n = q.1 in omega (arith, a, n))
      ]

      before : (i : ℕ) → past (w + 1) i ≡ false → past w i ≡ false
      before i p = lt-false (home_at homes i) w (let a = false-le (home_at homes i) (w + 1) p in omega (arith, a))

      fewer : Sound (w + 1) now → Sound w now
      fewer sound i m e p = sound i m e (lt-true (home_at homes i) (w + 1) (let a = true-lt (home_at homes i) w p in omega (arith, a)))

      other : (i : ℕ) → i < w + 1 → is_gathering (role_at stages i) ≡ true → i < w
      other i l g = elim (eqb_tells i w) [
        | inl q ↦ absurd (true≢false (sym g ∙ ap (λ j. is_gathering (role_at stages j)) q.1 ∙ streams))
        | inr q ↦ (let n = q.1 in omega (arith, l, n))
      ]

  -- ---- a part

  module _ (home root : ℕ) (is_root : IsRoot stages homes home root) (now : List (Node (StageWork S K P Q))) (count : length now ≡ length stages) (inside : root < length stages)
      (below : (i : ℕ) → i < root → i < home) (done : Done home now) where
    of-home : (i : ℕ) → is_of homes home i ≡ true → home_at homes i ≡ home
    of-home i h = elim (eqb_tells (home_at homes i) home) [ inl p ↦ p.1 | inr p ↦ absurd (true≢false (sym h ∙ p.0)) ]

    not-past : (i : ℕ) → home_at homes i ≡ home → past home i ≡ false
    not-past i e = lt-false (home_at homes i) home (omega (arith, e))

    pub waits : (i : ℕ) (n : Node (StageWork S K P Q)) → i < root → is_of homes home i ≡ true → is_gathering (role_at stages i) ≡ false → slice_get now i ≡ Some n → slice_get old i ≡ Some n
    waits i n l h streams e = done.waits i n e (not-past i (of-home i h)) (λ m g. true≢false (sym g ∙ streams))

    pub held-here : (i : ℕ) (n : Node (StageWork S K P Q)) → i < root → is_of homes home i ≡ true → is_gathering (role_at stages i) ≡ true → slice_get now i ≡ Some n → IsNewLeaf s k fs ts n
    held-here i n l h g e = done.held i n e (not-past i (of-home i h)) (below i l) g

    pub root-past : past home root ≡ false
    root-past = elim is_root [
      | inl r ↦ lt-false (home_at homes root) home (let a = above root inside in let e = r.1 in omega (arith, a, e))
      | inr r ↦ not-past root r.1
    ]

    pub root-waits : (n : Node (StageWork S K P Q)) → slice_get now root ≡ Some n → slice_get old root ≡ Some n
    root-waits n e = done.waits root n e root-past (λ l g. elim is_root [
      | inl r ↦ (let h = r.1 in absurd (omega (arith, l, h)))
      | inr r ↦ true≢false (sym g ∙ r.0)
    ])

    old-size : length now ≡ length old
    old-size = count ∙ sym new.count

    here : root < length now
    here = omega (arith, inside, count)

    module _ {became : List (Node (StageWork S K P Q)) → List (Node (StageWork S K P Q)) → Type 0} (after : List (Node (StageWork S K P Q))) (part : PartBy became home root now after) where
      -- a node of this home but the root
      pub own-below : (i : ℕ) → i < root → is_of homes home i ≡ true → slice_get after i ≡ slice_get part.ended i
      own-below i l h = part.back i (omega (arith, l)) (ap (λ b. b || is_of homes home i) (other-number i root (λ e. omega (arith, e, l))) ∙ h)

      pub at-root : slice_get after root ≡ slice_get part.ended root
      at-root = part.back root (omega arith) (ap (λ b. b || is_of homes home root) (same-number root))

      -- the other nodes stay
      pub stays : (i : ℕ) → i ≢ root → home_at homes i ≢ home → slice_get after i ≡ slice_get now i
      stays i n h = elim (leb_tells i root) [
        | inl p ↦ part.other i p.1 (ap (λ b. b || is_of homes home i) (other-number i root n) ∙ other-number (home_at homes i) home h)
        | inr p ↦ part.beyond i p.1
      ]

      pub quiet-ended : ((i : ℕ) (m : Node (StageWork S K P Q)) → i ≤ root → is_of homes home i ≡ true → slice_get after i ≡ Some m → is_device m.fault ≡ false)
          → (i : ℕ) (m : Node (StageWork S K P Q)) → i ≤ root → is_of homes home i ≡ true → slice_get part.ended i ≡ Some m → is_device m.fault ≡ false
      quiet-ended quiet i m l h e = quiet i m l h (part.back i l (own-or (i == root) (is_of homes home i) h) ∙ e)
        where
          own-or : (a b : Bool) → b ≡ true → a || b ≡ true
          own-or true b f = refl
          own-or false b f = f

    module _ (after : List (Node (StageWork S K P Q))) (opened : Opened) (on : RunOn s fs ts stages old opened) (sound : Sound home now)
        (quiet : (i : ℕ) (m : Node (StageWork S K P Q)) → i ≤ root → is_of homes home i ≡ true → slice_get after i ≡ Some m → is_device m.fault ≡ false) where
      gives : (i : ℕ) (n : Node (StageWork S K P Q)) → i < root → is_of homes home i ≡ true → is_gathering (role_at stages i) ≡ true → slice_get now i ≡ Some n → GivesAsStage s k fs ts stages opened i n
      gives i n l h g e = done.gives opened sound on i n e (not-past i (of-home i h)) (below i l) g

      -- where all were done
      module _ (part : Part home root now after) where
        turned : AreTurnedNodes s k fs ts part.net part.ended
        turned = ran-turned s k fs ts (part_ins (gathers_of stages) (ins_of stages) homes home root) part.net part.ended part.turned.0

        pub home-end : (i : ℕ) (m : Node (StageWork S K P Q)) → i < root → is_of homes home i ≡ true → slice_get after i ≡ Some m → EndsAsStage s k fs ts stages opened i m
        home-end i m l h e = home-ends s k fs ts stages old new down homes are home root is_root now part.net part.is_net waits root-waits held-here here old-size
            opened on gives part.ended turned part.enough (quiet-ended after part quiet) part.turned.0 i m l h (sym (own-below after part i l h) ∙ e)

        pub root-end : (m : Node (StageWork S K P Q)) → slice_get after root ≡ Some m → is_gathering (role_at stages root) ≡ false → EndsAsStage s k fs ts stages opened root m
        root-end m e g = root-ends s k fs ts stages old new down homes are home root is_root now part.net part.is_net waits root-waits held-here here old-size
            opened on gives part.ended turned part.enough (quiet-ended after part quiet) part.turned.0 m (sym (at-root after part) ∙ e) g

        pub root-hold : (m : Node (StageWork S K P Q)) → slice_get after root ≡ Some m → is_gathering (role_at stages root) ≡ true
            → (g : Making) × (state_of fs ts m.work ≡ Collecting g (Some (stage_input stages opened root))) × (form_for (options_at stages root) (setting_at stages opened root) ≡ Gathers g)
        root-hold m e g = root-holds s k fs ts stages old new down homes are home root is_root now part.net part.is_net waits root-waits held-here here old-size
            opened on gives part.ended turned part.enough (quiet-ended after part quiet) part.turned.0 m (sym (at-root after part) ∙ e) g

      -- where turns ended at a fault
      module _ (bounded : Type 0) (queue chunk : ℕ) (part : PartStopped bounded queue chunk home root now after) where
        stopped-turned-nodes : AreTurnedNodes s k fs ts part.net part.ended
        stopped-turned-nodes = stopped-turned s k fs ts (part_ins (gathers_of stages) (ins_of stages) homes home root) part.net part.ended part.turned.0

        pub home-faulty : (i : ℕ) (m : Node (StageWork S K P Q)) (f : StageFault) → i < root → is_of homes home i ≡ true → slice_get after i ≡ Some m → m.fault ≡ Some f → option_map stage.Point (stage_fault stages opened i) ≡ Some f
        home-faulty i m f l h e has = home-fault s k fs ts stages old new down homes are home root is_root now part.net part.is_net waits root-waits held-here here old-size
            opened on gives part.ended stopped-turned-nodes part.enough (quiet-ended after part quiet) part.turned.0 i m f l h (sym (own-below after part i l h) ∙ e) has

        pub root-faulty : (m : Node (StageWork S K P Q)) (f : StageFault) → slice_get after root ≡ Some m → m.fault ≡ Some f → option_map stage.Point (stage_fault stages opened root) ≡ Some f
        root-faulty m f e has = root-fault s k fs ts stages old new down homes are home root is_root now part.net part.is_net waits root-waits held-here here old-size
            opened on gives part.ended stopped-turned-nodes part.enough (quiet-ended after part quiet) part.turned.0 m f (sym (at-root after part) ∙ e) has

        -- no stranger has a fault, so one of the part has
        pub some-faulty : SomeFault (as_works s k fs ts) after
        some-faulty = by_place part.turned.1
          where
            by_home : (i : ℕ) (m : Node (StageWork S K P Q)) (f : StageFault) → i < root → slice_get part.ended i ≡ Some m → m.fault ≡ Some f → (b : Bool) → is_of homes home i ≡ b → SomeFault (as_works s k fs ts) after
            by_home i m f l e has true h = (i, m, own-below after part i l h ∙ e, ap (λ (o : Option StageFault). is_some o) has)
            by_home i m f l e has false h = absurd (stranger-sound s k fs ts stages old new down homes are home root is_root now part.net part.is_net waits root-waits held-here here old-size
                opened on gives part.ended stopped-turned-nodes part.enough (quiet-ended after part quiet) part.turned.0 i m f l h e has)

            by_fault : (i : ℕ) (m : Node (StageWork S K P Q)) → i < root → slice_get part.ended i ≡ Some m → (o : Option StageFault) → m.fault ≡ o → is_some o ≡ true → SomeFault (as_works s k fs ts) after
            by_fault i m l e None q some = absurd (true≢false (sym some))
            by_fault i m l e (Some f) q some = by_home i m f l e q (is_of homes home i) refl

            by_place : SomeFault (as_works s k fs ts) part.ended → SomeFault (as_works s k fs ts) after
            by_place (i, m, e, some) = elim (eqb_tells i root) [
              | inl q ↦ (root, m, at-root after part ∙ ap (slice_get part.ended) (sym q.1) ∙ e, some)
              | inr q ↦ (
                  let n = q.1 in let a = slice_get_within part.ended i m e in let b = stopped-turned-nodes.count in let c = part.is_net.count in
                  by_fault i m (omega (arith, n, a, b, c)) e m.fault refl some)
            ]

  -- ---- the part of a stage that gathers

  module _ (w : ℕ) (now after last : List (Node (StageWork S K P Q))) (count : length now ≡ length stages) (inside : w < length stages) (gathers : is_gathering (role_at stages w) ≡ true)
      (done : Done w now) (part : Part w w now after) (made : IsGatheredAt s k fs ts w after last) where
    at-w : IsRoot stages homes w w
    at-w = inl (gathers, refl)

    within : (i : ℕ) (m : Node (StageWork S K P Q)) → slice_get last i ≡ Some m → i < length stages
    within i m e = let a = slice_get_within last i m e in let b = made.count in let c = part.count in omega (arith, a, b, c, count)

    -- a node that isn't of this part stays
    kept : (i : ℕ) → i ≢ w → home_at homes i ≢ w → slice_get last i ≡ slice_get now i
    kept i n h = made.other i n ∙ stays w w at-w now count inside (λ j l. l) done after part i n h

    before : (i : ℕ) → past (w + 1) i ≡ false → past w i ≡ false
    before i p = lt-false (home_at homes i) w (let a = false-le (home_at homes i) (w + 1) p in omega (arith, a))

    -- a stage whose part was run before
    kept-past : (i : ℕ) → i < length stages → past w i ≡ true → slice_get last i ≡ slice_get now i
    kept-past i l p =
        let h = true-lt (home_at homes i) w p in let a = above i l in
        kept i (λ e. omega (arith, h, a, e)) (λ e. omega (arith, h, e))

    kept-later : (i : ℕ) → i ≢ w → past (w + 1) i ≡ false → slice_get last i ≡ slice_get now i
    kept-later i n p = let h = false-le (home_at homes i) (w + 1) p in kept i n (λ e. omega (arith, h, e))

    sound-before : Sound (w + 1) last → Sound w now
    sound-before sound i m e p =
        let l = true-lt (home_at homes i) w p in
        sound i m (kept-past i (let a = slice_get_within now i m e in omega (arith, a, count)) p ∙ e) (lt-true (home_at homes i) (w + 1) (omega (arith, l)))

    quiet : Sound (w + 1) last → (i : ℕ) (m : Node (StageWork S K P Q)) → i ≤ w → is_of homes w i ≡ true → slice_get after i ≡ Some m → is_device m.fault ≡ false
    quiet sound i m l h e =
        let home-is = of-home w w at-w now count inside (λ j l. l) done i h in
        let a = above i (omega (arith, l, inside)) in
        sound i m (made.other i (λ q. omega (arith, a, home-is, q)) ∙ e) (lt-true (home_at homes i) (w + 1) (omega (arith, home-is)))

    pub gathered-here : Done (w + 1) last
    gathered-here = record {
      past = λ opened sound on i m e p. past-here opened sound on i m e p;
      held = λ i m e p l g. held-here' i m e p l g;
      gives = λ opened sound on i m e p l g. gives-here opened sound on i m e p l g;
      waits = λ i m e p no. waits-here i m e p no;
    }
      where
        past-here : (opened : Opened) → Sound (w + 1) last → RunOn s fs ts stages old opened → (i : ℕ) (m : Node (StageWork S K P Q)) → slice_get last i ≡ Some m → past (w + 1) i ≡ true → EndsAsStage s k fs ts stages opened i m
        past-here opened sound on i m e p = elim (leb_tells (suc (home_at homes i)) w) [
          | inl q ↦ done.past opened (sound-before sound) on i m (sym (kept-past i (within i m e) q.0) ∙ e) q.0
          | inr q ↦ (
              let x = q.1 in let y = true-lt (home_at homes i) (w + 1) p in
              let same : home_at homes i ≡ w = omega (arith, x, y) in
              let a = above i (within i m e) in
              let less : i < w = omega (arith, a, same) in
              home-end w w at-w now count inside (λ j l. l) done after opened on (sound-before sound) (quiet sound) part i m less
              (ap (λ h. h == w) same ∙ same-number w) (sym (made.other i (λ r. omega (arith, less, r))) ∙ e))
        ]

        below-w : (i : ℕ) → i < w + 1 → i ≢ w → i < w
        below-w i l n = omega (arith, l, n)

        held-here' : (i : ℕ) (m : Node (StageWork S K P Q)) → slice_get last i ≡ Some m → past (w + 1) i ≡ false → i < w + 1 → is_gathering (role_at stages i) ≡ true → IsNewLeaf s k fs ts m
        held-here' i m e p l g = elim (eqb_tells i w) [
          | inl q ↦ made.leaf m (ap (slice_get last) (sym q.1) ∙ e)
          | inr q ↦ done.held i m (sym (kept-later i q.1 p) ∙ e) (before i p) (below-w i l q.1) g
        ]

        gives-w : (opened : Opened) → Sound (w + 1) last → RunOn s fs ts stages old opened → (m : Node (StageWork S K P Q)) → slice_get last w ≡ Some m → GivesAsStage s k fs ts stages opened w m
        gives-w opened sound on m e =
            let v = some_at after w (let b = part.count in omega (arith, b, count, inside)) in
            let holds = root-hold w w at-w now count inside (λ j l. l) done after opened on (sound-before sound) (quiet sound) part v.0 v.1 gathers in
            let made = gives-gathered fs ts holds.0 (stage_input stages opened w) v.0.work m.work holds.1 (made.here v.0 m v.1 e) in
            let value = sym (gathers-value s k fs ts stages old new down opened on w holds.0 holds.2) in
            record {
              gives = record {
                tells = made.tells s.bytes;
                told = made.told s.bytes ∙ ap flow_marks value;
                fault = made.fault s.bytes ∙ ap (option_map stage.Point) (sym (gathers-fault s k fs ts stages old new down opened on w holds.0 holds.2));
              };
              keeps = made.keeps ∙ ap (kept_by holds.0) value ∙ sym (ap (λ f. kept_for f (stage_value stages opened w)) holds.2);
            }

        gives-here : (opened : Opened) → Sound (w + 1) last → RunOn s fs ts stages old opened → (i : ℕ) (m : Node (StageWork S K P Q)) → slice_get last i ≡ Some m → past (w + 1) i ≡ false → i < w + 1
            → is_gathering (role_at stages i) ≡ true → GivesAsStage s k fs ts stages opened i m
        gives-here opened sound on i m e p l g = elim (eqb_tells i w) [
          | inl q ↦ subst (λ j. GivesAsStage s k fs ts stages opened j m) (sym q.1) (gives-w opened sound on m (ap (slice_get last) (sym q.1) ∙ e))
          | inr q ↦ done.gives opened (sound-before sound) on i m (sym (kept-later i q.1 p) ∙ e) (before i p) (below-w i l q.1) g
        ]

        waits-here : (i : ℕ) (m : Node (StageWork S K P Q)) → slice_get last i ≡ Some m → past (w + 1) i ≡ false → (i < w + 1 → is_gathering (role_at stages i) ≡ true → ⊥) → slice_get old i ≡ Some m
        waits-here i m e p rest = elim (eqb_tells i w) [
          | inl q ↦ absurd (let same = q.1 in rest (omega (arith, same)) (ap (λ j. is_gathering (role_at stages j)) same ∙ gathers))
          | inr q ↦ done.waits i m (sym (kept-later i q.1 p) ∙ e) (before i p) (λ l g. rest (omega (arith, l)) g)
        ]
