-- The last part is run, and all stages have come to their end.
use Rattle.std.proofs.Common.{◌≡◌, ◌≢◌, ◌⊎◌, ℕ, zero, suc, ◌+◌, ◌-◌, ◌<◌, ◌≤◌, ◌==◌, Bool, true, false, true≢false, cond, List, [], ◌∷◌, length, Option, Some, None, is_some, refl, ap, sym, subst, ◌∙◌, inl, inr, arith}
use Rattle.std.specs.Prelude.{slice_get, option_map}
use Rattle.std.proofs.lemmas.Bool.Decides.{eqb_tells}
use Rattle.std.proofs.lemmas.Option.{none-some, same_Some, slice_get_within}
use Rattle.file_devices.specs.declared.devices.Source as source
use Rattle.file_devices.specs.declared.devices.Sink as sink
use Rattle.cloud_points.specs.declared.faults.StageFault.{StageFault}
use Rattle.cloud_points.specs.declared.faults.StageFault.TheVariants as stage
use Rattle.cloud_points.specs.Events.{is_device, ran_short, IsOf}
use Rattle.cloud_points.specs.Marks.{flow_marks}
use Rattle.network_theory.specs.Forest.{IsForest, children}
use Rattle.network_theory.specs.Shape.{In}
use Rattle.network_theory.proofs.Forests.{forest-tree}
use Rattle.network_core.specs.Calm.{Calm, NoEvent}
use Rattle.network_solo.specs.Trees.{Streams, NoneCame, LeavesTell, EndsOver, IsRanTree, fault_of, input_at}
use Rattle.network_solo.specs.Stopping.{IsStoppedTree, SomeFault}
use Rattle.network_core.specs.declared.node.Node.{Node}
use Rattle.network_core.proofs.Opened.{some_at}
use Rattle.stage_kinds.specs.declared.stage_work.StageWork.{StageWork}
use Rattle.stage_kinds.specs.Reads.{tells_of, told_of, told_fault_of}
use Rattle.stage_kinds.specs.Held.{op_of, tally_on}
use Rattle.stage_kinds.proofs.Natures.{tallies-same}
use Rattle.stage_kinds.specs.Stages.{is_leaf, is_short}
use Rattle.stage_options.specs.Roles.{is_gathering}
use Rattle.stage_options.specs.declared.stage.StageSpec.{StageSpec}
use Rattle.stage_parts.specs.Parts.{AreHomes, gathers_at, home_at, is_of, part_ins}
use Rattle.stage_parts.proofs.Tops.{near, near_root, homes-above}
use Rattle.answer_model.specs.Values.{Opened, IsDown, role_at, stage_value, stage_fault}
use Rattle.stage_runs.specs.Works.{as_works, ins_of, AreNewStages, RunOn}
use Rattle.stage_runs.specs.Ran.{EndsAsStage, AreRanStages, AreStoppedStages, NoneFailed}
use Rattle.stage_runs.specs.Parts.{gathers_of, IsNewLeaf, GivesAsStage, IsPartRun, IsLeaf, IsLeafRun, IsLeafStopped, is_past, NoneFailedBefore, AreRunBefore, Besides}
use Rattle.stage_runs.proofs.Part.{IsRoot, gathers-are}
use Rattle.stage_runs.proofs.Choices.{same-number}
use Rattle.stage_kinds.proofs.Keeping.{keeps-same}
use Rattle.stage_runs.proofs.Later.{AreTurnedNodes, leaf-empty, ran-turned, stopped-turned}
use Rattle.stage_runs.proofs.Ran.{held-ends}
use Rattle.stage_runs.proofs.Steps.{lt-true, lt-false, true-lt, stays, home-end, root-end}
use Rattle.plug_stages.specs.declared.filter.PlugFilter as plug_type
use Rattle.plug_stages.specs.declared.tally.PlugTally as tally_type

module _ {S K P Q : Type 0} (s : source.Ghosts S) (k : sink.Ghosts K) (fs : plug_type.Ghosts P) (ts : tally_type.Ghosts Q) (stages : List StageSpec) (old : List (Node (StageWork S K P Q))) (new : AreNewStages s k fs ts stages old) (down : IsDown stages)
    (forest : IsForest (ins_of stages) (length (ins_of stages) - 1)) (size : length (ins_of stages) ≡ length stages)
    (homes : List ℕ) (are : AreHomes (gathers_of stages) (ins_of stages) homes) (besides : Besides S K P Q) where
  abbrev Done : ℕ → List (Node (StageWork S K P Q)) → Type 0
  Done done now = AreRunBefore s k fs ts stages homes old done now

  abbrev Part : ℕ → ℕ → List (Node (StageWork S K P Q)) → List (Node (StageWork S K P Q)) → Type 0
  Part home root now after = IsPartRun s k fs ts besides (part_ins (gathers_of stages) (ins_of stages) homes home root) homes home root now after

  abbrev Sound : ℕ → List (Node (StageWork S K P Q)) → Type 0
  Sound done now = NoneFailedBefore s k fs ts stages homes old done now

  abbrev past : ℕ → ℕ → Bool
  past done i = is_past s k fs ts stages homes old done i

  -- all parts were run but that of the stages above which none gathers
  past-or-last : (i : ℕ) → i < length stages → (past (length stages) i ≡ true) ⊎ (home_at homes i ≡ length stages)
  past-or-last i l =
      let h = homes-above (gathers_of stages) (ins_of stages) homes forest are i (omega (arith, l, size)) in
      let most = h.most in
      elim (eqb_tells (home_at homes i) (length stages)) [
        | inl q ↦ inr q.1
        | inr q ↦ (let n = q.1 in inl (lt-true (home_at homes i) (length stages) (omega (arith, n, most, size))))
      ]

  -- the last stage doesn't gather
  pub last-streams : (now after : List (Node (StageWork S K P Q))) → length now ≡ length stages → 0 < length stages → is_gathering (role_at stages (length stages - 1)) ≡ false
      → Done (length stages) now → Part (length stages) (length stages - 1) now after → AreRanStages s k fs ts stages old after
  last-streams now after count some streams done part sound opened on i m e = elim (past-or-last i within) [
    | inl p ↦ done.past opened sound-now on i m (sym (kept-past i p) ∙ e) p
    | inr h ↦ at-last h (eqb_tells i root)
  ]
    where
      root : ℕ
      root = length stages - 1

      within : i < length stages
      within = let a = slice_get_within after i m e in let b = part.count in omega (arith, a, b, count)

      root-home : home_at homes root ≡ length stages
      root-home = ap (home_at homes) (let q = size in omega (arith, q)) ∙ are.root ∙ size

      is-root : IsRoot stages homes (length stages) root
      is-root = inr (streams, root-home)

      inside : root < length stages
      inside = omega (arith, some)

      lower : (j : ℕ) → j < root → j < length stages
      lower j l = omega (arith, l)

      kept-past : (j : ℕ) → past (length stages) j ≡ true → slice_get after j ≡ slice_get now j
      kept-past j p =
          let l = true-lt (home_at homes j) (length stages) p in
          stays s k fs ts stages old new down forest size homes are besides (length stages) root is-root now count inside lower done after part j
          (λ q. let r = root-home ∙ refl in let same = ap (home_at homes) q in omega (arith, l, r, same)) (λ q. omega (arith, l, q))

      sound-now : Sound (length stages) now
      sound-now j n f p = sound j n (kept-past j p ∙ f)

      quiet : (j : ℕ) (n : Node (StageWork S K P Q)) → j ≤ root → is_of homes (length stages) j ≡ true → slice_get after j ≡ Some n → is_device n.fault ≡ false
      quiet j n l h f = sound j n f

      at-last : home_at homes i ≡ length stages → ((i == root) ≡ true) × (i ≡ root) ⊎ ((i == root) ≡ false) × (i ≢ root) → EndsAsStage s k fs ts stages opened i m
      at-last h (inl q) = subst (λ j. EndsAsStage s k fs ts stages opened j m) (sym q.1)
          (root-end s k fs ts stages old new down forest size homes are besides (length stages) root is-root now count inside lower done after opened on sound-now quiet part m (ap (slice_get after) (sym q.1) ∙ e) streams)
      at-last h (inr q) = (
          let n = q.1 in
          home-end s k fs ts stages old new down forest size homes are besides (length stages) root is-root now count inside lower done after opened on sound-now quiet part i m (omega (arith, n, within))
          (ap (λ x. x == length stages) h ∙ same-number (length stages)) e)

  -- below a last stage that gathers each has a home among the stages
  by-parent : is_gathering (role_at stages (length stages - 1)) ≡ true → (j up : ℕ) → up ≤ length (ins_of stages) - 1 → In j (children (ins_of stages) up) → j + 1 < length stages
      → (up ≢ length stages - 1 → home_at homes up < length stages) → home_at homes j < length stages
  by-parent last j up u i b climb = by_test (gathers_at (gathers_of stages) up) refl
    where
      by_test : (t : Bool) → gathers_at (gathers_of stages) up ≡ t → home_at homes j < length stages
      by_test true t = let h = near_root (gathers_of stages) (ins_of stages) homes up j are t i in omega (arith, h, u, size, b)
      by_test false t =
          let h = near (gathers_of stages) (ins_of stages) homes (home_at homes up) up j are t refl i in
          let r = climb (λ e. true≢false (sym last ∙ ap (λ i. is_gathering (role_at stages i)) (sym e) ∙ sym (gathers-are stages up) ∙ t)) in
          omega (arith, h, r)

  below-last : is_gathering (role_at stages (length stages - 1)) ≡ true → (d j : ℕ) → j + 1 < length stages → length stages ≤ j + 1 + d → home_at homes j < length stages
  below-last last zero j b g = absurd (omega (arith, b, g))
  below-last last (suc d) j b g =
      let tree = forest-tree (ins_of stages) (length (ins_of stages) - 1) forest in
      let c = tree.child j (omega (arith, b, size)) in
      by-parent last j (tree.parent j) c.1 c.2 b
      (λ n. below-last last d (tree.parent j) (let u = c.1 in omega (arith, n, u, size, b)) (let l = c.0 in omega (arith, l, g)))

  -- the last stage gathers: its node is a leaf that gives what it made
  module _ (now after : List (Node (StageWork S K P Q))) (count : length now ≡ length stages) (some : 0 < length stages) (gathers : is_gathering (role_at stages (length stages - 1)) ≡ true)
      (done : Done (length stages) now) {became : List (Node (StageWork S K P Q)) → List (Node (StageWork S K P Q)) → Type 0} (run : IsLeaf s k fs ts became (length stages - 1) now after)
      (turned : AreTurnedNodes s k fs ts (run.was ∷ []) (run.is ∷ [])) (sound : NoneFailed after) (opened : Opened) (on : RunOn s fs ts stages old opened) where
    abbrev root : ℕ
    root = length stages - 1

    within : (i : ℕ) (m : Node (StageWork S K P Q)) → slice_get after i ≡ Some m → i < length stages
    within i m e = let a = slice_get_within after i m e in let b = run.count in omega (arith, a, b, count)

    inside : root < length stages
    inside = omega (arith, some)

    root-home : home_at homes root ≡ length stages
    root-home = ap (home_at homes) (let q = size in omega (arith, q)) ∙ are.root ∙ size

    root-past : past (length stages) root ≡ false
    root-past = lt-false (home_at homes root) (length stages) (let r = root-home in omega (arith, r))

    -- no other stage lies above all that gather, since each lies below the last one
    only-root : (i : ℕ) → i < length stages → home_at homes i ≡ length stages → i ≡ root
    only-root i l h = elim (eqb_tells i root) [
      | inl q ↦ q.1
      | inr q ↦ (let n = q.1 in let b = below-last gathers (length stages) i (omega (arith, n, l)) (omega arith) in absurd (omega (arith, b, h)))
    ]

    sound-now : Sound (length stages) now
    sound-now j n f p = elim (eqb_tells j root) [
      | inl q ↦ absurd (true≢false (sym p ∙ ap (past (length stages)) q.1 ∙ root-past))
      | inr q ↦ sound j n (run.other j q.1 ∙ f)
    ]

    -- a node that isn't the last one ended as its stage says
    before : (i : ℕ) (m : Node (StageWork S K P Q)) → slice_get after i ≡ Some m → i ≢ root → EndsAsStage s k fs ts stages opened i m
    before i m e n = elim (past-or-last i (within i m e)) [
      | inl p ↦ done.past opened sound-now on i m (sym (run.other i n) ∙ e) p
      | inr h ↦ absurd (n (only-root i (within i m e) h))
    ]

    leaf : IsNewLeaf s k fs ts run.was
    leaf = done.held root run.was run.before root-past inside gathers

    given : GivesAsStage s k fs ts stages opened root run.was
    given = done.gives opened sound-now on root run.was run.before root-past inside gathers

    calm : Calm (as_works s k fs ts) run.was run.is
    calm = turned.calm 0 run.was run.is refl refl

    quiet : NoneCame (as_works s k fs ts) (run.was ∷ []) (run.is ∷ [])
    quiet zero n l f g = subst (λ x. NoEvent (as_works s k fs ts) x l) (same_Some run.was n f) (subst (NoEvent (as_works s k fs ts) run.was) (same_Some run.is l g) (record {
      fault = no-fault run.is.fault (calm.named (ap is_some leaf.fresh.fault));
      short = ap (ran_short (is_short run.was.work)) run.enough ∙ never (is_short run.was.work);
    }))
      where
        never : (b : Bool) → ran_short b false ≡ false
        never true = refl
        never false = refl

        no-fault : (o : Option StageFault) → IsOf (op_of run.was.work) o → is_device o ≡ false
        no-fault None h = refl
        no-fault (Some (stage.Point p)) h = refl
        no-fault (Some (stage.Device d)) h = absurd (none-some d (sym leaf.op ∙ h))
    quiet (suc j) n l f g = absurd (none-some n f)

    tells : LeavesTell (as_works s k fs ts) (run.was ∷ [])
    tells zero n f l = subst (λ (x : Node (StageWork S K P Q)). tells_of s.bytes x.work ≡ true) (same_Some run.was n f) given.gives.tells
    tells (suc j) n f l = absurd (none-some n f)

    streams : Streams (as_works s k fs ts) ([] ∷ []) (run.was ∷ []) (λ _. stage_value stages opened root)
    streams = record {
      leaf = λ j n f l. at-leaf j n f;
      inner = λ j n f l. absurd (true≢false (sym (is-leaf j n f) ∙ l));
    }
      where
        at-leaf : (j : ℕ) (n : Node (StageWork S K P Q)) → slice_get (run.was ∷ []) j ≡ Some n → told_of s.bytes n.work ≡ flow_marks (stage_value stages opened root)
        at-leaf zero n f = subst (λ (x : Node (StageWork S K P Q)). told_of s.bytes x.work ≡ flow_marks (stage_value stages opened root)) (same_Some run.was n f) given.gives.told
        at-leaf (suc j) n f = absurd (none-some n f)

        is-leaf : (j : ℕ) (n : Node (StageWork S K P Q)) → slice_get (run.was ∷ []) j ≡ Some n → is_leaf n.work ≡ true
        is-leaf zero n f = subst (λ (x : Node (StageWork S K P Q)). is_leaf x.work ≡ true) (same_Some run.was n f) leaf.leaf
        is-leaf (suc j) n f = absurd (none-some n f)

    same-root : (m : Node (StageWork S K P Q)) → slice_get after root ≡ Some m → run.is ≡ m
    same-root m f = same_Some run.is m (sym run.back ∙ f)

    -- it gave all
    module _ (ran : IsRanTree (as_works s k fs ts) ([] ∷ []) (run.was ∷ []) (run.is ∷ [])) where
      over : EndsOver (as_works s k fs ts) ([] ∷ []) (run.was ∷ []) (run.is ∷ []) (λ _. stage_value stages opened root)
      over = ran.ends quiet tells (λ _. stage_value stages opened root) streams

      root-ends-so : (m : Node (StageWork S K P Q)) → slice_get after root ≡ Some m → EndsAsStage s k fs ts stages opened root m
      root-ends-so m f =
          let o = some_at old root (let c = new.count in omega (arith, c, inside)) in
          subst (EndsAsStage s k fs ts stages opened root) (same-root m f)
          (held-ends s k fs ts stages old new down opened on root o.0 run.is o.1 gathers (calm.op ∙ leaf.op)
          (tallies-same fs ts run.is.work run.was.work (ran.work 0 run.was run.is refl refl) ∙ ap (tally_on ts) (leaf-empty s k fs ts run.was leaf)) (over.gave 0 run.is refl) (over.told 0 run.was run.is refl refl leaf.leaf ∙ given.gives.fault)
          (keeps-same fs ts run.is.work run.was.work (ran.work 0 run.was run.is refl refl) ∙ given.keeps))

      all-end : (i : ℕ) (m : Node (StageWork S K P Q)) → slice_get after i ≡ Some m → EndsAsStage s k fs ts stages opened i m
      all-end i m e = elim (eqb_tells i root) [
        | inl q ↦ subst (λ j. EndsAsStage s k fs ts stages opened j m) (sym q.1) (root-ends-so m (ap (slice_get after) (sym q.1) ∙ e))
        | inr q ↦ before i m e q.1
      ]

    -- it gave up to its fault
    module _ (stopped : IsStoppedTree (as_works s k fs ts) ([] ∷ []) (run.was ∷ []) (run.is ∷ [])) where
      root-faulty-so : (m : Node (StageWork S K P Q)) (f : StageFault) → slice_get after root ≡ Some m → m.fault ≡ Some f → option_map stage.Point (stage_fault stages opened root) ≡ Some f
      root-faulty-so m f e has = sym given.gives.fault
          ∙ sym (ap (λ b. cond b (told_fault_of s.bytes run.was.work) (fault_of (as_works s k fs ts) run.was.work (input_at ([] ∷ []) (λ _. stage_value stages opened root) 0))) leaf.leaf)
          ∙ stopped.faults quiet tells (λ _. stage_value stages opened root) streams 0 run.was run.is f refl refl (ap (λ (n : Node (StageWork S K P Q)). n.fault) (same-root m e) ∙ has)

      all-faulty : (i : ℕ) (m : Node (StageWork S K P Q)) (f : StageFault) → slice_get after i ≡ Some m → m.fault ≡ Some f → option_map stage.Point (stage_fault stages opened i) ≡ Some f
      all-faulty i m f e has = elim (eqb_tells i root) [
        | inl q ↦ subst (λ j. option_map stage.Point (stage_fault stages opened j) ≡ Some f) (sym q.1) (root-faulty-so m f (ap (slice_get after) (sym q.1) ∙ e) has)
        | inr q ↦ sym (before i m e q.1).fault ∙ has
      ]

  pub last-gathers : (now after : List (Node (StageWork S K P Q))) → length now ≡ length stages → 0 < length stages → is_gathering (role_at stages (length stages - 1)) ≡ true
      → Done (length stages) now → IsLeafRun s k fs ts besides (length stages - 1) now after → AreRanStages s k fs ts stages old after
  last-gathers now after count some gathers done run sound opened on i m e =
      all-end now after count some gathers done run (ran-turned s k fs ts ([] ∷ []) (run.was ∷ []) (run.is ∷ []) run.turned.0) sound opened on run.turned.0 i m e

  pub last-leaf-stopped : (bounded : Type 0) (queue : ℕ) (now after : List (Node (StageWork S K P Q))) → length now ≡ length stages → 0 < length stages → is_gathering (role_at stages (length stages - 1)) ≡ true
      → Done (length stages) now → IsLeafStopped s k fs ts bounded queue (length stages - 1) now after → AreStoppedStages s k fs ts stages old after
  last-leaf-stopped bounded queue now after count some gathers done run sound opened on = (
    some-fault run.turned.1,
    λ i m f e has. all-faulty now after count some gathers done run (stopped-turned s k fs ts ([] ∷ []) (run.was ∷ []) (run.is ∷ []) run.turned.0) sound opened on run.turned.0 i m f e has,
  )
    where
      some-fault : SomeFault (as_works s k fs ts) (run.is ∷ []) → SomeFault (as_works s k fs ts) after
      some-fault (zero, m, e, fault) = (length stages - 1, m, run.back ∙ e, fault)
      some-fault (suc j, m, e, fault) = absurd (none-some m e)
