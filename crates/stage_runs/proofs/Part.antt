-- The net of a part streams the values of its stages.
use Rattle.std.proofs.Common.{◌≡◌, ◌≢◌, ◌⊎◌, ℕ, zero, suc, ◌<◌, ◌≤◌, ◌==◌, ◌&&◌, not, cond, if◌then◌else◌, Bool, true, false, true≢false, List, [], ◌∷◌, map, length, Option, Some, None, is_some, refl, ap, sym, subst, ◌∙◌, inl, inr, arith}
use Rattle.std.specs.Prelude.{slice_get, option_map}
use Rattle.std.proofs.lemmas.Bool.Decides.{eqb_tells}
use Rattle.std.proofs.lemmas.Option.{none-some, slice_get_within}
use Rattle.file_devices.specs.declared.devices.Source as source
use Rattle.file_devices.specs.declared.devices.Sink as sink
use Rattle.cloud_points.specs.declared.point.Point.{Point}
use Rattle.cloud_points.specs.declared.faults.StageFault.{StageFault}
use Rattle.cloud_points.specs.declared.faults.StageFault.TheVariants as stage
use Rattle.cloud_points.specs.Events.{is_device, ran_short, IsOf}
use Rattle.cloud_points.specs.Flows.{Flow, empty_flow, join_all}
use Rattle.cloud_points.specs.Marks.{flow_marks}
use Rattle.network_theory.specs.Shape.{In}
use Rattle.network_theory.specs.Forest.{children}
use Rattle.network_theory.specs.Machine.{made_of, state_after}
use Rattle.network_core.specs.declared.node.Node.{Node}
use Rattle.network_core.proofs.Opened.{some_at}
use Rattle.network_solo.specs.Trees.{input_at, makes_of, fault_of, state_left, Streams, NoneCame, LeavesTell, EndsOver, Gave, Took, IsRanTree}
use Rattle.network_solo.specs.Stopping.{IsStoppedTree, fault_to_come}
use Rattle.stage_kinds.specs.declared.stage_work.StageWork.{StageWork}
use Rattle.stage_kinds.specs.declared.stage_work.StageState.TheVariants.{Collecting}
use Rattle.stage_kinds.specs.Held.{op_of, tally_on}
use Rattle.stage_kinds.specs.Reads.{tells_of, told_of, told_fault_of}
use Rattle.stage_kinds.specs.Stages.{is_leaf, is_short, meaning_of, state_of, collector_work, holds_of}
use Rattle.stage_kinds.proofs.Gathering.{collector-gives, collector-holds}
use Rattle.view_works.specs.Collecting.{held as held_of}
use Rattle.stage_kinds.specs.declared.making.Making.{Making}
use Rattle.stage_kinds.specs.declared.file_form.StageForm.TheVariants.{Gathers}
use Rattle.stage_options.specs.Roles.{is_gathering}
use Rattle.stage_options.specs.declared.stage.StageSpec.{StageSpec}
use Rattle.stage_parts.specs.Parts.{AreHomes, gathers_at, home_at, is_of, strangers, part_ins}
use Rattle.stage_parts.proofs.Counted.{each-in}
use Rattle.stage_parts.proofs.Nothing.{nothing_more}
use Rattle.stage_parts.proofs.Tops.{near, near_root}
use Rattle.stage_parts.proofs.Trees.{own, strange}
use Rattle.pipeline_json.specs.Lists.{has}
use Rattle.answer_model.specs.Values.{Opened, IsDown, stage_at, options_at, role_at, setting_at, stage_value, stage_input, stage_fault}
use Rattle.stage_forms.specs.Starts.{form_for}
use Rattle.stage_kinds.proofs.Keeping.{keeps-same}
use Rattle.stage_kinds.proofs.Natures.{tallies-same}
use Rattle.stage_runs.specs.Works.{as_works, ins_of, AreNewStages, RunOn}
use Rattle.stage_runs.specs.Ran.{EndsAsStage}
use Rattle.stage_runs.specs.Parts.{gathers_of, IsNewLeaf, GivesAsStage, IsNet}
use Rattle.stage_runs.proofs.Forests.{children-are}
use Rattle.stage_runs.proofs.Calm.{collector-sound}
use Rattle.stage_runs.proofs.Later.{AreTurnedNodes, leaf-empty}
use Rattle.stage_runs.proofs.Ran.{tells-value, makes-value, leaf-at, fault-at, ends-as, held-ends, gathers-row}
use Rattle.plug_stages.specs.declared.filter.PlugFilter as plug_type
use Rattle.plug_stages.specs.declared.tally.PlugTally as tally_type
use Rattle.stage_runs.proofs.Choices.{when, unless, same-number, other-number, number-same, has-in, map-in}

pub gathers-are : (stages : List StageSpec) (i : ℕ) → gathers_at (gathers_of stages) i ≡ is_gathering (role_at stages i)
gathers-are [] i = refl
gathers-are (s ∷ later) zero = refl
gathers-are (s ∷ later) (suc i) = gathers-are later i

-- a part's root gathers, and its home is its own number, or it doesn't, and has the part's home
abbrev pub IsRoot : List StageSpec → List ℕ → ℕ → ℕ → Type 0
IsRoot stages homes home root = ((is_gathering (role_at stages root) ≡ true) × (home ≡ root)) ⊎ ((is_gathering (role_at stages root) ≡ false) × (home_at homes root ≡ home))

module _ {S K P Q : Type 0} (s : source.Ghosts S) (k : sink.Ghosts K) (fs : plug_type.Ghosts P) (ts : tally_type.Ghosts Q) (stages : List StageSpec) (old : List (Node (StageWork S K P Q))) (new : AreNewStages s k fs ts stages old) (down : IsDown stages)
    (homes : List ℕ) (are : AreHomes (gathers_of stages) (ins_of stages) homes) (home root : ℕ) (is_root : IsRoot stages homes home root)
    (nodes net : List (Node (StageWork S K P Q))) (is_net : IsNet s k fs ts (part_ins (gathers_of stages) (ins_of stages) homes home root) homes home root nodes net)
    -- the nodes of this home, but those that need whole views, and the root had no turn yet
    (waits : (i : ℕ) (n : Node (StageWork S K P Q)) → i < root → is_of homes home i ≡ true → is_gathering (role_at stages i) ≡ false → slice_get nodes i ≡ Some n → slice_get old i ≡ Some n)
    (root_waits : (n : Node (StageWork S K P Q)) → slice_get nodes root ≡ Some n → slice_get old root ≡ Some n)
    (held : (i : ℕ) (n : Node (StageWork S K P Q)) → i < root → is_of homes home i ≡ true → is_gathering (role_at stages i) ≡ true → slice_get nodes i ≡ Some n → IsNewLeaf s k fs ts n)
    (inside : root < length nodes) (size : length nodes ≡ length old) where
  abbrev part : List (List ℕ)
  part = part_ins (gathers_of stages) (ins_of stages) homes home root

  -- each node is the root, one of the home or a stranger
  data Place (i : ℕ) : Type 0 where
    at_root : i ≡ root → Place i
    of_home : i < root → is_of homes home i ≡ true → Place i
    stranger : i < root → is_of homes home i ≡ false → Place i

  place : (i : ℕ) (n : Node (StageWork S K P Q)) → slice_get net i ≡ Some n → Place i
  place i n e = elim (eqb_tells i root) [
    | inl p ↦ at_root p.1
    | inr p ↦ (
        let m = p.1 in let a = slice_get_within net i n e in let b = is_net.count in
        let less : i < root = omega (arith, m, a, b) in
        by_home less (is_of homes home i) refl)
  ]
    where
      by_home : i < root → (b : Bool) → is_of homes home i ≡ b → Place i
      by_home less true h = of_home less h
      by_home less false h = stranger less h

  root-node : (n : Node (StageWork S K P Q)) → slice_get net root ≡ Some n → (o : Node (StageWork S K P Q)) × (slice_get old root ≡ Some o) × (n.work ≡ o.work)
  root-node n e = let o = some_at nodes root inside in (o.0, root_waits o.0 o.1, is_net.work n o.0 e o.1)

  -- ---- the flows of the nodes

  module _ (opened : Opened) (on : RunOn s fs ts stages old opened)
      (gives : (i : ℕ) (n : Node (StageWork S K P Q)) → i < root → is_of homes home i ≡ true → is_gathering (role_at stages i) ≡ true → slice_get nodes i ≡ Some n → GivesAsStage s k fs ts stages opened i n) where
    -- a root that gathers gives on what it takes
    abbrev root_value : Flow Point
    root_value = if is_gathering (role_at stages root) then stage_input stages opened root else stage_value stages opened root

    abbrev value : ℕ → Flow Point
    value i = if i == root then root_value else (if is_of homes home i then stage_value stages opened i else empty_flow)

    value-root : value root ≡ root_value
    value-root = when _ _ (same-number root)

    value-home : (i : ℕ) → i < root → is_of homes home i ≡ true → value i ≡ stage_value stages opened i
    value-home i less h = unless _ _ (other-number i root (λ e. omega (arith, e, less))) ∙ when _ _ h

    value-stranger : (i : ℕ) → i < root → is_of homes home i ≡ false → value i ≡ empty_flow
    value-stranger i less h = unless _ _ (other-number i root (λ e. omega (arith, e, less))) ∙ unless _ _ h

    of-home : (j : ℕ) → home_at homes j ≡ home → is_of homes home j ≡ true
    of-home j e = ap (λ h. h == home) e ∙ same-number home

    -- what a stage takes, where all of that is of this home
    taken : (i : ℕ) → i ≤ root → ((j : ℕ) → In j (children (ins_of stages) i) → home_at homes j ≡ home) → join_all (map value (children (ins_of stages) i)) ≡ stage_input stages opened i
    taken i most near = ap join_all (map-in value (stage_value stages opened) (children (ins_of stages) i)
        (λ j m. value-home j (let l = below i j m in omega (arith, l, most)) (of-home j (near j m))))
        ∙ ap (λ ins. join_all (map (stage_value stages opened) ins)) (children-are stages i)
      where
        below : (i j : ℕ) → In j (children (ins_of stages) i) → j < i
        below i j m = down i j (has-in j ((stage_at stages i).ins) (subst (In j) (children-are stages i) m))

    input-home : (i : ℕ) → i < root → is_of homes home i ≡ true → is_gathering (role_at stages i) ≡ false → input_at part value i ≡ stage_input stages opened i
    input-home i less h streams =
        ap (λ js. join_all (map value js)) (own (gathers_of stages) (ins_of stages) homes home root i (omega (arith, less))
        ∙ unless _ _ (other-number i root (λ e. omega (arith, e, less)))
        ∙ when _ _ (ap (λ b. b && not (gathers_at (gathers_of stages) i)) h ∙ ap not (gathers-are stages i ∙ streams)))
        ∙ taken i (omega (arith, less)) (λ j m. near (gathers_of stages) (ins_of stages) homes home i j are (gathers-are stages i ∙ streams) (number-same (home_at homes i) home h) m)

    input-root : input_at part value root ≡ stage_input stages opened root
    input-root =
        ap (λ js. join_all (map value js)) (own (gathers_of stages) (ins_of stages) homes home root root (omega arith) ∙ when _ _ (same-number root))
        ∙ nothing_more value (children (ins_of stages) root) (strangers homes home root)
        (each-in (λ j. value j ≡ empty_flow) (strangers homes home root) (λ j m. let o = strange homes home root j m in value-stranger j o.0 (other-number (home_at homes j) home o.1)))
        ∙ taken root (omega arith) near-root
      where
        near-root : (j : ℕ) → In j (children (ins_of stages) root) → home_at homes j ≡ home
        near-root j m = elim is_root [
          | inl r ↦ near_root (gathers_of stages) (ins_of stages) homes root j are (gathers-are stages root ∙ r.0) m ∙ sym r.1
          | inr r ↦ near (gathers_of stages) (ins_of stages) homes home root j are (gathers-are stages root ∙ r.0) r.1 m
        ]

    -- the node of a stage that streams tells or makes the stage's value
    root-told : (n : Node (StageWork S K P Q)) → slice_get net root ≡ Some n → is_leaf n.work ≡ true → (tells_of s.bytes n.work ≡ true) × (told_of s.bytes n.work ≡ flow_marks root_value)
    root-told n e l = go (is_gathering (role_at stages root)) refl
      where
        o : (o : Node (StageWork S K P Q)) × (slice_get old root ≡ Some o) × (n.work ≡ o.work)
        o = root-node n e

        leaf : is_leaf o.0.work ≡ true
        leaf = ap is_leaf (sym o.2) ∙ l

        go : (b : Bool) → is_gathering (role_at stages root) ≡ b → (tells_of s.bytes n.work ≡ true) × (told_of s.bytes n.work ≡ flow_marks root_value)
        go true g = (let row = gathers-row s k fs ts stages old new down opened on root o.0 o.1 g in
            absurd (true≢false (sym leaf ∙ ap is_leaf row.2)))
        go false g = (
          ap (tells_of s.bytes) o.2 ∙ (leaf-at s k fs ts stages old new down opened on root o.0 o.1 leaf).tells,
          ap (told_of s.bytes) o.2 ∙ tells-value s k fs ts stages old new down opened on root o.0 o.1 leaf ∙ ap flow_marks (sym (unless _ _ g)),
        )

    root-made : (n : Node (StageWork S K P Q)) → slice_get net root ≡ Some n → is_leaf n.work ≡ false → makes_of (as_works s k fs ts) n.work (stage_input stages opened root) ≡ flow_marks root_value
    root-made n e l = go (is_gathering (role_at stages root)) refl
      where
        o : (o : Node (StageWork S K P Q)) × (slice_get old root ≡ Some o) × (n.work ≡ o.work)
        o = root-node n e

        go : (b : Bool) → is_gathering (role_at stages root) ≡ b → makes_of (as_works s k fs ts) n.work (stage_input stages opened root) ≡ flow_marks root_value
        go true g = (let row = gathers-row s k fs ts stages old new down opened on root o.0 o.1 g in
            ap (λ w. makes_of (as_works s k fs ts) w (stage_input stages opened root)) (o.2 ∙ row.2)
            ∙ ap (λ t. made_of collector_work (Collecting row.0.making t) (stage_input stages opened root)) (ap (λ b. held_of b row.0.views) row.3.short ∙ ap Some row.3.views)
            ∙ collector-gives row.0.making (stage_input stages opened root) ∙ ap flow_marks (sym (when _ _ g)))
        go false g =
            ap (λ w. makes_of (as_works s k fs ts) w (stage_input stages opened root)) o.2
            ∙ makes-value s k fs ts stages old new down opened on root o.0 o.1 (ap is_leaf (sym o.2) ∙ l) g ∙ ap flow_marks (sym (unless _ _ g))

    home-told : (i : ℕ) (n : Node (StageWork S K P Q)) → i < root → is_of homes home i ≡ true → slice_get net i ≡ Some n → is_leaf n.work ≡ true
        → (tells_of s.bytes n.work ≡ true) × (told_of s.bytes n.work ≡ flow_marks (stage_value stages opened i))
    home-told i n less h e l = go (is_gathering (role_at stages i)) refl
      where
        at : slice_get nodes i ≡ Some n
        at = is_net.own i n less h e

        go : (b : Bool) → is_gathering (role_at stages i) ≡ b → (tells_of s.bytes n.work ≡ true) × (told_of s.bytes n.work ≡ flow_marks (stage_value stages opened i))
        go true g = (let f = (gives i n less h g at).gives in (f.tells, f.told))
        go false g = (let w = waits i n less h g at in
            ((leaf-at s k fs ts stages old new down opened on i n w l).tells, tells-value s k fs ts stages old new down opened on i n w l))

    home-made : (i : ℕ) (n : Node (StageWork S K P Q)) → i < root → is_of homes home i ≡ true → slice_get net i ≡ Some n → is_leaf n.work ≡ false
        → makes_of (as_works s k fs ts) n.work (input_at part value i) ≡ flow_marks (stage_value stages opened i)
    home-made i n less h e l = go (is_gathering (role_at stages i)) refl
      where
        at : slice_get nodes i ≡ Some n
        at = is_net.own i n less h e

        go : (b : Bool) → is_gathering (role_at stages i) ≡ b → makes_of (as_works s k fs ts) n.work (input_at part value i) ≡ flow_marks (stage_value stages opened i)
        go true g = absurd (true≢false (sym (held i n less h g at).leaf ∙ l))
        go false g = ap (makes_of (as_works s k fs ts) n.work) (input-home i less h g) ∙ makes-value s k fs ts stages old new down opened on i n (waits i n less h g at) l g

    streams : Streams (as_works s k fs ts) part net value
    streams = record {
      leaf = λ i n e l. leaf i n e l (place i n e);
      inner = λ i n e l. inner i n e l (place i n e);
    }
      where
        leaf : (i : ℕ) (n : Node (StageWork S K P Q)) → slice_get net i ≡ Some n → is_leaf n.work ≡ true → Place i → told_of s.bytes n.work ≡ flow_marks (value i)
        leaf i n e l (at_root r) = (root-told n (ap (slice_get net) (sym r) ∙ e) l).1 ∙ ap flow_marks (sym (ap value r ∙ value-root))
        leaf i n e l (of_home less h) = (home-told i n less h e l).1 ∙ ap flow_marks (sym (value-home i less h))
        leaf i n e l (stranger less h) = (is_net.strange i n less h e).1.told ∙ ap flow_marks (sym (value-stranger i less h))

        inner : (i : ℕ) (n : Node (StageWork S K P Q)) → slice_get net i ≡ Some n → is_leaf n.work ≡ false → Place i → makes_of (as_works s k fs ts) n.work (input_at part value i) ≡ flow_marks (value i)
        inner i n e l (at_root r) = ap (λ j. makes_of (as_works s k fs ts) n.work (input_at part value j)) r ∙ ap (makes_of (as_works s k fs ts) n.work) input-root
            ∙ root-made n (ap (slice_get net) (sym r) ∙ e) l ∙ ap flow_marks (sym (ap value r ∙ value-root))
        inner i n e l (of_home less h) = home-made i n less h e l ∙ ap flow_marks (sym (value-home i less h))
        inner i n e l (stranger less h) = absurd (true≢false (sym (is_net.strange i n less h e).0.leaf ∙ l))

    pub leaves-tell : LeavesTell (as_works s k fs ts) net
    leaves-tell i n e l = go (place i n e)
      where
        go : Place i → tells_of s.bytes n.work ≡ true
        go (at_root r) = (root-told n (ap (slice_get net) (sym r) ∙ e) l).0
        go (of_home less h) = (home-told i n less h e l).0
        go (stranger less h) = (is_net.strange i n less h e).1.tells

    -- ---- how they end

    module _ (ended : List (Node (StageWork S K P Q))) (turned : AreTurnedNodes s k fs ts net ended)
        (enough : (i : ℕ) (m : Node (StageWork S K P Q)) → slice_get ended i ≡ Some m → is_short m.work ≡ false)
        (sound : (i : ℕ) (m : Node (StageWork S K P Q)) → i ≤ root → is_of homes home i ≡ true → slice_get ended i ≡ Some m → is_device m.fault ≡ false) where
      -- a node without a device has no fault of one
      no-device : (i : ℕ) (n m : Node (StageWork S K P Q)) → slice_get net i ≡ Some n → slice_get ended i ≡ Some m → n.fault ≡ None → op_of n.work ≡ None → is_device m.fault ≡ false
      no-device i n m e f none op = go m.fault ((turned.calm i n m e f).named (ap is_some none))
        where
          go : (o : Option StageFault) → IsOf (op_of n.work) o → is_device o ≡ false
          go None h = refl
          go (Some (stage.Point p)) h = refl
          go (Some (stage.Device d)) h = absurd (none-some d (sym op ∙ h))

      pub quiet : NoneCame (as_works s k fs ts) net ended
      quiet i n m e f = record { fault = fault (place i n e); short = ap (ran_short (is_short n.work)) (enough i m f) ∙ never (is_short n.work) }
        where
          never : (b : Bool) → ran_short b false ≡ false
          never true = refl
          never false = refl

          fault : Place i → is_device m.fault ≡ false
          fault (at_root r) = elim is_root [
            | inl g ↦ (
                let e' = ap (slice_get net) (sym r) ∙ e in
                let o = root-node n e' in
                let row = gathers-row s k fs ts stages old new down opened on root o.0 o.1 g.0 in
                no-device i n m e f (is_net.root_fresh n e').fault (ap op_of (o.2 ∙ row.2)))
            | inr g ↦ sound i m (omega (arith, r)) (ap (is_of homes home) r ∙ of-home root g.1) f
          ]
          fault (of_home less h) = sound i m (omega (arith, less)) h f
          fault (stranger less h) = let x = (is_net.strange i n less h e).0 in no-device i n m e f x.fresh.fault x.op

      before : (i : ℕ) (m : Node (StageWork S K P Q)) → slice_get ended i ≡ Some m → (n : Node (StageWork S K P Q)) × (slice_get net i ≡ Some n)
      before i m f = some_at net i (let a = slice_get_within ended i m f in let c = turned.count in omega (arith, a, c))

      root-ended : (m : Node (StageWork S K P Q)) → slice_get ended root ≡ Some m
          → (n : Node (StageWork S K P Q)) × (o : Node (StageWork S K P Q)) × (slice_get net root ≡ Some n) × (slice_get old root ≡ Some o) × (n.work ≡ o.work)
      root-ended m f = let n = before root m f in let o = root-node n.0 n.1 in (n.0, o.0, n.1, o.1, o.2)

      -- where all were done
      module _ (ran : IsRanTree (as_works s k fs ts) part net ended) where
        over : EndsOver (as_works s k fs ts) part net ended value
        over = ran.ends quiet leaves-tell value streams

        -- the nodes of this home end as their stages say
        pub home-ends : (i : ℕ) (m : Node (StageWork S K P Q)) → i < root → is_of homes home i ≡ true → slice_get ended i ≡ Some m → EndsAsStage s k fs ts stages opened i m
        home-ends i m less h f = go (is_gathering (role_at stages i)) refl
          where
            was : (n : Node (StageWork S K P Q)) × (slice_get net i ≡ Some n)
            was = before i m f

            at : slice_get nodes i ≡ Some was.0
            at = is_net.own i was.0 less h was.1

            op : op_of m.work ≡ op_of was.0.work
            op = (ran.calm i was.0 m was.1 f).op

            gave : Gave (as_works s k fs ts) (stage_value stages opened i) m
            gave = subst (λ flow. Gave (as_works s k fs ts) flow m) (value-home i less h) (over.gave i m f)

            go : (b : Bool) → is_gathering (role_at stages i) ≡ b → EndsAsStage s k fs ts stages opened i m
            go true g = (
                let x = held i was.0 less h g at in
                let o = some_at old i (omega (arith, less, inside, size)) in
                let y = gives i was.0 less h g at in
                held-ends s k fs ts stages old new down opened on i o.0 m o.1 g (op ∙ x.op) (tallies-same fs ts m.work was.0.work (ran.work i was.0 m was.1 f) ∙ ap (tally_on ts) (leaf-empty s k fs ts was.0 x)) gave (over.told i was.0 m was.1 f x.leaf ∙ y.gives.fault)
                (keeps-same fs ts m.work was.0.work (ran.work i was.0 m was.1 f) ∙ y.keeps))
            go false g = ends-as s k fs ts stages old new down opened on i was.0 m (waits i was.0 less h g at) g op (ran.work i was.0 m was.1 f) gave
                (λ l. over.told i was.0 m was.1 f l)
                (λ l. subst (λ flow. Took (as_works s k fs ts) flow was.0 m) (input-home i less h g) (over.took i was.0 m was.1 f l))

        took-root : (n o m : Node (StageWork S K P Q)) → slice_get net root ≡ Some n → n.work ≡ o.work → slice_get ended root ≡ Some m → is_leaf n.work ≡ false → Took (as_works s k fs ts) (stage_input stages opened root) o m
        took-root n o m e same f l =
            let t = over.took root n m e f l in
            let flow = input_at part value root in
            subst (λ flow. Took (as_works s k fs ts) flow o m) input-root (record {
              fault = t.fault ∙ ap (λ w. fault_of (as_works s k fs ts) w flow) same;
              state = t.state ∙ ap (λ w. state_left (as_works s k fs ts) w flow) same;
              holds = λ sound h. t.holds sound (ap (λ w. holds_of k.bytes w []) same ∙ h);
            })

        -- a root that needs whole views holds those that the stage takes
        pub root-holds : (m : Node (StageWork S K P Q)) → slice_get ended root ≡ Some m → is_gathering (role_at stages root) ≡ true
            → (g : Making) × (state_of fs ts m.work ≡ Collecting g (Some (stage_input stages opened root))) × (form_for (options_at stages root) (setting_at stages opened root) ≡ Gathers g)
        root-holds m f g =
            let x = root-ended m f in
            let row = gathers-row s k fs ts stages old new down opened on root x.1 x.3 g in
            let t = took-root x.0 x.1 m x.2 x.4 f (ap is_leaf (x.4 ∙ row.2)) in (
              row.1,
              t.state ∙ ap (λ w. state_left (as_works s k fs ts) w (stage_input stages opened root)) row.2
                  ∙ ap (λ h. state_after collector_work (Collecting row.0.making h) (stage_input stages opened root)) (ap (λ b. held_of b row.0.views) row.3.short ∙ ap Some row.3.views)
                  ∙ collector-holds row.0.making (stage_input stages opened root) ∙ ap (λ g. Collecting g (Some (stage_input stages opened root))) row.3.makes,
              row.4,
            )

        -- any other root ends as its stage says
        pub root-ends : (m : Node (StageWork S K P Q)) → slice_get ended root ≡ Some m → is_gathering (role_at stages root) ≡ false → EndsAsStage s k fs ts stages opened root m
        root-ends m f g =
            let x = root-ended m f in
            ends-as s k fs ts stages old new down opened on root x.1 m x.3 g ((ran.calm root x.0 m x.2 f).op ∙ ap op_of x.4) (ran.work root x.0 m x.2 f ∙ ap (meaning_of fs ts) x.4)
            (subst (λ flow. Gave (as_works s k fs ts) flow m) (value-root ∙ unless _ _ g) (over.gave root m f))
            (λ l. over.told root x.0 m x.2 f (ap is_leaf x.4 ∙ l) ∙ ap (told_fault_of s.bytes) x.4)
            (λ l. took-root x.0 x.1 m x.2 x.4 f (ap is_leaf x.4 ∙ l))

      -- where turns ended at a fault
      module _ (stopped : IsStoppedTree (as_works s k fs ts) part net ended) where
        comes : (i : ℕ) (n m : Node (StageWork S K P Q)) (f : StageFault) → slice_get net i ≡ Some n → slice_get ended i ≡ Some m → m.fault ≡ Some f → fault_to_come (as_works s k fs ts) part value i n ≡ Some f
        comes i n m f e h why = stopped.faults quiet leaves-tell value streams i n m f e h why

        -- a node of this home has the fault of its stage
        pub home-fault : (i : ℕ) (m : Node (StageWork S K P Q)) (f : StageFault) → i < root → is_of homes home i ≡ true → slice_get ended i ≡ Some m → m.fault ≡ Some f → option_map stage.Point (stage_fault stages opened i) ≡ Some f
        home-fault i m f less h e why = go (is_gathering (role_at stages i)) refl
          where
            was : (n : Node (StageWork S K P Q)) × (slice_get net i ≡ Some n)
            was = before i m e

            at : slice_get nodes i ≡ Some was.0
            at = is_net.own i was.0 less h was.1

            to_come : fault_to_come (as_works s k fs ts) part value i was.0 ≡ Some f
            to_come = comes i was.0 m f was.1 e why

            go : (b : Bool) → is_gathering (role_at stages i) ≡ b → option_map stage.Point (stage_fault stages opened i) ≡ Some f
            go true g = sym (gives i was.0 less h g at).gives.fault
                ∙ sym (ap (λ b. cond b (told_fault_of s.bytes was.0.work) (fault_of (as_works s k fs ts) was.0.work (input_at part value i))) (held i was.0 less h g at).leaf) ∙ to_come
            go false g = sym (fault-at s k fs ts stages old new down opened on i was.0 (waits i was.0 less h g at) g)
                ∙ ap (λ flow. cond (is_leaf was.0.work) (told_fault_of s.bytes was.0.work) (fault_of (as_works s k fs ts) was.0.work flow)) (sym (input-home i less h g)) ∙ to_come

        -- a root that needs whole views has none, and any other has that of its stage
        pub root-fault : (m : Node (StageWork S K P Q)) (f : StageFault) → slice_get ended root ≡ Some m → m.fault ≡ Some f → option_map stage.Point (stage_fault stages opened root) ≡ Some f
        root-fault m f e why = go (is_gathering (role_at stages root)) refl
          where
            x : (n : Node (StageWork S K P Q)) × (o : Node (StageWork S K P Q)) × (slice_get net root ≡ Some n) × (slice_get old root ≡ Some o) × (n.work ≡ o.work)
            x = root-ended m e

            to_come : cond (is_leaf x.1.work) (told_fault_of s.bytes x.1.work) (fault_of (as_works s k fs ts) x.1.work (stage_input stages opened root)) ≡ Some f
            to_come = ap (λ w. cond (is_leaf w) (told_fault_of s.bytes w) (fault_of (as_works s k fs ts) w (stage_input stages opened root))) (sym x.4)
                ∙ ap (λ flow. cond (is_leaf x.0.work) (told_fault_of s.bytes x.0.work) (fault_of (as_works s k fs ts) x.0.work flow)) (sym input-root) ∙ comes root x.0 m f x.2 e why

            go : (b : Bool) → is_gathering (role_at stages root) ≡ b → option_map stage.Point (stage_fault stages opened root) ≡ Some f
            go true g = (
                let row = gathers-row s k fs ts stages old new down opened on root x.1 x.3 g in
                absurd (none-some f (sym (ap (λ w. cond (is_leaf w) (told_fault_of s.bytes w) (fault_of (as_works s k fs ts) w (stage_input stages opened root))) row.2
                ∙ collector-sound (Collecting row.0.making (held_of row.0.short row.0.views)) (stage_input stages opened root)) ∙ to_come)))
            go false g = sym (fault-at s k fs ts stages old new down opened on root x.1 x.3 g) ∙ to_come

        -- a stranger has none
        pub stranger-sound : (i : ℕ) (m : Node (StageWork S K P Q)) (f : StageFault) → i < root → is_of homes home i ≡ false → slice_get ended i ≡ Some m → m.fault ≡ Some f → ⊥
        stranger-sound i m f less h e why =
            let was = before i m e in
            let x = is_net.strange i was.0 less h was.1 in
            none-some f (sym (ap (λ b. cond b (told_fault_of s.bytes was.0.work) (fault_of (as_works s k fs ts) was.0.work (input_at part value i))) x.0.leaf ∙ x.1.fault) ∙ comes i was.0 m f was.1 e why)
