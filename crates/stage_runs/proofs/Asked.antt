-- What a part asks of the nodes that it is run on.
use Rattle.std.proofs.Common.{◌≡◌, ℕ, ◌+◌, ◌-◌, ◌<◌, ◌↔◌, ◌++◌, Bool, true, false, true≢false, List, [], ◌∷◌, length, map, Some, None, refl, ap, sym, subst, ◌∙◌, inl, inr, arith}
use Rattle.std.specs.Prelude.{slice_get}
use Rattle.std.proofs.lemmas.Option.{slice_get_within}
use Rattle.std.proofs.lemmas.Bool.Decides.{eqb_tells}
use Rattle.file_devices.specs.declared.devices.Source as source
use Rattle.file_devices.specs.declared.devices.Sink as sink
use Rattle.network_theory.specs.Forest.{IsForest, children}
use Rattle.network_theory.specs.Shape.{In}
use Rattle.network_theory.specs.Opening.{IsFresh}
use Rattle.network_theory.proofs.Forests.{forest-tree}
use Rattle.network_core.specs.declared.node.Node.{Node}
use Rattle.network_core.specs.Shown.{shown, work_of}
use Rattle.network_core.proofs.Opened.{some_at}
use Rattle.view_works.specs.declared.collector.Collector.{Collector as Collecting}
use Rattle.stage_kinds.specs.declared.stage_work.StageState.TheVariants as state
use Rattle.stage_kinds.specs.declared.making.Making.{Making}
use Rattle.stage_kinds.specs.declared.stage_work.StageWork.{StageWork}
use Rattle.stage_kinds.specs.declared.stage_work.StageWork.TheVariants.{Reader, Filter, Plug, Tally, Collector, Views, ViewFiles, Writer}
use Rattle.stage_kinds.specs.Stages.{is_leaf, meaning_of}
use Rattle.stage_options.specs.Roles.{is_gathering}
use Rattle.stage_options.specs.declared.stage.StageSpec.{StageSpec}
use Rattle.stage_parts.specs.Parts.{AreHomes, home_at, is_of, strangers, part_ins}
use Rattle.stage_parts.proofs.Trees.{at_root, at_inner, at_gathering}
use Rattle.answer_model.specs.Values.{IsDown, role_at, stage_at, options_at}
use Rattle.stage_runs.specs.Works.{as_works, ins_of, AreNewStages}
use Rattle.stage_runs.specs.Parts.{gathers_of, IsNewLeaf, IsPartRun, AreRunBefore, Besides}
use Rattle.stage_forms.specs.Starts.{IsCollecting}
use Rattle.stage_forms.proofs.AtStart.{somehow}
use Rattle.stage_runs.proofs.Forests.{children-are}
use Rattle.stage_runs.proofs.Part.{IsRoot, gathers-are}
use Rattle.stage_runs.proofs.Places.{map-at}
use Rattle.stage_runs.proofs.Steps.{lt-false, waits, held-here, root-waits, at-root}
use Rattle.stage_forms.proofs.Works.{collects-at-start}
use Rattle.plug_stages.specs.declared.filter.PlugFilter as plug_type
use Rattle.plug_stages.specs.declared.tally.PlugTally as tally_type

-- ---- lists

first-none : {A : Type 0} (xs ys : List A) → length (xs ++ ys) ≡ 0 → length xs ≡ 0
first-none [] ys e = refl
first-none (x ∷ xs) ys e = absurd (omega (arith, e))

-- ---- a work that means what a collector means is one

pub keeps-collecting : {S K P Q : Type 0} (fs : plug_type.Ghosts P) (ts : tally_type.Ghosts Q) (c : Collecting Making) (w : StageWork S K P Q) → meaning_of fs ts w ≡ meaning_of {S = S} {K = K} {P = P} {Q = Q} fs ts (Collector c) → IsCollecting w
keeps-collecting fs ts c (Collector d) e = tt
keeps-collecting fs ts c (Reader r) e = true≢false (sym (ap (λ m. (m.at_view (state.Collecting c.making None)).1) e))
keeps-collecting fs ts c (Filter f) e = true≢false (sym (ap (λ m. (m.at_view (state.Collecting c.making None)).1) e))
keeps-collecting fs ts c (Plug v) e = true≢false (sym (ap (λ m. (m.at_view (state.Collecting c.making None)).1) e))
keeps-collecting fs ts c (Tally v) e = true≢false (sym (ap (λ m. (m.at_view (state.Collecting c.making None)).1) e))
keeps-collecting fs ts c (Views h) e = true≢false (sym (ap (λ m. (m.at_view (state.Collecting c.making None)).1) e))
keeps-collecting fs ts c (ViewFiles t) e = true≢false (sym (ap (λ m. (m.at_view (state.Collecting c.making None)).1) e))
keeps-collecting fs ts c (Writer v) e = true≢false (sym (ap (λ m. (m.at_view (state.Collecting c.making None)).1) e))

module _ {S K P Q : Type 0} (s : source.Ghosts S) (k : sink.Ghosts K) (fs : plug_type.Ghosts P) (ts : tally_type.Ghosts Q) (stages : List StageSpec) (old : List (Node (StageWork S K P Q))) (new : AreNewStages s k fs ts stages old) (down : IsDown stages)
    (forest : IsForest (ins_of stages) (length (ins_of stages) - 1)) (size : length (ins_of stages) ≡ length stages)
    (homes : List ℕ) (are : AreHomes (gathers_of stages) (ins_of stages) homes) (besides : Besides S K P Q) where
  -- a stage that gathers begins as a collector
  collects-first : (i : ℕ) (n : Node (StageWork S K P Q)) → slice_get old i ≡ Some n → is_gathering (role_at stages i) ≡ true → (c : Collecting Making) × (n.work ≡ Collector c)
  collects-first i n e g =
      let start = somehow k.bytes stages (map work_of old) new.works i n.work (map-at work_of old i n e) in
      let row = collects-at-start s k.bytes (options_at stages i) start.0 n.work start.1 g in
      (row.0, row.2)

  module _ (home root : ℕ) (is_root : IsRoot stages homes home root) (now : List (Node (StageWork S K P Q))) (count : length now ≡ length stages) (inside : root < length stages)
      (below : (i : ℕ) → i < root → i < home) (done : AreRunBefore s k fs ts stages homes old home now) where
    abbrev part : List (List ℕ)
    part = part_ins (gathers_of stages) (ins_of stages) homes home root

    -- the nodes before the root had no turn yet
    pub fresh-before : (i : ℕ) (n : Node (StageWork S K P Q)) → i < root → is_of homes home i ≡ true → slice_get now i ≡ Some n → IsFresh (shown (as_works s k fs ts) (children part i) n)
    fresh-before i n l h e = by_role (is_gathering (role_at stages i)) refl
      where
        by_role : (b : Bool) → is_gathering (role_at stages i) ≡ b → IsFresh (shown (as_works s k fs ts) (children part i) n)
        by_role true g = subst (λ xs. IsFresh (shown (as_works s k fs ts) xs n)) (sym (at_gathering (gathers_of stages) (ins_of stages) homes home root i l (gathers-are stages i ∙ g)))
            (held-here s k fs ts stages old new down forest size homes are besides home root is_root now count inside below done i n l h g e).fresh
        by_role false g = subst (λ xs. IsFresh (shown (as_works s k fs ts) xs n)) (sym (at_inner (gathers_of stages) (ins_of stages) homes home root i l h (gathers-are stages i ∙ g) ∙ children-are stages i))
            (new.fresh i n (waits s k fs ts stages old new down forest size homes are besides home root is_root now count inside below done i n l h g e))

    root-old : (n : Node (StageWork S K P Q)) → slice_get now root ≡ Some n → slice_get old root ≡ Some n
    root-old n e = root-waits s k fs ts stages old new down forest size homes are besides home root is_root now count inside below done n e

    -- a last stage without inputs is alone
    alone : root + 1 ≡ length stages → (stage_at stages root).ins ≡ [] → root ≡ 0
    alone last none = elim (eqb_tells root 0) [
      | inl p ↦ p.1
      | inr p ↦ (
          let some = p.1 in
          let tree = forest-tree (ins_of stages) (length (ins_of stages) - 1) forest in
          let c = tree.child (root - 1) (omega (arith, some, last, size)) in
          let u = c.1 in let v = c.0 in
          let up : tree.parent (root - 1) ≡ root = omega (arith, u, v, some, last, size) in
          absurd (subst (In (root - 1)) (ap (children (ins_of stages)) up ∙ children-are stages root ∙ none) c.2))
    ]

    -- it has inputs exactly where its work is no leaf
    pub root-inputs : (is_gathering (role_at stages root) ≡ false → root + 1 ≡ length stages) → (n : Node (StageWork S K P Q)) → slice_get now root ≡ Some n
        → ((is_leaf n.work ≡ true) ↔ (length (children part root) ≡ 0)) × (n.fault ≡ None)
    root-inputs last n e = ((leaf-none, none-leaf), fresh.fault)
      where
        fresh : IsFresh (shown (as_works s k fs ts) ((stage_at stages root).ins) n)
        fresh = new.fresh root n (root-old n e)

        all : children part root ≡ children (ins_of stages) root ++ strangers homes home root
        all = at_root (gathers_of stages) (ins_of stages) homes home root

        leaf-none : is_leaf n.work ≡ true → length (children part root) ≡ 0
        leaf-none l = by_role (is_gathering (role_at stages root)) refl
          where
            by_role : (b : Bool) → is_gathering (role_at stages root) ≡ b → length (children part root) ≡ 0
            by_role true g = absurd (true≢false (sym l ∙ ap is_leaf (collects-first root n (root-old n e) g).1))
            by_role false g =
                let none = fresh.leaf l in
                ap length (all ∙ ap (λ xs. xs ++ strangers homes home root) (children-are stages root ∙ none) ∙ ap (strangers homes home) (alone (last g) none))

        none-leaf : length (children part root) ≡ 0 → is_leaf n.work ≡ true
        none-leaf z = by_leaf (is_leaf n.work) refl
          where
            ins-none : length (stage_at stages root).ins ≡ 0
            ins-none = ap length (sym (children-are stages root)) ∙ first-none (children (ins_of stages) root) (strangers homes home root) (ap length (sym all) ∙ z)

            by_leaf : (b : Bool) → is_leaf n.work ≡ b → is_leaf n.work ≡ true
            by_leaf true l = l
            by_leaf false l = let some = fresh.inner l in let many = fresh.inputs in let none = ins-none in absurd (omega (arith, some, many, none))

    -- a root that gathers is still a collector when its part was run
    pub root-collects : (after : List (Node (StageWork S K P Q))) → IsPartRun s k fs ts besides part homes home root now after → is_gathering (role_at stages root) ≡ true
        → (m : Node (StageWork S K P Q)) → slice_get after root ≡ Some m → IsCollecting m.work
    root-collects after run g m e =
        let ended = sym (at-root s k fs ts stages old new down forest size homes are besides home root is_root now count inside below done after run) ∙ e in
        let n = some_at run.net root (let a = slice_get_within run.ended root m ended in let b = run.turned.0.count in omega (arith, a, b)) in
        let o = some_at now root (omega (arith, inside, count)) in
        let c = collects-first root o.0 (root-old o.0 o.1) g in
        keeps-collecting fs ts c.0 m.work (run.turned.0.work root n.0 m n.1 ended ∙ ap (meaning_of fs ts) (run.is_net.work n.0 o.0 n.1 o.1 ∙ c.1))

  -- the node of a last stage that gathers is a leaf when all below it came to their end
  pub last-leaf : (now : List (Node (StageWork S K P Q))) → 0 < length stages → is_gathering (role_at stages (length stages - 1)) ≡ true
      → AreRunBefore s k fs ts stages homes old (length stages) now → (n : Node (StageWork S K P Q)) → slice_get now (length stages - 1) ≡ Some n → IsNewLeaf s k fs ts n
  last-leaf now some g done n e =
      done.held (length stages - 1) n e
      (let last : length stages - 1 ≡ length (ins_of stages) - 1 = (let q = size in omega (arith, q)) in
      let home : home_at homes (length stages - 1) ≡ length stages = ap (home_at homes) last ∙ are.root ∙ size in
      lt-false (home_at homes (length stages - 1)) (length stages) (omega (arith, home)))
      (omega (arith, some)) g
