-- What each turn of the parts of a tree of stages asks for and gives.
use Rattle.std.proofs.Common.{◌≡◌, ◌≢◌, ℕ, zero, suc, ◌∷◌, ◌+◌, ◌-◌, ◌<◌, ◌≤◌, ◌↔◌, Bool, true, false, true≢false, List, [], length, refl, ap, sym, subst, ◌∙◌, inl, inr, arith}
use Rattle.std.specs.Prelude.{slice_get, slice_index_or, Some, None}
use Rattle.file_devices.specs.declared.devices.Source as source
use Rattle.file_devices.specs.declared.devices.Sink as sink
use Rattle.network_theory.specs.Forest.{IsForest, children}
use Rattle.network_theory.specs.Opening.{IsFresh}
use Rattle.network_core.specs.declared.node.Node.{Node}
use Rattle.network_core.specs.Shown.{shown}
use Rattle.stage_kinds.specs.declared.stage_work.StageWork.{StageWork}
use Rattle.stage_kinds.specs.Stages.{is_leaf}
use Rattle.pipeline_json.specs.Trees.{IsTree}
use Rattle.stage_options.specs.Roles.{is_gathering}
use Rattle.stage_options.specs.Shapes.{shape, shapes}
use Rattle.stage_options.specs.declared.stage.StageSpec.{StageSpec}
use Rattle.stage_parts.specs.Parts.{AreHomes, gathers_at, home_at, is_of, part_ins}
use Rattle.stage_parts.proofs.Trees.{gathered-forest}
use Rattle.answer_model.specs.Values.{IsDown, role_at}
use Rattle.answer_model.proofs.Values.{tree-down}
use Rattle.stage_runs.specs.Works.{as_works, ins_of, AreNewStages}
use Rattle.stage_runs.specs.declared.plan.Plan.{Plan}
use Rattle.stage_runs.specs.Ran.{AreStoppedStages}
use Rattle.stage_runs.specs.Parts.{gathers_of, AreLaterNodes, IsPartRun, IsPartStopped, IsGatheredAt, AreRunBefore, AreTurned, Besides}
use Rattle.stage_forms.specs.Starts.{IsCollecting}
use Rattle.stage_runs.specs.Short.{SomeGathers}
use Rattle.stage_runs.proofs.Asked.{fresh-before, root-inputs, root-collects}
use Rattle.stage_runs.proofs.Forests.{mapped, stages-forest}
use Rattle.stage_runs.proofs.Part.{IsRoot, gathers-are}
use Rattle.stage_runs.proofs.Halted.{part-stopped}
use Rattle.stage_runs.proofs.Steps.{above, none-run, none-here, gathered-here}
use Rattle.plug_stages.specs.declared.filter.PlugFilter as plug_type
use Rattle.plug_stages.specs.declared.tally.PlugTally as tally_type

-- a tree has at least one stage, and at most 64
pub some-stages : (stages : List StageSpec) → IsTree (shapes stages) → 0 < length stages
some-stages stages tree = let some = tree.some in let n = mapped shape stages in omega (arith, some, n)

pub few-stages : (stages : List StageSpec) → IsTree (shapes stages) → length stages ≤ 64
few-stages stages tree = let few = tree.few in let n = mapped shape stages in omega (arith, few, n)

pub ins-size : (stages : List StageSpec) → length (ins_of stages) ≡ length stages
ins-size stages = mapped (λ (s : StageSpec). s.ins) stages

pub gathers-size : (stages : List StageSpec) → length (gathers_of stages) ≡ length stages
gathers-size stages = mapped _ stages

-- what stands inside of a list is what stands there by any default
any-default : (xs : List Bool) (i : ℕ) (d e : Bool) → i < length xs → slice_index_or xs i d ≡ slice_index_or xs i e
any-default [] i d e l = absurd (omega (arith, l))
any-default (x ∷ xs) zero d e l = refl
any-default (x ∷ xs) (suc i) d e l = any-default xs i d e (omega (arith, l))

-- whether a stage needs whole views, as it was read
pub gathers-read : (stages : List StageSpec) (gathers : List Bool) → gathers ≡ gathers_of stages → (i : ℕ) (read b : Bool) → i < length stages → read ≡ slice_index_or gathers i read → read ≡ b
    → is_gathering (role_at stages i) ≡ b
gathers-read stages gathers gathers_is i read b l e is =
    let many = ap length gathers_is ∙ gathers-size stages in
    sym (gathers-are stages i) ∙ ap (λ gs. gathers_at gs i) (sym gathers_is) ∙ any-default gathers i false read (omega (arith, l, many)) ∙ sym e ∙ is

pub gathers-inside : (stages : List StageSpec) (gathers : List Bool) → gathers ≡ gathers_of stages → (i : ℕ) → i < length stages → i < length gathers
gathers-inside stages gathers gathers_is i l = let many = ap length gathers_is ∙ gathers-size stages in omega (arith, l, many)

pub homes-size : (stages : List StageSpec) (homes : List ℕ) → AreHomes (gathers_of stages) (ins_of stages) homes → length homes ≡ length stages
homes-size stages homes are = are.count ∙ ins-size stages

pub all-forest : (stages : List StageSpec) → IsTree (shapes stages) → IsForest (ins_of stages) (length (ins_of stages) - 1)
all-forest stages tree = subst (λ n. IsForest (ins_of stages) (n - 1)) (sym (ins-size stages)) (stages-forest stages tree)

pub planned-part : (stages : List StageSpec) (plan : Plan) → plan.gathers.items ≡ gathers_of stages → plan.ins ≡ ins_of stages → (home root : ℕ)
    → part_ins plan.gathers.items plan.ins plan.homes.items home root ≡ part_ins (gathers_of stages) (ins_of stages) plan.homes.items home root
planned-part stages plan gathers_is ins_is home root =
    ap (λ gs. part_ins gs plan.ins plan.homes.items home root) gathers_is ∙ ap (λ xss. part_ins (gathers_of stages) xss plan.homes.items home root) ins_is

module _ {S K P Q : Type 0} (s : source.Ghosts S) (k : sink.Ghosts K) (fs : plug_type.Ghosts P) (ts : tally_type.Ghosts Q) (stages : List StageSpec) (tree : IsTree (shapes stages)) {old : List (Node (StageWork S K P Q))} (new : AreNewStages s k fs ts stages old)
    (plan : Plan) (gathers_is : plan.gathers.items ≡ gathers_of stages) (ins_is : plan.ins ≡ ins_of stages)
    (are : AreHomes (gathers_of stages) (ins_of stages) plan.homes.items) (besides : Besides S K P Q) where
  abbrev homes : List ℕ
  homes = plan.homes.items

  down : IsDown stages
  down = tree-down stages tree

  forest : IsForest (ins_of stages) (length (ins_of stages) - 1)
  forest = all-forest stages tree

  abbrev Done : ℕ → List (Node (StageWork S K P Q)) → Type 0
  Done done now = AreRunBefore s k fs ts stages homes old done now

  abbrev part : ℕ → ℕ → List (List ℕ)
  part home root = part_ins plan.gathers.items plan.ins homes home root

  same-part : (home root : ℕ) → part home root ≡ part_ins (gathers_of stages) (ins_of stages) homes home root
  same-part home root = planned-part stages plan gathers_is ins_is home root

  pub at-first : Done 0 old
  at-first = none-run s k fs ts stages old new down forest (ins-size stages) homes are besides

  -- ---- all turns

  abbrev Turned : ℕ → List (Node (StageWork S K P Q)) → Type 0
  Turned done now = AreTurned s k fs ts stages homes old besides done now

  one-more : (w : ℕ) (now : List (Node (StageWork S K P Q))) → Turned (suc w) now → Turned (w + 1) now
  one-more w now t = subst (λ n. Turned n now) (let same : suc w ≡ w + 1 = omega arith in same) t

  -- ---- one stage more

  module _ (w : ℕ) {now : List (Node (StageWork S K P Q))} (later : AreLaterNodes s k fs ts old now) (done : Done w now) (inside : w < length stages)
      {read : Bool} (reads : read ≡ slice_index_or plan.gathers.items w read) where
    count : length now ≡ length stages
    count = later.count ∙ new.count

    -- it streams
    module _ (no : read ≡ false) where
      streams_w : is_gathering (role_at stages w) ≡ false
      streams_w = gathers-read stages plan.gathers.items gathers_is w read false inside reads no

      pub skipped : Done (w + 1) now
      skipped = none-here s k fs ts stages old new down forest (ins-size stages) homes are besides w now count inside streams_w done

      pub turned-over : Turned w now → Turned (w + 1) now
      turned-over before = one-more w now (now, before, inr (streams_w, refl))

    -- it gathers
    module _ (yes : read ≡ true) where
      gathers_w : is_gathering (role_at stages w) ≡ true
      gathers_w = gathers-read stages plan.gathers.items gathers_is w read true inside reads yes

      pub gathers-one : SomeGathers stages
      gathers-one = (w, inside, gathers_w)

      at-w : IsRoot stages homes w w
      at-w = inl (gathers_w, refl)

      pub part-forest : IsForest (part w w) w
      part-forest = subst (λ xss. IsForest xss w) (sym (same-part w w))
          (gathered-forest (gathers_of stages) (ins_of stages) homes w forest are (let n = ins-size stages in omega (arith, inside, n)) (gathers-are stages w ∙ gathers_w))

      pub part-fresh : (i : ℕ) (n : Node (StageWork S K P Q)) → i < w → is_of homes w i ≡ true → slice_get now i ≡ Some n → IsFresh (shown (as_works s k fs ts) (children (part w w) i) n)
      part-fresh i n l h e = subst (λ xss. IsFresh (shown (as_works s k fs ts) (children xss i) n)) (sym (same-part w w))
          (fresh-before s k fs ts stages old new down forest (ins-size stages) homes are besides w w at-w now count inside (λ j m. m) done i n l h e)

      pub part-inputs : (n : Node (StageWork S K P Q)) → slice_get now w ≡ Some n → ((is_leaf n.work ≡ true) ↔ (length (children (part w w) w) ≡ 0)) × (n.fault ≡ None)
      part-inputs n e = subst (λ xss. ((is_leaf n.work ≡ true) ↔ (length (children xss w) ≡ 0)) × (n.fault ≡ None)) (sym (same-part w w))
          (root-inputs s k fs ts stages old new down forest (ins-size stages) homes are besides w w at-w now count inside (λ j m. m) done
          (λ streams. absurd (true≢false (sym gathers_w ∙ streams))) n e)

      under : (i : ℕ) → i < length stages → home_at homes i ≡ w → i ≢ w → i < w
      under i l h n = let a = above s k fs ts stages old new down forest (ins-size stages) homes are besides i l in omega (arith, a, h)

      -- its part ended at a fault
      pub turn-stopped : (bounded : Type 0) (queue chunk : ℕ) {after : List (Node (StageWork S K P Q))} → IsPartStopped s k fs ts bounded queue chunk (part w w) homes w w now after → AreStoppedStages s k fs ts stages old after
      turn-stopped bounded queue chunk {after} stopped = part-stopped s k fs ts stages old new down forest (ins-size stages) homes are besides w w at-w now count inside (λ j m. m) under done bounded queue chunk after
          (subst (λ xss. IsPartStopped s k fs ts bounded queue chunk xss homes w w now after) (same-part w w) stopped)

      module _ {after : List (Node (StageWork S K P Q))} (run : IsPartRun s k fs ts besides (part w w) homes w w now after) where
        ran : IsPartRun s k fs ts besides (part_ins (gathers_of stages) (ins_of stages) homes w w) homes w w now after
        ran = subst (λ xss. IsPartRun s k fs ts besides xss homes w w now after) (same-part w w) run

        pub collects : (m : Node (StageWork S K P Q)) → slice_get after w ≡ Some m → IsCollecting m.work
        collects = root-collects s k fs ts stages old new down forest (ins-size stages) homes are besides w w at-w now count inside (λ j m. m) done after ran gathers_w

        module _ {last : List (Node (StageWork S K P Q))} (made : IsGatheredAt s k fs ts w after last) where
          pub taken-turn : Done (w + 1) last
          taken-turn = gathered-here s k fs ts stages old new down forest (ins-size stages) homes are besides w now after last count inside gathers_w done ran made

          pub turned-on : Turned w now → Turned (w + 1) last
          turned-on before = one-more w last (now, before, inl (record { gathers = gathers_w; after = after; ran = ran; made = made }))
