-- The last part, by its memory.
use Rattle.std.proofs.Common.{◌≡◌, ◌⊎◌, ℕ, ◌-◌, ◌<◌, ◌≤◌, ◌↔◌, Bool, true, false, true≢false, List, length, Some, None, refl, ap, sym, subst, ◌∙◌, inr, arith}
use Rattle.std.specs.Prelude.{slice_get}
use Rattle.std.proofs.lemmas.Option.{slice_get_within}
use Rattle.file_devices.specs.declared.devices.Source as source
use Rattle.file_devices.specs.declared.devices.Sink as sink
use Rattle.network_theory.specs.Forest.{IsForest, children}
use Rattle.network_theory.specs.Opening.{IsFresh}
use Rattle.network_core.specs.declared.node.Node.{Node}
use Rattle.network_core.specs.Shown.{shown, work_of}
use Rattle.stage_kinds.specs.declared.stage_work.StageWork.{StageWork}
use Rattle.stage_kinds.specs.Stages.{is_leaf}
use Rattle.pipeline_json.specs.Trees.{IsTree}
use Rattle.stage_options.specs.Roles.{is_gathering}
use Rattle.stage_options.specs.Shapes.{shapes}
use Rattle.stage_options.specs.declared.stage.StageSpec.{StageSpec}
use Rattle.stage_parts.specs.Parts.{gathers_at, home_at, is_of, part_ins}
use Rattle.stage_parts.proofs.Trees.{last-forest}
use Rattle.answer_model.specs.Values.{IsDown, role_at}
use Rattle.answer_model.proofs.Values.{tree-down}
use Rattle.stage_runs.specs.declared.rooms.PartRoom.{PartRoom}
use Rattle.stage_runs.specs.declared.rooms.StageRoom.{StageRoom}
use Rattle.network_solo.specs.Stopping.{NoneFaulty, SomeFault}
use Rattle.stage_runs.specs.Works.{as_works, ins_of, AreNewStages}
use Rattle.stage_runs.specs.Ahead.{HaveReadAhead, KeepPoints}
use Rattle.stage_runs.specs.Ran.{AreRanStages, AreStoppedStages}
use Rattle.stage_runs.specs.Parts.{gathers_of, AreLaterNodes, AreSoundOwn, Besides, IsNewLeaf, IsPartRun, IsPartStopped, IsLeafRun, IsLeafStopped, AreRunBefore, AreTurned, ByParts}
use Rattle.stage_runs.specs.Rooms.{IsRoom, IsLastRoom, IsStageRoom}
use Rattle.stage_runs.specs.Short.{RanShort, SomeGathers}
use Rattle.stage_runs.proofs.Ahead.{last-ahead}
use Rattle.stage_runs.proofs.KeepAll.{own-last}
use Rattle.stage_runs.proofs.Places.{map-at}
use Rattle.stage_runs.proofs.Asked.{fresh-before, root-inputs, last-leaf}
use Rattle.stage_runs.proofs.LastPart.{last-streams, last-gathers, last-leaf-stopped}
use Rattle.stage_runs.proofs.Halted.{part-stopped, part-known}
use Rattle.stage_runs.proofs.Part.{IsRoot, gathers-are}
use Rattle.stage_runs.proofs.Short.{short-gathers}
use Rattle.stage_runs.proofs.Turns.{some-stages, few-stages, ins-size, homes-size, all-forest, planned-part}
use Rattle.plug_stages.specs.declared.filter.PlugFilter as plug_type
use Rattle.plug_stages.specs.declared.tally.PlugTally as tally_type

module _ {S K P Q E : Type 0} (s : source.Ghosts S) (k : sink.Ghosts K) (fs : plug_type.Ghosts P) (ts : tally_type.Ghosts Q) (fits : ℕ → ℕ → E → Type 0) (part : List (List ℕ)) (root queue : ℕ) where
  without : (gathers : Bool) → IsLastRoom s k fs ts fits part root queue gathers None → gathers ≡ true
  without true is = refl
  without false is = absurd is

  within : (gathers : Bool) (room : PartRoom S K P Q E) → IsLastRoom s k fs ts fits part root queue gathers (Some room) → (gathers ≡ false) × IsRoom s k fs ts fits part root queue room
  within true room is = absurd is
  within false room is = (refl, is)

module _ {S K P Q E : Type 0} (s : source.Ghosts S) (k : sink.Ghosts K) (fs : plug_type.Ghosts P) (ts : tally_type.Ghosts Q) (fits : ℕ → ℕ → E → Type 0) (stages : List StageSpec) (room : StageRoom S K P Q E) (is : IsStageRoom s k fs ts fits stages room) where
  abbrev root : ℕ
  root = length stages - 1

  -- a last stage without a room gathers
  roomless : room.last ≡ None → is_gathering (role_at stages root) ≡ true
  roomless none = sym (gathers-are stages root) ∙ without s k fs ts fits _ _ _ _ (subst (IsLastRoom s k fs ts fits _ _ _ _) none is.last)

  roomy : (held : PartRoom S K P Q E) → room.last ≡ Some held
      → (gathers_at (gathers_of stages) root ≡ false) × IsRoom s k fs ts fits (part_ins (gathers_of stages) (ins_of stages) room.plan.homes.items (length stages) root) root room.sizes.queue held
  roomy held e = within s k fs ts fits _ _ _ _ held (subst (IsLastRoom s k fs ts fits _ _ _ _) e is.last)

  pub last-room : {held : PartRoom S K P Q E} → room.last ≡ Some held → (part : List (List ℕ)) × (root : ℕ) × (queue : ℕ) × IsRoom s k fs ts fits part root queue held
  last-room {held} e = (_, _, _, (roomy held e).1)

  module _ (tree : IsTree (shapes stages)) {old now : List (Node (StageWork S K P Q))} (new : AreNewStages s k fs ts stages old) (later : AreLaterNodes s k fs ts old now)
      (done : AreRunBefore s k fs ts stages room.plan.homes.items old (length stages) now) (besides : Besides S K P Q) where
    abbrev homes : List ℕ
    homes = room.plan.homes.items

    abbrev queue : ℕ
    queue = room.sizes.queue

    -- as it is planned
    abbrev part : List (List ℕ)
    part = part_ins room.plan.gathers.items room.plan.ins homes (length stages) root

    same-part : part ≡ part_ins (gathers_of stages) (ins_of stages) homes (length stages) root
    same-part = planned-part stages room.plan is.gathers is.ins (length stages) root

    down : IsDown stages
    down = tree-down stages tree

    forest : IsForest (ins_of stages) (length (ins_of stages) - 1)
    forest = all-forest stages tree

    count : length now ≡ length stages
    count = later.count ∙ new.count

    some : 0 < length stages
    some = some-stages stages tree

    pub root-inside : root < length now
    root-inside = let a = some in let b = count in omega (arith, a, b)

    pub few-nodes : length now ≤ 64
    few-nodes = let a = few-stages stages tree in let b = count in omega (arith, a, b)

    pub homes-nodes : length homes ≡ length now
    homes-nodes = homes-size stages homes is.homes ∙ sym count

    -- where memory is wanting, a stage gathers
    pub wanting : {after : List (Node (StageWork S K P Q))} → RanShort now after → SomeGathers stages
    wanting {after} short = short-gathers s k fs ts stages old new down forest (ins-size stages) homes is.homes besides now after count done short

    -- ---- where the last stage gathers

    module _ (none : room.last ≡ None) where
      gathers : is_gathering (role_at stages root) ≡ true
      gathers = roomless none

      pub last-one : SomeGathers stages
      last-one = (root, (let a = some in omega (arith, a)), gathers)

      pub last-waits : (n : Node (StageWork S K P Q)) → slice_get now root ≡ Some n → IsNewLeaf s k fs ts n
      last-waits n e = last-leaf s k fs ts stages old new down forest (ins-size stages) homes is.homes besides now some gathers done n e

      pub leaf-stopped : (bounded : Type 0) {after : List (Node (StageWork S K P Q))} → IsLeafStopped s k fs ts bounded queue root now after → AreStoppedStages s k fs ts stages old after
      leaf-stopped bounded {after} run = last-leaf-stopped s k fs ts stages old new down forest (ins-size stages) homes is.homes besides bounded queue now after count some gathers done run

      module _ {after : List (Node (StageWork S K P Q))} (run : IsLeafRun s k fs ts besides root now after) where
        pub leaf-ran : AreRanStages s k fs ts stages old after
        leaf-ran = last-gathers s k fs ts stages old new down forest (ins-size stages) homes is.homes besides now after count some gathers done run

        pub by-leaf : AreTurned s k fs ts stages homes old besides (length stages) now → ByParts s k fs ts stages besides old after
        by-leaf turned = record {
          homes = homes;
          are = is.homes;
          ran = record { now = now; turned = turned; streams = λ f. absurd (true≢false (sym gathers ∙ f)); gathers = λ _. run };
        }

    -- ---- where it doesn't

    module _ {held : PartRoom S K P Q E} (e : room.last ≡ Some held) where
      streams : is_gathering (role_at stages root) ≡ false
      streams = sym (gathers-are stages root) ∙ (roomy held e).0

      pub its-room : IsRoom s k fs ts fits part root queue held
      its-room = subst (λ xss. IsRoom s k fs ts fits xss root queue held) (sym same-part) (roomy held e).1

      inside : root < length stages
      inside = let m = some in omega (arith, m)

      last-number : root ≡ length (ins_of stages) - 1
      last-number = let n = ins-size stages in omega (arith, n)

      at-last : IsRoot stages homes (length stages) root
      at-last = inr (streams, ap (home_at homes) last-number ∙ is.homes.root ∙ ins-size stages)

      lower : (j : ℕ) → j < root → j < length stages
      lower j l = omega (arith, l)

      pub last-part-forest : IsForest part root
      last-part-forest = subst (λ xss. IsForest xss root) (sym same-part)
          (subst (λ n. IsForest (part_ins (gathers_of stages) (ins_of stages) homes n (n - 1)) (n - 1)) (ins-size stages)
          (last-forest (gathers_of stages) (ins_of stages) homes forest is.homes (ap (gathers_at (gathers_of stages)) (sym last-number) ∙ gathers-are stages root ∙ streams)))

      pub last-fresh : (i : ℕ) (n : Node (StageWork S K P Q)) → i < root → is_of homes (length stages) i ≡ true → slice_get now i ≡ Some n → IsFresh (shown (as_works s k fs ts) (children part i) n)
      last-fresh i n l h f = subst (λ xss. IsFresh (shown (as_works s k fs ts) (children xss i) n)) (sym same-part)
          (fresh-before s k fs ts stages old new down forest (ins-size stages) homes is.homes besides (length stages) root at-last now count inside lower done i n l h f)

      pub last-inputs : (n : Node (StageWork S K P Q)) → slice_get now root ≡ Some n → ((is_leaf n.work ≡ true) ↔ (length (children part root) ≡ 0)) × (n.fault ≡ None)
      last-inputs n f = subst (λ xss. ((is_leaf n.work ≡ true) ↔ (length (children xss root) ≡ 0)) × (n.fault ≡ None)) (sym same-part)
          (root-inputs s k fs ts stages old new down forest (ins-size stages) homes is.homes besides (length stages) root at-last now count inside lower done
          (λ q. let m = some in omega (arith, m)) n f)

      -- the last part ended at a fault
      pub last-stopped : (bounded : Type 0) (chunk : ℕ) {after : List (Node (StageWork S K P Q))} → IsPartStopped s k fs ts bounded queue chunk part homes (length stages) root now after → AreStoppedStages s k fs ts stages old after
      last-stopped bounded chunk {after} stopped = part-stopped s k fs ts stages old new down forest (ins-size stages) homes is.homes besides (length stages) root at-last now count inside lower
          (λ i l h n. omega (arith, l, n)) done bounded queue chunk after (subst (λ xss. IsPartStopped s k fs ts bounded queue chunk xss homes (length stages) root now after) same-part stopped)

      pub last-known : (bounded : Type 0) (chunk : ℕ) {after : List (Node (StageWork S K P Q))} → IsPartStopped s k fs ts bounded queue chunk part homes (length stages) root now after → SomeFault (as_works s k fs ts) after ⊎ SomeGathers stages
      last-known bounded chunk {after} stopped = part-known s k fs ts stages old new down forest (ins-size stages) homes is.homes besides (length stages) root at-last now count inside lower
          (λ i l h n. omega (arith, l, n)) done bounded queue chunk after (subst (λ xss. IsPartStopped s k fs ts bounded queue chunk xss homes (length stages) root now after) same-part stopped) refl

      -- or came to its end, where turns end at a fault
      pub last-sound : (stops : Type 0) (after : List (Node (StageWork S K P Q))) → length after ≡ length now → (stops → AreSoundOwn homes (length stages) root after) → stops → KeepPoints stages → NoneFaulty (as_works s k fs ts) after
      last-sound stops after size sound first keep j m e =
          let l : j < length stages = (let a = slice_get_within after j m e in let b = count in omega (arith, a, size, b)) in
          sound first j m (omega (arith, l)) (own-last s k fs ts stages tree old new homes is.homes besides keep j l) e

      -- and its readers have read no further than so
      pub last-read : (bounded : Type 0) → bounded → (chunk : ℕ) {after : List (Node (StageWork S K P Q))} → IsPartStopped s k fs ts bounded queue chunk part homes (length stages) root now after → HaveReadAhead s fs ts stages queue chunk old after
      last-read bounded near chunk {after} stopped cuts keep opened given plain front i f over = last-ahead s k fs ts stages tree old new homes is.homes besides now count done bounded near queue chunk after
          (subst (λ xss. IsPartStopped s k fs ts bounded queue chunk xss homes (length stages) root now after) same-part stopped) cuts keep opened (record { tell = λ j n r e w. given.told j (work_of n) r (map-at work_of old j n e) w; handed = given.handed }) plain front i f over

      module _ {after : List (Node (StageWork S K P Q))} (run : IsPartRun s k fs ts besides part homes (length stages) root now after) where
        ran : IsPartRun s k fs ts besides (part_ins (gathers_of stages) (ins_of stages) homes (length stages) root) homes (length stages) root now after
        ran = subst (λ xss. IsPartRun s k fs ts besides xss homes (length stages) root now after) same-part run

        pub part-ran : AreRanStages s k fs ts stages old after
        part-ran = last-streams s k fs ts stages old new down forest (ins-size stages) homes is.homes besides now after count some streams done ran

        pub by-part : AreTurned s k fs ts stages homes old besides (length stages) now → ByParts s k fs ts stages besides old after
        by-part turned = record {
          homes = homes;
          are = is.homes;
          ran = record { now = now; turned = turned; streams = λ _. ran; gathers = λ g. absurd (true≢false (sym g ∙ streams)) };
        }
