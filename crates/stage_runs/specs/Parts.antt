-- The nodes of a tree's stages while its parts are run, one after the other.
use Rattle.std.specs.Prelude.{◌≡◌, ◌≢◌, ◌⊎◌, ◌↔◌, ℕ, zero, suc, ◌+◌, ◌-◌, ◌<◌, ◌≤◌, ◌==◌, ◌||◌, nat_lt, Bool, true, false, List, [], ◌∷◌, length, map, slice_get, option_map, Option, Some, None, is_some}
use Rattle.file_devices.specs.Counts.{Rose}
use Rattle.file_devices.specs.declared.devices.Source as source
use Rattle.file_devices.specs.declared.devices.Sink as sink
use Rattle.cloud_points.specs.declared.point.Point.{Point}
use Rattle.cloud_points.specs.declared.work.Work.{Ghosts}
use Rattle.cloud_points.specs.declared.faults.StageFault.{StageFault}
use Rattle.cloud_points.specs.declared.faults.StageFault.TheVariants as stage
use Rattle.cloud_points.specs.Events.{is_device, IsOf}
use Rattle.cloud_points.specs.Flows.{Flow, empty_flow}
use Rattle.cloud_points.specs.Marks.{flow_marks}
use Rattle.network_theory.specs.Forest.{children}
use Rattle.network_theory.specs.Opening.{IsFresh}
use Rattle.network_core.specs.declared.node.Node.{Node}
use Rattle.network_core.specs.Shown.{shown}
use Rattle.network_solo.specs.Ahead.{IsReadAhead}
use Rattle.network_solo.specs.Stopping.{IsStoppedTree, SomeFault}
use Rattle.network_solo.specs.Trees.{IsRanTree}
use Rattle.stage_kinds.specs.declared.stage_work.StageWork.{StageWork}
use Rattle.stage_kinds.specs.Gathers.{IsGathered}
use Rattle.stage_kinds.specs.Held.{HoldsSame, held_by, op_of, faults_of}
use Rattle.stage_kinds.specs.declared.held.Held.TheVariants.{Nothing}
use Rattle.stage_kinds.specs.Reads.{tells_of, told_of, told_fault_of}
use Rattle.stage_kinds.specs.Stages.{is_leaf, is_short, keeps_of}
use Rattle.stage_options.specs.Roles.{is_gathering, role_of}
use Rattle.stage_options.specs.declared.stage.StageSpec.{StageSpec}
use Rattle.stage_parts.specs.Parts.{AreHomes, home_at, is_of, part_ins}
use Rattle.answer_model.specs.Values.{Opened, options_at, role_at, setting_at, stage_value, stage_fault}
use Rattle.stage_forms.specs.Starts.{IsCollecting, form_for, kept_for}
use Rattle.stage_runs.specs.Ran.{EndsAsStage}
use Rattle.stage_runs.specs.Works.{as_works, ins_of, RunOn}
use Rattle.stage_runs.specs.Short.{NoneShort}
use Rattle.plug_stages.specs.declared.filter.PlugFilter as plug_type
use Rattle.plug_stages.specs.declared.tally.PlugTally as tally_type

-- whether each stage needs whole views
abbrev pub gathers_of : List StageSpec → List Bool
gathers_of stages = map (λ (s : StageSpec). is_gathering (role_of s.options)) stages

-- the elements of two lists at the first so many places, where they are picked, were exchanged
pub record IsExchanged {T : Type 0} (picked : ℕ → Bool) (count : ℕ) (one other one_after other_after : List T) : Type 0 where
  pub one_count : length one_after ≡ length one
  pub other_count : length other_after ≡ length other
  pub taken : (i : ℕ) → i < count → picked i ≡ true → (slice_get one_after i ≡ slice_get other i) × (slice_get other_after i ≡ slice_get one i)
  pub left : (i : ℕ) → (i < count → picked i ≡ true → ⊥) → (slice_get one_after i ≡ slice_get one i) × (slice_get other_after i ≡ slice_get other i)

-- the last node of a net is new over its work, with so many inputs
pub record IsRenewed {W G : Type 0} (g : Ghosts W G) (inputs : ℕ) (net after : List (Node W)) : Type 0 where
  pub count : length after ≡ length net
  pub work : (n m : Node W) → slice_get net (length net - 1) ≡ Some n → slice_get after (length net - 1) ≡ Some m → m.work ≡ n.work
  pub fresh : (m : Node W) (ins : List ℕ) → slice_get after (length net - 1) ≡ Some m → length ins ≡ inputs → IsFresh (shown g ins m)
  pub other : (i : ℕ) → i ≢ length net - 1 → slice_get after i ≡ slice_get net i

-- whether a node of the part of a home, or its root, stands at a place
abbrev pub is_own : List ℕ → ℕ → ℕ → ℕ → Bool
is_own homes home root i = (i == root) || is_of homes home i

-- no node of the part of a home, and not its root, has a fault
abbrev pub AreSoundOwn : {W : Type 0} → List ℕ → ℕ → ℕ → List (Node W) → Type 0
AreSoundOwn {W} homes home root nodes = (i : ℕ) (n : Node W) → i ≤ root → is_own homes home root i ≡ true → slice_get nodes i ≡ Some n → n.fault ≡ None

-- what the nodes of a net come to besides, by the numbers of their children
abbrev pub Besides : Type 0 → Type 0 → Type 0 → Type 0 → Type 1
Besides S K P Q = List (List ℕ) → List (Node (StageWork S K P Q)) → List (Node (StageWork S K P Q)) → Type 0

-- ---- nodes

module _ {S K P Q : Type 0} (s : source.Ghosts S) (k : sink.Ghosts K) (fs : plug_type.Ghosts P) (ts : tally_type.Ghosts Q) where
  -- the node of a stage later: it holds the device that it held, whose count of faults rose where that failed, and else is as it was; a
  -- device's fault stays; and it holds what it held of the caller's
  pub record IsLaterNode (old new : Node (StageWork S K P Q)) : Type 0 where
    pub op : op_of new.work ≡ op_of old.work
    pub faults : faults_of s.faults k.faults old.work ≤ faults_of s.faults k.faults new.work
    pub cause : is_device new.fault ≡ true → Rose (faults_of s.faults k.faults old.work) (faults_of s.faults k.faults new.work)
    pub kept : is_device new.fault ≡ false → faults_of s.faults k.faults new.work ≡ faults_of s.faults k.faults old.work
    pub stays : is_some (op_of old.work) ≡ true → is_device old.fault ≡ true → is_device new.fault ≡ true
    pub named : IsOf (op_of old.work) new.fault
    pub holds : HoldsSame fs ts old.work new.work

  pub record AreLaterNodes (old new : List (Node (StageWork S K P Q))) : Type 0 where
    pub count : length new ≡ length old
    pub each : (i : ℕ) (n m : Node (StageWork S K P Q)) → slice_get old i ≡ Some n → slice_get new i ≡ Some m → IsLaterNode n m

  -- a leaf without a device that had no turn yet
  pub record IsNewLeaf (n : Node (StageWork S K P Q)) : Type 0 where
    pub fresh : IsFresh (shown (as_works s k fs ts) [] n)
    pub leaf : is_leaf n.work ≡ true
    pub op : op_of n.work ≡ None

  -- it gives this flow, and this fault at its end
  pub record Gives (flow : Flow Point) (why : Option StageFault) (n : Node (StageWork S K P Q)) : Type 0 where
    pub tells : tells_of s.bytes n.work ≡ true
    pub told : told_of s.bytes n.work ≡ flow_marks flow
    pub fault : told_fault_of s.bytes n.work ≡ why

  -- it gives the value of stage i and its fault, and keeps what the stage is to write
  pub record GivesAsStage (stages : List StageSpec) (opened : Opened) (i : ℕ) (n : Node (StageWork S K P Q)) : Type 0 where
    pub gives : Gives (stage_value stages opened i) (option_map stage.Point (stage_fault stages opened i)) n
    pub keeps : keeps_of n.work ≡ kept_for (form_for (options_at stages i) (setting_at stages opened i)) (stage_value stages opened i)

  -- each node is as it was, or a later one
  pub record AreSameOrLater (old new : List (Node (StageWork S K P Q))) : Type 0 where
    pub count : length new ≡ length old
    pub each : (i : ℕ) (n m : Node (StageWork S K P Q)) → slice_get old i ≡ Some n → slice_get new i ≡ Some m → (m ≡ n) ⊎ IsLaterNode n m

  -- so many leaves that give nothing
  pub record AreStandIns (size : ℕ) (nodes : List (Node (StageWork S K P Q))) : Type 0 where
    pub count : length nodes ≡ size
    pub each : (i : ℕ) (n : Node (StageWork S K P Q)) → slice_get nodes i ≡ Some n → IsNewLeaf n × Gives empty_flow None n

  -- no node holds anything
  abbrev pub HoldNothing : List (Node (StageWork S K P Q)) → Type 0
  HoldNothing nodes = (i : ℕ) (n : Node (StageWork S K P Q)) → slice_get nodes i ≡ Some n → held_by n.work ≡ Nothing

  -- the node at this place is such a leaf
  abbrev pub IsNewLeafAt : ℕ → List (Node (StageWork S K P Q)) → Type 0
  IsNewLeafAt at nodes = (n : Node (StageWork S K P Q)) → slice_get nodes at ≡ Some n → IsNewLeaf n

  -- the node at this place takes whole views
  abbrev pub CollectsAt : ℕ → List (Node (StageWork S K P Q)) → Type 0
  CollectsAt at nodes = (n : Node (StageWork S K P Q)) → slice_get nodes at ≡ Some n → IsCollecting n.work

  -- ---- the net of a part

  -- the nodes of a part before its root had no turn yet
  abbrev pub AreFreshBefore : List (List ℕ) → List ℕ → ℕ → ℕ → List (Node (StageWork S K P Q)) → Type 0
  AreFreshBefore part homes home root nodes = (i : ℕ) (n : Node (StageWork S K P Q)) → i < root → is_of homes home i ≡ true
      → slice_get nodes i ≡ Some n → IsFresh (shown (as_works s k fs ts) (children part i) n)

  -- the root of a part has inputs exactly where it is no leaf, and no fault yet
  abbrev pub HasWaitingRoot : List (List ℕ) → ℕ → List (Node (StageWork S K P Q)) → Type 0
  HasWaitingRoot part root nodes = (n : Node (StageWork S K P Q)) → slice_get nodes root ≡ Some n
      → ((is_leaf n.work ≡ true) ↔ (length (children part root) ≡ 0)) × (n.fault ≡ None)

  -- the nodes of a part, each at the place of its stage: the root is new over its work, and the others of the home are as they are; in
  -- the place of each stranger stands a leaf that gives nothing
  pub record IsNet (part : List (List ℕ)) (homes : List ℕ) (home root : ℕ) (nodes net : List (Node (StageWork S K P Q))) : Type 0 where
    pub count : length net ≡ root + 1
    pub work : (n m : Node (StageWork S K P Q)) → slice_get net root ≡ Some n → slice_get nodes root ≡ Some m → n.work ≡ m.work
    pub root_fresh : (n : Node (StageWork S K P Q)) → slice_get net root ≡ Some n → IsFresh (shown (as_works s k fs ts) (children part root) n)
    pub own : (i : ℕ) (n : Node (StageWork S K P Q)) → i < root → is_of homes home i ≡ true → slice_get net i ≡ Some n → slice_get nodes i ≡ Some n
    pub strange : (i : ℕ) (n : Node (StageWork S K P Q)) → i < root → is_of homes home i ≡ false → slice_get net i ≡ Some n → IsNewLeaf n × Gives empty_flow None n

  -- what became of the nodes of a net: they took turns until all were done
  abbrev pub Ran : Besides S K P Q → List (List ℕ) → List (Node (StageWork S K P Q)) → List (Node (StageWork S K P Q)) → Type 0
  Ran besides part net ended = IsRanTree (as_works s k fs ts) part net ended × besides part net ended

  -- or until one had a fault, over queues of this capacity. What was read then is bounded where the scheduler bounds it
  abbrev pub Stopped : Type 0 → ℕ → List (List ℕ) → List (Node (StageWork S K P Q)) → List (Node (StageWork S K P Q)) → Type 0
  Stopped bounded queue part net ended = IsStoppedTree (as_works s k fs ts) part net ended × SomeFault (as_works s k fs ts) ended × (bounded → IsReadAhead (as_works s k fs ts) part queue net ended)

  -- the same of a net whose root makes chunks of so many points
  abbrev pub StoppedOver : Type 0 → ℕ → ℕ → List (List ℕ) → List (Node (StageWork S K P Q)) → List (Node (StageWork S K P Q)) → Type 0
  StoppedOver bounded queue chunk part net ended = IsStoppedTree (as_works s k fs ts) part net ended × SomeFault (as_works s k fs ts) ended × (bounded → IsReadAhead (as_works s k fs ts) part queue net ended)
      × ((n : Node (StageWork S K P Q)) → slice_get net (length net - 1) ≡ Some n → n.chunk ≡ chunk)

  -- this became of the nodes of a part, and memory was wanting at none; each is back at its place
  pub record IsPart (became : List (Node (StageWork S K P Q)) → List (Node (StageWork S K P Q)) → Type 0) (part : List (List ℕ)) (homes : List ℕ) (home root : ℕ) (nodes after : List (Node (StageWork S K P Q))) : Type 0 where
    pub net : List (Node (StageWork S K P Q))
    pub ended : List (Node (StageWork S K P Q))
    pub is_net : IsNet part homes home root nodes net
    pub turned : became net ended
    pub enough : NoneShort ended
    pub count : length after ≡ length nodes
    pub back : (i : ℕ) → i ≤ root → is_own homes home root i ≡ true → slice_get after i ≡ slice_get ended i
    pub other : (i : ℕ) → i ≤ root → is_own homes home root i ≡ false → slice_get after i ≡ slice_get nodes i
    pub beyond : (i : ℕ) → root < i → slice_get after i ≡ slice_get nodes i

  -- the nodes of a part took turns until all were done, or until one had a fault
  abbrev pub IsPartRun : Besides S K P Q → List (List ℕ) → List ℕ → ℕ → ℕ → List (Node (StageWork S K P Q)) → List (Node (StageWork S K P Q)) → Type 0
  IsPartRun besides part = IsPart (Ran besides part) part

  abbrev pub IsPartStopped : Type 0 → ℕ → ℕ → List (List ℕ) → List ℕ → ℕ → ℕ → List (Node (StageWork S K P Q)) → List (Node (StageWork S K P Q)) → Type 0
  IsPartStopped bounded queue chunk part = IsPart (StoppedOver bounded queue chunk part) part

  -- this became of the node at a place, a leaf, alone
  pub record IsLeaf (became : List (Node (StageWork S K P Q)) → List (Node (StageWork S K P Q)) → Type 0) (at : ℕ) (nodes after : List (Node (StageWork S K P Q))) : Type 0 where
    pub was : Node (StageWork S K P Q)
    pub is : Node (StageWork S K P Q)
    pub before : slice_get nodes at ≡ Some was
    pub turned : became (was ∷ []) (is ∷ [])
    pub enough : is_short is.work ≡ false
    pub count : length after ≡ length nodes
    pub back : slice_get after at ≡ Some is
    pub other : (i : ℕ) → i ≢ at → slice_get after i ≡ slice_get nodes i

  -- it gave all it had, or up to its fault
  abbrev pub IsLeafRun : Besides S K P Q → ℕ → List (Node (StageWork S K P Q)) → List (Node (StageWork S K P Q)) → Type 0
  IsLeafRun besides = IsLeaf (Ran besides ([] ∷ []))

  abbrev pub IsLeafStopped : Type 0 → ℕ → ℕ → List (Node (StageWork S K P Q)) → List (Node (StageWork S K P Q)) → Type 0
  IsLeafStopped bounded queue = IsLeaf (Stopped bounded queue ([] ∷ []))

  -- the stage at a place made of the views that it took what it is to make, and gives that
  pub record IsGatheredAt (at : ℕ) (nodes after : List (Node (StageWork S K P Q))) : Type 0 where
    pub count : length after ≡ length nodes
    pub here : (n m : Node (StageWork S K P Q)) → slice_get nodes at ≡ Some n → slice_get after at ≡ Some m → IsGathered n.work m.work
    pub leaf : (m : Node (StageWork S K P Q)) → slice_get after at ≡ Some m → IsNewLeaf m
    pub other : (i : ℕ) → i ≢ at → slice_get after i ≡ slice_get nodes i

  -- ---- all parts

  module _ (stages : List StageSpec) (homes : List ℕ) (old : List (Node (StageWork S K P Q))) where
    -- the part of stage i was run, where those of the homes below this one were
    abbrev pub is_past : ℕ → ℕ → Bool
    is_past done i = nat_lt (home_at homes i) done

    -- no device failed in the parts that were run
    abbrev pub NoneFailedBefore : ℕ → List (Node (StageWork S K P Q)) → Type 0
    NoneFailedBefore done now = (i : ℕ) (m : Node (StageWork S K P Q)) → slice_get now i ≡ Some m → is_past done i ≡ true → is_device m.fault ≡ false

    -- the nodes once the parts of the homes below this one were run: those of the parts ended as their stages say, those below it that
    -- need whole views give what they made of them, and all others had no turn yet
    pub record AreRunBefore (done : ℕ) (now : List (Node (StageWork S K P Q))) : Type 0 where
      pub past : (opened : Opened) → NoneFailedBefore done now → RunOn s fs ts stages old opened
          → (i : ℕ) (m : Node (StageWork S K P Q)) → slice_get now i ≡ Some m → is_past done i ≡ true → EndsAsStage s k fs ts stages opened i m
      pub held : (i : ℕ) (m : Node (StageWork S K P Q)) → slice_get now i ≡ Some m → is_past done i ≡ false → i < done → is_gathering (role_at stages i) ≡ true → IsNewLeaf m
      pub gives : (opened : Opened) → NoneFailedBefore done now → RunOn s fs ts stages old opened
          → (i : ℕ) (m : Node (StageWork S K P Q)) → slice_get now i ≡ Some m → is_past done i ≡ false → i < done → is_gathering (role_at stages i) ≡ true
          → GivesAsStage stages opened i m
      pub waits : (i : ℕ) (m : Node (StageWork S K P Q)) → slice_get now i ≡ Some m → is_past done i ≡ false → (i < done → is_gathering (role_at stages i) ≡ true → ⊥) → slice_get old i ≡ Some m

    -- ---- one part after the other

    module _ (besides : Besides S K P Q) where
      -- the part of this home and root was run
      abbrev pub PartRan : ℕ → ℕ → List (Node (StageWork S K P Q)) → List (Node (StageWork S K P Q)) → Type 0
      PartRan home root now after = IsPartRun besides (part_ins (gathers_of stages) (ins_of stages) homes home root) homes home root now after

      -- stage w needs whole views: its part was run, and it made of them what it is to make
      pub record IsTurn (w : ℕ) (now last : List (Node (StageWork S K P Q))) : Type 0 where
        pub gathers : is_gathering (role_at stages w) ≡ true
        pub after : List (Node (StageWork S K P Q))
        pub ran : PartRan w w now after
        pub made : IsGatheredAt w after last

      -- those of the first stages that need whole views took their turns, in the order of their numbers
      abbrev pub AreTurned : ℕ → List (Node (StageWork S K P Q)) → Type 0
      AreTurned zero now = now ≡ old
      AreTurned (suc w) now = (before : List (Node (StageWork S K P Q))) × AreTurned w before
          × (IsTurn w before now ⊎ ((is_gathering (role_at stages w) ≡ false) × (now ≡ before)))

      -- then the last stage, with what stands below it alone, came to its end
      pub record AreRunInTurn (new : List (Node (StageWork S K P Q))) : Type 0 where
        pub now : List (Node (StageWork S K P Q))
        pub turned : AreTurned (length stages) now
        pub streams : is_gathering (role_at stages (length stages - 1)) ≡ false → PartRan (length stages) (length stages - 1) now new
        pub gathers : is_gathering (role_at stages (length stages - 1)) ≡ true → IsLeafRun besides (length stages - 1) now new

  -- the parts of a tree of stages were run one after the other
  pub record ByParts (stages : List StageSpec) (besides : Besides S K P Q) (old new : List (Node (StageWork S K P Q))) : Type 0 where
    pub homes : List ℕ
    pub are : AreHomes (gathers_of stages) (ins_of stages) homes
    pub ran : AreRunInTurn stages homes old besides new
