-- How the elements of a list are judged: each against the stages before it.
use Rattle.std.specs.Prelude.{ℕ, ◌≡◌, ◌≤◌, ◌<◌, ◌+◌, ◌⊎◌, List, [], length, take, drop, filter, false, not, Option, Some, None, Ok, Err, slice_get}
use Rattle.std.specs.List.{range_with_len}
use Rattle.serde_json.specs.Data.{Data}
use Rattle.stage_names.specs.Kinds.{is_reader}
use Rattle.stage_names.specs.declared.faults.PipeFault.{PipeFault}
use Rattle.pipeline_json.specs.Lists.{has}
use Rattle.pipeline_json.specs.Stages.{Stage, Parts, element_parts, taken, stage_fault, stage_of}
use Rattle.pipeline_json.specs.Trees.{loose, or_loose, is_end, stages_of}

-- the fault of element i, judged alone against the first i stages
abbrev pub fault_at : List Data → List Stage → ℕ → Data → Option PipeFault
fault_at ds stages i d = stage_fault (take i stages) (is_end (take i stages) (drop (i + 1) ds)) d

-- the stage that it is there
abbrev pub stage_at : List Data → List Stage → ℕ → Data → Stage
stage_at ds stages i d = stage_of (take i stages) (is_end (take i stages) (drop (i + 1) ds)) d

-- these are the stages of the first elements, and none of these has a fault
pub record AreJudged (ds : List Data) (stages : List Stage) : Type 0 where
  pub within : length stages ≤ length ds
  pub faultless : (i : ℕ) (d : Data) → i < length stages → slice_get ds i ≡ Some d → fault_at ds stages i d ≡ None
  pub each : (i : ℕ) (d : Data) → i < length stages → slice_get ds i ≡ Some d → slice_get stages i ≡ Some (stage_at ds stages i d)

-- the element behind these stages has this fault
abbrev pub IsFaulty : List Data → List Stage → PipeFault → Type 0
IsFaulty ds stages f = (d : Data) × (slice_get ds (length stages) ≡ Some d) × (fault_at ds stages (length stages) d ≡ Some f)

-- where no element has a fault, the outcome is their stages, if each but the last is taken
abbrev pub AllAreRead : Type 0
AllAreRead = (ds : List Data) (stages : List Stage) → AreJudged ds stages → length stages ≡ length ds
    → stages_of [] ds ≡ or_loose (loose stages) stages

-- the first element with a fault decides
abbrev pub FirstFaultDecides : Type 0
FirstFaultDecides = (ds : List Data) (stages : List Stage) (f : PipeFault) → AreJudged ds stages → IsFaulty ds stages f
    → stages_of [] ds ≡ Err f

-- each list of elements is of one of these two kinds
abbrev pub EachIsJudged : Type 0
EachIsJudged = (ds : List Data) → (stages : List Stage) × AreJudged ds stages
    × ((length stages ≡ length ds) ⊎ ((f : PipeFault) × IsFaulty ds stages f))

-- a stage without inputs that is no reader takes the stages before it that none before it takes, in their order
abbrev pub PilesAreTaken : Type 0
PilesAreTaken = (ds : List Data) (stages : List Stage) → stages_of [] ds ≡ Ok stages
    → (i : ℕ) (d : Data) (p : Parts) (s : Stage) → slice_get ds i ≡ Some d → element_parts d ≡ Some p → p.inputs ≡ None
    → slice_get stages i ≡ Some s → is_reader s.kind ≡ false
    → s.ins ≡ filter (λ j. not (has (taken (take i stages)) j)) (range_with_len 0 i)
