-- A run between its steps.
use Rattle.std.specs.Prelude.{◌≡◌, ◌≤◌, ℕ, [], List, length, vec_capacity, Option, Some, ⊤}
use Rattle.file_devices.specs.Named.{Names}
use Rattle.file_devices.specs.declared.devices.Source as source
use Rattle.file_devices.specs.declared.devices.Sink as sink
use Rattle.stage_kinds.specs.declared.stage_work.StageWork.{StageWork}
use Rattle.stage_kinds.specs.Held.{faults_of}
use Rattle.stage_options.specs.declared.stage.StageSpec.{StageSpec}
use Rattle.run_report.specs.declared.refusal.Refusal.{Refusal}
use Rattle.run_report.specs.declared.refusal.Refusal.TheVariants.{Memory}
use Rattle.run_outcome.specs.Outcomes.{refusal_for}
use Rattle.stage_runs.specs.Ahead.{AreReadAhead}
use Rattle.stage_runs.specs.Rooms.{IsStageRoom}
use Rattle.run_engine.specs.declared.job.Job.{Job}
use Rattle.run_engine.specs.declared.job.Step.{Step}
use Rattle.run_engine.specs.declared.job.Step.TheVariants.{Turns, Whole, Done, Short}
use Rattle.run_engine.specs.declared.engine.Engine.{Engine}
use Rattle.run_engine.specs.declared.engine.Engine.TheVariants.{Queues, Whole as Whole_views}
use Rattle.run_engine.specs.declared.shape.Shape.{Shape}
use Rattle.run_engine.specs.declared.room.TurnRoom.{TurnRoom}
use Rattle.stage_forms.specs.Later.{AreLater}
use Rattle.network_core.specs.declared.stop.Stop.{Stop}
use Rattle.plug_stages.specs.Handed.{Handed}
use Rattle.run_opening.specs.Ready.{AreReady}
use Rattle.run_engine.specs.Stopping.{HaveEndedBy}
use Rattle.plug_stages.specs.declared.filter.PlugFilter as plug_type
use Rattle.plug_stages.specs.declared.tally.PlugTally as tally_type

-- a run whose stages wait to take turns
abbrev pub TakesTurns : {S K P Q E : Type 0} → Step S K P Q E → Type 0
TakesTurns (Turns room) = ⊤
TakesTurns _ = ⊥

-- a run for which memory was wanting
abbrev pub IsShort : {S K P Q E : Type 0} → Step S K P Q E → Type 0
IsShort Short = ⊤
IsShort _ = ⊥

-- a run whose stages came to this refusal
abbrev pub CameTo : {S K P Q E : Type 0} → Refusal → Step S K P Q E → Type 0
CameTo refusal (Done ended) = refusal_for ended.faults.items ≡ Some refusal
CameTo refusal Short = refusal ≡ Memory
CameTo refusal _ = ⊥

-- what fits so many nodes, over queues of this capacity
module _ {S K P Q E : Type 0} (s : source.Ghosts S) (k : sink.Ghosts K) (fs : plug_type.Ghosts P) (ts : tally_type.Ghosts Q) (fits : ℕ → ℕ → E → Type 0) where
  -- the memory for the turns of these stages, in pieces of this shape
  pub record IsTurnRoom (shape : Shape) (stages : List StageSpec) (room : TurnRoom S K P Q E) : Type 0 where
    pub cut : room.shape ≡ shape
    pub chunk : room.stages.sizes.chunk ≡ shape.chunk
    pub queue : room.stages.sizes.queue ≡ shape.queue
    pub nodes_empty : room.nodes.items ≡ []
    pub nodes_room : length stages ≤ vec_capacity room.nodes
    pub works_empty : room.works.items ≡ []
    pub works_room : length stages ≤ vec_capacity room.works
    pub parts : IsStageRoom s k fs ts fits stages room.stages

  -- stages that wait for this engine: to take turns in memory of its shape, or to be evaluated whole
  abbrev pub IsWaiting : Engine → List StageSpec → Step S K P Q E → Type 0
  IsWaiting (Queues shape) stages (Turns room) = IsTurnRoom shape stages room
  IsWaiting Whole_views stages Whole = ⊤
  IsWaiting engine stages step = ⊥

  -- a run that is prepared for this engine, where this was handed in
  pub record IsReady (engine : Engine) (handed : Handed) (map : Option Names) (stages : List StageSpec) (job : Job S K P Q E) : Type 0 where
    pub works : AreReady s k fs ts handed map stages job.works.items
    pub waits : IsWaiting engine stages job.step

module _ {S K P Q E : Type 0} (s : source.Ghosts S) (k : sink.Ghosts K) (fs : plug_type.Ghosts P) (ts : tally_type.Ghosts Q) where
  -- what the stages came to, if memory wasn't wanting
  abbrev pub HaveCome : Stop → List StageSpec → List (StageWork S K P Q) → List (StageWork S K P Q) → Step S K P Q E → Type 0
  HaveCome stop stages old new (Done ended) = HaveEndedBy s k fs ts stop stages old new ended.faults.items ended.report.items
  HaveCome stop stages old new Short = ⊤
  HaveCome stop stages old new _ = ⊥

  -- a run that was prepared over these files and what was handed in, and whose stages had their turns, which end there
  pub record HasRun (stop : Stop) (handed : Handed) (map : Option Names) (stages : List StageSpec) (job : Job S K P Q E) : Type 0 where
    pub before : List (StageWork S K P Q)
    pub ready : AreReady s k fs ts handed map stages before
    pub later : AreLater fs ts (faults_of s.faults k.faults) before job.works.items
    pub came : HaveCome stop stages before job.works.items job.step

  -- stages that ended at the first fault, over queues and chunks of this shape: their readers have read no further than so
  abbrev pub HaveReadBy : Engine → List StageSpec → List (StageWork S K P Q) → List (StageWork S K P Q) → Step S K P Q E → Type 0
  HaveReadBy (Queues shape) stages old new (Done ended) = AreReadAhead s fs ts stages shape.queue shape.chunk old new ended.faults.items
  HaveReadBy engine stages old new step = ⊤
