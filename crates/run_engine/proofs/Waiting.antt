-- Runs that wait for an engine.
use Rattle.std.proofs.Common.{◌≡◌, ℕ, List, Result, Ok, Err, OnErr, sym, subst}
use Rattle.file_devices.specs.declared.devices.Source as source
use Rattle.file_devices.specs.declared.devices.Sink as sink
use Rattle.run_outcome.specs.declared.ended.Ended.{Ended}
use Rattle.stage_options.specs.declared.stage.StageSpec.{StageSpec}
use Rattle.run_engine.specs.declared.engine.Engine.{Engine}
use Rattle.run_engine.specs.declared.engine.Engine.TheVariants as engine
use Rattle.run_engine.specs.declared.job.Step.TheVariants.{Turns, Done, Short}
use Rattle.run_engine.specs.declared.room.TurnRoom.{TurnRoom}
use Rattle.run_engine.specs.Jobs.{IsTurnRoom, IsWaiting}
use Rattle.plug_stages.specs.declared.filter.PlugFilter as plug_type
use Rattle.plug_stages.specs.declared.tally.PlugTally as tally_type

module _ {S K P Q E : Type 0} (s : source.Ghosts S) (k : sink.Ghosts K) (fs : plug_type.Ghosts P) (ts : tally_type.Ghosts Q) (fits : ℕ → ℕ → E → Type 0) (stages : List StageSpec) where
  -- where they wait for turns it is in memory of the shape that this says
  pub turns-room : (chosen : Engine) (room : TurnRoom S K P Q E) → IsWaiting s k fs ts fits chosen stages (Turns room) → IsTurnRoom s k fs ts fits room.shape stages room
  turns-room (engine.Queues shape) room waits = subst (λ x. IsTurnRoom s k fs ts fits x stages room) (sym waits.cut) waits
  turns-room engine.Whole room waits = absurd waits

  -- those that came to their end don't wait
  pub not-done : (chosen : Engine) (ended : Ended) → IsWaiting s k fs ts fits chosen stages (Done ended) → ⊥
  not-done (engine.Queues shape) ended waits = waits
  not-done engine.Whole ended waits = waits

  pub not-short : (chosen : Engine) → IsWaiting s k fs ts fits chosen stages Short → ⊥
  not-short (engine.Queues shape) waits = waits
  not-short engine.Whole waits = waits

pub on-any-err : {R E : Type 0} (o : Result R E) {P : Type 0} → P → OnErr o P
on-any-err (Ok r) p = tt
on-any-err (Err e) p = p

pub on-err : {R E : Type 0} (o : Result R E) (f : E) {P : Type 0} → o ≡ Err f → OnErr o P → P
on-err (Ok r) f e p = cc
on-err (Err g) f e p = p
