-- Stages whose turns end at the first fault.
use Rattle.std.proofs.Common.{◌≡◌, ℕ, zero, suc, ◌<◌, List, [], ◌∷◌, length, Option, Some, Result, Ok, Err, IfOk, OnErr, refl, sym, ◌∙◌, inl, arith}
use Rattle.std.proofs.lemmas.Option.{none-some}
use Rattle.file_devices.specs.Named.{Names}
use Rattle.file_devices.specs.declared.devices.Source as source
use Rattle.file_devices.specs.declared.devices.Sink as sink
use Rattle.cloud_points.specs.declared.faults.StageFault.{StageFault}
use Rattle.network_core.specs.declared.stop.Stop.{Stop}
use Rattle.network_core.specs.declared.stop.Stop.TheVariants.{Last, First}
use Rattle.stage_kinds.specs.declared.stage_work.StageWork.{StageWork}
use Rattle.stage_options.specs.declared.stage.StageSpec.{StageSpec}
use Rattle.run_report.specs.declared.report.StageCount.{StageCount}
use Rattle.run_report.specs.declared.refusal.Refusal.{Refusal}
use Rattle.run_report.specs.declared.refusal.Refusal.TheVariants as of
use Rattle.answer_model.specs.Values.{Opened}
use Rattle.run_outcome.specs.Faults.{HaveFaults, fault_at}
use Rattle.run_outcome.specs.Cause.{IsCause}
use Rattle.run_outcome.proofs.Causes.{cause-weaker}
use Rattle.set_engine.specs.Evaluated.{HaveEnded}
use Rattle.stage_runs.specs.declared.halt.Halt.{Halt}
use Rattle.stage_runs.specs.declared.halt.Halt.TheVariants.{Memory, Fault}
use Rattle.run_engine.specs.declared.engine.Engine.{Engine}
use Rattle.run_engine.specs.declared.engine.Engine.TheVariants as engine
use Rattle.run_engine.specs.declared.job.Step.TheVariants.{Turns, Whole}
use Rattle.run_engine.specs.declared.room.TurnRoom.{TurnRoom}
use Rattle.run_engine.specs.Jobs.{IsWaiting}
use Rattle.run_engine.specs.Stopping.{HaveFaultsBy, HaveEndedBy, IsCauseBy, ends_at}
use Rattle.plug_stages.specs.declared.filter.PlugFilter as plug_type
use Rattle.plug_stages.specs.declared.tally.PlugTally as tally_type
use Rattle.plug_stages.specs.Handed.{Handed}

-- ---- causes

pub cause-by : (rose : Type 0) (handed : Handed) (map : Option Names) (stages : List StageSpec) (stop : Stop) (r : Refusal) → IsCause rose handed map stages r → IsCauseBy stop rose handed map stages r
cause-by rose handed map stages Last (of.Data i f) c = c
cause-by rose handed map stages First (of.Data i f) c = λ m e. inl (c m e)
cause-by rose handed map stages stop of.Memory c = c
cause-by rose handed map stages stop (of.Device p o) c = c
cause-by rose handed map stages stop (of.Pipeline f) c = c
cause-by rose handed map stages stop (of.Usage k) c = c

pub cause-by-weaker : {P Q : Type 0} (stop : Stop) (handed : Handed) (map : Option Names) (stages : List StageSpec) (r : Refusal) → (P → Q) → IsCauseBy stop P handed map stages r → IsCauseBy stop Q handed map stages r
cause-by-weaker stop handed map stages (of.Data i f) g c = c
cause-by-weaker stop handed map stages of.Memory g c = cause-weaker handed map stages of.Memory g c
cause-by-weaker stop handed map stages (of.Device p o) g c = cause-weaker handed map stages (of.Device p o) g c
cause-by-weaker stop handed map stages (of.Pipeline f) g c = cause-weaker handed map stages (of.Pipeline f) g c
cause-by-weaker stop handed map stages (of.Usage k) g c = cause-weaker handed map stages (of.Usage k) g c

-- ---- what they come to

fault-inside : (faults : List (Option StageFault)) (i : ℕ) (f : StageFault) → fault_at faults i ≡ Some f → i < length faults
fault-inside [] i f e = absurd (none-some f e)
fault-inside (x ∷ faults) zero f e = omega arith
fault-inside (x ∷ faults) (suc i) f e = let l = fault-inside faults i f e in omega (arith, l)

-- all faults are among those that may be seen
all-seen : (stop : Stop) (stages : List StageSpec) (opened : Opened) (found : List (Option StageFault)) → length found ≡ length stages → HaveFaults stages opened found → HaveFaultsBy stop stages opened found
all-seen Last stages opened found size have = have
all-seen First stages opened found size have = λ i f e. sym (have i (let l = fault-inside found i f e in omega (arith, l, size))) ∙ e

-- stages that ended have ended, wherever turns may end
pub ended-by : {S K P Q : Type 0} (s : source.Ghosts S) (k : sink.Ghosts K) (fs : plug_type.Ghosts P) (ts : tally_type.Ghosts Q) (stop : Stop) (stages : List StageSpec) (old new : List (StageWork S K P Q)) (found : List (Option StageFault)) (counts : List StageCount)
    → HaveEnded s k fs ts stages old new found counts → HaveEndedBy s k fs ts stop stages old new found counts
ended-by s k fs ts stop stages old new found counts ended = record {
  count = ended.count;
  caused = ended.caused;
  faulty = λ none opened tell. all-seen stop stages opened found ended.count (ended.faulty none opened tell);
  sound = ended.sound;
}

-- ---- answers

pub three-if-ok : {T E : Type 0} (r : Result T E) (O P Q R : T → Type 0) → IfOk r O → IfOk r P → IfOk r Q → ((x : T) → O x → P x → Q x → R x) → IfOk r R
three-if-ok (Ok x) O P Q R o p q f = f x o p q
three-if-ok (Err e) O P Q R o p q f = tt

pub on-err-so : {T E : Type 0} (r : Result T E) (P Q : Type 0) → OnErr r P → (P → Q) → OnErr r Q
on-err-so (Ok x) P Q p f = tt
on-err-so (Err e) P Q p f = f p

pub by-halt : (halt : Halt) {P : Type 0} → (halt ≡ Memory → P) → (halt ≡ Fault → P) → P
by-halt Memory m f = m refl
by-halt Fault m f = f refl

-- ---- engines

module _ {S K P Q E : Type 0} (s : source.Ghosts S) (k : sink.Ghosts K) (fs : plug_type.Ghosts P) (ts : tally_type.Ghosts Q) (fits : ℕ → ℕ → E → Type 0) (stages : List StageSpec) (stop : Stop) where
  pub turns-stop : (chosen : Engine) (room : TurnRoom S K P Q E) → IsWaiting s k fs ts fits chosen stages (Turns room) → stop ≡ ends_at chosen stop
  turns-stop (engine.Queues shape) room waits = refl
  turns-stop engine.Whole room waits = absurd waits

  pub whole-stop : (chosen : Engine) → IsWaiting s k fs ts fits chosen stages Whole → Last ≡ ends_at chosen stop
  whole-stop engine.Whole waits = refl
  whole-stop (engine.Queues shape) waits = absurd waits
