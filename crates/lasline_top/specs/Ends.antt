-- How a command ends.
use Rattle.std.specs.Prelude.{◌≡◌, ◌⊎◌, ℕ, List, Option, Result, IsOkAnd, Some}
use Rattle.file_devices.specs.Named.{Names}
use Rattle.file_devices.specs.declared.devices.Op.{Op}
use Rattle.file_devices.specs.declared.devices.Op.TheVariants as op
use Rattle.cloud_gen.specs.GeneratedFile.{IsLeft as IsUnmade}
use Rattle.cloud_gen.specs.declared.faults.GenerateError.TheVariants as generating
use Rattle.network_core.specs.declared.stop.Stop.{Stop}
use Rattle.run_report.specs.declared.refusal.Place.TheVariants as at
use Rattle.run_report.specs.declared.refusal.Refusal.{Refusal}
use Rattle.run_report.specs.declared.refusal.Refusal.TheVariants as of
use Rattle.run_outcome.specs.Cause.{Because, IsDone, IsPartDone, IsLeft}
use Rattle.lasline_top.specs.Words.{Task}
use Rattle.lasline_top.specs.Answer.{answered, runnable_in, text_run}
use Rattle.lasline_top.specs.Cause.{Risen, IsOfRun, AtMade, AtStages, AtTask}
use Rattle.lasline_top.specs.Left.{AreTold, IsLeftBy}
use Rattle.lasline_top.specs.Stopping.{IsSeen, IsSeenBy}
use Rattle.plug_stages.specs.Handed.{Handed}

-- it was done: its outputs were put, and its report was printed
abbrev pub WasDone : Handed → Result Task Refusal → Option Names → Option Names → Option (List ℕ) → Option (List ℕ) → Type 0
WasDone handed task old new out_before out = (m : Names) → AreTold task old new m → IsOkAnd (answered handed task m) (IsDone old new out_before out)

-- it was refused, where the faults of the files and of the output rose or didn't
pub record WasRefused (handed : Handed) (task : Result Task Refusal) (files_rose out_rose : Type 0) (old new : Option Names) (out_before out : Option (List ℕ)) (refusal : Refusal) : Type 0 where
  -- for its own refusal, for want of memory, for a device that failed, or for a fault that was seen
  pub because : (m : Names) → AreTold task old new m → Because (answered handed task m) (AtTask handed files_rose out_rose m task) refusal ⊎ IsSeenBy handed task m refusal
  pub risen : Risen files_rose out_rose old refusal
  pub out_risen : (o : Op) → refusal ≡ of.Device at.Out o → (o ≡ op.Write) × out_rose
  -- and left this
  pub left : (m : Names) → AreTold task old new m → IsLeftBy handed task refusal old new m
  -- nothing was printed, or where only the output failed a part of what there was to print
  pub quiet : (out ≡ out_before) ⊎ ((refusal ≡ of.Device at.Out op.Write) × ((m : Names) → AreTold task old new m → IsOkAnd (answered handed task m) (IsPartDone old new out_before out)))

-- a file of generated points wasn't made: memory was wanting, or its device failed
abbrev pub WasUnmade : Type 0 → Option Names → List ℕ → List ℕ → Option Names → Refusal → Type 0
WasUnmade rose old name bytes new of.Memory = IsUnmade generating.Memory old name bytes new
WasUnmade rose old name bytes new (of.Device at.Generated o) = AtMade rose ⊥ at.Generated o × IsUnmade (generating.Device o) old name bytes new
WasUnmade rose old name bytes new refusal = ⊥

-- the run of a text was refused whose turns end there, where the faults of the files rose or didn't
pub record WasStopped (handed : Handed) (stop : Stop) (rose : Type 0) (old new : Option Names) (text : List ℕ) (refusal : Refusal) : Type 0 where
  pub of_run : IsOfRun refusal
  -- for its own refusal, for want of memory, for a stage's device that failed, or for a fault that was seen
  pub because : (m : Names) → old ≡ Some m → Because (text_run handed m text) (AtStages handed rose ⊥ m (runnable_in handed text) ⊥) refusal
      ⊎ IsSeen stop handed m (runnable_in handed text) refusal
  pub risen : Risen rose ⊥ old refusal
  -- and left this
  pub left : (m : Names) → old ≡ Some m → IsLeft refusal old new (text_run handed m text)
