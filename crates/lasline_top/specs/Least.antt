-- Which device is named where a pipeline is run, by the counts that the files tell of what was given back.
use Rattle.std.specs.Prelude.{◌≡◌, ◌<◌, ◌∷◌, ℕ, List, Option, option_map, Result, Ok, ⊤}
use Rattle.file_devices.specs.Named.{Names}
use Rattle.file_devices.specs.declared.devices.Op.TheVariants as op
use Rattle.file_devices.specs.Told.{IsAsTold}
use Rattle.plug_stages.specs.Handed.{Handed}
use Rattle.run_outcome.specs.Least.{IsNamedBy}
use Rattle.run_report.specs.declared.refusal.Fault.TheVariants as fault
use Rattle.run_report.specs.declared.refusal.Place.TheVariants as at
use Rattle.run_report.specs.declared.refusal.Refusal.{Refusal}
use Rattle.run_report.specs.declared.refusal.Refusal.TheVariants as of
use Rattle.stage_options.specs.declared.stage.StageSpec.{StageSpec}
use Rattle.lasline_top.specs.Answer.{runnable_in, runnable_of, trial_text}
use Rattle.lasline_top.specs.Words.{Task, Run_file, Trial}

-- one file was given back
abbrev pub GaveOne : Option (List ℕ) → Option (List ℕ) → Type 0
GaveOne before after = (c : ℕ) × IsAsTold after (option_map (λ cs. c ∷ cs) before)

-- where the file of a pipeline isn't read: where it couldn't be opened none was given back, where it couldn't be read it was given
-- back with a fault, and where its text is at fault it was given back
abbrev pub IsToldUnread : Option (List ℕ) → Option (List ℕ) → Refusal → Type 0
IsToldUnread before after (of.Device at.PipelineFile op.Open) = after ≡ before
IsToldUnread before after (of.Device at.PipelineFile op.Read) = (c : ℕ) × (0 < c) × IsAsTold after (option_map (λ cs. c ∷ cs) before)
IsToldUnread before after (of.Pipeline f) = GaveOne before after
IsToldUnread before after refusal = ⊤

-- in the run of this text: the device that is named is that of the first stage whose own file failed, and a point is named where none did
abbrev pub IsTextNamed : Handed → List ℕ → Option (List ℕ) → Option (List ℕ) → Refusal → Type 0
IsTextNamed handed text before after refusal = (stages : List StageSpec) → runnable_in handed text ≡ Ok stages → IsNamedBy stages before after refusal

-- in that of this plan, before which one file was given back: the pipeline's own, or the one that a trial makes
abbrev pub IsNamedBehind : Result (List StageSpec) Refusal → Option (List ℕ) → Option (List ℕ) → Refusal → Type 0
IsNamedBehind plan before after refusal = (stages : List StageSpec) → plan ≡ Ok stages → (mid : Option (List ℕ)) × GaveOne before mid × IsNamedBy stages mid after refusal

abbrev pub IsPlanNamed : Result (List StageSpec) Refusal → Option (List ℕ) → Option (List ℕ) → Refusal → Type 0
IsPlanNamed plan before after (of.Device (at.Stage i) o) = IsNamedBehind plan before after (of.Device (at.Stage i) o)
IsPlanNamed plan before after (of.Data i (fault.Point f)) = IsNamedBehind plan before after (of.Data i (fault.Point f))
IsPlanNamed plan before after refusal = ⊤

-- so it is of a command that runs a pipeline
abbrev pub IsLeastNamed : Handed → Result Task Refusal → Names → Option (List ℕ) → Option (List ℕ) → Refusal → Type 0
IsLeastNamed handed (Ok (Run_file file engine)) m before after refusal = IsPlanNamed (runnable_of handed m file) before after refusal
IsLeastNamed handed (Ok (Trial count engine)) m before after refusal = IsPlanNamed (runnable_in handed trial_text) before after refusal
IsLeastNamed handed task m before after refusal = ⊤
