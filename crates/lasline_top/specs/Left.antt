-- What the files tell, and what a refusal of a command leaves of them.
use Rattle.std.specs.Prelude.{◌≡◌, ◌⊎◌, ℕ, List, true, Option, Some, is_some, Result, Ok}
use Rattle.file_devices.specs.Named.{Names}
use Rattle.cloud_gen.specs.GeneratedFile.{generated_file, IsPut, IsLeft as IsUnmade}
use Rattle.cloud_gen.specs.declared.faults.GenerateError.TheVariants as generating
use Rattle.run_report.specs.declared.refusal.Place.TheVariants as at
use Rattle.run_report.specs.declared.refusal.Refusal.{Refusal}
use Rattle.run_report.specs.declared.refusal.Refusal.TheVariants as of
use Rattle.answer_model.specs.Steps.{and_then}
use Rattle.run_outcome.specs.Cause.{IsLeft}
use Rattle.lasline_top.specs.Words.{Task, Make_file, Trial}
use Rattle.lasline_top.specs.Answer.{done, trial_name, with_trial, trial_run}
use Rattle.plug_stages.specs.Handed.{Handed}

-- the files tell what names have: at entry, and at the return too where the command reads a file that it wrote
abbrev pub AreTold : Result Task Refusal → Option Names → Option Names → Names → Type 0
AreTold (Ok (Trial count engine)) old new m = (old ≡ Some m) × (is_some new ≡ true)
AreTold task old new m = old ≡ Some m

-- what is left where a file of generated points was to be made: what a call leaves that couldn't make it, and the file where only
-- its line couldn't be printed
abbrev pub IsMadeLeft : Refusal → Option Names → List ℕ → List ℕ → Option Names → Type 0
IsMadeLeft of.Memory old name bytes new = IsUnmade generating.Memory old name bytes new
IsMadeLeft (of.Device at.Generated o) old name bytes new = IsUnmade (generating.Device o) old name bytes new
IsMadeLeft (of.Device at.Out o) old name bytes new = IsPut old name bytes new
IsMadeLeft refusal old name bytes new = new ≡ old

-- and of a trial: as much, where the file couldn't be made, and else the file, and of the run what that leaves
abbrev pub IsTrialLeft : Handed → Refusal → Option Names → Option Names → Names → ℕ → Type 0
IsTrialLeft handed of.Memory old new m count =
    IsUnmade generating.Memory old trial_name (generated_file count) new ⊎ IsLeft of.Memory (Some (with_trial m count)) new (trial_run handed m count)
IsTrialLeft handed (of.Device at.Generated o) old new m count = IsUnmade (generating.Device o) old trial_name (generated_file count) new
IsTrialLeft handed refusal old new m count = IsLeft refusal (Some (with_trial m count)) new (trial_run handed m count)

-- what the refusal of a command leaves
abbrev pub IsLeftBy : Handed → Result Task Refusal → Refusal → Option Names → Option Names → Names → Type 0
IsLeftBy handed (Ok (Make_file count name)) refusal old new m = IsMadeLeft refusal old name (generated_file count) new
IsLeftBy handed (Ok (Trial count engine)) refusal old new m = IsTrialLeft handed refusal old new m count
IsLeftBy handed task refusal old new m = IsLeft refusal old new (and_then task (done handed m))
