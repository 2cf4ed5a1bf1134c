-- Why a command was refused, and what is told of it.
use Rattle.std.specs.Prelude.{◌≡◌, ◌⊎◌, ℕ, List, Option, Some, None, Result, Ok, Err, IsOk, IsOkAnd, ⊤}
use Rattle.file_devices.specs.Counts.{Rose}
use Rattle.file_devices.specs.Content.{Appends, AppendsPart}
use Rattle.file_devices.specs.declared.devices.Op.{Op}
use Rattle.file_devices.specs.declared.devices.Op.TheVariants as op
use Rattle.file_devices.specs.Named.{Names}
use Rattle.stage_options.specs.declared.stage.StageSpec.{StageSpec}
use Rattle.run_report.specs.declared.refusal.Place.{Place}
use Rattle.run_report.specs.declared.refusal.Place.TheVariants as at
use Rattle.run_report.specs.declared.refusal.Refusal.{Refusal}
use Rattle.run_report.specs.declared.refusal.Refusal.TheVariants as of
use Rattle.run_outcome.specs.Cause.{MayFail}
use Rattle.lasline_top.specs.Words.{Task, Run_file, Plan_file, Make_file, Trial, Print}
use Rattle.lasline_top.specs.Answer.{plan_in, ran, runnable_in, runnable_of, trial_text, with_trial, trial_run}
use Rattle.plug_stages.specs.Handed.{Handed}

-- a refusal that isn't for the words
abbrev pub IsOfFiles : Refusal → Type 0
IsOfFiles (of.Usage k) = ⊥
IsOfFiles refusal = ⊤

-- it is for a pipeline's text, or for want of memory
abbrev pub IsOfText : Refusal → Type 0
IsOfText (of.Pipeline f) = ⊤
IsOfText of.Memory = ⊤
IsOfText refusal = ⊥

-- it is for a pipeline's file or its text, or for want of memory
abbrev pub IsOfPlan : Refusal → Type 0
IsOfPlan (of.Device at.PipelineFile o) = ⊤
IsOfPlan refusal = IsOfText refusal

-- it is for a pipeline's text or names, for what a file holds, for a stage's device, or for want of memory
abbrev pub IsOfRun : Refusal → Type 0
IsOfRun (of.Data i f) = ⊤
IsOfRun (of.Device (at.Stage i) o) = ⊤
IsOfRun refusal = IsOfText refusal

-- no device is at fault
abbrev pub Never : Place → Op → Type 0
Never p o = ⊥

-- the count of a device rose: that of the files, or that of the output
abbrev pub RisenAt : Type 0 → Type 0 → Place → Type 0
RisenAt files out at.Out = out
RisenAt files out place = files

-- the files told what names have, and one of these names had nothing
abbrev pub IsAbsent : Option Names → Type 0
IsAbsent map = (m : Names) × (name : List ℕ) × (map ≡ Some m) × (m name ≡ None)

-- a device is named only where its count rose, or for a file that was to be opened and wasn't there
abbrev pub HasFailed : Type 0 → Type 0 → Option Names → Place → Op → Type 0
HasFailed files out map p op.Open = RisenAt files out p ⊎ IsAbsent map
HasFailed files out map p o = RisenAt files out p

abbrev pub Risen : Type 0 → Type 0 → Option Names → Refusal → Type 0
Risen files out map (of.Device p o) = HasFailed files out map p o
Risen files out map refusal = ⊤

-- the pipeline's file failed
abbrev pub AtText : Type 0 → Place → Op → Type 0
AtText rose at.PipelineFile op.Open = rose
AtText rose at.PipelineFile op.Read = rose
AtText rose p o = ⊥

abbrev pub AtOut : Type 0 → Op → Type 0
AtOut rose op.Write = rose
AtOut rose o = ⊥

-- a device of a run's stages, where the run had come that far, or the output, where the run was right
abbrev pub AtStages : Handed → Type 0 → Type 0 → Names → Result (List StageSpec) Refusal → Type 0 → Place → Op → Type 0
AtStages handed files_rose out_rose m plan right (at.Stage i) o = files_rose × IsOkAnd plan (λ stages. MayFail handed m stages i o)
AtStages handed files_rose out_rose m plan right at.Out o = AtOut (out_rose × right) o
AtStages handed files_rose out_rose m plan right place o = ⊥

-- that of a command that runs this file
abbrev pub AtFile : Handed → Type 0 → Type 0 → Names → List ℕ → Place → Op → Type 0
AtFile handed files_rose out_rose m file at.PipelineFile o = AtText files_rose at.PipelineFile o
AtFile handed files_rose out_rose m file p o = AtStages handed files_rose out_rose m (runnable_of handed m file) (IsOk (ran handed m file)) p o

-- of one that plans it
abbrev pub AtPlan : Type 0 → Type 0 → Names → List ℕ → Place → Op → Type 0
AtPlan files_rose out_rose m file at.Out o = AtOut (out_rose × IsOk (plan_in m file)) o
AtPlan files_rose out_rose m file p o = AtText files_rose p o

-- of one that makes a file of generated points
abbrev pub AtMade : Type 0 → Type 0 → Place → Op → Type 0
AtMade files_rose out_rose at.Generated op.Create = files_rose
AtMade files_rose out_rose at.Generated op.Write = files_rose
AtMade files_rose out_rose at.Generated op.Patch = files_rose
AtMade files_rose out_rose at.Generated op.Keep = files_rose
AtMade files_rose out_rose at.Out o = AtOut out_rose o
AtMade files_rose out_rose p o = ⊥

-- of one that makes such a file and runs the pipeline of the trial on it
abbrev pub AtTrial : Handed → Type 0 → Type 0 → Names → ℕ → Place → Op → Type 0
AtTrial handed files_rose out_rose m count at.Generated o = AtMade files_rose out_rose at.Generated o
AtTrial handed files_rose out_rose m count p o = AtStages handed files_rose out_rose (with_trial m count) (runnable_in handed trial_text) (IsOk (trial_run handed m count)) p o

-- the device that an answer names may be at fault: its count rose, and the command had come that far. One that prints a page has the
-- output alone
abbrev pub AtTask : Handed → Type 0 → Type 0 → Names → Result Task Refusal → Place → Op → Type 0
AtTask handed files_rose out_rose m (Ok (Run_file file engine)) p o = AtFile handed files_rose out_rose m file p o
AtTask handed files_rose out_rose m (Ok (Plan_file file)) p o = AtPlan files_rose out_rose m file p o
AtTask handed files_rose out_rose m (Ok (Make_file count name)) p o = AtMade files_rose out_rose p o
AtTask handed files_rose out_rose m (Ok (Trial count engine)) p o = AtTrial handed files_rose out_rose m count p o
AtTask handed files_rose out_rose m (Ok (Print text)) p o = (p ≡ at.Out) × AtOut out_rose o
AtTask handed files_rose out_rose m (Err refusal) p o = ⊥

-- a line was printed, or where its append failed a part of it
abbrev pub ToldWhy : Option (List ℕ) → Option (List ℕ) → ℕ → ℕ → List ℕ → Type 0
ToldWhy before now faults_before faults line = Appends before line now ⊎ (Rose faults_before faults × AppendsPart before line now)
