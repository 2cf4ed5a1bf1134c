-- What a command answers, over the map of the files.
use Rattle.std.specs.Prelude.{ℕ, List, [], ◌∷◌, ◌++◌, Option, Some, None, Result, Ok, Err, codes}
use Rattle.file_devices.specs.Named.{Names, put}
use Rattle.cloud_gen.specs.GeneratedFile.{generated_file}
use Rattle.stage_names.specs.declared.faults.PipeFault.{PipeFault}
use Rattle.pipeline_json.specs.Stages.{Stage}
use Rattle.pipeline_json.specs.Trees.{tree_of}
use Rattle.stage_options.specs.declared.stage.StageSpec.{StageSpec}
use Rattle.stage_typing.specs.TypedTree.{typed_tree}
use Rattle.stage_planner.specs.Plans.{plan_of}
use Rattle.run_report.specs.declared.refusal.Place.TheVariants.{PipelineFile}
use Rattle.run_report.specs.declared.refusal.Refusal.{Refusal}
use Rattle.run_report.specs.declared.refusal.Refusal.TheVariants.{Pipeline}
use Rattle.answer_model.specs.Naming.{first_naming_fault}
use Rattle.answer_model.specs.Steps.{and_then}
use Rattle.answer_model.specs.Runs.{Run, file_at, run_of}
use Rattle.lasline_top.specs.declared.status.Status.{Status}
use Rattle.lasline_top.specs.declared.status.Status.TheVariants.{Ok as Done}
use Rattle.lasline_top.specs.Refusals.{status_for}
use Rattle.lasline_top.specs.Texts.{plan_text, generated_line}
use Rattle.lasline_top.specs.Words.{Task, Run_file, Plan_file, Make_file, Trial, Print, task_of}
use Rattle.plug_stages.specs.Handed.{Handed}

-- a fault of a pipeline refuses the command
abbrev pub piped : {X : Type 0} → Result X PipeFault → Result X Refusal
piped (Ok x) = Ok x
piped (Err f) = Err (Pipeline f)

-- stages with their options
abbrev pub typed : List Stage → Result (List StageSpec) Refusal
typed stages = piped (typed_tree stages)

-- the pipeline that a text is
abbrev pub stages_in : List ℕ → Result (List StageSpec) Refusal
stages_in text = and_then (piped (tree_of text)) typed

-- stages that name what was handed in, each once; else the fault of the first one that doesn't
abbrev pub unless_misnamed : Option (ℕ × PipeFault) → List StageSpec → Result (List StageSpec) Refusal
unless_misnamed None stages = Ok stages
unless_misnamed (Some f) stages = Err (Pipeline f.1)

abbrev pub named : Handed → List StageSpec → Result (List StageSpec) Refusal
named handed stages = unless_misnamed (first_naming_fault handed stages) stages

-- the pipeline that a text is, as far as it can be run with what was handed in
abbrev pub runnable_in : Handed → List ℕ → Result (List StageSpec) Refusal
runnable_in handed text = and_then (stages_in text) (named handed)

-- what the run of it comes to
abbrev pub text_run : Handed → Names → List ℕ → Result Run Refusal
text_run handed m text = and_then (runnable_in handed text) (run_of handed m)

-- the pipeline of a file
abbrev pub plan_in : Names → List ℕ → Result (List StageSpec) Refusal
plan_in m file = and_then (file_at (m file) PipelineFile) stages_in

-- the same, as far as it can be run with what was handed in
abbrev pub runnable_of : Handed → Names → List ℕ → Result (List StageSpec) Refusal
runnable_of handed m file = and_then (plan_in m file) (named handed)

-- what the run of a pipeline's file comes to
abbrev pub ran : Handed → Names → List ℕ → Result Run Refusal
ran handed m file = and_then (runnable_of handed m file) (run_of handed m)

-- this is printed, and nothing is kept
abbrev pub printed : List ℕ → Run
printed text = record { outputs = []; report = text }

-- the plan of a pipeline's file is printed
abbrev pub planned : Names → List ℕ → Result Run Refusal
planned m file = and_then (plan_in m file) (λ stages. Ok (printed (plan_text (plan_of stages))))

-- a file of generated points is kept. No stage writes it: it is the first one that is kept
abbrev pub made : ℕ → List ℕ → Run
made count name = record {
  outputs = record { stage = 0; name = name; bytes = generated_file count; view = None } ∷ [];
  report = generated_line count;
}

-- ---- the trial

-- the name of the file that is generated, and the pipeline that is run on it
abbrev pub trial_name : List ℕ
trial_name = codes "trial.las"

unfoldable pub trial_text : List ℕ
trial_text = codes "[\"trial.las\",{\"type\":\"filters.range\",\"limits\":\"Classification[2:2]\"},{\"type\":\"filters.decimation\",\"step\":3},\"trial.txt\"]"

-- the map with the generated file
abbrev pub with_trial : Names → ℕ → Names
with_trial m count = put m trial_name (generated_file count)

-- what the pipeline comes to then
abbrev pub trial_run : Handed → Names → ℕ → Result Run Refusal
trial_run handed m count = text_run handed (with_trial m count) trial_text

-- one run and then another: the outputs and the reports of both
abbrev pub behind : Run → Run → Run
behind first run = record { outputs = first.outputs ++ run.outputs; report = first.report ++ run.report }

-- ---- all

abbrev pub done : Handed → Names → Task → Result Run Refusal
done handed m (Run_file file engine) = ran handed m file
done handed m (Plan_file file) = planned m file
done handed m (Make_file count name) = Ok (made count name)
done handed m (Trial count engine) = and_then (trial_run handed m count) (λ run. Ok (behind (made count trial_name) run))
done handed m (Print text) = Ok (printed text)

-- what a task comes to: what it keeps and reports, or why it is refused. The engine of a run doesn't matter
abbrev pub answered : Handed → Result Task Refusal → Names → Result Run Refusal
answered handed task m = and_then task (done handed m)

-- the answer of a command
abbrev pub answer : Handed → List (List ℕ) → Names → Result Run Refusal
answer handed words m = answered handed (task_of words) m

-- the status of an answer
abbrev pub status_of : Result Run Refusal → Status
status_of (Ok run) = Done
status_of (Err refusal) = status_for refusal

-- ---- what a caller handed in

-- the stages of a result, if there is one
abbrev pub stages_or : Result (List StageSpec) Refusal → List StageSpec
stages_or (Ok stages) = stages
stages_or (Err refusal) = []

-- the stages that a task runs
abbrev pub run_by : Handed → Result Task Refusal → Names → List StageSpec
run_by handed (Ok (Run_file file engine)) m = stages_or (runnable_of handed m file)
run_by handed (Ok (Trial count engine)) m = stages_or (runnable_in handed trial_text)
run_by handed task m = []
