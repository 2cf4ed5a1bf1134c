-- How far a command reads files.
use Rattle.std.specs.Prelude.{◌≡◌, ◌+◌, ℕ, List, length, Option, option_map, IfSome, Result, Ok, Err, IfOk, ⊤}
use Rattle.file_devices.specs.Named.{Names}
use Rattle.cloud_points.specs.declared.faults.StageFault.TheVariants as stage
use Rattle.pipeline_json.specs.declared.reading.TheConstants.{MOST_BYTES}
use Rattle.network_core.specs.declared.stop.Stop.TheVariants.{First}
use Rattle.run_report.specs.declared.refusal.Fault.TheVariants.{Point}
use Rattle.run_report.specs.declared.refusal.Refusal.{Refusal}
use Rattle.run_report.specs.declared.refusal.Refusal.TheVariants.{Data}
use Rattle.run_engine.specs.ReadAhead.{HasReadNoMore, ReadAtMost}
use Rattle.lasline_top.specs.Answer.{stages_in}
use Rattle.lasline_top.specs.Words.{Engine, Queues, Task, Run_file, Plan_file, Print}

-- a plan reads in all no more than the pipeline's file may have, and one byte. A page, and words that are no command, read nothing
abbrev pub IsReadBy : Result Task Refusal → Option ℕ → Option ℕ → Type 0
IsReadBy (Ok (Plan_file file)) old new = ReadAtMost (MOST_BYTES + 1) old new
IsReadBy (Ok (Print text)) old new = new ≡ old
IsReadBy (Err refusal) old new = new ≡ old
IsReadBy task old new = ⊤

-- a run of this text whose turns end at the first fault, refused for a point, has read no more than it may by then
abbrev pub IsTextAhead : Engine → Names → List ℕ → Option ℕ → Option ℕ → Refusal → Type 0
IsTextAhead (Queues chunk queue First) m text old new (Data i (Point f)) =
    IfOk (stages_in text) (λ stages. HasReadNoMore m stages queue chunk i (stage.Point f) old new)
IsTextAhead engine m text old new refusal = ⊤

-- and so has the run of a file, counted from behind its text
abbrev pub IsReadAhead : Result Task Refusal → Names → Option ℕ → Option ℕ → Refusal → Type 0
IsReadAhead (Ok (Run_file file engine)) m old new refusal =
    IfSome (m file) (λ text. IsTextAhead engine m text (option_map (λ n. n + length text) old) new refusal)
IsReadAhead task m old new refusal = ⊤
