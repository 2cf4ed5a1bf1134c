-- What the words of a command line ask for.
use Rattle.std.specs.Prelude.{ℕ, List, Result, Ok, Err, if◌then◌else◌}
use Rattle.command_words.specs.Commands.{Command, run, plan, gen, trial, help, version}
use Rattle.command_words.specs.Machine.{command_of}
use Rattle.command_words.specs.declared.options.RunOptions.{RunOptions}
use Rattle.network_core.specs.declared.stop.Stop.{Stop}
use Rattle.network_core.specs.declared.stop.Stop.TheVariants.{Last, First}
use Rattle.run_report.specs.declared.refusal.Refusal.{Refusal}
use Rattle.run_report.specs.declared.refusal.Refusal.TheVariants.{Usage}
use Rattle.lasline_top.specs.Pages.{help_page, version_page}

-- how a run is evaluated: over queues, with so many points per chunk and items per queue, until all is done or up to the first fault
-- that is seen; or on whole lists
pub data Engine : Type 0 where
  Queues : ℕ → ℕ → Stop → Engine
  Whole : Engine

-- what a command comes to: the run of a pipeline's file by an engine; the plan of such a file; a LAS file of so many generated points;
-- such a file and the run of a fixed pipeline on it; or a page that is printed
pub data Task : Type 0 where
  Run_file : List ℕ → Engine → Task
  Plan_file : List ℕ → Task
  Make_file : ℕ → List ℕ → Task
  Trial : ℕ → Engine → Task
  Print : List ℕ → Task

-- the engine that options ask for
abbrev pub engine_of : RunOptions → Engine
engine_of options = if options.whole then Whole else Queues options.chunk options.queue (if options.stop_first then First else Last)

-- the task of a command
abbrev pub task_in : Command → Task
task_in (run file options) = Run_file file (engine_of options)
task_in (plan file) = Plan_file file
task_in (gen count name) = Make_file count name
task_in (trial count options) = Trial count (engine_of options)
task_in help = Print help_page
task_in version = Print version_page

-- words that are no command are refused for the first one that is wrong or missing
abbrev pub task_or : Result Command ℕ → Result Task Refusal
task_or (Ok command) = Ok (task_in command)
task_or (Err k) = Err (Usage k)

abbrev pub task_of : List (List ℕ) → Result Task Refusal
task_of words = task_or (command_of words)

-- where the turns of a run end by this engine: one on whole lists has none
abbrev pub stop_in : Engine → Stop
stop_in (Queues chunk queue stop) = stop
stop_in Whole = Last

-- and where those of a task end
abbrev pub stop_for : Result Task Refusal → Stop
stop_for (Ok (Run_file file engine)) = stop_in engine
stop_for (Ok (Trial count engine)) = stop_in engine
stop_for task = Last
