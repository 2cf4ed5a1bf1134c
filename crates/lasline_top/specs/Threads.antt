-- Which commands go on by several threads.
use Rattle.std.specs.Prelude.{ℕ, ◌==◌, ◌&&◌, Bool, true, not, List, Option, Some, None, Result, Ok, Err}
use Rattle.command_words.specs.Commands.{Command, run, plan, gen, trial, help, version}
use Rattle.command_words.specs.Machine.{command_of}
use Rattle.command_words.specs.declared.options.RunOptions.{RunOptions}

-- the options of a command
abbrev pub options_in : Command → Option RunOptions
options_in (run file options) = Some options
options_in (plan file) = None
options_in (gen count name) = None
options_in (trial count options) = Some options
options_in help = None
options_in version = None

abbrev pub options_of : Result Command ℕ → Option RunOptions
options_of (Ok command) = options_in command
options_of (Err k) = None

-- stages of a run with these go on at once
abbrev pub are_several : RunOptions → Bool
are_several options = not options.whole && not (options.workers == 1)

-- one thread takes all turns of a command
abbrev pub is_alone : Option RunOptions → Bool
is_alone None = true
is_alone (Some options) = not (are_several options)

abbrev pub goes_alone : List (List ℕ) → Bool
goes_alone words = is_alone (options_of (command_of words))
