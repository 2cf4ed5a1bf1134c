-- The reader of a command, a word at a time.
use Rattle.std.specs.Prelude.{◌+◌, ℕ, Bool, true, false, not, is_none, unwrap_or, List, [], ◌∷◌, codes, bytes_eq, Option, Some, None, option_map, option_and_then, Result, ok_or, if◌then◌else◌}
use Rattle.text_bytes.specs.Steps.{and_then}
use Rattle.command_words.specs.Numbers.{number_in}
use Rattle.command_words.specs.Options.{least_of, most_of}
use Rattle.command_words.specs.Commands.{Command, run, plan, gen, trial, help, version, command_in, is_name, most_count}
use Rattle.command_words.specs.declared.options.RunOptions.{RunOptions}
use Rattle.command_words.specs.declared.options.GivenOptions.{GivenOptions}
use Rattle.command_words.specs.declared.options.Setting.{Setting}
use Rattle.command_words.specs.declared.options.Setting.TheVariants.{Chunk, Queue, Workers, Patience}
use Rattle.command_words.specs.declared.reading.Verb.{Verb}
use Rattle.command_words.specs.declared.reading.Verb.TheVariants.{Run, Plan, Gen, Trial}
use Rattle.command_words.specs.declared.reading.Purpose.{Purpose as Started}
use Rattle.command_words.specs.declared.reading.Purpose.TheVariants as started
use Rattle.command_words.specs.declared.reading.State.{State as Reached}
use Rattle.command_words.specs.declared.reading.State.TheVariants as reached

-- ---- the options so far

abbrev pub setting_named : List ℕ → Option Setting
setting_named word = if bytes_eq word (codes "--chunk") then Some Chunk
    else (if bytes_eq word (codes "--queue") then Some Queue
    else (if bytes_eq word (codes "--workers") then Some Workers
    else (if bytes_eq word (codes "--patience") then Some Patience
    else None)))

abbrev pub nothing_given : GivenOptions
nothing_given = record { chunk = None; queue = None; workers = None; patience = None; whole = false; stop_first = false }

-- it wasn't given
abbrev pub is_free : Setting → GivenOptions → Bool
is_free Chunk g = is_none g.chunk
is_free Queue g = is_none g.queue
is_free Workers g = is_none g.workers
is_free Patience g = is_none g.patience

abbrev pub with_number : Setting → ℕ → GivenOptions → GivenOptions
with_number Chunk n g = record g { chunk = Some n }
with_number Queue n g = record g { queue = Some n }
with_number Workers n g = record g { workers = Some n }
with_number Patience n g = record g { patience = Some n }

abbrev pub with_whole : GivenOptions → GivenOptions
with_whole g = record g { whole = true }

abbrev pub with_first : GivenOptions → GivenOptions
with_first g = record g { stop_first = true }

-- usual values for what wasn't given
abbrev pub filled : GivenOptions → RunOptions
filled g = record { chunk = unwrap_or g.chunk 64; queue = unwrap_or g.queue 8; workers = unwrap_or g.workers 1; patience = unwrap_or g.patience 1000; whole = g.whole; stop_first = g.stop_first }

-- ---- the states

-- what the options are for
pub data Purpose : Type 0 where
  run_of : List ℕ → Purpose
  trials : ℕ → Purpose

-- what was read so far
pub data State : Type 0 where
  start : State
  behind : Verb → State
  counted : ℕ → State
  options : Purpose → GivenOptions → State
  setting : Purpose → GivenOptions → Setting → State
  stopping : Purpose → GivenOptions → State
  done : Command → State

-- a state without where its words lie in memory
abbrev pub task_in : Started → Purpose
task_in (started.Run file) = run_of file.now
task_in (started.Trial count) = trials count

abbrev pub state_in : Reached → State
state_in reached.Start = start
state_in (reached.Behind verb) = behind verb
state_in (reached.Counted count) = counted count
state_in (reached.Options task given) = options (task_in task) given
state_in (reached.Number task given s) = setting (task_in task) given s
state_in (reached.Stopping task given) = stopping (task_in task) given
state_in (reached.Done command) = done (command_in command)

abbrev pub command_for : Purpose → RunOptions → Command
command_for (run_of file) o = run file o
command_for (trials count) o = trial count o

-- ---- a word more

abbrev pub if_so : {X : Type 0} → Bool → X → Option X
if_so b x = if b then Some x else None

abbrev pub first_word : List ℕ → Option State
first_word word = if bytes_eq word (codes "run") then Some (behind Run)
    else (if bytes_eq word (codes "plan") then Some (behind Plan)
    else (if bytes_eq word (codes "gen") then Some (behind Gen)
    else (if bytes_eq word (codes "trial") then Some (behind Trial)
    else (if bytes_eq word (codes "--help") then Some (done help)
    else (if bytes_eq word (codes "--version") then Some (done version)
    else None)))))

abbrev pub second_word : Verb → List ℕ → Option State
second_word Run word = if_so (is_name word) (options (run_of word) nothing_given)
second_word Plan word = if_so (is_name word) (done (plan word))
second_word Gen word = option_map counted (number_in 0 most_count word)
second_word Trial word = option_map (λ n. options (trials n) nothing_given) (number_in 0 most_count word)

abbrev pub option_word : Purpose → GivenOptions → List ℕ → Option State
option_word task given word = if bytes_eq word (codes "--whole") then if_so (not given.whole) (options task (with_whole given))
    else (if bytes_eq word (codes "--stop") then if_so (not given.stop_first) (stopping task given)
    else option_and_then (λ s. if_so (is_free s given) (setting task given s)) (setting_named word))

-- the state behind one word more, where the words may go on so
abbrev pub step : State → List ℕ → Option State
step start word = first_word word
step (behind verb) word = second_word verb word
step (counted n) word = if_so (is_name word) (done (gen n word))
step (options task given) word = option_word task given word
step (setting task given s) word = option_map (λ n. options task (with_number s n given)) (number_in (least_of s) (most_of s) word)
step (stopping task given) word = if_so (bytes_eq word (codes "first")) (options task (with_first given))
step (done c) word = None

-- the command, where the words may end so
abbrev pub ended : State → Option Command
ended start = None
ended (behind verb) = None
ended (counted n) = None
ended (options task given) = Some (command_for task (filled given))
ended (setting task given s) = None
ended (stopping task given) = None
ended (done c) = Some c

-- the command of a state at a place and the words behind it, or the place of the first word that is wrong or missing
abbrev pub command_from : State → ℕ → List (List ℕ) → Result Command ℕ
command_from s place [] = ok_or (ended s) place
command_from s place (word ∷ words) = and_then (ok_or (step s word) place) (λ t. command_from t (place + 1) words)

unfoldable pub command_of : List (List ℕ) → Result Command ℕ
command_of words = command_from start 0 words
