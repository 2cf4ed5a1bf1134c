-- The commands and their words.
use Rattle.std.specs.Prelude.{◌≡◌, ◌≤◌, ◌&&◌, ℕ, Bool, true, not, nat_eq, nat_lt, List, [], ◌∷◌, ◌++◌, length, codes}
use Rattle.std.specs.List.{starts_with}
use Rattle.command_words.specs.Numbers.{IsNumber}
use Rattle.command_words.specs.Options.{AreOptions, options_with, Choice}
use Rattle.command_words.specs.declared.options.RunOptions.{RunOptions}
use Rattle.command_words.specs.declared.command.Command.{Command as Written}
use Rattle.command_words.specs.declared.command.Command.TheVariants as written

pub data Command : Type 0 where
  run : List ℕ → RunOptions → Command
  plan : List ℕ → Command
  gen : ℕ → List ℕ → Command
  trial : ℕ → RunOptions → Command
  help : Command
  version : Command

-- a command without where its name lies in memory
abbrev pub command_in : Written → Command
command_in (written.Run file options) = run file.now options
command_in (written.Plan file) = plan file.now
command_in (written.Gen count name) = gen count name.now
command_in (written.Trial count options) = trial count options
command_in written.Help = help
command_in written.Version = version

-- a name isn't empty and doesn't begin as an option does
abbrev pub is_name : List ℕ → Bool
is_name word = nat_lt 0 (length word) && not (starts_with nat_eq word (codes "--"))

-- the greatest number behind `gen` and `trial`
abbrev pub most_count : ℕ
most_count = 10000000

-- the words of a command
pub data IsCommand : List (List ℕ) → Command → Type 0 where
  is_run : {file : List ℕ} {words : List (List ℕ)} {cs : List Choice} → is_name file ≡ true → AreOptions words cs → IsCommand (codes "run" ∷ file ∷ words) (run file (options_with cs))
  is_plan : {file : List ℕ} → is_name file ≡ true → IsCommand (codes "plan" ∷ file ∷ []) (plan file)
  is_gen : {word name : List ℕ} {n : ℕ} → IsNumber 0 most_count word n → is_name name ≡ true → IsCommand (codes "gen" ∷ word ∷ name ∷ []) (gen n name)
  is_trial : {word : List ℕ} {words : List (List ℕ)} {n : ℕ} {cs : List Choice} → IsNumber 0 most_count word n → AreOptions words cs → IsCommand (codes "trial" ∷ word ∷ words) (trial n (options_with cs))
  is_help : IsCommand (codes "--help" ∷ []) help
  is_version : IsCommand (codes "--version" ∷ []) version

-- some words behind them make a command of the words
abbrev pub CanGoOn : List (List ℕ) → Type 0
CanGoOn words = (after : List (List ℕ)) × (c : Command) × IsCommand (words ++ after) c

-- ---- bounds

pub record AreWithin (o : RunOptions) : Type 0 where
  pub chunk : (1 ≤ o.chunk) × (o.chunk ≤ 64)
  pub queue : (1 ≤ o.queue) × (o.queue ≤ 64)
  pub workers : (1 ≤ o.workers) × (o.workers ≤ 32)
  pub patience : o.patience ≤ 1000000

-- the numbers of a command are within their bounds
abbrev pub IsWithin : Command → Type 0
IsWithin (run file o) = AreWithin o
IsWithin (plan file) = Unit {0}
IsWithin (gen n name) = n ≤ most_count
IsWithin (trial n o) = (n ≤ most_count) × AreWithin o
IsWithin help = Unit {0}
IsWithin version = Unit {0}
