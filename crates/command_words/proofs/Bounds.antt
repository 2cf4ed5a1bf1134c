-- The numbers of a command are within their bounds.
use Rattle.std.proofs.Common.{◌≡◌, ◌≤◌, ◌∙◌, ℕ, List, map, drop, length, Some, Ok, ok_or, String, Global, string_bytes, ap, sym, arith}
use Rattle.std.proofs.lemmas.List.{drop_all}
use Rattle.command_words.specs.Options.{IsOption, is_number, is_whole, is_stop, Choice, AreOptions, none, more, put, options_with}
use Rattle.command_words.specs.Commands.{Command, IsCommand, is_run, is_plan, is_gen, is_trial, is_help, is_version, AreWithin, IsWithin}
use Rattle.command_words.specs.Machine.{State, ended, command_from, command_of}
use Rattle.command_words.specs.declared.options.RunOptions.{RunOptions}
use Rattle.command_words.specs.declared.options.Setting.TheVariants.{Chunk, Queue, Workers, Patience}
use Rattle.command_words.proofs.Places.{only}

put_within : {words : List (List ℕ)} (c : Choice) (o : RunOptions) → IsOption words c → AreWithin o → AreWithin (put c o)
put_within c o (is_number Chunk i) h = record { chunk = (i.from, i.up_to); queue = h.queue; workers = h.workers; patience = h.patience }
put_within c o (is_number Queue i) h = record { chunk = h.chunk; queue = (i.from, i.up_to); workers = h.workers; patience = h.patience }
put_within c o (is_number Workers i) h = record { chunk = h.chunk; queue = h.queue; workers = (i.from, i.up_to); patience = h.patience }
put_within c o (is_number Patience i) h = record { chunk = h.chunk; queue = h.queue; workers = h.workers; patience = i.up_to }
put_within c o is_whole h = record { chunk = h.chunk; queue = h.queue; workers = h.workers; patience = h.patience }
put_within c o is_stop h = record { chunk = h.chunk; queue = h.queue; workers = h.workers; patience = h.patience }

all_within : {words : List (List ℕ)} {cs : List Choice} → AreOptions words cs → AreWithin (options_with cs)
all_within none = record { chunk = (omega arith, omega arith); queue = (omega arith, omega arith); workers = (omega arith, omega arith); patience = omega arith }
all_within (more {cs} {c} are is new) = put_within c (options_with cs) is (all_within are)

is_within : {words : List (List ℕ)} {c : Command} → IsCommand words c → IsWithin c
is_within (is_run name are) = all_within are
is_within (is_plan name) = tt
is_within (is_gen i name) = i.up_to
is_within (is_trial i are) = (i.up_to, all_within are)
is_within is_help = tt
is_within is_version = tt

told_within : (words : List (List ℕ)) (c : Command) → command_of words ≡ Ok c → IsWithin c
told_within words c e = is_within (only words c e)

-- so is the command at the end of all words
pub ended_within : (words : List (String Global)) (s : State) (place : ℕ) (c : Command) → command_of (map string_bytes words) ≡ command_from s place (map string_bytes (drop place words)) → length words ≤ place → Some c ≡ ended s → IsWithin c
ended_within words s place c e last over = told_within (map string_bytes words) c (e ∙ ap (λ l. command_from s place (map string_bytes l)) (drop_all place words last) ∙ ap (λ o. ok_or o place) (sym over))
