-- Words of a command lead to its state.
use Rattle.std.proofs.Common.{◌≡◌, ◌∙◌, ℕ, List, [], ◌∷◌, ◌++◌, true, Option, Some, None, option_and_then, ap, refl}
use Rattle.command_words.specs.Options.{Choice, IsOption, is_number, is_whole, is_stop, AreOptions, none, more, options_with}
use Rattle.command_words.specs.Commands.{Command, IsCommand, is_run, is_plan, is_gen, is_trial, is_help, is_version}
use Rattle.command_words.specs.Machine.{Purpose, run_of, trials, State, start, options, step, ended, command_for}
use Rattle.command_words.specs.declared.options.GivenOptions.{GivenOptions}
use Rattle.command_words.specs.declared.options.Setting.TheVariants.{Chunk, Queue, Workers, Patience}
use Rattle.command_words.proofs.Numerals.{number_found}
use Rattle.command_words.proofs.OptionLemmas.{with_choice, is_new, given_by, filled_is, is_new_behind}

-- the state behind all words, where they may go on so
abbrev pub state_after : State → List (List ℕ) → Option State
state_after s [] = Some s
state_after s (word ∷ words) = option_and_then (λ t. state_after t words) (step s word)

-- words in two parts
pub after_both : (s : State) (words rest : List (List ℕ)) → state_after s (words ++ rest) ≡ option_and_then (λ t. state_after t rest) (state_after s words)
after_both s [] rest = refl
after_both s (word ∷ words) rest = go (step s word) (λ t. after_both t words rest)
  where
    go : (o : Option State) → ((t : State) → state_after t (words ++ rest) ≡ option_and_then (λ u. state_after u rest) (state_after t words))
        → option_and_then (λ t. state_after t (words ++ rest)) o ≡ option_and_then (λ u. state_after u rest) (option_and_then (λ t. state_after t words) o)
    go (Some t) h = h t
    go None h = refl

one_option : (task : Purpose) (g : GivenOptions) (own : List (List ℕ)) (c : Choice) → IsOption own c → is_new c g ≡ true → state_after (options task g) own ≡ Some (options task (with_choice c g))
one_option task g own c (is_number Chunk i) e = rw (e, number_found i) refl
one_option task g own c (is_number Queue i) e = rw (e, number_found i) refl
one_option task g own c (is_number Workers i) e = rw (e, number_found i) refl
one_option task g own c (is_number Patience i) e = rw (e, number_found i) refl
one_option task g own c is_whole e = rw e refl
one_option task g own c is_stop e = rw e refl

all_options : {words : List (List ℕ)} {cs : List Choice} → AreOptions words cs → (task : Purpose) → state_after (options task (given_by [])) words ≡ Some (options task (given_by cs))
all_options none task = refl
all_options (more {words} {own} {cs} {c} are is new) task =
    after_both (options task (given_by [])) words own ∙ ap (option_and_then (λ t. state_after t own)) (all_options are task)
    ∙ one_option task (given_by cs) own c is (is_new_behind cs c new)

with_options : {words : List (List ℕ)} {cs : List Choice} → AreOptions words cs → (task : Purpose) → option_and_then ended (state_after (options task (given_by [])) words) ≡ Some (command_for task (options_with cs))
with_options {words} {cs} are task = ap (option_and_then ended) (all_options are task) ∙ ap (λ o. Some (command_for task o)) (filled_is cs)

-- the words of a command lead to it
pub leads : {words : List (List ℕ)} {c : Command} → IsCommand words c → option_and_then ended (state_after start words) ≡ Some c
leads (is_run {file} {words} {cs} name are) = rw name (with_options are (run_of file))
leads (is_plan name) = rw name refl
leads (is_gen number name) = rw (number_found number, name) refl
leads (is_trial {word} {words} {n} {cs} number are) = rw (number_found number) (with_options are (trials n))
leads is_help = refl
leads is_version = refl
