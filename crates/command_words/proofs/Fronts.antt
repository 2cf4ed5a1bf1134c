-- What was read, where a state is reached.
use Rattle.std.proofs.Common.{◌≡◌, ◌∙◌, ℕ, List, [], ◌∷◌, ◌++◌, Bool, true, false, not, Option, Some, None, option_and_then, option_map, bytes_eq, codes, if◌then◌else◌, arith, ap, subst, refl, sym}
use Rattle.std.proofs.lemmas.Slice.Eq.{bytes_eq-Decides}
use Rattle.std.proofs.lemmas.List.{append-nil, append_assoc}
use Rattle.command_words.specs.Numbers.{IsNumber, number_in}
use Rattle.command_words.specs.Options.{Choice, is_number, is_whole, is_stop, AreOptions, none, more, number, whole, stop, name_of, least_of, most_of, options_with}
use Rattle.command_words.specs.Commands.{Command, help, IsCommand, is_run, is_plan, is_gen, is_trial, is_help, is_version, CanGoOn, is_name, most_count}
use Rattle.command_words.specs.Machine.{Purpose, run_of, trials, State, start, behind, counted, options, setting, stopping, done, step, ended, command_for, first_word, second_word, option_word, if_so, is_free, setting_named, with_number, with_whole, with_first, filled}
use Rattle.command_words.specs.declared.options.GivenOptions.{GivenOptions}
use Rattle.command_words.specs.declared.options.Setting.{Setting}
use Rattle.command_words.specs.declared.options.Setting.TheVariants.{Chunk, Queue, Workers, Patience}
use Rattle.command_words.specs.declared.reading.Verb.{Verb}
use Rattle.command_words.specs.declared.reading.Verb.TheVariants.{Run, Plan, Gen, Trial}
use Rattle.command_words.proofs.Numerals.{number_written, one_fits}
use Rattle.command_words.proofs.OptionLemmas.{given_by, filled_is, is_unlike}
use Rattle.command_words.proofs.Runs.{state_after}

abbrev pub word_for : Verb → List ℕ
word_for Run = codes "run"
word_for Plan = codes "plan"
word_for Gen = codes "gen"
word_for Trial = codes "trial"

-- the words before the options
pub data Begins : Purpose → List (List ℕ) → Type 0 where
  a_run : {file : List ℕ} → is_name file ≡ true → Begins (run_of file) (codes "run" ∷ file ∷ [])
  a_trial : {word : List ℕ} {n : ℕ} → IsNumber 0 most_count word n → Begins (trials n) (codes "trial" ∷ word ∷ [])

-- a state, and the words that lead to it
pub data Front : State → List (List ℕ) → Type 0 where
  at_start : Front start []
  at_verb : (v : Verb) → Front (behind v) (word_for v ∷ [])
  at_count : {word : List ℕ} {n : ℕ} → IsNumber 0 most_count word n → Front (counted n) (codes "gen" ∷ word ∷ [])
  at_options : {task : Purpose} {g : GivenOptions} {first words : List (List ℕ)} {cs : List Choice} → Begins task first → AreOptions words cs → g ≡ given_by cs → Front (options task g) (first ++ words)
  at_setting : {task : Purpose} {g : GivenOptions} {first words : List (List ℕ)} {cs : List Choice} (s : Setting) → Begins task first → AreOptions words cs → g ≡ given_by cs → is_free s g ≡ true
      → Front (setting task g s) (first ++ (words ++ name_of s ∷ []))
  at_stop : {task : Purpose} {g : GivenOptions} {first words : List (List ℕ)} {cs : List Choice} → Begins task first → AreOptions words cs → g ≡ given_by cs → not g.stop_first ≡ true
      → Front (stopping task g) (first ++ (words ++ codes "--stop" ∷ []))
  at_end : {words : List (List ℕ)} {c : Command} → IsCommand words c → Front (done c) words

-- ---- one word more

-- the word is this name, or another
by_name : {X : Type 0} (P : List ℕ → X → Type 0) (word name : List ℕ) (this other : Option X) → ((x : X) → this ≡ Some x → P name x) → ((x : X) → other ≡ Some x → P word x) → (x : X) → (if bytes_eq word name then this else other) ≡ Some x → P word x
by_name P word name this other same apart x e = go (bytes_eq word name) refl e
  where
    go : (b : Bool) → bytes_eq word name ≡ b → (if b then this else other) ≡ Some x → P word x
    go true b e = subst (λ w. P w x) (sym ((bytes_eq-Decides word name).0 b)) (same x e)
    go false b e = apart x e

no_name : {X : Type 0} (P : List ℕ → X → Type 0) (word : List ℕ) (x : X) → None ≡ Some x → P word x
no_name P word x e = cc

-- it is this one
the_one : {X : Type 0} (P : X → Type 0) (y : X) → P y → (x : X) → Some y ≡ Some x → P x
the_one P y h x e = let is : y ≡ x = cc in subst P is h

the_one_if : {X : Type 0} (P : X → Type 0) (b : Bool) (y : X) → (b ≡ true → P y) → (x : X) → if_so b y ≡ Some x → P x
the_one_if P true y h x e = the_one P y (h refl) x e
the_one_if P false y h x e = cc

the_number : {X : Type 0} (P : X → Type 0) (least most : ℕ) (word : List ℕ) (f : ℕ → X) → ((n : ℕ) → IsNumber least most word n → P (f n)) → (x : X) → option_map f (number_in least most word) ≡ Some x → P x
the_number P least most word f h x e = go (number_in least most word) refl e
  where
    go : (o : Option ℕ) → number_in least most word ≡ o → option_map f o ≡ Some x → P x
    go (Some n) is e = the_one P (f n) (h n (number_written least most word n is)) x e
    go None is e = cc

first_front : (word : List ℕ) (t : State) → first_word word ≡ Some t → Front t (word ∷ [])
first_front word =
    let P : List ℕ → State → Type 0 = λ w t. Front t (w ∷ []) in
    by_name P word (codes "run") _ _ (the_one (P (codes "run")) _ (at_verb Run))
    (by_name P word (codes "plan") _ _ (the_one (P (codes "plan")) _ (at_verb Plan))
    (by_name P word (codes "gen") _ _ (the_one (P (codes "gen")) _ (at_verb Gen))
    (by_name P word (codes "trial") _ _ (the_one (P (codes "trial")) _ (at_verb Trial))
    (by_name P word (codes "--help") _ _ (the_one (P (codes "--help")) _ (at_end is_help))
    (by_name P word (codes "--version") _ _ (the_one (P (codes "--version")) _ (at_end is_version))
    (no_name P word))))))

second_front : (v : Verb) (word : List ℕ) (t : State) → second_word v word ≡ Some t → Front t (word_for v ∷ word ∷ [])
second_front Run word = the_one_if (λ t. Front t (codes "run" ∷ word ∷ [])) (is_name word) _ (λ e. at_options (a_run e) none refl)
second_front Plan word = the_one_if (λ t. Front t (codes "plan" ∷ word ∷ [])) (is_name word) _ (λ e. at_end (is_plan e))
second_front Gen word = the_number (λ t. Front t (codes "gen" ∷ word ∷ [])) 0 most_count word counted (λ n i. at_count i)
second_front Trial word = the_number (λ t. Front t (codes "trial" ∷ word ∷ [])) 0 most_count word _ (λ n i. at_options (a_trial i) none refl)

named_is : (word : List ℕ) (s : Setting) → setting_named word ≡ Some s → word ≡ name_of s
named_is word =
    let P : List ℕ → Setting → Type 0 = λ w s. w ≡ name_of s in
    by_name P word (codes "--chunk") _ _ (the_one (P (codes "--chunk")) Chunk refl)
    (by_name P word (codes "--queue") _ _ (the_one (P (codes "--queue")) Queue refl)
    (by_name P word (codes "--workers") _ _ (the_one (P (codes "--workers")) Workers refl)
    (by_name P word (codes "--patience") _ _ (the_one (P (codes "--patience")) Patience refl)
    (no_name P word))))

module _ {task : Purpose} {g : GivenOptions} {first words : List (List ℕ)} {cs : List Choice} (begins : Begins task first) (are : AreOptions words cs) (is : g ≡ given_by cs) where
  -- words behind the options
  regrouped : (t : State) (own : List (List ℕ)) → Front t (first ++ (words ++ own)) → Front t ((first ++ words) ++ own)
  regrouped t own h = subst (Front t) (sym (append_assoc first words own)) h

  whole_front : not g.whole ≡ true → Front (options task (with_whole g)) (first ++ (words ++ codes "--whole" ∷ []))
  whole_front e = at_options begins (more are is_whole (is_unlike cs whole (sym (ap (λ x. not x.whole) is) ∙ e))) (ap with_whole is)

  setting_front : (word : List ℕ) (o : Option Setting) → setting_named word ≡ o → (t : State) → option_and_then (λ s. if_so (is_free s g) (setting task g s)) o ≡ Some t → Front t (first ++ (words ++ word ∷ []))
  setting_front word (Some s) named t e =
      subst (λ w. Front t (first ++ (words ++ w ∷ []))) (sym (named_is word s named))
      (the_one_if (λ t. Front t (first ++ (words ++ name_of s ∷ []))) (is_free s g) (setting task g s) (λ free. at_setting s begins are is free) t e)
  setting_front word None named t e = cc

  option_front : (word : List ℕ) (t : State) → option_word task g word ≡ Some t → Front t ((first ++ words) ++ word ∷ [])
  option_front word t e = regrouped t (word ∷ [])
      (by_name (λ w t. Front t (first ++ (words ++ w ∷ []))) word (codes "--whole") _ _
      (the_one_if (λ t. Front t (first ++ (words ++ codes "--whole" ∷ []))) (not g.whole) _ whole_front)
      (by_name (λ w t. Front t (first ++ (words ++ w ∷ []))) word (codes "--stop") _ _
      (the_one_if (λ t. Front t (first ++ (words ++ codes "--stop" ∷ []))) (not g.stop_first) _ (at_stop begins are is))
      (setting_front word (setting_named word) refl)) t e)

  -- a word behind the last word of all options
  behind_last : (last word : List ℕ) (t : State) → Front t (first ++ (words ++ last ∷ word ∷ [])) → Front t ((first ++ (words ++ last ∷ [])) ++ word ∷ [])
  behind_last last word t h = subst (Front t) (sym (append_assoc first (words ++ last ∷ []) (word ∷ []) ∙ ap (λ l. first ++ l) (append_assoc words (last ∷ []) (word ∷ [])))) h

  number_front : (s : Setting) → is_free s g ≡ true → (word : List ℕ) (t : State) → step (setting task g s) word ≡ Some t → Front t ((first ++ (words ++ name_of s ∷ [])) ++ word ∷ [])
  number_front s free word t e = behind_last (name_of s) word t
      (the_number (λ t. Front t (first ++ (words ++ name_of s ∷ word ∷ []))) (least_of s) (most_of s) word _
      (λ n i. at_options begins (more are (is_number s i) (is_unlike cs (number s n) (sym (ap (is_free s) is) ∙ free))) (ap (with_number s n) is)) t e)

  stop_front : not g.stop_first ≡ true → (word : List ℕ) (t : State) → step (stopping task g) word ≡ Some t → Front t ((first ++ (words ++ codes "--stop" ∷ [])) ++ word ∷ [])
  stop_front free word t e = behind_last (codes "--stop") word t
      (by_name (λ w t. Front t (first ++ (words ++ codes "--stop" ∷ w ∷ []))) word (codes "first") _ _
      (the_one (λ t. Front t (first ++ (words ++ codes "--stop" ∷ codes "first" ∷ []))) _
      (at_options begins (more are is_stop (is_unlike cs stop (sym (ap (λ x. not x.stop_first) is) ∙ free))) (ap with_first is)))
      (no_name (λ w t. Front t (first ++ (words ++ codes "--stop" ∷ w ∷ []))) word) t e)

step_front : {s : State} {words : List (List ℕ)} (word : List ℕ) (t : State) → Front s words → step s word ≡ Some t → Front t (words ++ word ∷ [])
step_front word t at_start e = first_front word t e
step_front word t (at_verb v) e = second_front v word t e
step_front word t (at_count {word = first} {n} i) e = the_one_if (λ t. Front t (codes "gen" ∷ first ∷ word ∷ [])) (is_name word) _ (λ name. at_end (is_gen i name)) t e
step_front word t (at_options begins are is) e = option_front begins are is word t e
step_front word t (at_setting s begins are is free) e = number_front begins are is s free word t e
step_front word t (at_stop begins are is free) e = stop_front begins are is free word t e
step_front word t (at_end c) e = cc

-- the words that lead to a state
pub front_after : (s t : State) (before words : List (List ℕ)) → Front s before → state_after s words ≡ Some t → Front t (before ++ words)
front_after s t before [] h e = let is : s ≡ t = cc in subst (λ l. Front t l) (sym (append-nil before)) (subst (λ u. Front u before) is h)
front_after s t before (word ∷ words) h e = go (step s word) refl e (λ u f e. front_after u t (before ++ word ∷ []) words f e)
  where
    go : (o : Option State) → step s word ≡ o → option_and_then (λ u. state_after u words) o ≡ Some t → ((u : State) → Front u (before ++ word ∷ []) → state_after u words ≡ Some t → Front t ((before ++ word ∷ []) ++ words)) → Front t (before ++ word ∷ words)
    go (Some u) is e on = subst (Front t) (append_assoc before (word ∷ []) words) (on u (step_front word u h is) e)
    go None is e on = cc

-- ---- what a state says of the words

with_options : {task : Purpose} {first words : List (List ℕ)} {cs : List Choice} → Begins task first → AreOptions words cs → IsCommand (first ++ words) (command_for task (options_with cs))
with_options (a_run name) are = is_run name are
with_options (a_trial i) are = is_trial i are

-- where the words may end, they are the command
pub is_ended : {s : State} {words : List (List ℕ)} (c : Command) → Front s words → ended s ≡ Some c → IsCommand words c
is_ended c at_start e = cc
is_ended c (at_verb v) e = cc
is_ended c (at_count i) e = cc
is_ended c (at_options {task} {g} {first} {words} {cs} begins are is) e =
    the_one (IsCommand (first ++ words)) (command_for task (filled g)) (subst (λ o. IsCommand (first ++ words) (command_for task o)) (sym (ap filled is ∙ filled_is cs)) (with_options begins are)) c e
is_ended c (at_setting s begins are is free) e = cc
is_ended c (at_stop begins are is free) e = cc
is_ended c (at_end {words} {c = d} h) e = the_one (IsCommand words) d h c e

-- each state has an end
pub goes_on : {s : State} {words : List (List ℕ)} → Front s words → CanGoOn words
goes_on at_start = (codes "--help" ∷ [], help, is_help)
goes_on (at_verb Run) = (codes "a" ∷ [], _, is_run refl none)
goes_on (at_verb Plan) = (codes "a" ∷ [], _, is_plan refl)
goes_on (at_verb Gen) = (codes "1" ∷ codes "a" ∷ [], _, is_gen (record { numeral = refl; value = refl; from = omega arith; up_to = omega arith }) refl)
goes_on (at_verb Trial) = (codes "1" ∷ [], _, is_trial (record { numeral = refl; value = refl; from = omega arith; up_to = omega arith }) none)
goes_on (at_count i) = (codes "a" ∷ [], _, is_gen i refl)
goes_on (at_options {task} {g} {first} {words} {cs} begins are is) = ([], _, subst (λ l. IsCommand l (command_for task (options_with cs))) (sym (append-nil (first ++ words))) (with_options begins are))
goes_on (at_setting {task} {g} {first} {words} {cs} s begins are is free) = (
  codes "1" ∷ [],
  _,
  subst (λ l. IsCommand l (command_for task (options_with (number s 1 ∷ cs))))
      (sym (append_assoc first (words ++ name_of s ∷ []) (codes "1" ∷ []) ∙ ap (λ l. first ++ l) (append_assoc words (name_of s ∷ []) (codes "1" ∷ []))))
      (with_options begins (more are (is_number s (one_fits s)) (is_unlike cs (number s 1) (sym (ap (is_free s) is) ∙ free)))),
)
goes_on (at_stop {task} {g} {first} {words} {cs} begins are is free) = (
  codes "first" ∷ [],
  _,
  subst (λ l. IsCommand l (command_for task (options_with (stop ∷ cs))))
      (sym (append_assoc first (words ++ codes "--stop" ∷ []) (codes "first" ∷ []) ∙ ap (λ l. first ++ l) (append_assoc words (codes "--stop" ∷ []) (codes "first" ∷ []))))
      (with_options begins (more are is_stop (is_unlike cs stop (sym (ap (λ x. not x.stop_first) is) ∙ free)))),
)
goes_on (at_end {words} {c} h) = ([], c, subst (λ l. IsCommand l c) (sym (append-nil words)) h)
