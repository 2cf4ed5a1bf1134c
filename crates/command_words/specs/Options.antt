-- The options of a run.
use Rattle.std.specs.Prelude.{◌≢◌, ℕ, true, false, List, [], ◌∷◌, ◌++◌, All, codes}
use Rattle.command_words.specs.Numbers.{IsNumber}
use Rattle.command_words.specs.declared.options.RunOptions.{RunOptions}
use Rattle.command_words.specs.declared.options.Setting.{Setting}
use Rattle.command_words.specs.declared.options.Setting.TheVariants.{Chunk, Queue, Workers, Patience}

abbrev pub name_of : Setting → List ℕ
name_of Chunk = codes "--chunk"
name_of Queue = codes "--queue"
name_of Workers = codes "--workers"
name_of Patience = codes "--patience"

abbrev pub least_of : Setting → ℕ
least_of Chunk = 1
least_of Queue = 1
least_of Workers = 1
least_of Patience = 0

abbrev pub most_of : Setting → ℕ
most_of Chunk = 64
most_of Queue = 64
most_of Workers = 32
most_of Patience = 1000000

-- one option: a number that is set, `--whole`, or `--stop first`
pub data Choice : Type 0 where
  number : Setting → ℕ → Choice
  whole : Choice
  stop : Choice

abbrev pub word_of : Choice → List ℕ
word_of (number s n) = name_of s
word_of whole = codes "--whole"
word_of stop = codes "--stop"

-- the words of one option
pub data IsOption : List (List ℕ) → Choice → Type 0 where
  is_number : {word : List ℕ} {n : ℕ} (s : Setting) → IsNumber (least_of s) (most_of s) word n → IsOption (name_of s ∷ word ∷ []) (number s n)
  is_whole : IsOption (codes "--whole" ∷ []) whole
  is_stop : IsOption (codes "--stop" ∷ codes "first" ∷ []) stop

-- the words of options of which no name stands twice, the last one first in the list
pub data AreOptions : List (List ℕ) → List Choice → Type 0 where
  none : AreOptions [] []
  more : {words own : List (List ℕ)} {cs : List Choice} {c : Choice} → AreOptions words cs → IsOption own c → All (λ earlier. word_of earlier ≢ word_of c) cs → AreOptions (words ++ own) (c ∷ cs)

abbrev pub usual : RunOptions
usual = record { chunk = 64; queue = 8; workers = 1; patience = 1000; whole = false; stop_first = false }

abbrev pub put : Choice → RunOptions → RunOptions
put (number Chunk n) o = record o { chunk = n }
put (number Queue n) o = record o { queue = n }
put (number Workers n) o = record o { workers = n }
put (number Patience n) o = record o { patience = n }
put whole o = record o { whole = true }
put stop o = record o { stop_first = true }

-- the usual values with the given ones put in
abbrev pub options_with : List Choice → RunOptions
options_with [] = usual
options_with (c ∷ cs) = put c (options_with cs)
