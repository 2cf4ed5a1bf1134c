-- where a text stops being the front of one of its grammar, and its fault
use Rattle.std.specs.Prelude.{ℕ, ◌+◌, ◌<◌, ◌≤◌, ◌≡◌, ◌⊎◌, List, ◌++◌, take, length, slice_index, true, false, Some, None}
use Rattle.limits_text.specs.declared.control.Control.{Control}
use Rattle.limits_text.specs.Words.{front_of, words_in, is_gap, IsCut}
use Rattle.text_bytes.specs.Bytes.{is_space}
use Rattle.limits_text.specs.Follows.{is_whole, control}
use Rattle.limits_text.specs.Wrong.{first_wrong, is_past}

-- the text's words follow each other as the grammar says
abbrev pub IsText : Control → List ℕ → Type 0
IsText start text = is_whole start (front_of text) ≡ true

abbrev pub CanGoOn : Control → List ℕ → Type 0
CanGoOn start text = (more : List ℕ) × IsText start (text ++ more)

-- the least place at which the text is a prefix of no text of the grammar, or its length where it ends too early
pub record StopsAt (start : Control) (text : List ℕ) (at : ℕ) : Type 0 where
  pub within : at ≤ length text
  pub front : CanGoOn start (take at text)
  pub stops : at < length text → ¬ CanGoOn start (take (at + 1) text)
  pub early : at ≡ length text → ¬ IsText start text

-- no value before it is wrong
pub record IsStop (start : Control) (text : List ℕ) (at : ℕ) : Type 0 where
  pub stops : StopsAt start text at
  pub right : first_wrong start (words_in (front_of (take at text))) ≡ None

-- a value is wrong, found at the end of a word, in a front that can go on
pub record IsWrong (start : Control) (text : List ℕ) (at : ℕ) : Type 0 where
  pub found : ℕ
  pub within : found ≤ length text
  pub cut : IsCut text found
  pub front : CanGoOn start (take found text)
  pub wrong : first_wrong start (words_in (front_of (take found text))) ≡ Some at

-- a part past the limit begins there, and no value before it is wrong
pub record IsPast (start : Control) (text : List ℕ) (at : ℕ) : Type 0 where
  pub within : at < length text
  pub cut : IsCut text at
  pub begins : is_space (slice_index text at) ≡ false
  pub front : CanGoOn start (take (at + 1) text)
  pub right : first_wrong start (words_in (front_of (take at text))) ≡ None
  pub past : is_past start (words_in (front_of (take at text))) ≡ true

-- the fault of a text that begins as the grammar `start`: the first one from left to right
abbrev pub IsFault : Control → List ℕ → ℕ → Type 0
IsFault start text at = IsStop start text at ⊎ IsWrong start text at ⊎ IsPast start text at

-- the text was read so far, where this may come next
pub record IsReached (start c : Control) (text : List ℕ) (at : ℕ) : Type 0 where
  pub within : at ≤ length text
  pub cut : IsCut text at
  pub next : control start (words_in (front_of (take at text))) ≡ Some c
  pub behind : 0 < at → is_gap (front_of (take at text)) ≡ false

-- what is known before a word
pub record IsBefore (start c : Control) (text : List ℕ) (place : ℕ) : Type 0 where
  pub within : place ≤ length text
  pub cut : IsCut text place
  pub next : control start (words_in (front_of (take place text))) ≡ Some c
  pub right : first_wrong start (words_in (front_of (take place text))) ≡ None
  pub room : is_past start (words_in (front_of (take place text))) ≡ false
  pub stops : place < length text → is_space (slice_index text place) ≡ false
