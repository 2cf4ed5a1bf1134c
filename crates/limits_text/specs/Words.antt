-- the words of a text: names, numbers and signs, and the spaces between them
use Rattle.std.specs.Prelude.{ℕ, ◌+◌, ◌<◌, ◌≡◌, List, [], ◌∷◌, ◌++◌, take, length, slice_index, Bool, true, false, not, ◌||◌, ◌==◌, if◌then◌else◌}
use Rattle.text_bytes.specs.Bytes.{is_space, is_digit, is_letter, is_word}
use Rattle.decimal_coords.specs.Scanning.{after, run as scan}
use Rattle.decimal_coords.specs.DecimalOfText.{is_dead}
use Rattle.decimal_coords.specs.declared.scan.Scan.TheVariants.{Start}
use Rattle.limits_text.specs.declared.control.WordKind.{WordKind}
use Rattle.limits_text.specs.declared.control.WordKind.TheVariants.{Name, Number, Sign}

abbrev pub begins_number : ℕ → Bool
begins_number b = is_digit b || b == 43 || b == 45 || b == 46

-- the sort of a word that begins so
abbrev pub kind_from : ℕ → WordKind
kind_from b = if is_letter b then Name else (if begins_number b then Number else Sign b)

abbrev pub kind_of : List ℕ → WordKind
kind_of [] = Sign 0
kind_of (b ∷ bs) = kind_from b

-- a word of this sort, with these bytes so far, goes on with the byte: a name with a letter, a digit or `_`,
-- and a number where it stays the front of a decimal
abbrev pub joins_kind : WordKind → List ℕ → ℕ → Bool
joins_kind Name bs b = is_word b
joins_kind Number bs b = not (is_dead (after (scan Start bs) b))
joins_kind (Sign s) bs b = false

abbrev pub joins : List ℕ → ℕ → Bool
joins bs b = joins_kind (kind_of bs) bs b

-- a word, its place, and whether a space stands before it
pub record Word : Type 0 where
  pub at : ℕ
  pub spaced : Bool
  pub bytes : List ℕ

-- the front of a text, of this length: the words before the last one, the latest first, and the last one where no
-- space follows it
pub data Front : Type 0 where
  gap : ℕ → List Word → Front
  inside : ℕ → List Word → Word → Front

abbrev pub word : ℕ → Bool → List ℕ → Word
word at spaced bytes = record { at = at; spaced = spaced; bytes = bytes }

abbrev pub with_byte : Word → ℕ → Word
with_byte w b = record w { bytes = w.bytes ++ b ∷ [] }

-- with one more byte
abbrev pub grown : Front → ℕ → Front
grown (gap n ws) b = if is_space b then gap (n + 1) ws else inside (n + 1) ws (word n true (b ∷ []))
grown (inside n ws w) b = if joins w.bytes b then inside (n + 1) ws (with_byte w b)
    else (if is_space b then gap (n + 1) (w ∷ ws) else inside (n + 1) (w ∷ ws) (word n false (b ∷ [])))

abbrev pub grown_by : Front → List ℕ → Front
grown_by r [] = r
grown_by r (b ∷ bs) = grown_by (grown r b) bs

abbrev pub front_of : List ℕ → Front
front_of text = grown_by (gap 0 []) text

-- the words of a front, the latest first
abbrev pub words_in : Front → List Word
words_in (gap n ws) = ws
words_in (inside n ws w) = w ∷ ws

-- the last word goes on with the byte
abbrev pub goes_on : Front → ℕ → Bool
goes_on (gap n ws) b = false
goes_on (inside n ws w) b = joins w.bytes b

abbrev pub is_gap : Front → Bool
is_gap (gap n ws) = true
is_gap (inside n ws w) = false

-- no word goes over the place
abbrev pub IsCut : List ℕ → ℕ → Type 0
IsCut text at = at < length text → goes_on (front_of (take at text)) (slice_index text at) ≡ false
