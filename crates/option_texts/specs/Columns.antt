-- The text of columns.
use Rattle.std.specs.Prelude.{ℕ, ◌-◌, ◌≤◌, Bool, ◌==◌, nat_le, nat_lt, IfSome, List, [], ◌∷◌, length, Option, Some, None, option_and_then, if◌then◌else◌}
use Rattle.std.specs.List.{All, position_or_len, before_first, after_first}
use Rattle.std.specs.Char.{is_ascii_digit}
use Rattle.option_texts.specs.declared.columns.NamedColumn.{NamedColumn}
use Rattle.option_texts.specs.Parts.{trimmed, parts_of, each_read}
use Rattle.text_bytes.specs.Bytes.{is_name}

abbrev pub is_colon : ℕ → Bool
is_colon b = b == 58

abbrev pub has_colon : List ℕ → Bool
has_colon part = nat_lt (position_or_len is_colon part) (length part)

abbrev pub digit_of : List ℕ → Option ℕ
digit_of (b ∷ []) = if is_ascii_digit b then Some (b - 48) else None
digit_of _ = None

abbrev pub column_with : (name : List ℕ) → (places : Option ℕ) → Option NamedColumn
column_with name places = if is_name name then Some (record { name = name; places = places }) else None

-- a name, or a name, a colon and a digit
abbrev pub column_of : List ℕ → Option NamedColumn
column_of part =
    if has_colon part
    then option_and_then (λ d. column_with (trimmed (before_first is_colon part)) (Some d)) (digit_of (trimmed (after_first is_colon part)))
    else column_with (trimmed part) None

-- 64 columns at most
abbrev pub columns_of : List ℕ → Option (List NamedColumn)
columns_of text = if nat_le (length (parts_of text)) 64 then each_read column_of (parts_of text) else None

-- 64 columns at most, of one digit each
pub record AreColumns (columns : List NamedColumn) : Type 0 where
  pub few : length columns ≤ 64
  pub near : All (λ (c : NamedColumn). IfSome c.places (λ n. n ≤ 9)) columns
