-- The text of ferries.
use Rattle.std.specs.Prelude.{ℕ, ◌≡◌, Bool, true, ◌&&◌, ◌==◌, nat_le, nat_lt, List, [], ◌∷◌, length, Option, Some, None, if◌then◌else◌}
use Rattle.std.specs.List.{All, position_or_len, before_first, after_first}
use Rattle.option_texts.specs.declared.ferries.NamedFerry.{NamedFerry}
use Rattle.option_texts.specs.Parts.{trimmed, parts_of, each_read}
use Rattle.text_bytes.specs.Bytes.{is_name}

abbrev pub is_equals : ℕ → Bool
is_equals b = b == 61

abbrev pub has_equals : List ℕ → Bool
has_equals part = nat_lt (position_or_len is_equals part) (length part)

-- with two names
abbrev pub ferry_with : (from to : List ℕ) → Option NamedFerry
ferry_with from to = if is_name from && is_name to then Some (record { from = from; to = to }) else None

-- `>` and a name stand behind the `=`
abbrev pub ferry_behind : (from behind : List ℕ) → Option NamedFerry
ferry_behind from [] = None
ferry_behind from (b ∷ to) = if b == 62 then ferry_with from (trimmed to) else None

-- `FROM => TO`
abbrev pub ferry_of : List ℕ → Option NamedFerry
ferry_of part = if has_equals part then ferry_behind (trimmed (before_first is_equals part)) (after_first is_equals part) else None

-- ferries to names
abbrev pub AreFerries : List NamedFerry → Type 0
AreFerries ferries = All (λ (f : NamedFerry). is_name f.to ≡ true) ferries

-- 64 ferries at most
abbrev pub ferries_of : List ℕ → Option (List NamedFerry)
ferries_of text = if nat_le (length (parts_of text)) 64 then each_read ferry_of (parts_of text) else None
