-- Names of writers under which one file may be written twice.
use Rattle.std.specs.Prelude.{ℕ, ◌≡◌, ◌<◌, ◌-◌, ◌++◌, ◌&&◌, ◌||◌, ◌⊎◌, Bool, List, length, take, drop, ◌==◌, not, nat_eq, bytes_eq, Option, Some, None, IsTrue, if◌then◌else◌}
use Rattle.std.specs.Char.{is_ascii_digit}
use Rattle.std.specs.List.{list_all, starts_with, ends_with, before_first, after_first}
use Rattle.stage_options.specs.Values.{is_mark, is_numbered}

-- the parts of a name before and behind its `#`, where it has one
abbrev pub parts_of : List ℕ → Option (List ℕ × List ℕ)
parts_of name = if is_numbered name then Some (before_first is_mark name, after_first is_mark name) else None

-- a text begins with a part, and ends with one
abbrev pub Begins : List ℕ → List ℕ → Type 0
Begins text part = (rest : List ℕ) × (text ≡ part ++ rest)

abbrev pub Ends : List ℕ → List ℕ → Type 0
Ends text part = (rest : List ℕ) × (text ≡ rest ++ part)

-- a text is two parts with one digit or more between them
abbrev pub HasDigits : List ℕ × List ℕ → List ℕ → Type 0
HasDigits parts text = (digits : List ℕ) × (text ≡ parts.0 ++ (digits ++ parts.1)) × (0 < length digits) × IsTrue (list_all is_ascii_digit digits)

abbrev pub MeetBy : Option (List ℕ × List ℕ) → Option (List ℕ × List ℕ) → List ℕ → List ℕ → Type 0
MeetBy None None one other = one ≡ other
MeetBy (Some parts) None one other = HasDigits parts other
MeetBy None (Some parts) one other = HasDigits parts one
MeetBy (Some parts) (Some others) one other = (Begins parts.0 others.0 ⊎ Begins others.0 parts.0) × (Ends parts.1 others.1 ⊎ Ends others.1 parts.1)

-- two names may come to name one file: equal names without a `#`; one with digits where the other has its `#`; two with a `#`,
-- where of their first parts one begins with the other, and of their last parts one ends with the other
abbrev pub MayMeet : List ℕ → List ℕ → Type 0
MayMeet one other = MeetBy (parts_of one) (parts_of other) one other

-- ---- the same, as tests

abbrev pub is_number : List ℕ → Bool
is_number text = not (length text == 0) && list_all is_ascii_digit text

abbrev pub is_number_before : List ℕ → List ℕ → Bool
is_number_before part text = ends_with nat_eq text part && is_number (take (length text - length part) text)

abbrev pub has_digits : List ℕ × List ℕ → List ℕ → Bool
has_digits parts text = starts_with nat_eq text parts.0 && is_number_before parts.1 (drop (length parts.0) text)

abbrev pub begin_alike : List ℕ → List ℕ → Bool
begin_alike one other = starts_with nat_eq one other || starts_with nat_eq other one

abbrev pub end_alike : List ℕ → List ℕ → Bool
end_alike one other = ends_with nat_eq one other || ends_with nat_eq other one

abbrev pub meet_by : Option (List ℕ × List ℕ) → Option (List ℕ × List ℕ) → List ℕ → List ℕ → Bool
meet_by None None one other = bytes_eq one other
meet_by (Some parts) None one other = has_digits parts other
meet_by None (Some parts) one other = has_digits parts one
meet_by (Some parts) (Some others) one other = begin_alike parts.0 others.0 && end_alike parts.1 others.1

abbrev pub may_meet : List ℕ → List ℕ → Bool
may_meet one other = meet_by (parts_of one) (parts_of other) one other
