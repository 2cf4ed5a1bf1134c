-- A sink that tells its bytes until it goes past its room.
use Rattle.std.specs.Prelude.{◌≡◌, ℕ, ◌<◌, ◌-◌, ◌^◌, List, ◌++◌, length, min, Bool, true, false, Option, Some, None, if◌then◌else◌}

-- the count of a device that never fails
abbrev pub no_faults : ℕ
no_faults = 0

-- what is told of the counts of devices that never fail
abbrev pub no_counts : Option (List ℕ)
no_counts = None

-- what it tells, by whether it went past its room and what it holds
abbrev pub sure_bytes : Bool → List ℕ → Option (List ℕ)
sure_bytes over content = if over then None else Some content

-- how much was appended: past its room the sink counts by itself
abbrev pub sure_appended : Bool → List ℕ → ℕ → ℕ
sure_appended over content n = if over then n else min (length content) (2 ^ 64 - 1)

-- what it holds after an append, by whether it is past its room then: the piece is put whole or not at all
abbrev pub sure_held : Bool → List ℕ → List ℕ → List ℕ
sure_held over content piece = if over then content else content ++ piece

pub counted_until : (over : Bool) (content : List ℕ) (n : ℕ) (b : List ℕ) → (if over then None else Some content) ≡ Some b → (if over then n else min (length content) (2 ^ 64 - 1)) ≡ min (length b) (2 ^ 64 - 1)
counted_until true content n b e = cc
counted_until false content n b e = cc

-- the bytes that an object tells, where it holds few
pub short_list : (content b : List ℕ) → length content < 2 ^ 64 → Some content ≡ Some b → length b < 2 ^ 64
short_list content b h e = let same : content ≡ b = cc in rw (← same) h
