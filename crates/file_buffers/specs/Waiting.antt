-- Bytes that wait in a sink's buffer until they are written together.
use Rattle.std.specs.Prelude.{ℕ, ◌+◌, List, [], ◌++◌, length, nat_le, if◌then◌else◌}

-- what waits after a piece was appended: a piece for which there is room waits behind the others, one for
-- which there isn't waits alone, and one that is larger than the buffer doesn't wait
abbrev pub waiting_after : ℕ → List ℕ → List ℕ → List ℕ
waiting_after room waiting piece =
    if nat_le (length waiting + length piece) room then waiting ++ piece
    else (if nat_le (length piece) room then piece else [])
