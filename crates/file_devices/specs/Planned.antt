-- Devices in memory: the calls on them that are made to fail, and how much a read gives.
use Rattle.std.specs.Prelude.{ℕ, ◌-◌, ◌==◌, min, List, map, filter}

-- of pairs of an object and the number of a call on it, the numbers that belong to this object
abbrev pub fails_of : List (ℕ × ℕ) → ℕ → List ℕ
fails_of pairs object = map (λ p. p.1) (filter (λ p. p.0 == object) pairs)

-- how many bytes a read gives: what is left, at most the room, and at most so many at a time
abbrev pub read_count : ℕ → ℕ → ℕ → ℕ → ℕ
read_count size at room most = min (min (size - at) room) most
