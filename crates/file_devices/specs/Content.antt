-- What reads and writes do to bytes.
use Rattle.std.specs.Prelude.{◌≡◌, ℕ, ◌+◌, ◌<◌, ◌≤◌, ◌↔◌, List, ◌++◌, length, take, drop, Option, Some, option_map}
use Rattle.file_devices.specs.Told.{IsAsTold}

-- a read at this place gave n bytes
pub record ReadsAt (bytes : Option (List ℕ)) (at n : ℕ) (old new : List ℕ) : Type 0 where
  pub within : n ≤ length old
  pub rest : drop n new ≡ drop n old
  pub given : (b : List ℕ) → bytes ≡ Some b → take n new ≡ take n (drop at b)
  pub end : (b : List ℕ) → bytes ≡ Some b → 0 < length old → (n ≡ 0) ↔ (length b ≤ at)

-- the bytes, with these at a place
abbrev pub patched : ℕ → List ℕ → List ℕ → List ℕ
patched at piece b = take at b ++ piece ++ drop (at + length piece) b

-- where the new bytes are told, they are the old ones and then a piece
abbrev pub Appends : Option (List ℕ) → List ℕ → Option (List ℕ) → Type 0
Appends old piece new = IsAsTold new (option_map (λ b. b ++ piece) old)

-- the same with some prefix of the piece
abbrev pub AppendsPart : Option (List ℕ) → List ℕ → Option (List ℕ) → Type 0
AppendsPart old piece new = (k : ℕ) × Appends old (take k piece) new

-- where the new bytes are told, they are the old ones with a piece at a place
abbrev pub Patches : Option (List ℕ) → ℕ → List ℕ → Option (List ℕ) → Type 0
Patches old at piece new = IsAsTold new (option_map (patched at piece) old)

-- the same before the place, from n bytes behind it on, and in length
pub record SameOutside (at n : ℕ) (old new : List ℕ) : Type 0 where
  pub before : take at new ≡ take at old
  pub after : drop (at + n) new ≡ drop (at + n) old
  pub same_length : length new ≡ length old

-- the same with any bytes in place of the n from a place on
abbrev pub PatchesSomehow : Option (List ℕ) → ℕ → ℕ → Option (List ℕ) → Type 0
PatchesSomehow old at n new = (b : List ℕ) → new ≡ Some b → (a : List ℕ) × (old ≡ Some a) × SameOutside at n a b
