-- Named bytes in a list.
use Rattle.std.specs.Prelude.{◌≡◌, ℕ, List, [], ◌∷◌, take, Bool, Option, Some, None, if◌then◌else◌, String, Vec}
use Rattle.std.specs.String.{string_bytes}
use Rattle.std.specs.declared.alloc.Global.{Global}
use Rattle.file_devices.specs.Named.{Names, put}

-- the map of the entries, of which the first with a name counts
abbrev pub found : List (String Global × Vec ℕ Global) → Names
found [] = λ q. None
found (e ∷ es) = put (found es) (string_bytes e.0) e.1.items

-- that map, where it is told
abbrev pub told_map : Bool → List (String Global × Vec ℕ Global) → Option Names
told_map told entries = if told then Some (found entries) else None

-- so many are passed, and none has the name
pub record NonePassed (files : List (String Global × Vec ℕ Global)) (name : List ℕ) (at index : ℕ) : Type 0 where
  pub counted : at ≡ index
  pub front : found (take index files) name ≡ None
