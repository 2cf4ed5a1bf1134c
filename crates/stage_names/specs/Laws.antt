-- Laws of the names of types.
use Rattle.std.specs.Prelude.{◌≡◌, ℕ, List, Some}
use Rattle.stage_names.specs.declared.kinds.KindName.{KindName}
use Rattle.stage_names.specs.Kinds.{name_of, kind_named}

-- the name of each type leads back to that type
abbrev pub NamesLeadBack : Type 0
NamesLeadBack = (kind : KindName) → kind_named (name_of kind) ≡ Some kind

-- a name that leads to a type is that type's name
abbrev pub NamesAreOwn : Type 0
NamesAreOwn = (name : List ℕ) (kind : KindName) → kind_named name ≡ Some kind → name_of kind ≡ name
