-- The fields of a text of extra dimensions.
use Rattle.std.specs.Prelude.{ℕ, ◌≡◌, ◌≤◌, Bool, true, ◌&&◌, not, bytes_eq, List, [], ◌∷◌, length, codes, Option, Some, None, option_and_then, if◌then◌else◌}
use Rattle.std.specs.List.{All, list_any, before_first, after_first}
use Rattle.cloud_points.specs.ExtraNames.{same_name}
use Rattle.cloud_points.specs.declared.extra.ExtraKind.{ExtraKind}
use Rattle.cloud_points.specs.declared.extra.ExtraKind.TheVariants.{U8, I8, U16, I16, U32, I32, U64, I64}
use Rattle.option_texts.specs.declared.extra_dims.NamedField.{NamedField}
use Rattle.option_texts.specs.Columns.{is_colon, has_colon, digit_of}
use Rattle.option_texts.specs.Ferries.{is_equals, has_equals}
use Rattle.option_texts.specs.Parts.{trimmed}
use Rattle.text_bytes.specs.Bytes.{is_name}

-- the kind with a name
abbrev pub kind_called : List ℕ → Option ExtraKind
kind_called name = if bytes_eq name (codes "uint8") then Some U8 else (if bytes_eq name (codes "int8") then Some I8
    else (if bytes_eq name (codes "uint16") then Some U16 else (if bytes_eq name (codes "int16") then Some I16
    else (if bytes_eq name (codes "uint32") then Some U32 else (if bytes_eq name (codes "int32") then Some I32
    else (if bytes_eq name (codes "uint64") then Some U64 else (if bytes_eq name (codes "int64") then Some I64 else None)))))))

-- with a name and a kind
abbrev pub field_with : (name : List ℕ) → (kind : Option ExtraKind) → (places : ℕ) → Option NamedField
field_with name None places = None
field_with name (Some kind) places = if is_name name then Some (record { name = name; kind = kind; places = places }) else None

-- with a type, or a type, a colon and a digit
abbrev pub field_typed : (name text : List ℕ) → Option NamedField
field_typed name text =
    if has_colon text
    then option_and_then (field_with name (kind_called (trimmed (before_first is_colon text)))) (digit_of (trimmed (after_first is_colon text)))
    else field_with name (kind_called (trimmed text)) 0

-- `NAME=TYPE`
abbrev pub field_asked : List ℕ → Option NamedField
field_asked part = if has_equals part then field_typed (trimmed (before_first is_equals part)) (after_first is_equals part) else None

abbrev pub has_name : List ℕ → List NamedField → Bool
has_name name fields = list_any (λ (field : NamedField). same_name name field.name) fields

-- no two fields have one name
abbrev pub are_different : List NamedField → Bool
are_different [] = true
are_different (field ∷ fields) = not (has_name field.name fields) && are_different fields

-- 8 fields at most, of one digit each, no two with one name
pub record AreFields (fields : List NamedField) : Type 0 where
  pub few : length fields ≤ 8
  pub named : All (λ (f : NamedField). is_name f.name ≡ true) fields
  pub near : All (λ (f : NamedField). f.places ≤ 9) fields
  pub different : are_different fields ≡ true
