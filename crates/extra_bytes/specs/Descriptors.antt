-- Descriptors of extra bytes, and the fields that they describe.
use Rattle.std.specs.Prelude.{ℕ, zero, suc, ◌+◌, ◌/◌, ◌%◌, ◌==◌, ◌||◌, nat_le, ℤ, pos, Bool, List, [], ◌++◌, length, drop, is_some, Option, Some, None, option_map, option_and_then, if◌then◌else◌}
use Rattle.std.specs.Option.{option_to_list}
use Rattle.std.specs.Result.{result_ok}
use Rattle.std.specs.List.{list_any, before_first}
use Rattle.std.specs.Int.Signed.{le_z_yes}
use Rattle.byte_numbers.specs.Bytes.{number_at, piece}
use Rattle.decimal_coords.specs.declared.grid.Scale.{Scale}
use Rattle.ieee_words.specs.DecimalOfWord.{decimal_of_word}
use Rattle.las_header.specs.ScaleWords.{scale_read}
use Rattle.text_bytes.specs.Bytes.{is_name}
use Rattle.cloud_points.specs.ExtraFields.{kind_size}
use Rattle.cloud_points.specs.ExtraNames.{same_name, dim_named}
use Rattle.cloud_points.specs.declared.extra.ExtraKind.{ExtraKind}
use Rattle.cloud_points.specs.declared.extra.ExtraKind.TheVariants.{U8, I8, U16, I16, U32, I32, U64, I64}
use Rattle.cloud_points.specs.declared.extra.ExtraField.{ExtraField}

-- the type and the options of the descriptor in front of these bytes
abbrev pub type_in : List ℕ → ℕ
type_in bytes = number_at 2 1 bytes

abbrev pub options_in : List ℕ → ℕ
options_in bytes = number_at 3 1 bytes

-- the kind of a type
abbrev pub kind_numbered : ℕ → Option ExtraKind
kind_numbered n = if n == 1 then Some U8 else (if n == 2 then Some I8 else (if n == 3 then Some U16 else (if n == 4 then Some I16
    else (if n == 5 then Some U32 else (if n == 6 then Some I32 else (if n == 7 then Some U64 else (if n == 8 then Some I64 else None)))))))

-- the bytes of a record that it describes, where it has a type of at most 10: so many as its options say, a number, or a float
abbrev pub size_in : List ℕ → Option ℕ
size_in bytes = if type_in bytes == 0 then Some (options_in bytes) else (if type_in bytes == 9 then Some 4
    else (if type_in bytes == 10 then Some 8 else option_map kind_size (kind_numbered (type_in bytes))))

-- the same, where they begin at a place and end within the record
abbrev pub size_within : ℕ → ℕ → List ℕ → Option ℕ
size_within at length bytes = option_and_then (λ size. if nat_le (at + size) length then Some size else None) (size_in bytes)

-- the name field, up to the first zero byte
abbrev pub text_in : List ℕ → List ℕ
text_in bytes = before_first (λ b. b == 0) (piece 4 32 bytes)

-- the name of one of these fields, or of a dimension of the standard besides
abbrev pub has_name : List ℕ → List ExtraField → Bool
has_name name fields = list_any (λ (field : ExtraField). same_name field.name name) fields

abbrev pub is_taken : List ℕ → List ExtraField → Bool
is_taken name fields = is_some (dim_named name) || has_name name fields

-- the name, where it is a new one
abbrev pub name_in : List ExtraField → List ℕ → Option (List ℕ)
name_in fields bytes = if is_name (text_in bytes)
    then (if is_taken (text_in bytes) fields then None else Some (text_in bytes))
    else None

-- steps of 1
abbrev pub unit_scale : Scale
unit_scale = record { nano = pos 1_000_000_000; low = le_z_yes tt; high = le_z_yes tt }

-- the scale, which bit 3 of the options marks as relevant
abbrev pub scale_in : List ℕ → Option Scale
scale_in bytes = if options_in bytes / 8 % 2 == 0 then Some unit_scale else result_ok (scale_read (number_at 112 8 bytes))

-- the offset in nanounits, which bit 4 marks as relevant
abbrev pub offset_in : List ℕ → Option ℤ
offset_in bytes = if options_in bytes / 16 % 2 == 0 then Some (pos 0) else option_map (λ d. d.nano) (result_ok (decimal_of_word (number_at 136 8 bytes)))

abbrev pub field_with : ℕ → List ℕ → ExtraKind → Scale → ℤ → ExtraField
field_with at name kind scale offset = record { name = name; place = 0; kind = kind; at = at; scale = scale; offset = offset }

-- the field at a place, where the descriptor is taken behind those of these fields
abbrev pub field_in : ℕ → List ExtraField → List ℕ → Option ExtraField
field_in at fields bytes =
    option_and_then (λ name. option_and_then (λ kind. option_and_then (λ scale. option_map (field_with at name kind scale) (offset_in bytes)) (scale_in bytes))
    (kind_numbered (type_in bytes))) (name_in fields bytes)

-- with that field behind them
abbrev pub more_fields : ℕ → List ExtraField → List ℕ → List ExtraField
more_fields at fields bytes = fields ++ option_to_list (field_in at fields bytes)

abbrev pub where_within : Option ℕ → (ℕ → List ExtraField) → List ExtraField → List ExtraField
where_within (Some size) on fields = on size
where_within None on fields = fields

-- these fields, and those that so many descriptors describe behind them, from a place of a record with so many bytes on
unfoldable pub fields_behind : ℕ → List ExtraField → ℕ → ℕ → List ℕ → List ExtraField
fields_behind zero fields at length bytes = fields
fields_behind (suc more) fields at length bytes = where_within (size_within at length bytes)
    (λ size. fields_behind more (more_fields at fields bytes) (at + size) length (drop 192 bytes)) fields

-- the fields that the whole descriptors of a payload describe
abbrev pub fields_of : List ℕ → ℕ → ℕ → List ExtraField
fields_of payload from size = fields_behind (length payload / 192) [] from size payload
