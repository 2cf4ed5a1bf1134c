-- The text of extra dimensions.
use Rattle.std.specs.Prelude.{ℕ, Bool, bytes_eq, nat_le, List, length, codes, Option, Some, None, option_and_then, if◌then◌else◌}
use Rattle.option_texts.specs.declared.extra_dims.NamedField.{NamedField}
use Rattle.option_texts.specs.declared.extra_dims.ExtraDims.{ExtraDims}
use Rattle.option_texts.specs.declared.extra_dims.ExtraDims.TheVariants.{All, Fields}
use Rattle.option_texts.specs.NamedFields.{field_asked, are_different}
use Rattle.option_texts.specs.Parts.{trimmed, parts_of, each_read}

abbrev pub is_all : List ℕ → Bool
is_all text = bytes_eq (trimmed text) (codes "all")

abbrev pub where_different : List NamedField → Option ExtraDims
where_different fields = if are_different fields then Some (Fields fields) else None

-- `all`, or 8 fields at most
abbrev pub extra_dims_of : List ℕ → Option ExtraDims
extra_dims_of text = if is_all text then Some All
    else (if nat_le (length (parts_of text)) 8 then option_and_then where_different (each_read field_asked (parts_of text)) else None)
