-- The text of header fields that are taken over.
use Rattle.std.specs.Prelude.{ℕ, Bool, bytes_eq, List, [], ◌∷◌, codes, Option, Some, None, if◌then◌else◌}
use Rattle.std.specs.List.{list_any}
use Rattle.option_texts.specs.Parts.{trimmed, parts_of, each_read}

-- groups of fields, and single fields
abbrev pub forward_names : List (List ℕ)
forward_names =
    codes "all" ∷ codes "header" ∷ codes "format" ∷ codes "scale" ∷ codes "offset" ∷ codes "vlr"
    ∷ codes "dataformat_id" ∷ codes "filesource_id" ∷ codes "global_encoding" ∷ codes "project_id"
    ∷ codes "system_id" ∷ codes "software_id" ∷ codes "creation_doy" ∷ codes "creation_year"
    ∷ codes "scale_x" ∷ codes "scale_y" ∷ codes "scale_z"
    ∷ codes "offset_x" ∷ codes "offset_y" ∷ codes "offset_z" ∷ []

abbrev pub is_field : List ℕ → Bool
is_field name = list_any (bytes_eq name) forward_names

-- the name of a part, where it is one of these
abbrev pub field_of : List ℕ → Option (List ℕ)
field_of part = if is_field (trimmed part) then Some (trimmed part) else None

abbrev pub forward_of : List ℕ → Option (List (List ℕ))
forward_of text = each_read field_of (parts_of text)
