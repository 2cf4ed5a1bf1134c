-- The fields that a writer is asked for (`extra_dims`), with their places among the extra names and in the record.
use Rattle.std.specs.Prelude.{◌≡◌, ℕ, ◌+◌, ◌≤◌, ◌==◌, pos, Bool, true, false, List, [], ◌∷◌, length, Option, Some, None, if◌then◌else◌}
use Rattle.std.specs.Int.Signed.{le_z_yes}
use Rattle.std.specs.Option.{unwrap_or}
use Rattle.std.specs.List.{All as Each}
use Rattle.cloud_points.specs.ExtraFields.{kind_size}
use Rattle.cloud_points.specs.ExtraNames.{NoneStandard, place_in}
use Rattle.cloud_points.specs.declared.dims.Dim.{Dim}
use Rattle.cloud_points.specs.declared.dims.Dim.TheVariants.{Extra}
use Rattle.cloud_points.specs.declared.extra.ExtraField.{ExtraField}
use Rattle.cloud_points.specs.declared.extra.ExtraKind.TheVariants.{I64}
use Rattle.decimal_coords.specs.declared.grid.Scale.{Scale}
use Rattle.option_texts.specs.declared.extra_dims.ExtraDims.{ExtraDims}
use Rattle.option_texts.specs.declared.extra_dims.ExtraDims.TheVariants.{All, Fields}
use Rattle.option_texts.specs.declared.extra_dims.NamedField.{NamedField}
use Rattle.option_texts.specs.NamedFields.{are_different}
use Rattle.text_bytes.specs.Bytes.{is_name}
use Rattle.stage_names.specs.declared.faults.PipeFault.{PipeFault}
use Rattle.stage_names.specs.declared.faults.PipeFault.TheVariants.{DimUnknown}
use Rattle.stage_names.specs.Faults.{or_else}
use Rattle.extra_bytes.specs.Fields.{AreLaid}

-- steps of values with so many decimal places, in nanounits: of nine places, the most, they are of one
abbrev pub places_scale : ℕ → Scale
places_scale n = if n == 0 then record { nano = pos 1_000_000_000; low = le_z_yes tt; high = le_z_yes tt }
    else (if n == 1 then record { nano = pos 100_000_000; low = le_z_yes tt; high = le_z_yes tt }
    else (if n == 2 then record { nano = pos 10_000_000; low = le_z_yes tt; high = le_z_yes tt }
    else (if n == 3 then record { nano = pos 1_000_000; low = le_z_yes tt; high = le_z_yes tt }
    else (if n == 4 then record { nano = pos 100_000; low = le_z_yes tt; high = le_z_yes tt }
    else (if n == 5 then record { nano = pos 10_000; low = le_z_yes tt; high = le_z_yes tt }
    else (if n == 6 then record { nano = pos 1_000; low = le_z_yes tt; high = le_z_yes tt }
    else (if n == 7 then record { nano = pos 100; low = le_z_yes tt; high = le_z_yes tt }
    else (if n == 8 then record { nano = pos 10; low = le_z_yes tt; high = le_z_yes tt }
    else record { nano = pos 1; low = le_z_yes tt; high = le_z_yes tt }))))))))

-- each extra dimension of a layout, from this place of the names on, as 64 bits with nine decimal places
abbrev pub all_from : ℕ → (Dim → Bool) → List (List ℕ) → List NamedField
all_from place held [] = []
all_from place held (name ∷ names) = if held (Extra place)
    then record { name = name; kind = I64; places = 9 } ∷ all_from (place + 1) held names
    else all_from (place + 1) held names

-- the fields that are asked for, where a layout holds these dimensions
abbrev pub asked_of : (Dim → Bool) → List (List ℕ) → ExtraDims → List NamedField
asked_of held names All = all_from 0 held names
asked_of held names (Fields fields) = fields

-- one of them that begins at a place of the record
abbrev pub asked_field : List (List ℕ) → ℕ → NamedField → ExtraField
asked_field names at f = record {
  name = f.name;
  place = unwrap_or (place_in f.name names) 0;
  kind = f.kind;
  at = at;
  scale = places_scale f.places;
  offset = pos 0;
}

-- one right behind another from a place on
abbrev pub asked_fields : List (List ℕ) → ℕ → List NamedField → List ExtraField
asked_fields names at [] = []
asked_fields names at (f ∷ fs) = asked_field names at f ∷ asked_fields names (at + kind_size f.kind) fs

abbrev pub held_at : (Dim → Bool) → Option ℕ → Bool
held_at held (Some place) = held (Extra place)
held_at held None = false

-- a name is that of an extra dimension that the layout holds
abbrev pub is_extra : (Dim → Bool) → List (List ℕ) → List ℕ → Bool
is_extra held names name = held_at held (place_in name names)

abbrev pub field_unknown : ℕ → (Dim → Bool) → List (List ℕ) → NamedField → Option PipeFault
field_unknown i held names f = if is_extra held names f.name then None else Some (DimUnknown i f.name)

-- the first name that isn't
abbrev pub asked_fault : ℕ → (Dim → Bool) → List (List ℕ) → List NamedField → Option PipeFault
asked_fault i held names [] = None
asked_fault i held names (f ∷ fs) = or_else (field_unknown i held names f) (asked_fault i held names fs)

-- names of at most 32 bytes, none of them the standard's
abbrev pub AreShortOwn : List (List ℕ) → Type 0
AreShortOwn names = NoneStandard names × Each (λ name. length name ≤ 32) names

-- the names of a pipeline's extra dimensions, which are names that a field may have, too
abbrev pub AreOwn : List (List ℕ) → Type 0
AreOwn names = AreShortOwn names × Each (λ name. is_name name ≡ true) names

-- different fields that a layout holds are laid one right behind another
abbrev pub AskedAreLaid : Type 0
AskedAreLaid = (i : ℕ) (held : Dim → Bool) (names : List (List ℕ)) (from : ℕ) (asked : List NamedField) → length names ≤ 8 → AreShortOwn names → Each (λ (f : NamedField). is_name f.name ≡ true) asked
    → are_different asked ≡ true → asked_fault i held names asked ≡ None → AreLaid from (asked_fields names from asked)
