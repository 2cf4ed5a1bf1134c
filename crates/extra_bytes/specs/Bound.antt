-- Fields whose names have places among the extra names.
use Rattle.std.specs.Prelude.{ℕ, ◌+◌, ◌≤◌, ◌==◌, ◌&&◌, Bool, List, [], ◌∷◌, length, map, is_none, Option, Some, None, if◌then◌else◌}
use Rattle.std.specs.Option.{unwrap_or}
use Rattle.cloud_points.specs.ExtraFields.{kind_size}
use Rattle.cloud_points.specs.ExtraNames.{place_in, added}
use Rattle.cloud_points.specs.declared.extra.ExtraField.{ExtraField}
use Rattle.stage_names.specs.declared.faults.PipeFault.{PipeFault}
use Rattle.stage_names.specs.declared.faults.PipeFault.TheVariants.{TooManyDims}
use Rattle.stage_names.specs.Faults.{or_else}

-- a field with the place that its name has, or that it gets
abbrev pub bound_field : List (List ℕ) → ExtraField → ExtraField
bound_field names f = record f { place = unwrap_or (place_in f.name (added f.name names)) 0 }

-- a name would be the ninth
abbrev pub is_ninth : List ℕ → List (List ℕ) → Bool
is_ninth name names = is_none (place_in name names) && (length names == 8)

abbrev pub field_fault : ℕ → List (List ℕ) → ExtraField → Option PipeFault
field_fault i names f = if is_ninth f.name names then Some (TooManyDims i) else None

-- fields one after the other
abbrev pub bound_fields : List (List ℕ) → List ExtraField → List ExtraField
bound_fields names [] = []
bound_fields names (f ∷ fs) = bound_field names f ∷ bound_fields (added f.name names) fs

-- the names with theirs
abbrev pub names_with : List (List ℕ) → List ExtraField → List (List ℕ)
names_with names [] = names
names_with names (f ∷ fs) = names_with (added f.name names) fs

-- what fields are called
abbrev pub names_of : List ExtraField → List (List ℕ)
names_of fields = map (λ (f : ExtraField). f.name) fields

-- a field ends within a record of so many bytes
abbrev pub EndsWithin : ℕ → ExtraField → Type 0
EndsWithin size f = f.at + kind_size f.kind ≤ size

-- the first fault
abbrev pub fields_fault : ℕ → List (List ℕ) → List ExtraField → Option PipeFault
fields_fault i names [] = None
fields_fault i names (f ∷ fs) = or_else (field_fault i names f) (fields_fault i (added f.name names) fs)
