-- The variable length record with the descriptors of fields.
use Rattle.std.specs.Prelude.{◌≡◌, ℕ, false, List, [], ◌∷◌, ◌++◌, replicate, map}
use Rattle.std.specs.List.{All, flat_map}
use Rattle.std.specs.Option.{unwrap_or}
use Rattle.las_vlr.specs.ExtraBytes.{standard_user, is_extra_bytes, extra_bytes_in}
use Rattle.las_vlr.specs.declared.entry.Vlr.{Vlr}
use Rattle.cloud_points.specs.declared.extra.ExtraField.{ExtraField}
use Rattle.extra_bytes.specs.Descriptors.{fields_of}
use Rattle.extra_bytes.specs.Written.{AreDescribed, descriptor_bytes, unplaced}

-- the fields that the first such record of a list describes
abbrev pub fields_among : List Vlr → ℕ → ℕ → List ExtraField
fields_among vlrs from length = fields_of (unwrap_or (extra_bytes_in vlrs) []) from length

-- the record that describes these fields
abbrev pub extra_vlr : List ExtraField → Vlr
extra_vlr fields = record { reserved = 0; user = standard_user; id = 4; text = replicate 32 0; payload = flat_map descriptor_bytes fields }

-- behind others that describe none it is read as they were written, but for their places
abbrev pub RecordIsRead : Type 0
RecordIsRead = (vlrs : List Vlr) (from size : ℕ) (fields : List ExtraField) → All (λ v. is_extra_bytes v ≡ false) vlrs → AreDescribed [] from size fields
    → fields_among (vlrs ++ extra_vlr fields ∷ []) from size ≡ map unplaced fields
