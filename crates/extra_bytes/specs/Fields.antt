-- The extra dimensions of a point in its record.
use Rattle.std.specs.Prelude.{◌≡◌, ℕ, ◌+◌, ◌≤◌, pos, List, [], ◌∷◌, ◌++◌, false, take, slice_get, sum_by, is_some, unwrap_or, Option, Some, None, Result, Ok, Err, if◌then◌else◌}
use Rattle.cloud_points.specs.ExtraFields.{kind_size}
use Rattle.cloud_points.specs.Points.{get, with_fixed}
use Rattle.cloud_points.specs.declared.dims.Dim.{Dim}
use Rattle.cloud_points.specs.declared.dims.Dim.TheVariants.{Extra}
use Rattle.cloud_points.specs.declared.extra.ExtraField.{ExtraField}
use Rattle.cloud_points.specs.declared.point.Point.{Point}
use Rattle.las_header.specs.Steps.{◌>>=◌}
use Rattle.extra_bytes.specs.Descriptors.{is_taken}
use Rattle.extra_bytes.specs.Values.{extra_read, is_raw, raw_bytes, raw_of}
use Rattle.extra_bytes.specs.Written.{IsDescribed}

-- what fields take of a record
abbrev pub fields_size : List ExtraField → ℕ
fields_size fields = sum_by (λ (f : ExtraField). kind_size f.kind) fields

-- field k of these: one of the eight extra dimensions that a descriptor describes, with a new name, right behind those before it, of which
-- the first begins at a byte of the record
pub record IsLaid (from : ℕ) (fields : List ExtraField) (k : ℕ) (f : ExtraField) : Type 0 where
  pub described : IsDescribed f
  pub name : is_taken f.name (take k fields) ≡ false
  pub at : f.at ≡ from + fields_size (take k fields)
  pub place : f.place ≤ 7

abbrev pub AreLaid : ℕ → List ExtraField → Type 0
AreLaid from fields = (k : ℕ) (f : ExtraField) → slice_get fields k ≡ Some f → IsLaid from fields k f

-- a field so many bytes further behind
abbrev pub moved : ℕ → ExtraField → ExtraField
moved by f = record f { at = f.at + by }

-- the bytes of a field with the value of a point, or its dimension where the nearest raw number is none of its kind
abbrev pub field_bytes : ExtraField → Point → Result (List ℕ) Dim
field_bytes f p = if is_raw f.kind (raw_of f (get p (Extra f.place))) then Ok (raw_bytes f.kind (raw_of f (get p (Extra f.place)))) else Err (Extra f.place)

-- the bytes of fields, one behind another, or the first such dimension
abbrev pub fields_bytes : List ExtraField → Point → Result (List ℕ) Dim
fields_bytes [] p = Ok []
fields_bytes (f ∷ fields) p = field_bytes f p >>= (λ first. fields_bytes fields p >>= (λ others. Ok (first ++ others)))

-- a point with the values of fields from its record
abbrev pub with_extra : List ExtraField → List ℕ → Point → Point
with_extra [] bytes p = p
with_extra (f ∷ fields) bytes p = with_extra fields bytes (with_fixed p (Extra f.place) (unwrap_or (extra_read f bytes) (pos 0)))

-- the dimension of the first field whose value no point holds
abbrev pub first_out : List ExtraField → List ℕ → Option Dim
first_out [] bytes = None
first_out (f ∷ fields) bytes = if is_some (extra_read f bytes) then first_out fields bytes else Some (Extra f.place)
