-- A field from the parts of its descriptor.
use Rattle.std.proofs.Common.{◌≡◌, ℕ, ℤ, List, slice_index, Option, option_map, option_and_then, arith}
use Rattle.decimal_coords.specs.declared.grid.Scale.{Scale}
use Rattle.cloud_points.specs.declared.extra.ExtraKind.{ExtraKind}
use Rattle.cloud_points.specs.declared.extra.ExtraField.{ExtraField}
use Rattle.extra_bytes.specs.Descriptors.{type_in, kind_numbered, name_in, scale_in, offset_in, field_with, field_in}

abbrev pub field_from : ℕ → Option (List ℕ) → Option ExtraKind → Option Scale → Option ℤ → Option ExtraField
field_from at name kind scale offset =
    option_and_then (λ n. option_and_then (λ k. option_and_then (λ s. option_map (field_with at n k s) offset) scale) kind) name

pub field_is : (at : ℕ) (fields : List ExtraField) (bytes : List ℕ) (name : Option (List ℕ)) (kind : Option ExtraKind) (scale : Option Scale) (offset : Option ℤ)
    → name_in fields bytes ≡ name → kind_numbered (type_in bytes) ≡ kind → scale_in bytes ≡ scale → offset_in bytes ≡ offset
    → field_in at fields bytes ≡ field_from at name kind scale offset
field_is at fields bytes name kind scale offset a b c d = λ i. field_from at (a i) (b i) (c i) (d i)

pub type_byte : (bytes : List ℕ) → type_in bytes ≡ slice_index bytes 2
type_byte bytes = omega arith
