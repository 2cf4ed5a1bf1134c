-- What stands below a stage, by its own reader or by what stands below its inputs.
use Rattle.std.specs.Prelude.{◌≡◌, ℕ, Bool, false, List, [], ◌∷◌, flat_map, slice_get, Option, Some, None}
use Rattle.std.specs.List.{list_any}
use Rattle.cloud_points.specs.declared.dims.Dim.{Dim}
use Rattle.cloud_points.specs.Layouts.{holds}
use Rattle.las_header.specs.declared.form.Format.{Format}
use Rattle.las_reader.specs.declared.reader.LasReader.{LasReader}
use Rattle.point_formats.specs.Layouts.{dims_of, is_among}
use Rattle.stage_forms.specs.declared.below.Below.{Below}

-- the numbers of the readers, where something stands below
abbrev pub readers_in : Option Below → List ℕ
readers_in None = []
readers_in (Some b) = b.readers.items

-- the dimensions, where something stands below
abbrev pub dims_in : Option Below → Dim → Bool
dims_in None dim = false
dims_in (Some b) dim = holds b.layout dim

-- a reader has itself, and the dimensions of its format
pub record IsOwn (number : ℕ) (format : Format) (b : Below) : Type 0 where
  pub readers : b.readers.items ≡ number ∷ []
  pub dims : (dim : Dim) → holds b.layout dim ≡ is_among dim (dims_of format)

-- another stage has what its inputs have, in their order
pub record IsJoined (belows : List Below) (inputs : List ℕ) (b : Below) : Type 0 where
  pub readers : b.readers.items ≡ flat_map (λ j. readers_in (slice_get belows j)) inputs
  pub dims : (dim : Dim) → holds b.layout dim ≡ list_any (λ j. dims_in (slice_get belows j) dim) inputs

-- one or the other
abbrev pub IsFound : {S : Type 0} → Option (LasReader S) → ℕ → List Below → List ℕ → Below → Type 0
IsFound (Some r) number belows inputs b = IsOwn number r.header.format b
IsFound None number belows inputs b = IsJoined belows inputs b
