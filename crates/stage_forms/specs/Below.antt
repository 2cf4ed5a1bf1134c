-- What stands below the stages of a tree, by their opened readers.
use Rattle.std.specs.Prelude.{◌≡◌, ℕ, ◌<◌, All, List, [], ◌∷◌, flat_map, slice_get, slice_index_or, is_some, Option, Some, None}
use Rattle.cloud_points.specs.declared.dims.Dim.{Dim}
use Rattle.cloud_points.specs.declared.extra.ExtraField.{ExtraField}
use Rattle.cloud_points.specs.Layouts.{holds}
use Rattle.forward_rules.specs.Forwarded.{ReadFile, read_file}
use Rattle.file_devices.specs.declared.devices.Source as source
use Rattle.las_reader.specs.Files.{las_with}
use Rattle.las_reader.specs.declared.reader.LasReader.{LasReader}
use Rattle.stage_options.specs.Roles.{is_reading}
use Rattle.stage_options.specs.declared.options.Options.{Options}
use Rattle.stage_options.specs.declared.stage.StageSpec.{StageSpec}
use Rattle.answer_model.specs.Values.{Opened, fields_found, role_at, reads_at, dims_at, dims_taken}
use Rattle.stage_forms.specs.declared.below.Below.{Below}

-- the file of a reader, as a writer may take it over
abbrev pub read_of : {S : Type 0} → LasReader S → ReadFile
read_of r = read_file r.header r.vlrs r.evlrs

-- a reader's source tells a file that holds this
pub record Tells {S : Type 0} (s : source.Ghosts S) (opened : Opened) (i : ℕ) (r : LasReader S) : Type 0 where
  pub file : List ℕ
  pub told : s.bytes r.source ≡ Some file
  pub holds : opened.file i ≡ record { read = read_of r; las = λ fields. las_with r.header fields file }

-- the fields that a stage with these options takes of the file of its reader, where it has one
abbrev pub found_of : {S : Type 0} → Options → Option (LasReader S) → List ExtraField
found_of o None = []
found_of o (Some r) = fields_found o (read_of r)

-- the file of a reader, where there is one
abbrev pub read_in : {S : Type 0} → Option (LasReader S) → List ReadFile
read_in None = []
read_in (Some r) = read_of r ∷ []

-- those of the readers at these places
abbrev pub reads_in : {S : Type 0} → List (Option (LasReader S)) → List ℕ → List ReadFile
reads_in readers places = flat_map (λ j. read_in (slice_index_or readers j None)) places

-- these are the files of the readers
abbrev pub HaveReaders : {S : Type 0} → List (Option (LasReader S)) → Opened → Type 0
HaveReaders {S} readers opened = (i : ℕ) (r : LasReader S) → slice_get readers i ≡ Some (Some r) → (opened.file i).read ≡ read_of r

-- a stage has a reader exactly where it reads
abbrev pub AreReaders : {S : Type 0} → List StageSpec → List (Option (LasReader S)) → Type 0
AreReaders {S} stages readers = (i : ℕ) (o : Option (LasReader S)) → slice_get readers i ≡ Some o → is_some o ≡ is_reading (role_at stages i)

-- this stands below stage i: the files that are read there, and the dimensions of the points that it takes
pub record IsTaken {S : Type 0} (stages : List StageSpec) (readers : List (Option (LasReader S))) (opened : Opened) (i : ℕ) (b : Below) : Type 0 where
  pub reads : reads_in readers b.readers.items ≡ reads_at stages opened i
  pub dims : (dim : Dim) → holds b.layout dim ≡ dims_taken stages opened i dim

abbrev pub StandsBelow : {S : Type 0} → List StageSpec → List (Option (LasReader S)) → ℕ → Below → Type 0
StandsBelow stages readers i b = (opened : Opened) → HaveReaders readers opened → IsTaken stages readers opened i b

-- the same behind stage i, with the dimensions of the points that it gives on
pub record IsBelow {S : Type 0} (stages : List StageSpec) (readers : List (Option (LasReader S))) (opened : Opened) (i : ℕ) (b : Below) : Type 0 where
  pub reads : reads_in readers b.readers.items ≡ reads_at stages opened i
  pub dims : (dim : Dim) → holds b.layout dim ≡ dims_at stages opened i dim

-- so it is behind the first stages, as many as there are
abbrev pub AreBelow : {S : Type 0} → List StageSpec → List (Option (LasReader S)) → List Below → Type 0
AreBelow {S} stages readers belows = (opened : Opened) → HaveReaders readers opened → (i : ℕ) (b : Below) → slice_get belows i ≡ Some b → IsBelow stages readers opened i b

-- the numbers of readers are among so many
abbrev pub AreInside : ℕ → List Below → Type 0
AreInside n belows = (i : ℕ) (b : Below) → slice_get belows i ≡ Some b → All (λ j. j < n) b.readers.items
