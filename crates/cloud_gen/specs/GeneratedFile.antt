-- The LAS file of generated points, and what a call that makes it leaves.
use Rattle.std.specs.Prelude.{◌≡◌, ◌<◌, ◌⊎◌, ℕ, pos, List, [], ◌∷◌, map, Option, Some, None, option_map, ⊤}
use Rattle.std.specs.List.{range_with_len}
use Rattle.cloud_points.specs.declared.point.Point.{Point}
use Rattle.file_devices.specs.Named.{Names, put}
use Rattle.file_devices.specs.Told.{IsAsTold}
use Rattle.file_devices.specs.declared.devices.Op.{Op}
use Rattle.file_devices.specs.declared.devices.Op.TheVariants.{Create, Write, Patch, Keep}
use Rattle.forward_rules.specs.Forwarded.{form_of}
use Rattle.forward_rules.specs.Values.{default_scale}
use Rattle.forward_rules.specs.declared.form.LasForm.{LasForm}
use Rattle.forward_rules.specs.declared.options.LasOpts.{LasOpts}
use Rattle.las_header.specs.declared.form.Format.TheVariants.{F3}
use Rattle.las_writer.specs.LasOutput.{las_output}
use Rattle.cloud_gen.specs.Generated.{generated}
use Rattle.cloud_gen.specs.declared.faults.GenerateError.{GenerateError}
use Rattle.cloud_gen.specs.declared.faults.GenerateError.TheVariants.{Device, Memory}

-- the points at places 0, 1, .. of series 1, so many of them
unfoldable pub generated_points : ℕ → List Point
generated_points count = map (generated 1) (range_with_len 0 count)

-- format 3 with steps of 0.01 from 500,000, 4,800,000 and 0
abbrev pub generated_options : LasOpts
generated_options = record {
  format = Some F3;
  minor = None;
  scale = Some default_scale ∷ Some default_scale ∷ Some default_scale ∷ [];
  offset = Some (pos 500_000_000_000_000) ∷ Some (pos 4_800_000_000_000_000) ∷ Some (pos 0) ∷ [];
  forward = [];
  source_id = None;
  encoding = None;
  day = None;
  year = None;
  system = None;
  software = None;
}

-- what stands around the points: what the options don't give is a writer's default
abbrev pub generated_form : LasForm
generated_form = form_of generated_options []

-- the file of so many points
abbrev pub generated_file : ℕ → List ℕ
generated_file count = las_output generated_form (generated_points count)

-- the map with these bytes under the name, as far as it is told
abbrev pub IsPut : Option Names → List ℕ → List ℕ → Option Names → Type 0
IsPut old name bytes new = IsAsTold new (option_map (λ m. put m name bytes) old)

-- why no file was made: memory was wanting, or a device failed while the file was created, written, patched or kept
abbrev pub IsFailure : Type 0 → GenerateError → Type 0
IsFailure rose Memory = ⊤
IsFailure rose (Device Create) = rose
IsFailure rose (Device Write) = rose
IsFailure rose (Device Patch) = rose
IsFailure rose (Device Keep) = rose
IsFailure rose (Device _) = ⊥

-- the same of a file that is written
abbrev pub IsUnwritten : Type 0 → GenerateError → Type 0
IsUnwritten rose Memory = ⊤
IsUnwritten rose (Device Write) = rose
IsUnwritten rose (Device Patch) = rose
IsUnwritten rose (Device _) = ⊥

-- the same of a step of the file, in which only this is done with a device
abbrev pub StopsAt : Op → Type 0 → GenerateError → Type 0
StopsAt op rose Memory = ⊤
StopsAt op rose (Device done) = (done ≡ op) × rose

-- the map after a refusal: as it was before the file was to be kept, and then as it was or with the file
abbrev pub IsLeft : GenerateError → Option Names → List ℕ → List ℕ → Option Names → Type 0
IsLeft (Device Create) old name bytes new = new ≡ old
IsLeft (Device Write) old name bytes new = new ≡ old
IsLeft (Device Patch) old name bytes new = new ≡ old
IsLeft _ old name bytes new = (new ≡ old) ⊎ IsPut old name bytes new

-- what the counts of the objects taken back tell of it: where creating failed none was taken back, where writing or patching did the
-- sink has a fault, and where keeping did it has none
abbrev pub IsToldUnmade : Option (List ℕ) → Option (List ℕ) → GenerateError → Type 0
IsToldUnmade before after (Device Create) = after ≡ before
IsToldUnmade before after (Device Write) = (c : ℕ) × (0 < c) × IsAsTold after (option_map (λ counts. c ∷ counts) before)
IsToldUnmade before after (Device Patch) = (c : ℕ) × (0 < c) × IsAsTold after (option_map (λ counts. c ∷ counts) before)
IsToldUnmade before after (Device Keep) = IsAsTold after (option_map (λ counts. 0 ∷ counts) before)
IsToldUnmade before after _ = ⊤
