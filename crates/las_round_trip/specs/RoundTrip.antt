-- A file that is written is read back.
use Rattle.std.specs.Prelude.{◌≡◌, ◌<◌, ◌^◌, true, false, List, [], ◌∷◌, length, map, None, Ok}
use Rattle.std.specs.List.{All, AllByRecursion}
use Rattle.cloud_points.specs.Points.{get, with_fixed}
use Rattle.cloud_points.specs.declared.dims.Dim.TheVariants.{Extra}
use Rattle.cloud_points.specs.declared.extra.ExtraField.{ExtraField}
use Rattle.cloud_points.specs.declared.point.Point.{Point}
use Rattle.extra_bytes.specs.Laws.{IsFine}
use Rattle.extra_bytes.specs.Record.{fields_among}
use Rattle.extra_bytes.specs.Values.{is_held}
use Rattle.extra_bytes.specs.Written.{unplaced}
use Rattle.las_header.specs.declared.block.Header.{Header}
use Rattle.las_header.specs.Formats.{format_size}
use Rattle.las_header.specs.WordOffsets.{IsWordOffset}
use Rattle.point_formats.specs.Records.{decoded}
use Rattle.point_formats.specs.Returning.{FitsTypes, IsOfFormat}
use Rattle.las_reader.specs.Files.{las_of, las_with}
use Rattle.las_reader.specs.Frames.{frame_of}
use Rattle.las_vlr.specs.ExtraBytes.{is_extra_bytes}
use Rattle.las_vlr.specs.Limits.{AreHeldVlrs}
use Rattle.las_vlr.specs.declared.entry.Vlr.{Vlr}
use Rattle.forward_rules.specs.declared.form.LasForm.{LasForm}
use Rattle.las_writer.specs.Records.{grid_for, point_record, refusal}
use Rattle.las_writer.specs.LasOutput.{IsForm, file_vlrs, las_output}
use Rattle.las_writer.specs.Sizes.{HasFieldSizes}

-- the fields have their sizes, a writer takes the form, its words give the offsets back, the VLRs of the file are within the limits of
-- those that are read, every point has a place in the file, and the file has fewer than 2 ^ 64 bytes
pub record IsWritten (form : LasForm) (points : List Point) : Type 0 where
  pub fields : HasFieldSizes form
  pub taken : IsForm form
  pub offsets : All IsWordOffset form.offset
  pub vlrs : AreHeldVlrs (file_vlrs form)
  pub held : refusal form 0 points ≡ None
  pub small : length (las_output form points) < 2 ^ 64

-- the point of the record of a point
abbrev pub written_point : LasForm → Point → Point
written_point form p = decoded form.format (grid_for form) (point_record form p)

-- a written file is read as a whole one, with the points of its records
abbrev pub FilesAreReadBack : Type 0
FilesAreReadBack = (form : LasForm) (points : List Point) → IsWritten form points → las_of (las_output form points) ≡ Ok (record { points = map (written_point form) points; fault = None })

-- each point is one that the format holds as it is
abbrev pub AreOfFormat : LasForm → List Point → Type 0
AreOfFormat form points = AllByRecursion (λ p. FitsTypes p × IsOfFormat form.format (grid_for form) p) points

-- such points without extra dimensions are read back as they were
abbrev pub PointsAreReadBack : Type 0
PointsAreReadBack = (form : LasForm) (points : List Point) → IsWritten form points → form.extra ≡ [] → AreOfFormat form points → las_of (las_output form points) ≡ Ok (record { points = points; fault = None })

-- a point with the values of another one in the extra dimensions of these fields
abbrev pub with_values : List ExtraField → Point → Point → Point
with_values [] p q = q
with_values (f ∷ fields) p q = with_values fields p (with_fixed q (Extra f.place) (get p (Extra f.place)))

-- a point holds the values of these fields
abbrev pub HoldsValues : List ExtraField → Point → Type 0
HoldsValues fields p = All (λ (f : ExtraField). is_held (get p (Extra f.place)) ≡ true) fields

-- the written file's own records describe its fields, but for their places, and read with these its points are those of the records with
-- the extra values that were written
pub record IsReadWithFields (form : LasForm) (points : List Point) : Type 0 where
  pub header : Header
  pub vlrs : List Vlr
  pub evlrs : List Vlr
  pub is : frame_of (las_output form points) ≡ Ok (record { header = header; vlrs = vlrs; evlrs = evlrs })
  pub found : fields_among vlrs (format_size header.format) header.record_length ≡ map unplaced form.extra
  pub las : las_with header form.extra (las_output form points)
      ≡ record { points = map (λ p. with_values form.extra p (written_point form p)) points; fault = None }

-- extra dimensions of 64 bits with a sign, in steps of a nanounit, are read back with the values that were written
abbrev pub ExtraIsReadBack : Type 0
ExtraIsReadBack = (form : LasForm) (points : List Point) → IsWritten form points → All (λ v. is_extra_bytes v ≡ false) form.vlrs
    → All IsFine form.extra → AllByRecursion (HoldsValues form.extra) points → IsReadWithFields form points
