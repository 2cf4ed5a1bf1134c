-- The files that stages write.
use Rattle.std.specs.Prelude.{◌≡◌, ℕ, List, Bool, true, filter, Option, Some, None, Result, Ok}
use Rattle.cloud_points.specs.declared.dims.Dim.{Dim}
use Rattle.cloud_points.specs.declared.point.Point.{Point}
use Rattle.expr_lang.specs.Formula.{Formula}
use Rattle.file_devices.specs.declared.devices.Op.{Op}
use Rattle.file_devices.specs.declared.devices.Op.TheVariants.{Write, Patch}
use Rattle.forward_rules.specs.declared.form.LasForm.{LasForm}
use Rattle.las_writer.specs.Holding.{holds_las}
use Rattle.las_writer.specs.LasOutput.{IsForm, las_output}
use Rattle.las_writer.specs.Records.{fits, written}
use Rattle.las_writer.specs.declared.faults.RecordFault.{RecordFault}
use Rattle.las_writer.specs.declared.faults.RecordFault.TheVariants as las
use Rattle.stage_meanings.specs.Conditions.{passes}
use Rattle.stage_meanings.specs.Filters.{first_refused, is_true}
use Rattle.stage_meanings.specs.Records.{unrecorded}
use Rattle.stage_meanings.specs.declared.reason.Reason.{Reason}
use Rattle.stage_meanings.specs.declared.reason.Reason.TheVariants as reason
use Rattle.text_writer.specs.TextOutput.{IsTextForm, text_output, holds_text}
use Rattle.text_writer.specs.declared.form.TextForm.{TextForm}
use Rattle.stage_kinds.specs.declared.file_form.FileForm.{FileForm}
use Rattle.stage_kinds.specs.declared.file_form.FileForm.TheVariants as form
use Rattle.stage_kinds.specs.declared.file_writer.FileWriter.{FileWriter}
use Rattle.stage_kinds.specs.declared.file_writer.FileWriter.TheVariants.{Text, Las}
use Rattle.stage_kinds.specs.declared.file_writer.PutErr.{PutErr}
use Rattle.stage_kinds.specs.declared.file_writer.PutErr.TheVariants.{Refused, Failed}

-- ---- forms

-- a form that can be written
abbrev pub IsFileForm : FileForm → Type 0
IsFileForm (form.Text f) = IsTextForm f
IsFileForm (form.Las f) = IsForm f

-- the same as a fact of a type: whatever the form is, it can be written
pub record HasFileForm (f : FileForm) : Type 0 where
  pub text : (t : TextForm) → f ≡ form.Text t → IsTextForm t
  pub las : (l : LasForm) → f ≡ form.Las l → IsForm l

-- why a point has no place in a file behind so many that were written: in one of text each has one
abbrev pub unwritten : FileForm → ℕ → Point → Option Reason
unwritten (form.Text f) k p = None
unwritten (form.Las f) k p = unrecorded (fits f k) (written f p)

-- each point
abbrev pub all : Point → Result Bool Reason
all p = Ok true

-- the first of these points without a place behind so many that were written, by its number among them
abbrev pub first_unwritten : FileForm → ℕ → List Point → Option (ℕ × Reason)
first_unwritten f k points = first_refused (unwritten f) all 0 k points

-- why a LAS file has no place for a point, as the reason of a stage
abbrev pub reason_of_record : RecordFault → Reason
reason_of_record las.TooMany = reason.TooMany
reason_of_record (las.NotHeld dim) = reason.NotHeld dim
reason_of_record (las.ValueOutOfRange dim) = reason.OutOfRange dim

-- the whole file of these points
abbrev pub file_bytes : FileForm → List Point → List ℕ
file_bytes (form.Text f) points = text_output f points
file_bytes (form.Las f) points = las_output f points

-- what is being done with a sink when its file is made whole
abbrev pub finishing_op : FileForm → Op
finishing_op (form.Text f) = Write
finishing_op (form.Las f) = Patch

-- ---- the points that are written

-- those for which the condition holds
abbrev pub chosen : Option (Formula Dim) → List Point → List Point
chosen only points = filter (λ p. is_true (passes only p)) points

-- ---- files that are being written

module _ {K : Type 0} where
  abbrev pub file_form : FileWriter K → FileForm
  file_form (Text w count) = form.Text w.form
  file_form (Las w) = form.Las w.form

  -- how many points were written
  abbrev pub count_of : FileWriter K → ℕ
  count_of (Text w count) = count
  count_of (Las w) = w.totals.count

  abbrev pub sink_of : FileWriter K → K
  sink_of (Text w count) = w.sink
  sink_of (Las w) = w.sink

  -- its sink holds the beginning of the file of these points, by the bytes that a sink tells
  abbrev pub file_holds : (K → Option (List ℕ)) → FileWriter K → List Point → Bool
  file_holds bytes (Text w count) points = holds_text (bytes w.sink) w.form points
  file_holds bytes (Las w) points = holds_las (bytes w.sink) w.form w.totals points

-- points are refused for the first one without a place; where the sink failed each has one
abbrev pub IsUnwritten : Option (ℕ × Reason) → PutErr → Type 0
IsUnwritten found (Refused at why) = found ≡ Some (at, why)
IsUnwritten found Failed = found ≡ None
