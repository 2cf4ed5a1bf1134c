-- A written file is read with the fields that it describes.
use Rattle.std.proofs.Common.{◌≡◌, ℕ, ◌+◌, false, List, [], ◌∷◌, ◌++◌, drop, map, option_map, Some, None, cond, All, refl, ap, ◌∙◌, append-nil}
use Rattle.std.specs.Option.{unwrap_or}
use Rattle.std.specs.List.{AllByRecursion, find}
use Rattle.std.proofs.lemmas.List.Elements.{All-head, All-tail}
use Rattle.cloud_points.specs.declared.extra.ExtraField.{ExtraField}
use Rattle.cloud_points.specs.declared.point.Point.{Point}
use Rattle.extra_bytes.specs.Descriptors.{fields_behind, fields_of}
use Rattle.extra_bytes.specs.Fields.{AreLaid, fields_size}
use Rattle.extra_bytes.specs.Laws.{IsFine}
use Rattle.extra_bytes.specs.Record.{fields_among}
use Rattle.extra_bytes.specs.Written.{unplaced}
use Rattle.extra_bytes.proofs.Found.{record_is_read}
use Rattle.extra_bytes.proofs.Sized.{laid_described}
use Rattle.las_header.specs.Counts.{points_in}
use Rattle.las_header.specs.Formats.{format_size}
use Rattle.las_vlr.specs.ExtraBytes.{is_extra_bytes}
use Rattle.las_vlr.specs.declared.entry.Vlr.{Vlr}
use Rattle.las_reader.specs.Files.{fault_of, las_with, out_in, sound_records, whole_records}
use Rattle.las_reader.specs.Records.{point_of, point_with, points_from, out_from}
use Rattle.forward_rules.specs.declared.form.LasForm.{LasForm}
use Rattle.las_writer.specs.Records.{point_record}
use Rattle.las_writer.specs.LasOutput.{IsForm, extra_vlrs, file_evlrs, file_vlrs, header_with, header_for, las_output}
use Rattle.las_round_trip.specs.RoundTrip.{IsWritten, HoldsValues, ExtraIsReadBack, with_values, written_point}
use Rattle.las_round_trip.proofs.Parts.{AllHeld, all_held}
use Rattle.las_round_trip.proofs.Values.{none_outs, same_values}
use Rattle.las_round_trip.proofs.Whole.{frame_again, none_out, points_read, uncut, whole_is}

-- ---- the fields that the file's own records describe

abbrev IsOther : Vlr → Type 0
IsOther v = is_extra_bytes v ≡ false

none_found : (vlrs : List Vlr) → All IsOther vlrs → find is_extra_bytes vlrs ≡ None
none_found [] others = refl
none_found (v ∷ vlrs) others = ap (λ b. cond b (Some v) (find is_extra_bytes vlrs)) (All-head IsOther v vlrs others) ∙ none_found vlrs (All-tail IsOther v vlrs others)

of_nothing : (from size : ℕ) → fields_of [] from size ≡ []
unfolding fields_behind
of_nothing from size = refl

found_in : (vlrs : List Vlr) (from : ℕ) (fields : List ExtraField) → All IsOther vlrs → AreLaid from fields → fields_among (vlrs ++ extra_vlrs fields) from (from + fields_size fields) ≡ map unplaced fields
found_in vlrs from [] others laid =
    let size = from + fields_size [] in
    ap (λ l. fields_among l from size) (append-nil vlrs)
    ∙ ap (λ o. fields_of (unwrap_or (option_map (λ (v : Vlr). v.payload) o) []) from size) (none_found vlrs others) ∙ of_nothing from size
found_in vlrs from (f ∷ fields) others laid = record_is_read vlrs from (from + fields_size (f ∷ fields)) (f ∷ fields) others (laid_described from (f ∷ fields) laid)

fields_found : (form : LasForm) (points : List Point) → IsForm form → All IsOther form.vlrs
    → fields_among (file_vlrs form) (format_size (header_for form points).format) (header_for form points).record_length ≡ map unplaced form.extra
unfolding header_with
fields_found form points is others = found_in form.vlrs (format_size form.format) form.extra others is.extra

-- ---- the points with their values

put_values : (form : LasForm) (points : List Point) → IsForm form → All IsFine form.extra → AllHeld form points → AllByRecursion (HoldsValues form.extra) points
    → map (λ p. point_with (header_for form points) form.extra (point_record form p)) points ≡ map (λ p. with_values form.extra p (written_point form p)) points
unfolding header_with point_of point_with
put_values form points is fine held values = same_values form points is fine held values

las_is : (form : LasForm) (points : List Point) → IsWritten form points → All IsFine form.extra → AllByRecursion (HoldsValues form.extra) points
    → las_with (header_for form points) form.extra (las_output form points) ≡ record { points = map (λ p. with_values form.extra p (written_point form p)) points; fault = None }
las_is form points w fine values =
    let h = header_for form points in
    let file = las_output form points in
    let stored = drop h.points_at file in
    let whole = whole_records h file in
    let read = point_with h form.extra in
    let held = all_held form points w.held in
    let out : out_in h form.extra file ≡ None =
    ap (λ m. out_from form.extra h.record_length 0 m stored) (whole_is form points w) ∙ none_out form points form.extra w (none_outs form points w.taken fine held values) in
    let these : points_from read h.record_length 0 whole stored ≡ map (λ p. with_values form.extra p (written_point form p)) points =
    ap (λ m. points_from read h.record_length 0 m stored) (whole_is form points w) ∙ points_read form points read w ∙ put_values form points w.taken fine held values in
    (λ i. record { points = points_from read h.record_length 0 (sound_records whole (out i)) stored; fault = fault_of (points_in h) whole (out i) })
    ∙ (λ i. record { points = these i; fault = uncut form points w i })

pub extra_again : ExtraIsReadBack
extra_again form points w others fine values = record {
  header = header_for form points;
  vlrs = file_vlrs form;
  evlrs = file_evlrs form;
  is = frame_again form points w;
  found = fields_found form points w.taken others;
  las = las_is form points w fine values;
}
