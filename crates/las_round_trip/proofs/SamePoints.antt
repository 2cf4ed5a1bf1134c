-- Points that a format holds as they are.
use Rattle.std.proofs.Common.{◌≡◌, ℕ, zero, suc, ◌+◌, pos, ◌≤ℤ◌, Bool, true, false, List, [], ◌∷◌, map, get_or, Option, None, Result, Ok, Err, refl, ap, sym, ◌∙◌, arith, append-nil}
use Rattle.std.proofs.lemmas.Int.{ints}
use Rattle.cloud_points.specs.declared.point.Point.{Point}
use Rattle.decimal_coords.specs.declared.grid.Scale.{Scale}
use Rattle.point_formats.specs.declared.encoding.EncodeFault.{EncodeFault}
use Rattle.point_formats.specs.Grids.{HasSteps}
use Rattle.point_formats.specs.Records.{decoded}
use Rattle.point_formats.specs.Returning.{FitsTypes, IsOfFormat}
use Rattle.point_formats.specs.Encoded.{encoded}
use Rattle.point_formats.proofs.Appending.{joined}
use Rattle.point_formats.proofs.ReadBack.{read_back}
use Rattle.extra_bytes.specs.Fields.{fields_bytes}
use Rattle.forward_rules.specs.declared.form.LasForm.{LasForm}
use Rattle.las_writer.specs.declared.faults.RecordFault.{RecordFault}
use Rattle.las_writer.specs.Records.{fits, grid_for, or_refused, written, bytes_or_none, point_record, unplaced, refused_or, refusal_from}
use Rattle.las_round_trip.specs.RoundTrip.{written_point, AreOfFormat, PointsAreReadBack}
use Rattle.las_round_trip.proofs.Whole.{files_again}

steps_from : (scales : List Scale) (axis : ℕ) → pos 1 ≤ℤ get_or (map (λ s. s.nano) scales) axis (pos 1)
steps_from [] axis = omega (arith, ints)
steps_from (s ∷ scales) zero = s.low
steps_from (s ∷ scales) (suc axis) = steps_from scales axis

has_steps : (form : LasForm) → HasSteps (grid_for form)
has_steps form axis = steps_from form.scale axis

-- a record without extra dimensions is that of the format
nothing_behind : (w : Result (List ℕ) EncodeFault) → joined w (Ok []) ≡ w
nothing_behind (Ok bytes) = ap Ok (append-nil bytes)
nothing_behind (Err e) = refl

plain_record : (form : LasForm) (p : Point) → form.extra ≡ [] → written form p ≡ encoded form.format (grid_for form) p
plain_record form p plain = ap (λ fields. joined (encoded form.format (grid_for form) p) (or_refused (fields_bytes fields p))) plain ∙ nothing_behind (encoded form.format (grid_for form) p)

-- the point of a point's record, and that those behind it have records
point_again : (form : LasForm) (p : Point) (n : ℕ) (fit : Bool) (later : Option (ℕ × RecordFault)) → form.extra ≡ [] → FitsTypes p → IsOfFormat form.format (grid_for form) p → refused_or n (unplaced fit (written form p)) later ≡ None
    → (written_point form p ≡ p) × (later ≡ None)
unfolding point_record
point_again form p n fit later plain types is h = by fit (written form p) (λ bytes e. read_back form.format (grid_for form) p bytes (has_steps form) types (sym (plain_record form p plain) ∙ e) is) h
  where
    by : (fit : Bool) (w : Result (List ℕ) EncodeFault) → ((bytes : List ℕ) → w ≡ Ok bytes → decoded form.format (grid_for form) bytes ≡ p) → refused_or n (unplaced fit w) later ≡ None
        → (decoded form.format (grid_for form) (bytes_or_none w) ≡ p) × (later ≡ None)
    by true (Ok bytes) back e = (back bytes refl, e)
    by true (Err f) back e = absurd (cc)
    by false w back e = absurd (cc)

same_from : (form : LasForm) (k n : ℕ) (points : List Point) → form.extra ≡ [] → AreOfFormat form points → refusal_from form k n points ≡ None → map (written_point form) points ≡ points
same_from form k n [] plain are h = refl
same_from form k n (p ∷ points) plain are h =
    let first = point_again form p n (fits form (k + n)) (refusal_from form k (n + 1) points) plain are.0.0 are.0.1 h in
    ap (λ q. q ∷ map (written_point form) points) first.0 ∙ ap (λ l. p ∷ l) (same_from form k (n + 1) points plain are.1 first.1)

pub points_again : PointsAreReadBack
points_again form points w plain are = files_again form points w ∙ ap (λ l. Ok (record { points = l; fault = None })) (same_from form 0 0 points plain are w.held)
