-- The values of extra dimensions in the record of a point.
use Rattle.std.proofs.Common.{◌≡◌, ℕ, ◌+◌, Bool, true, false, ℤ, pos, List, [], ◌∷◌, ◌++◌, length, take, drop, map, Some, None, Result, Ok, Err, is_some, if◌then◌else◌, All, refl, ap, sym, ◌∙◌, arith, append_assoc, length-append, FitsSigned, w64}
use Rattle.std.specs.Prelude.{IfOk}
use Rattle.std.specs.Option.{unwrap_or}
use Rattle.std.specs.List.{AllByRecursion}
use Rattle.std.proofs.Math.Seq.{drop-append_seam, take-append_seam}
use Rattle.std.proofs.lemmas.Bool.Decides.{nat_tests}
use Rattle.std.proofs.lemmas.Int.{ints}
use Rattle.std.proofs.lemmas.List.Elements.{All-head, All-tail}
use Rattle.std.proofs.lemmas.Option.{same_Some}
use Rattle.cloud_points.specs.ExtraFields.{kind_size}
use Rattle.cloud_points.specs.Points.{get, with_fixed}
use Rattle.cloud_points.specs.declared.dims.Dim.{Dim}
use Rattle.cloud_points.specs.declared.dims.Dim.TheVariants.{Extra}
use Rattle.cloud_points.specs.declared.extra.ExtraField.{ExtraField}
use Rattle.cloud_points.specs.declared.extra.ExtraKind.TheVariants.{I64}
use Rattle.cloud_points.specs.declared.point.Point.{Point}
use Rattle.extra_bytes.specs.Fields.{fields_bytes, with_extra, first_out}
use Rattle.extra_bytes.specs.Laws.{IsFine}
use Rattle.extra_bytes.specs.Values.{LiesIn, extra_value, extra_read, extra_written, is_held, is_raw, raw_bytes, raw_of, with_piece}
use Rattle.extra_bytes.proofs.Returning.{fine_takes_all}
use Rattle.extra_bytes.proofs.Sized.{StandFrom, laid_stand}
use Rattle.las_header.specs.Formats.{format_size}
use Rattle.las_header.specs.Steps.{◌>>=◌}
use Rattle.point_formats.specs.declared.encoding.EncodeFault.{EncodeFault}
use Rattle.point_formats.specs.Encoded.{encoded}
use Rattle.point_formats.proofs.Appending.{joined}
use Rattle.point_formats.proofs.Sizes.{whole}
use Rattle.forward_rules.specs.declared.form.LasForm.{LasForm}
use Rattle.las_writer.specs.Records.{grid_for, or_refused, written, point_record}
use Rattle.las_writer.specs.LasOutput.{IsForm}
use Rattle.las_round_trip.specs.RoundTrip.{HoldsValues, with_values, written_point}
use Rattle.las_round_trip.proofs.Parts.{AllHeld, NoneOut}

-- a record that has the values of a point in these fields
abbrev HasValues : List ExtraField → List ℕ → Point → Type 0
HasValues [] bytes p = Unit {0}
HasValues (f ∷ fields) bytes p = (extra_read f bytes ≡ Some (get p (Extra f.place))) × HasValues fields bytes p

values_put : (fields : List ExtraField) (bytes : List ℕ) (p q : Point) → HasValues fields bytes p → with_extra fields bytes q ≡ with_values fields p q
values_put [] bytes p q h = refl
values_put (f ∷ fields) bytes p q h =
    ap (λ o. with_extra fields bytes (with_fixed q (Extra f.place) (unwrap_or o (pos 0)))) h.0 ∙ values_put fields bytes p (with_fixed q (Extra f.place) (get p (Extra f.place))) h.1

values_held : (fields : List ExtraField) (bytes : List ℕ) (p : Point) → HasValues fields bytes p → first_out fields bytes ≡ None
values_held [] bytes p h = refl
values_held (f ∷ fields) bytes p h = ap (λ o. if is_some o then first_out fields bytes else Some (Extra f.place)) h.0 ∙ values_held fields bytes p h.1

-- ---- one field

-- a piece that stands there already
same_piece : (before piece rest : List ℕ) → with_piece (length before) piece (before ++ (piece ++ rest)) ≡ before ++ (piece ++ rest)
same_piece before piece rest =
    let all = before ++ (piece ++ rest) in
    let front : take (length before) all ≡ before = take-append_seam before (piece ++ rest) in
    let back : drop (length before + length piece) all ≡ rest =
    ap (drop (length before + length piece)) (sym (append_assoc before piece rest)) ∙ ap (λ n. drop n ((before ++ piece) ++ rest)) (sym (length-append before piece)) ∙ drop-append_seam (before ++ piece) rest in
    ap (λ l. l ++ piece ++ drop (length before + length piece) all) front ∙ ap (λ l. before ++ piece ++ l) back ∙ append_assoc before piece rest

raw_long : (n : ℤ) → length (raw_bytes I64 n) ≡ 8
raw_long n = refl

held_fits : (n : ℤ) → is_held n ≡ true → FitsSigned w64 n
held_fits n h = grind (arith, ints, nat_tests)

piece_long : (f : ExtraField) (n : ℤ) → IsFine f → length (raw_bytes f.kind n) ≡ kind_size f.kind
piece_long f n is = ap (λ k. length (raw_bytes k n)) is.kind ∙ raw_long n ∙ ap kind_size (sym is.kind)

-- where the bytes of a value stand, it is read
value_read : (f : ExtraField) (nano : ℤ) (before rest : List ℕ) → IsFine f → is_held nano ≡ true → is_raw f.kind (raw_of f nano) ≡ true → f.at ≡ length before
    → extra_read f (before ++ (raw_bytes f.kind (raw_of f nano) ++ rest)) ≡ Some nano
unfolding extra_read extra_written
value_read f nano before rest is held raw at =
    let piece = raw_bytes f.kind (raw_of f nano) in
    let all = before ++ (piece ++ rest) in
    let lies : LiesIn f all = omega (arith, at, piece_long f (raw_of f nano) is, length-append before (piece ++ rest), length-append piece rest) in
    let taken = fine_takes_all f nano all is (held_fits nano held) lies in
    let stays : extra_written f nano all ≡ Some all =
    ap (λ b. if b then Some (with_piece f.at piece all) else None) raw ∙ ap (λ n. Some (with_piece n piece all)) at ∙ ap Some (same_piece before piece rest) in
    let value : extra_value f all ≡ nano = ap (extra_value f) (same_Some all taken.after (sym stays ∙ taken.written)) ∙ taken.value in
    ap (λ v. if is_held v then Some v else None) value ∙ ap (λ b. if b then Some nano else None) held

-- ---- fields one right behind another

abbrev raw_in : ExtraField → Point → ℤ
raw_in f p = raw_of f (get p (Extra f.place))

abbrev IsHeldIn : Point → ExtraField → Type 0
IsHeldIn p f = is_held (get p (Extra f.place)) ≡ true

values_read : (fields : List ExtraField) (p : Point) (at : ℕ) (all before bytes : List ℕ) → StandFrom at fields → All IsFine fields → HoldsValues fields p → at ≡ length before
    → fields_bytes fields p ≡ Ok bytes → before ++ bytes ≡ all → HasValues fields all p
values_read [] p at all before bytes stand fine held is e whole = tt
values_read (f ∷ fields) p at all before bytes stand fine held is e whole =
    let first = raw_bytes f.kind (raw_in f p) in
    let next : at + kind_size f.kind ≡ length (before ++ first) = omega (arith, is, length-append before first, piece_long f (raw_in f p) (All-head IsFine f fields fine)) in
    by (is_raw f.kind (raw_in f p)) (fields_bytes fields p) refl refl e
    (λ others later there. values_read fields p (at + kind_size f.kind) all (before ++ first) others stand.2 (All-tail IsFine f fields fine) (All-tail (IsHeldIn p) f fields held) next later there)
  where
    by : (b : Bool) (r : Result (List ℕ) Dim) → is_raw f.kind (raw_in f p) ≡ b → fields_bytes fields p ≡ r
        → ((if b then Ok (raw_bytes f.kind (raw_in f p)) else Err (Extra f.place)) >>= (λ first. r >>= (λ others. Ok (first ++ others)))) ≡ Ok bytes
        → ((others : List ℕ) → fields_bytes fields p ≡ Ok others → (before ++ raw_bytes f.kind (raw_in f p)) ++ others ≡ all → HasValues fields all p) → HasValues (f ∷ fields) all p
    by true (Ok others) fits later e go_on =
        let first = raw_bytes f.kind (raw_in f p) in
        let split : first ++ others ≡ bytes = cc in
        let here : before ++ (first ++ others) ≡ all = ap (λ l. before ++ l) split ∙ whole in (
          ap (extra_read f) (sym here) ∙ value_read f (get p (Extra f.place)) before others (All-head IsFine f fields fine) (All-head (IsHeldIn p) f fields held) fits (stand.0 ∙ is),
          go_on others later (append_assoc before first others ∙ here),
        )
    by true (Err dim) fits later e go_on = absurd (cc)
    by false r fits later e go_on = absurd (cc)

-- ---- the record of a point

record_read : (form : LasForm) (p : Point) (bytes : List ℕ) → IsForm form → All IsFine form.extra → HoldsValues form.extra p → written form p ≡ Ok bytes → HasValues form.extra bytes p
record_read form p bytes is fine held e = by (encoded form.format (grid_for form) p) (fields_bytes form.extra p) (whole form.format (grid_for form) p) refl e
  where
    by : (a : Result (List ℕ) EncodeFault) (b : Result (List ℕ) Dim) → IfOk a (λ fields. length fields ≡ format_size form.format) → fields_bytes form.extra p ≡ b
        → joined a (or_refused b) ≡ Ok bytes → HasValues form.extra bytes p
    by (Err f) b size behind e = absurd (cc)
    by (Ok fields) (Err dim) size behind e = absurd (cc)
    by (Ok fields) (Ok extra) size behind e =
        let same : fields ++ extra ≡ bytes = cc in
        values_read form.extra p (format_size form.format) bytes fields extra (laid_stand (format_size form.format) form.extra is.extra) fine held (sym size) behind same

-- ---- all records

pub none_outs : (form : LasForm) (points : List Point) → IsForm form → All IsFine form.extra → AllHeld form points → AllByRecursion (HoldsValues form.extra) points → NoneOut form form.extra points
none_outs form [] is fine held values = tt
none_outs form (p ∷ points) is fine held values =
    (values_held form.extra (point_record form p) p (record_read form p (point_record form p) is fine values.0 held.0), none_outs form points is fine held.1 values.1)

pub same_values : (form : LasForm) (points : List Point) → IsForm form → All IsFine form.extra → AllHeld form points → AllByRecursion (HoldsValues form.extra) points
    → map (λ p. with_extra form.extra (point_record form p) (written_point form p)) points ≡ map (λ p. with_values form.extra p (written_point form p)) points
same_values form [] is fine held values = refl
same_values form (p ∷ points) is fine held values =
    ap (λ q. q ∷ map (λ p. with_extra form.extra (point_record form p) (written_point form p)) points)
    (values_put form.extra (point_record form p) p (written_point form p) (record_read form p (point_record form p) is fine values.0 held.0))
    ∙ ap (λ l. with_values form.extra p (written_point form p) ∷ l) (same_values form points is fine held.1 values.1)
