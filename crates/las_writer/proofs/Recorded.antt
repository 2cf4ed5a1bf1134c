-- A record whose extra dimensions stand behind the fields of the format.
use Rattle.std.proofs.Common.{◌≡◌, ℕ, ◌≤◌, List, ◌++◌, length, take, drop, length-append, Result, Ok, Err, refl, sym, ap, ◌∙◌, arith}
use Rattle.std.specs.Prelude.{IfOk}
use Rattle.std.proofs.lemmas.List.{length-take-le, take-append-drop, take-append-le}
use Rattle.las_header.specs.Formats.{format_size}
use Rattle.cloud_points.specs.declared.dims.Dim.{Dim}
use Rattle.cloud_points.specs.declared.point.Point.{Point}
use Rattle.extra_bytes.specs.Fields.{fields_bytes, fields_size}
use Rattle.extra_bytes.proofs.Laying.{fields_long}
use Rattle.forward_rules.specs.declared.form.LasForm.{LasForm}
use Rattle.point_formats.specs.declared.encoding.EncodeFault.{EncodeFault}
use Rattle.point_formats.specs.declared.encoding.EncodeFault.TheVariants.{ValueOutOfRange}
use Rattle.point_formats.specs.Encoded.{encoded}
use Rattle.point_formats.proofs.Appending.{joined}
use Rattle.point_formats.proofs.Sizes.{whole}
use Rattle.las_writer.specs.Records.{grid_for, or_refused, record_size, written}

front_is : (n end : ℕ) (bytes : List ℕ) → n ≤ end → end ≤ length bytes → take n (take end bytes) ≡ take n bytes
front_is n end bytes h room =
    let size : length (take end bytes) ≡ end = length-take-le end bytes room in
    sym (take-append-le n (take end bytes) (drop end bytes) (omega (arith, size, h))) ∙ ap (take n) (take-append-drop end bytes)

module _ (form : LasForm) (p : Point) where
  abbrev extra : Result (List ℕ) Dim
  extra = fields_bytes form.extra p

  pub written_whole : (n end : ℕ) (first all : List ℕ) → encoded form.format (grid_for form) p ≡ Ok (take n first) → extra ≡ Ok (drop n (take end all))
      → take n all ≡ take n first → n ≤ end → end ≤ length all → written form p ≡ Ok (take end all)
  written_whole n end first all fields behind same h room =
      ap (λ r. joined r (or_refused extra)) fields ∙ ap (λ r. joined (Ok (take n first)) (or_refused r)) behind
      ∙ ap (λ l. Ok (l ++ drop n (take end all))) (sym same ∙ sym (front_is n end all h room)) ∙ ap Ok (take-append-drop n (take end all))

  pub fields_refused : (e : EncodeFault) → encoded form.format (grid_for form) p ≡ Err e → written form p ≡ Err e
  fields_refused e fields = ap (λ r. joined r (or_refused extra)) fields

  pub extra_refused : (bytes : List ℕ) (dim : Dim) → encoded form.format (grid_for form) p ≡ Ok bytes → extra ≡ Err dim → written form p ≡ Err (ValueOutOfRange dim)
  extra_refused bytes dim fields e = ap (λ r. joined r (or_refused extra)) fields ∙ ap (λ r. joined (Ok bytes) (or_refused r)) e

  -- each record has the same length
  pub record_long : (bytes : List ℕ) → written form p ≡ Ok bytes → length bytes ≡ record_size form
  record_long bytes e = by (encoded form.format (grid_for form) p) extra (whole form.format (grid_for form) p) (fields_long form.extra p) e
    where
      by : (a : Result (List ℕ) EncodeFault) (b : Result (List ℕ) Dim) → IfOk a (λ fields. length fields ≡ format_size form.format) → ((l : List ℕ) → b ≡ Ok l → length l ≡ fields_size form.extra)
          → joined a (or_refused b) ≡ Ok bytes → length bytes ≡ record_size form
      by (Err f) b size long e = absurd (cc)
      by (Ok fields) (Err dim) size long e = absurd (cc)
      by (Ok fields) (Ok behind) size long e = let same : fields ++ behind ≡ bytes = cc in ap length (sym same) ∙ omega (arith, length-append fields behind, size, long behind refl)
