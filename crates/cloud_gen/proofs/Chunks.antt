-- Chunks of generated points that are put, and their file.
use Rattle.std.proofs.Common.{◌≡◌, ℕ, ◌-◌, ◌≤◌, true, List, ◌++◌, map, Option, Some, None, ℤ, pos, [], ◌∷◌, refl, ap, sym, subst, ◌∙◌, arith, lit<}
use Rattle.std.specs.Prelude.{IfSome}
use Rattle.std.proofs.lemmas.List.Elements.{All-nil, All-cons}
use Rattle.file_devices.specs.Told.{IsAsTold}
use Rattle.forward_rules.specs.Options.{AreGoodOptions}
use Rattle.las_header.specs.Offsets.{IsOffset}
use Rattle.las_writer.specs.LasOutput.{IsForm, las_output}
use Rattle.las_writer.proofs.Taken.{forms_are_taken}
use Rattle.std.specs.List.{All, range_with_len}
use Rattle.cloud_points.specs.declared.point.Point.{Point}
use Rattle.forward_rules.specs.declared.form.LasForm.{LasForm}
use Rattle.las_writer.specs.Holding.{holds_las}
use Rattle.las_writer.specs.Records.{refusal}
use Rattle.las_writer.specs.declared.totals.Totals.{Totals}
use Rattle.cloud_gen.specs.Generated.{generated}
use Rattle.cloud_gen.specs.GeneratedFile.{generated_points, generated_options, generated_form, generated_file}
use Rattle.cloud_gen.proofs.Recorded.{none_refused, no_points, more_points}

module _ (form : LasForm) (first end : ℕ) (points : List Point) (same : form ≡ generated_form)
    (are : points ≡ map (generated 1) (range_with_len first (end - first))) (ordered : first ≤ end) where
  -- each has its place
  pub all_placed : (k : ℕ) → end ≤ 10000000 → refusal form k points ≡ None
  all_placed k few = ap (λ (f : LasForm). refusal f k points) same ∙ ap (refusal generated_form k) are ∙ none_refused k first (end - first) (omega (arith, ordered, few))

  -- and the sink holds the points up to its end
  pub chunk_holds : (old new : Option (List ℕ)) (was now : Totals) → ((before : List Point) → holds_las old form was before ≡ true → holds_las new form now (before ++ points) ≡ true)
      → holds_las old generated_form was (generated_points first) ≡ true → holds_las new generated_form now (generated_points end) ≡ true
  chunk_holds old new was now step h =
      let here = subst (λ (f : LasForm). (before : List Point) → holds_las old f was before ≡ true → holds_las new f now (before ++ points) ≡ true) same step in
      let all : generated_points first ++ points ≡ generated_points end = ap (λ l. generated_points first ++ l) are ∙ more_points first end ordered in
      subst (λ (l : List Point). holds_las new generated_form now l ≡ true) all (here (generated_points first) h)

-- no points are held where the file begins
pub none_held : (told : Option (List ℕ)) (t : Totals) → holds_las told generated_form t [] ≡ true → holds_las told generated_form t (generated_points 0) ≡ true
none_held told t h = subst (λ (l : List Point). holds_las told generated_form t l ≡ true) (sym no_points) h

all_recorded : (count : ℕ) → count ≤ 10000000 → refusal generated_form 0 (generated_points count) ≡ None
unfolding generated_points
all_recorded count few = none_refused 0 0 count (omega (arith, few))

-- a writer that holds the points ends with their file
pub finished_file : (before after : Option (List ℕ)) (form : LasForm) (t : Totals) (count : ℕ) → form ≡ generated_form → count ≤ 10000000
    → ((points : List Point) → holds_las before form t points ≡ true → refusal form 0 points ≡ None → IsAsTold after (Some (las_output form points)))
    → holds_las before generated_form t (generated_points count) ≡ true → IsAsTold after (Some (generated_file count))
finished_file before after form t count same few ends h =
    let here = subst (λ (f : LasForm). (points : List Point) → holds_las before f t points ≡ true → refusal f 0 points ≡ None → IsAsTold after (Some (las_output f points))) same ends in
    here (generated_points count) h (all_recorded count few)

abbrev IsGiven : Option ℤ → Type 0
IsGiven offset = IfSome offset IsOffset

three_small : (a b c : ℤ) → IsOffset a → IsOffset b → IsOffset c → All IsGiven (Some a ∷ Some b ∷ Some c ∷ [])
three_small a b c ha hb hc = All-cons IsGiven (Some a) (Some b ∷ Some c ∷ []) ha (All-cons IsGiven (Some b) (Some c ∷ []) hb (All-cons IsGiven (Some c) [] hc (All-nil IsGiven)))

good_options : AreGoodOptions generated_options
good_options = record {
  version = refl;
  format = refl;
  offsets = three_small (pos 500_000_000_000_000) (pos 4_800_000_000_000_000) (pos 0) (lit< tt) (lit< tt) (lit< tt);
  system = tt;
  software = tt;
}

-- a writer takes their form
pub form_is_taken : (form : LasForm) → form ≡ generated_form → IsForm form
form_is_taken form same = subst (λ (f : LasForm). IsForm f) (sym same) (forms_are_taken generated_options [] good_options tt)
