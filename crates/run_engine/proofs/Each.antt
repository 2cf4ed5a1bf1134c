-- The files of views are the outputs behind the others.
use Rattle.std.proofs.Common.{◌≡◌, ℕ, suc, ◌+◌, true, List, [], ◌∷◌, ◌++◌, length, slice_get, Some, refl, ap, sym, ◌∙◌, arith, true≢false}
use Rattle.std.specs.Prelude.{flat_map, filter}
use Rattle.std.specs.List.{range_with_len}
use Rattle.std.proofs.lemmas.Grind.{flat_map-append}
use Rattle.std.proofs.lemmas.List.{append-nil}
use Rattle.cloud_points.specs.declared.point.Point.{Point}
use Rattle.stage_kinds.specs.declared.file_form.StageForm.{StageForm}
use Rattle.stage_kinds.specs.declared.file_form.StageForm.TheVariants.{Reads, Filters, Plugs, Tallies, Gathers, Writes}
use Rattle.stage_kinds.specs.declared.file_form.Writing.{Writing}
use Rattle.stage_kinds.specs.declared.making.Making.TheVariants.{Gathers as Made, WritesEach as Each}
use Rattle.stage_kinds.specs.declared.stage_work.StageWork.{StageWork}
use Rattle.stage_kinds.specs.Files.{chosen, file_bytes}
use Rattle.stage_kinds.specs.Stages.{keeps_of}
use Rattle.stage_options.specs.Roles.{Role, is_reading}
use Rattle.stage_options.specs.Roles as role
use Rattle.stage_options.specs.Values.{numbered}
use Rattle.stage_options.specs.declared.stage.StageSpec.{StageSpec}
use Rattle.answer_model.specs.Rows.{Row}
use Rattle.answer_model.specs.Values.{Opened, options_at, role_at, row_at, setting_at, stage_value, view_outputs, written_each, outputs_at}
use Rattle.stage_forms.specs.Starts.{form_for, kept_for}
use Rattle.stage_forms.proofs.Rowed.{IsRow, row-is}
use Rattle.run_ending.specs.Each.{all_files, each_files, files_from, kept_at, kept_files, kept_from}

-- by the name of a stage, what it chooses and writes
files-are : (i : ℕ) (name : List ℕ) (x : Writing) (row : Row) → ((ps : List Point) → chosen x.only ps ≡ filter (row.writes) ps) → ((ps : List Point) → file_bytes x.form ps ≡ row.bytes ps)
    → (n : ℕ) (vs : List (List Point)) → files_from i name x n vs ≡ view_outputs i name row n vs
files-are i name x row chooses bytes n [] = refl
files-are i name x row chooses bytes n (v ∷ vs) =
    ap (λ b. record { stage = i; view = Some n; name = numbered name n; bytes = b } ∷ files_from i name x (n + 1) vs) (bytes (chosen x.only v) ∙ ap (row.bytes) (chooses v))
    ∙ ap (λ os. record { stage = i; view = Some n; name = numbered name n; bytes = row.bytes (filter (row.writes) v) } ∷ os) (files-are i name x row chooses bytes (n + 1) vs)

module _ (stages : List StageSpec) (opened : Opened) where
  -- what is kept for a stage are its outputs
  stage-files : (i : ℕ) → flat_map (kept_files stages) (kept_at i (kept_for (form_for (options_at stages i) (setting_at stages opened i)) (stage_value stages opened i))) ≡ outputs_at stages opened i
  stage-files i = go (form_for (options_at stages i) (setting_at stages opened i)) (row-is (options_at stages i) (setting_at stages opened i))
    where
      no-each : (r : Role) → is_reading r ≡ true → written_each i r (row_at stages opened i) (stage_value stages opened i) ≡ []
      no-each (role.Reads name) e = refl
      no-each role.Filters e = refl
      no-each role.Gathers e = refl
      no-each (role.Writes name) e = refl
      no-each (role.WritesEach name) e = absurd (true≢false (sym e))

      go : (form : StageForm) → IsRow form (options_at stages i) (setting_at stages opened i) → flat_map (kept_files stages) (kept_at i (kept_for form (stage_value stages opened i))) ≡ outputs_at stages opened i
      go (Reads fields) row = sym (no-each (role_at stages i) row.0)
      go (Filters f) row = sym (ap (λ r. written_each i r (row_at stages opened i) (stage_value stages opened i)) row.does)
      go (Plugs only) row = sym (ap (λ r. written_each i r (row_at stages opened i) (stage_value stages opened i)) row.does)
      go (Tallies only) row = sym (ap (λ r. written_each i r (row_at stages opened i) (stage_value stages opened i)) row.does)
      go (Writes x) row = sym (ap (λ r. written_each i r (row_at stages opened i) (stage_value stages opened i)) row.does)
      go (Gathers (Made g)) row = sym (ap (λ r. written_each i r (row_at stages opened i) (stage_value stages opened i)) row.1)
      go (Gathers (Each x)) row =
          append-nil (each_files i (role_at stages i) x (stage_value stages opened i))
          ∙ ap (λ r. each_files i r x (stage_value stages opened i)) row.1.does
          ∙ files-are i row.1.name x (row_at stages opened i) row.1.chooses row.1.bytes 1 ((stage_value stages opened i).views)
          ∙ sym (ap (λ r. written_each i r (row_at stages opened i) (stage_value stages opened i)) row.1.does)

  module _ {S K P Q : Type 0} where
    -- so it is with all works from number i on
    pub works-files : (i : ℕ) (works : List (StageWork S K P Q))
        → ((j : ℕ) (w : StageWork S K P Q) → slice_get works j ≡ Some w → keeps_of w ≡ kept_for (form_for (options_at stages (i + j)) (setting_at stages opened (i + j))) (stage_value stages opened (i + j)))
        → all_files stages (kept_from i works) ≡ flat_map (outputs_at stages opened) (range_with_len i (length works))
    works-files i [] keeps = refl
    works-files i (w ∷ works) keeps =
        flat_map-append (kept_files stages) (kept_at i (keeps_of w)) (kept_from (i + 1) works)
        ∙ ap (λ k. flat_map (kept_files stages) (kept_at i k) ++ all_files stages (kept_from (i + 1) works))
        (keeps 0 w refl ∙ ap (λ j. kept_for (form_for (options_at stages j) (setting_at stages opened j)) (stage_value stages opened j)) (let e : i + 0 ≡ i = omega arith in e))
        ∙ ap (λ os. os ++ all_files stages (kept_from (i + 1) works)) (stage-files i)
        ∙ ap (λ os. outputs_at stages opened i ++ os) (works-files (i + 1) works
        (λ j v e. keeps (suc j) v e ∙ ap (λ n. kept_for (form_for (options_at stages n) (setting_at stages opened n)) (stage_value stages opened n)) (let e : i + suc j ≡ i + 1 + j = omega arith in e)))
