-- The form of a text file is within the bounds of its writer.
use Rattle.std.proofs.Common.{◌≡◌, ℕ, ◌≤◌, List, map, Some, None, ap, ◌∙◌}
use Rattle.std.specs.Prelude.{Option, IfSome}
use Rattle.std.specs.Option.{unwrap_or}
use Rattle.std.proofs.lemmas.List.Elements.{All-map}
use Rattle.answer_model.specs.Forms.{column_of, text_form}
use Rattle.option_texts.specs.Columns.{AreColumns}
use Rattle.stage_options.specs.declared.options.TextOptions.{TextOptions}
use Rattle.text_writer.specs.TextOutput.{IsTextForm}
use Rattle.text_writer.specs.declared.form.Column.{Column}
use Rattle.text_writer.specs.declared.form.TextForm.{TextForm}

-- the form with these columns and this delimiter
abbrev pub form_with : TextOptions → List Column → List ℕ → TextForm
form_with o columns delimiter = record { columns = columns; delimiter = delimiter; quote_header = o.quote_header; write_header = o.write_header }

pub form-is : (names : List (List ℕ)) (o : TextOptions) (columns : List Column) (delimiter : List ℕ) → columns ≡ map (column_of names o.precision) o.columns → delimiter ≡ o.delimiter
    → form_with o columns delimiter ≡ text_form names o
unfolding text_form
form-is names o columns delimiter c d = ap (λ xs. form_with o xs delimiter) c ∙ ap (form_with o (map (column_of names o.precision) o.columns)) d

few_places : (precision : ℕ) (places : Option ℕ) → precision ≤ 9 → IfSome places (λ n. n ≤ 9) → unwrap_or places precision ≤ 9
few_places precision None low near = low
few_places precision (Some n) low near = near

pub form-good : (names : List (List ℕ)) (o : TextOptions) → AreColumns o.columns → o.precision ≤ 9 → IsTextForm (text_form names o)
unfolding text_form
form-good names o are low = All-map (λ (c : Column). c.places ≤ 9) (column_of names o.precision) o.columns (λ k d lt. few_places o.precision _ low (are.near k d lt))
