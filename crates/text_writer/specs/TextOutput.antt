-- The file of a text writer.
use Rattle.std.specs.Prelude.{ℕ, ◌≤◌, List, [], ◌∷◌, ◌++◌, codes, Bool, true, Option, Some, None, if◌then◌else◌}
use Rattle.std.specs.List.{flat_map, All}
use Rattle.std.specs.Str.{bytes_eq}
use Rattle.cloud_points.specs.declared.point.Point.{Point}
use Rattle.text_writer.specs.declared.form.Column.{Column}
use Rattle.text_writer.specs.declared.form.TextForm.{TextForm}
use Rattle.text_writer.specs.Cells.{cell}

-- a form that can be written: its columns have at most 9 places
abbrev pub IsTextForm : TextForm → Type 0
IsTextForm form = All (λ (c : Column). c.places ≤ 9) form.columns

-- the texts of the columns with the delimiter between them
abbrev pub joined : (delimiter : List ℕ) (text : Column → List ℕ) (columns : List Column) → List ℕ
joined delimiter text [] = []
joined delimiter text (c ∷ cs) = text c ++ flat_map (λ d. delimiter ++ text d) cs

-- a column's name in the header line
abbrev pub heading : (is_quoted : Bool) (name : List ℕ) → List ℕ
heading is_quoted name = if is_quoted then codes "\"" ++ name ++ codes "\"" else name

-- the line with the names of the columns, where there is one
abbrev pub header_line : TextForm → List ℕ
header_line form =
    if form.write_header then joined form.delimiter (λ c. heading form.quote_header c.name) form.columns ++ codes "\n"
    else []

-- a point's line
abbrev pub text_line : TextForm → Point → List ℕ
text_line form p = joined form.delimiter (cell p) form.columns ++ codes "\n"

abbrev pub text_output : TextForm → List Point → List ℕ
text_output form points = header_line form ++ flat_map (text_line form) points

-- a sink that tells its bytes holds the text of these points
abbrev pub holds_text : Option (List ℕ) → TextForm → List Point → Bool
holds_text None form points = true
holds_text (Some bytes) form points = bytes_eq bytes (text_output form points)
