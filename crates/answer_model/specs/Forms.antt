-- The forms of files that are written, by the options of their writers.
use Rattle.std.specs.Prelude.{ℕ, Bool, List, map}
use Rattle.std.specs.Option.{unwrap_or}
use Rattle.cloud_points.specs.declared.dims.Dim.{Dim}
use Rattle.expr_eval.specs.Bindings.{dim_of}
use Rattle.extra_bytes.specs.Asked.{asked_fields}
use Rattle.forward_rules.specs.Forwarded.{ReadFile, form_of}
use Rattle.forward_rules.specs.declared.form.LasForm.{LasForm}
use Rattle.las_header.specs.Formats.{format_size}
use Rattle.name_binding.specs.Binding.{asked_in}
use Rattle.option_texts.specs.declared.columns.NamedColumn.{NamedColumn}
use Rattle.stage_options.specs.declared.options.LasWriterOptions.{LasWriterOptions}
use Rattle.stage_options.specs.declared.options.TextOptions.{TextOptions}
use Rattle.text_writer.specs.declared.form.Column.{Column}
use Rattle.text_writer.specs.declared.form.TextForm.{TextForm}

-- a column has its own places, or else those of the whole file; its name may be one of the extra names of the pipeline
abbrev pub column_of : List (List ℕ) → ℕ → NamedColumn → Column
column_of names precision c = record { dim = dim_of names c.name; name = c.name; places = unwrap_or c.places precision }

-- what a text writer with these options writes
unfoldable pub text_form : List (List ℕ) → TextOptions → TextForm
text_form names o = record {
  columns = map (column_of names o.precision) o.columns;
  delimiter = o.delimiter;
  quote_header = o.quote_header;
  write_header = o.write_header;
}

-- what a LAS writer with these options writes behind files that are read, where the points that it takes have these dimensions
abbrev pub las_form : (Dim → Bool) → List (List ℕ) → List ReadFile → LasWriterOptions → LasForm
las_form has names reads o = record (form_of o.fields reads) { extra = asked_fields names (format_size (form_of o.fields reads).format) (asked_in has names o.extra) }
