-- The typed options of a stage.
use Rattle.std.specs.Prelude.{ℕ, ℤ, pos, neg_ℤ, Bool, true, false, List, [], ◌∷◌, codes, bytes_eq, Option, Some, None, option_map, option_and_then, if◌then◌else◌}
use Rattle.std.specs.Option.{option_or, unwrap_or}
use Rattle.serde_json.specs.Data.{Data, Members}
use Rattle.serde_json.specs.Find.{as_str, get_member}
use Rattle.decimal_coords.specs.declared.grid.Scale.{Scale}
use Rattle.las_header.specs.ScaleWords.{scale_of_nano}
use Rattle.las_header.specs.Versions.{takes_format}
use Rattle.las_header.specs.declared.form.Format.{Format}
use Rattle.forward_rules.specs.declared.options.LasOpts.{LasOpts}
use Rattle.expr_lang.specs.Formula.{Formula, number}
use Rattle.expr_lang.specs.declared.expr.Assign.{Assign}
use Rattle.option_texts.specs.declared.columns.NamedColumn.{NamedColumn}
use Rattle.geo_tests.specs.declared.shape.Shape.{Shape}
use Rattle.geo_tests.specs.declared.shape.Shape.TheVariants.{Box, Polygon, Disc}
use Rattle.limits_text.specs.Texts.{ranges_of, bounds_of, polygon_of, point_of}
use Rattle.limits_text.specs.declared.shapes.NamedRange.{NamedRange}
use Rattle.option_texts.specs.Columns.{columns_of}
use Rattle.option_texts.specs.Forward.{forward_of}
use Rattle.option_texts.specs.ExtraDims.{extra_dims_of}
use Rattle.option_texts.specs.declared.extra_dims.ExtraDims.{ExtraDims}
use Rattle.option_texts.specs.Ferries.{ferries_of}
use Rattle.option_texts.specs.Groups.{groups_of}
use Rattle.option_texts.specs.declared.ferries.NamedFerry.{NamedFerry}
use Rattle.option_texts.specs.declared.groups.Groups.{Groups}
use Rattle.stage_names.specs.declared.kinds.KindName.{KindName}
use Rattle.stage_names.specs.declared.kinds.KindName.TheVariants as kind
use Rattle.stage_options.specs.declared.options.Options.{Options}
use Rattle.stage_options.specs.declared.options.Options.TheVariants.{ReadersLas, FiltersRange, FiltersCrop, FiltersAssign, FiltersFerry, FiltersExpression, FiltersDecimation, FiltersHead, FiltersReturns, FiltersPlug, FiltersMerge, FiltersSort, FiltersTail, FiltersGroupby, FiltersSplitter, FiltersVoxeldownsize, WritersLas, WritersText, WritersTally}
use Rattle.stage_options.specs.declared.options.RangeOptions.{RangeOptions}
use Rattle.stage_options.specs.declared.options.CropOptions.{CropOptions}
use Rattle.stage_options.specs.declared.options.AssignOptions.{AssignOptions}
use Rattle.stage_options.specs.declared.options.FerryOptions.{FerryOptions}
use Rattle.stage_options.specs.declared.options.ExpressionOptions.{ExpressionOptions}
use Rattle.stage_options.specs.declared.options.DecimationOptions.{DecimationOptions}
use Rattle.stage_options.specs.declared.options.HeadOptions.{HeadOptions}
use Rattle.stage_options.specs.declared.options.ReturnsOptions.{ReturnsOptions}
use Rattle.stage_options.specs.declared.options.PlugOptions.{PlugOptions}
use Rattle.stage_options.specs.declared.options.SortOptions.{SortOptions}
use Rattle.stage_options.specs.declared.options.TailOptions.{TailOptions}
use Rattle.stage_options.specs.declared.options.GroupbyOptions.{GroupbyOptions}
use Rattle.stage_options.specs.declared.options.SplitterOptions.{SplitterOptions}
use Rattle.stage_options.specs.declared.options.VoxeldownsizeOptions.{VoxeldownsizeOptions}
use Rattle.stage_options.specs.declared.options.LasReaderOptions.{LasReaderOptions}
use Rattle.stage_options.specs.declared.options.LasWriterOptions.{LasWriterOptions}
use Rattle.stage_options.specs.declared.options.TextOptions.{TextOptions}
use Rattle.stage_options.specs.declared.options.TallyOptions.{TallyOptions}
use Rattle.stage_options.specs.Expressions.{condition_with, assignments_with}
use Rattle.stage_options.specs.Values.{whole_of, format_with, decimal_of, truth_of, is_source, is_target}
use Rattle.stage_options.specs.Rules.{is_within, is_between, has_size}

-- what an option is by a reading of its value, where the value has it
abbrev pub option_in : {A : Type 0} → (Data → Option A) → List ℕ → Members → Option A
option_in read name ms = option_and_then read (get_member name ms)

-- the same where it passes a test
abbrev pub where_it : {A : Type 0} → (A → Bool) → A → Option A
where_it test a = if test a then Some a else None

abbrev pub whole_in : ℕ → ℕ → List ℕ → Members → Option ℕ
whole_in low high name ms = option_and_then (where_it (is_within low high)) (option_in whole_of name ms)

abbrev pub text_in : ℕ → ℕ → List ℕ → Members → Option (List ℕ)
text_in low high name ms = option_and_then (where_it (has_size low high)) (option_in as_str name ms)

abbrev pub scale_in : List ℕ → Members → Option Scale
scale_in name ms = option_and_then scale_of_nano (option_in decimal_of name ms)

abbrev pub offset_in : List ℕ → Members → Option ℤ
offset_in name ms = option_and_then (where_it (is_between (neg_ℤ (pos 999999999999999999)) (pos 999999999999999999))) (option_in decimal_of name ms)

-- the decimal that an option is, or else this one, in nanounits
abbrev pub decimal_or : ℤ → List ℕ → Members → ℤ
decimal_or default name ms = unwrap_or (option_in decimal_of name ms) default

-- which points a stage judges, writes or shows
abbrev pub where_in : Members → Option (Formula (List ℕ))
where_in ms = option_in condition_with (codes "where") ms

-- the condition of points that go on; where it is missing, none does
abbrev pub expression_in : Members → Formula (List ℕ)
expression_in ms = unwrap_or (option_in condition_with (codes "expression") ms) (number (pos 0))

abbrev pub assignments_in : Members → List Assign
assignments_in ms = unwrap_or (option_in assignments_with (codes "value") ms) []

abbrev pub ranges_in : Members → List NamedRange
ranges_in ms = unwrap_or (option_and_then ranges_of (option_in as_str (codes "limits") ms)) []

-- the shape of a crop: a box, a ring, or a disc of a centre and a radius; where none of them is given, no point is in it
abbrev pub box_in : Members → Option Shape
box_in ms = option_map Box (option_and_then bounds_of (option_in as_str (codes "bounds") ms))

abbrev pub ring_in : Members → Option Shape
ring_in ms = option_map Polygon (option_and_then polygon_of (option_in as_str (codes "polygon") ms))

abbrev pub disc_round : ℤ × ℤ → Members → Option Shape
disc_round centre ms = option_map (λ radius. Disc (record { x = centre.0; y = centre.1; radius = radius })) (option_in decimal_of (codes "distance") ms)

abbrev pub disc_in : Members → Option Shape
disc_in ms = option_and_then (λ centre. disc_round centre ms) (option_and_then point_of (option_in as_str (codes "point") ms))

abbrev pub shape_in : Members → Shape
shape_in ms = unwrap_or (option_or (box_in ms) (option_or (ring_in ms) (disc_in ms))) (Polygon [])

abbrev pub ferries_in : Members → List NamedFerry
ferries_in ms = unwrap_or (option_and_then ferries_of (option_in as_str (codes "dimensions") ms)) []

-- the last of several returns, where no groups are named
abbrev pub last_returns : Groups
last_returns = record { first = false; last = true; intermediate = false; only = false }

abbrev pub groups_in : Members → Groups
groups_in ms = unwrap_or (option_and_then groups_of (option_in as_str (codes "groups") ms)) last_returns

-- the columns of a text file
abbrev pub columns_in : Members → List NamedColumn
columns_in ms = unwrap_or (columns_of (unwrap_or (option_in as_str (codes "order") ms) (codes "X,Y,Z"))) []

-- the names of what is forwarded
abbrev pub forward_in : Members → List (List ℕ)
forward_in ms = unwrap_or (option_and_then forward_of (option_in as_str (codes "forward") ms)) []

-- the point data record format that is given
abbrev pub format_in : Members → Option Format
format_in ms = option_in format_with (codes "dataformat_id") ms

-- whether files of a version have points of the format, where one is given
abbrev pub takes_given : Option Format → ℕ → Bool
takes_given None minor = true
takes_given (Some format) minor = takes_format minor format

-- the minor version whose files have points of the format that is given
abbrev pub minor_in : Members → Option ℕ
minor_in ms = option_and_then (where_it (takes_given (format_in ms))) (whole_in 2 4 (codes "minor_version") ms)

-- the extra dimensions that a LAS writer is asked for
abbrev pub extra_dims_in : Members → Option ExtraDims
extra_dims_in ms = option_and_then extra_dims_of (option_in as_str (codes "extra_dims") ms)

-- what a LAS writer is told of its file
abbrev pub las_fields_in : Members → LasOpts
las_fields_in ms = record {
  format = format_in ms;
  minor = minor_in ms;
  scale = scale_in (codes "scale_x") ms ∷ scale_in (codes "scale_y") ms ∷ scale_in (codes "scale_z") ms ∷ [];
  offset = offset_in (codes "offset_x") ms ∷ offset_in (codes "offset_y") ms ∷ offset_in (codes "offset_z") ms ∷ [];
  forward = forward_in ms;
  source_id = whole_in 0 65535 (codes "filesource_id") ms;
  encoding = whole_in 0 65535 (codes "global_encoding") ms;
  day = whole_in 0 65535 (codes "creation_doy") ms;
  year = whole_in 0 65535 (codes "creation_year") ms;
  system = text_in 0 32 (codes "system_id") ms;
  software = text_in 0 32 (codes "software_id") ms;
}

-- what a text writer is told of its file
abbrev pub text_options_in : List ℕ → Members → TextOptions
text_options_in filename ms = record {
  filename = filename;
  columns = columns_in ms;
  precision = unwrap_or (whole_in 0 9 (codes "precision") ms) 3;
  delimiter = unwrap_or (text_in 1 8 (codes "delimiter") ms) (codes ",");
  quote_header = unwrap_or (option_in truth_of (codes "quote_header") ms) true;
  write_header = unwrap_or (option_in truth_of (codes "write_header") ms) true;
  only = where_in ms;
}

-- the name that an option is
abbrev pub name_in : List ℕ → Members → List ℕ
name_in name ms = unwrap_or (option_in as_str name ms) []

-- whether points are put in order downwards
abbrev pub is_down : Option (List ℕ) → Bool
is_down None = false
is_down (Some text) = bytes_eq text (codes "DESC")

-- ---- the options that a run heeds, with their defaults

abbrev pub range_options : Members → RangeOptions
range_options ms = record { limits = ranges_in ms; only = where_in ms }

abbrev pub crop_options : Members → CropOptions
crop_options ms = record {
  shape = shape_in ms;
  outside = unwrap_or (option_in truth_of (codes "outside") ms) false;
  only = where_in ms;
}

abbrev pub assign_options : Members → AssignOptions
assign_options ms = record { assignments = assignments_in ms; only = where_in ms }

abbrev pub ferry_options : Members → FerryOptions
ferry_options ms = record { ferries = ferries_in ms; only = where_in ms }

abbrev pub expression_options : Members → ExpressionOptions
expression_options ms = record { expression = expression_in ms; only = where_in ms }

abbrev pub decimation_options : Members → DecimationOptions
decimation_options ms = record {
  step = unwrap_or (option_in whole_of (codes "step") ms) 1;
  offset = unwrap_or (option_in whole_of (codes "offset") ms) 0;
  limit = option_in whole_of (codes "limit") ms;
  only = where_in ms;
}

abbrev pub head_options : Members → HeadOptions
head_options ms = record { count = unwrap_or (option_in whole_of (codes "count") ms) 10; only = where_in ms }

abbrev pub returns_options : Members → ReturnsOptions
returns_options ms = record { groups = groups_in ms; only = where_in ms }

abbrev pub plug_options : Members → PlugOptions
plug_options ms = record { plug = name_in (codes "plug") ms; only = where_in ms }

abbrev pub sort_options : Members → SortOptions
sort_options ms = record { dimension = name_in (codes "dimension") ms; down = is_down (option_in as_str (codes "order") ms) }

abbrev pub tail_options : Members → TailOptions
tail_options ms = record { count = unwrap_or (option_in whole_of (codes "count") ms) 10 }

abbrev pub groupby_options : Members → GroupbyOptions
groupby_options ms = record { dimension = name_in (codes "dimension") ms }

abbrev pub splitter_options : Members → SplitterOptions
splitter_options ms = record {
  length = decimal_or (pos 1) (codes "length") ms;
  origin_x = decimal_or (pos 0) (codes "origin_x") ms;
  origin_y = decimal_or (pos 0) (codes "origin_y") ms;
}

abbrev pub voxeldownsize_options : Members → VoxeldownsizeOptions
voxeldownsize_options ms = record { cell = decimal_or (pos 1) (codes "cell") ms }

abbrev pub las_reader_options : List ℕ → Members → LasReaderOptions
las_reader_options filename ms = record { filename = filename; extra = unwrap_or (option_in truth_of (codes "use_eb_vlr") ms) false }

abbrev pub las_writer_options : List ℕ → Members → LasWriterOptions
las_writer_options filename ms = record { filename = filename; fields = las_fields_in ms; extra = extra_dims_in ms; only = where_in ms }

abbrev pub tally_options : Members → TallyOptions
tally_options ms = record { tally = name_in (codes "tally") ms; only = where_in ms }

-- by the type
abbrev pub typed_of : KindName → Option (List ℕ) → Members → Options
typed_of kind.ReadersLas filename ms = ReadersLas (las_reader_options (unwrap_or filename []) ms)
typed_of kind.FiltersRange filename ms = FiltersRange (range_options ms)
typed_of kind.FiltersCrop filename ms = FiltersCrop (crop_options ms)
typed_of kind.FiltersAssign filename ms = FiltersAssign (assign_options ms)
typed_of kind.FiltersFerry filename ms = FiltersFerry (ferry_options ms)
typed_of kind.FiltersExpression filename ms = FiltersExpression (expression_options ms)
typed_of kind.FiltersDecimation filename ms = FiltersDecimation (decimation_options ms)
typed_of kind.FiltersHead filename ms = FiltersHead (head_options ms)
typed_of kind.FiltersReturns filename ms = FiltersReturns (returns_options ms)
typed_of kind.FiltersPlug filename ms = FiltersPlug (plug_options ms)
typed_of kind.FiltersMerge filename ms = FiltersMerge (record {})
typed_of kind.FiltersSort filename ms = FiltersSort (sort_options ms)
typed_of kind.FiltersTail filename ms = FiltersTail (tail_options ms)
typed_of kind.FiltersGroupby filename ms = FiltersGroupby (groupby_options ms)
typed_of kind.FiltersSplitter filename ms = FiltersSplitter (splitter_options ms)
typed_of kind.FiltersVoxeldownsize filename ms = FiltersVoxeldownsize (voxeldownsize_options ms)
typed_of kind.WritersLas filename ms = WritersLas (las_writer_options (unwrap_or filename []) ms)
typed_of kind.WritersText filename ms = WritersText (text_options_in (unwrap_or filename []) ms)
typed_of kind.WritersTally filename ms = WritersTally (tally_options ms)

-- whether a file name is one that the type may have
abbrev pub is_named : KindName → Option (List ℕ) → Bool
is_named kind.ReadersLas filename = is_source (unwrap_or filename [])
is_named kind.WritersLas filename = is_target (unwrap_or filename [])
is_named kind.WritersText filename = is_target (unwrap_or filename [])
is_named _ filename = true
