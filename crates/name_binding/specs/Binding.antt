-- The names of dimensions in options.
use Rattle.std.specs.Prelude.{ℕ, ◌≤◌, ⊤, ℤ, pos, Bool, false, List, [], ◌∷◌, length, map, Option, Some, None, option_map, if◌then◌else◌}
use Rattle.std.specs.Int.{int_max}
use Rattle.cloud_points.specs.declared.dims.Dim.{Dim}
use Rattle.cloud_points.specs.ExtraNames.{dim_in}
use Rattle.expr_lang.specs.Formula.{Formula, renamed}
use Rattle.expr_lang.specs.declared.expr.Assign.{Assign}
use Rattle.expr_eval.specs.Bindings.{bound_dim, bound_in, bound_assign, dim_of, assign_of}
use Rattle.expr_eval.specs.declared.assignment.Assignment.{Assignment}
use Rattle.geo_tests.specs.declared.limits.Limit.{Limit}
use Rattle.limits_text.specs.declared.shapes.NamedRange.{NamedRange}
use Rattle.extra_bytes.specs.Asked.{asked_fault, asked_fields, asked_of}
use Rattle.extra_bytes.specs.Fields.{AreLaid}
use Rattle.option_texts.specs.declared.extra_dims.ExtraDims.{ExtraDims}
use Rattle.option_texts.specs.declared.extra_dims.NamedField.{NamedField}
use Rattle.option_texts.specs.declared.columns.NamedColumn.{NamedColumn}
use Rattle.stage_names.specs.declared.faults.PipeFault.{PipeFault}
use Rattle.stage_names.specs.declared.faults.PipeFault.TheVariants.{DimUnknown}
use Rattle.stage_names.specs.Faults.{or_else}
use Rattle.stage_options.specs.Ferries.{ferries_in}
use Rattle.name_binding.specs.Ferries.{names_behind, ferries_refused, ferries_bound}
use Rattle.name_binding.specs.Refusals.{refused}
use Rattle.stage_options.specs.Where.{only_of}
use Rattle.whole_filters.specs.declared.gathering.Gathering.TheVariants.{Sort, Tail, GroupBy, Squares, Voxels}
use Rattle.whole_filters.specs.declared.gathering.Squares.{Squares as Grid}
use Rattle.name_binding.specs.declared.binding.BoundStage.{BoundStage}
use Rattle.name_binding.specs.declared.binding.BoundStage.TheVariants.{Reads, Filters, Plugs, Gathers, Writes, Tallies}
use Rattle.name_binding.specs.declared.binding.BoundFilter.{BoundFilter}
use Rattle.name_binding.specs.declared.binding.BoundFilter.TheVariants as filter
use Rattle.stage_options.specs.declared.options.Options.{Options}
use Rattle.stage_options.specs.declared.options.SplitterOptions.{SplitterOptions}
use Rattle.stage_options.specs.declared.options.Options.TheVariants.{ReadersLas, FiltersRange, FiltersCrop, FiltersAssign, FiltersFerry, FiltersExpression, FiltersDecimation, FiltersHead, FiltersReturns, FiltersPlug, FiltersSort, FiltersTail, FiltersGroupby, FiltersSplitter, FiltersVoxeldownsize, WritersLas, WritersText, WritersTally}

-- ---- the first name that isn't that of a dimension which points have, or that has to be a number and isn't

-- whether a name is that of a dimension, of those that points have
abbrev pub is_had : (Dim → Bool) → Option Dim → Bool
is_had has None = false
is_had has (Some dim) = has dim

-- the same of a name, beside the extra names of a pipeline
abbrev pub is_bound : List (List ℕ) → (Dim → Bool) → List ℕ → Bool
is_bound names has name = is_had has (dim_in name names)

-- the first name of these columns that isn't so
abbrev pub first_unbound : List (List ℕ) → (Dim → Bool) → List NamedColumn → Option (List ℕ)
first_unbound names has [] = None
first_unbound names has (c ∷ cs) = if is_bound names has c.name then first_unbound names has cs else Some c.name

-- the first of these assignments that isn't bound
abbrev pub assigns_refused : ℕ → List (List ℕ) → (Dim → Bool) → List Assign → Option PipeFault
assigns_refused i names has [] = None
assigns_refused i names has (a ∷ later) = or_else (refused i (bound_assign has names a)) (assigns_refused i names has later)

-- the first of these ranges whose dimension isn't bound
abbrev pub ranges_refused : ℕ → List (List ℕ) → (Dim → Bool) → List NamedRange → Option PipeFault
ranges_refused i names has [] = None
ranges_refused i names has (r ∷ later) = or_else (refused i (bound_dim has names r.name)) (ranges_refused i names has later)

abbrev pub where_refused : ℕ → List (List ℕ) → (Dim → Bool) → Option (Formula (List ℕ)) → Option PipeFault
where_refused i names has None = None
where_refused i names has (Some f) = refused i (bound_in has names f)

-- a name that has to be that of a dimension, and may be one of words
abbrev pub dim_refused : ℕ → List (List ℕ) → (Dim → Bool) → List ℕ → Option PipeFault
dim_refused i names has name = if is_bound names has name then None else Some (DimUnknown i name)

-- that of the names in a filter's own options, where the points that it takes have these dimensions
abbrev pub filter_refused : ℕ → List (List ℕ) → (Dim → Bool) → Options → Option PipeFault
filter_refused i names has (FiltersRange o) = ranges_refused i names has o.limits
filter_refused i names has (FiltersAssign o) = assigns_refused i names has o.assignments
filter_refused i names has (FiltersExpression o) = refused i (bound_in has names o.expression)
filter_refused i names has _ = None

-- the extra dimensions that a writer is asked for, where the points that it takes have these dimensions
abbrev pub asked_in : (Dim → Bool) → List (List ℕ) → Option ExtraDims → List NamedField
asked_in has names None = []
asked_in has names (Some dims) = asked_of has names dims

-- the same of any stage, beside its `where`
abbrev pub names_refused : ℕ → List (List ℕ) → (Dim → Bool) → Options → Option PipeFault
names_refused i names has (FiltersSort o) = dim_refused i names has o.dimension
names_refused i names has (FiltersGroupby o) = dim_refused i names has o.dimension
names_refused i names has (WritersLas o) = asked_fault i has names (asked_in has names o.extra)
names_refused i names has (WritersText o) = option_map (DimUnknown i) (first_unbound names has o.columns)
names_refused i names has o = filter_refused i names has o

-- its `where` comes last
abbrev pub own_refused : ℕ → List (List ℕ) → (Dim → Bool) → Options → Option PipeFault
own_refused i names has o = or_else (names_refused i names has o) (where_refused i names has (only_of o))

-- the fault of stage i's options behind these extra names: that of its ferries, then that of its other names
abbrev pub binding_fault : ℕ → List (List ℕ) → (Dim → Bool) → Options → Option PipeFault
binding_fault i names has o = or_else (ferries_refused i names has (ferries_in o)) (own_refused i (names_behind names o) has o)

-- ---- options with dimensions in place of names

abbrev pub bound : List (List ℕ) → Formula (List ℕ) → Formula Dim
bound names f = renamed (dim_of names) f

-- the condition of a `where`
abbrev pub bound_where : List (List ℕ) → Option (Formula (List ℕ)) → Option (Formula Dim)
bound_where names only = option_map (bound names) only

-- a range of the values of a dimension
abbrev pub limit_of : List (List ℕ) → NamedRange → Limit
limit_of names r = record { dim = dim_of names r.name; interval = r.interval }

-- what a filter does, with its ferries bound, beside these extra names
abbrev pub bound_filter : List (List ℕ) → List Assignment → Options → BoundFilter
bound_filter names ferries (FiltersRange o) = filter.Range (map (limit_of names) o.limits)
bound_filter names ferries (FiltersCrop o) = filter.Crop o.shape o.outside
bound_filter names ferries (FiltersAssign o) = filter.Assign (map (assign_of names) o.assignments)
bound_filter names ferries (FiltersFerry o) = filter.Assign ferries
bound_filter names ferries (FiltersExpression o) = filter.Expression (bound names o.expression)
bound_filter names ferries (FiltersDecimation o) = filter.Decimation o.step o.offset o.limit
bound_filter names ferries (FiltersHead o) = filter.Head o.count
bound_filter names ferries (FiltersReturns o) = filter.Returns o.groups
bound_filter names ferries _ = filter.Merge

-- a length of at least 1; the table of the options has no other
abbrev pub edge_of : ℤ → ℤ
edge_of nano = int_max nano (pos 1)

-- the squares of a splitter
abbrev pub squares_of : SplitterOptions → Grid
squares_of o = record { length = edge_of o.length; x = o.origin_x; y = o.origin_y }

-- what a stage does, where the points that it takes have these dimensions; the fields that a writer is asked for begin behind those of
-- its format
abbrev pub bound_with : (Dim → Bool) → List (List ℕ) → List Assignment → Options → BoundStage
bound_with has names ferries (ReadersLas o) = Reads
bound_with has names ferries (FiltersPlug o) = Plugs (bound_where names o.only)
bound_with has names ferries (FiltersSort o) = Gathers (Sort (dim_of names o.dimension) o.down)
bound_with has names ferries (FiltersTail o) = Gathers (Tail o.count)
bound_with has names ferries (FiltersGroupby o) = Gathers (GroupBy (dim_of names o.dimension))
bound_with has names ferries (FiltersSplitter o) = Gathers (Squares (squares_of o))
bound_with has names ferries (FiltersVoxeldownsize o) = Gathers (Voxels (edge_of o.cell))
bound_with has names ferries (WritersLas o) = Writes (bound_where names o.only) (asked_fields names 0 (asked_in has names o.extra))
bound_with has names ferries (WritersText o) = Writes (bound_where names o.only) []
bound_with has names ferries (WritersTally o) = Tallies (bound_where names o.only)
bound_with has names ferries o = Filters (bound_filter names ferries o) (bound_where names (only_of o))

-- the fields that it writes are laid one right behind another
abbrev pub IsLaidStage : BoundStage → Type 0
IsLaidStage (Writes only fields) = AreLaid 0 fields × (length fields ≤ 8)
IsLaidStage _ = ⊤

abbrev pub bound_stage : (Dim → Bool) → List (List ℕ) → Options → BoundStage
bound_stage has names o = bound_with has (names_behind names o) (ferries_bound names (ferries_in o)) o
