-- What each type of stage makes of whole flows: one row for each type. What it does with files is its role.
use Rattle.std.specs.Prelude.{ℕ, ℤ, Bool, true, false, List, [], map, Option, Some, None, option_map}
use Rattle.cloud_points.specs.declared.point.Point.{Point}
use Rattle.cloud_points.specs.declared.faults.PointFault.{PointFault}
use Rattle.cloud_points.specs.declared.dims.Dim.{Dim}
use Rattle.cloud_points.specs.declared.extra.ExtraField.{ExtraField}
use Rattle.cloud_points.specs.Clearing.{cleared}
use Rattle.cloud_points.specs.Flows.{Flow, map_views, points}
use Rattle.cloud_points.specs.Meaning.{Nature}
use Rattle.cloud_points.specs.Queue.{up_to_limit}
use Rattle.expr_lang.specs.Formula.{Formula}
use Rattle.expr_eval.specs.Bindings.{assign_of, dim_of}
use Rattle.name_binding.specs.Binding.{bound, bound_where, limit_of, edge_of, squares_of}
use Rattle.name_binding.specs.Ferries.{with_targets, ferries_bound}
use Rattle.stage_options.specs.declared.options.Options.{Options}
use Rattle.stage_options.specs.declared.options.Options.TheVariants.{ReadersLas, FiltersRange, FiltersCrop, FiltersAssign, FiltersFerry, FiltersExpression, FiltersDecimation, FiltersHead, FiltersReturns, FiltersMerge, FiltersSort, FiltersTail, FiltersGroupby, FiltersSplitter, FiltersVoxeldownsize, WritersLas, WritersText, FiltersPlug, WritersTally}
use Rattle.stage_options.specs.Values.{is_numbered}
use Rattle.forward_rules.specs.Forwarded.{ReadFile}
use Rattle.forward_rules.specs.declared.form.LasForm.{LasForm}
use Rattle.las_writer.specs.LasOutput.{las_output}
use Rattle.las_writer.specs.Records.{fits, written}
use Rattle.stage_meanings.specs.Conditions.{passes}
use Rattle.stage_meanings.specs.Filtering.{Filtering, By, Admit, Merge, filtered, filtered_stop}
use Rattle.stage_meanings.specs.Filters.{Rule, admitted_in_views, before_stop, first_unjudged, is_true, point_fault, refusal_in_views}
use Rattle.stage_meanings.specs.Rules.{range, crop, decimation, head, returns, expression, assign}
use Rattle.stage_meanings.specs.Records.{unrecorded}
use Rattle.stage_meanings.specs.declared.reason.Reason.{Reason}
use Rattle.plug_stages.specs.Folds.{Step, last_view, plug_fold, state_behind, step_where}
use Rattle.plug_stages.specs.Handed.{Handed, named_in}
use Rattle.plug_stages.specs.TallySteps.{passing}
use Rattle.run_report.specs.declared.tally.TallyLine.{TallyLine}
use Rattle.text_writer.specs.TextOutput.{text_output}
use Rattle.tile_filters.specs.Gathered.{gathered}
use Rattle.whole_filters.specs.declared.gathering.Gathering.{Gathering}
use Rattle.whole_filters.specs.declared.gathering.Gathering.TheVariants.{Sort, Tail, GroupBy, Squares, Voxels}
use Rattle.answer_model.specs.Forms.{las_form, text_form}

-- what a stage makes of the flow that it takes: it judges its points one after the other; or it needs whole views; or it needs them, and
-- gives them on where no point passes against which there is a reason, which may look at how many of its view passed before it; or it shows
-- them to a filter of the caller, view by view, and what that gives of those that pass goes on cleared
pub data Making : Type 0 where
  Judging : Filtering → Making
  Folding : Step Point → List ℤ → (Point → Point) → Option (Formula Dim) → Making
  Gathered : Gathering → Making
  Whole : (ℕ → Point → Option Reason) → Option (Formula Dim) → Making

-- a type of stage
pub record Row : Type 0 where
  pub making : Making
  -- whether it writes a point, and the bytes of its file of those that it writes
  pub writes : Point → Bool
  pub bytes : List Point → List ℕ
  -- what its tally says of those that it is shown, where it has one
  pub says : Option (List Point → TallyLine)
  -- what the filter or the tally of the caller that it shows them to remembers behind a flow
  pub leaves : Flow Point → Option (List ℤ)

-- where a stage stands: the extra names of the stages before it, the files that are read below it, the dimensions of the points that it
-- takes, the fields that it takes of its own file, and what the caller handed in
pub record Setting : Type 0 where
  pub names : List (List ℕ)
  pub reads : List ReadFile
  pub dims : Dim → Bool
  pub fields : List ExtraField
  pub handed : Handed

-- a filter, which has no file
abbrev pub filters : Filtering → Row
filters f = record { making = Judging f; writes = λ p. false; bytes = λ points. []; says = None; leaves = λ flow. None }

-- nor has a stage that needs whole views
abbrev pub gathers : Gathering → Row
gathers g = record { making = Gathered g; writes = λ p. false; bytes = λ points. []; says = None; leaves = λ flow. None }

-- it judges by this rule the points for which a condition holds, beside these extra names
abbrev pub by : List (List ℕ) → Rule Point Reason → Option (Formula (List ℕ)) → Row
by names rule only = filters (By rule (bound_where names only))

-- a writer gives its points on, by whether it writes a file of each view
abbrev pub admits : Bool → (ℕ → Point → Option Reason) → Option (Formula Dim) → Making
admits false reason only = Judging (Admit reason only)
admits true reason only = Whole reason only

-- it writes those for which a condition holds; a point against which there is a reason, behind so many that are written, has no place in
-- its file
abbrev pub writes : Bool → List (List ℕ) → (ℕ → Point → Option Reason) → (List Point → List ℕ) → Option (Formula (List ℕ)) → Row
writes each names reason bytes only = record {
  making = admits each reason (bound_where names only);
  writes = λ p. is_true (passes (bound_where names only) p);
  bytes = bytes;
  says = None;
  leaves = λ flow. None;
}

-- what a filter or a tally of the caller remembers behind points of which it is shown those for which a condition holds
abbrev pub remembered_by : Nature Point → Option (Formula Dim) → List Point → List ℤ
remembered_by n only points = state_behind n.step n.opening (passing (passes only) points)

-- a filter of the caller, which has no file, and remembers something of the last view alone; each name is one of those that were handed in,
-- so that the row without one says nothing
abbrev pub folds : List (List ℕ) → (Dim → Bool) → Option (Nature Point) → Option (Formula (List ℕ)) → Row
folds names held None only = filters Merge
folds names held (Some n) only = record (filters Merge) {
  making = Folding n.step n.opening (cleared held) (bound_where names only);
  leaves = λ flow. option_map (remembered_by n (bound_where names only)) (last_view flow.views flow.open_view);
}

-- what a tally of the caller says of points
abbrev pub said_by : Nature Point → List Point → TallyLine
said_by n points = record { name = n.called; text = n.text (state_behind n.step n.opening points) }

-- a tally of the caller: it has no file, and is shown the points for which a condition holds
abbrev pub shows : List (List ℕ) → Option (Nature Point) → Option (Formula (List ℕ)) → Row
shows names nature only = record (writes false names (λ k p. None) (λ points. []) only) {
  says = option_map said_by nature;
  leaves = λ flow. option_map (λ n. remembered_by n (bound_where names only) (points flow)) nature;
}

-- why a point has no place in a LAS file behind so many that are written: the file counts no point more, or it has no record
abbrev pub unplaced_in : LasForm → ℕ → Point → Option Reason
unplaced_in form k p = unrecorded (fits form k) (written form p)

-- the rows, by the options of a stage and where it stands; a reader takes no flow, so that its row says nothing
abbrev pub row_of : Options → Setting → Row
row_of (ReadersLas o) s = filters Merge
row_of (FiltersRange o) s = by s.names (range (map (limit_of s.names) o.limits)) o.only
row_of (FiltersCrop o) s = by s.names (crop o.shape o.outside) o.only
row_of (FiltersAssign o) s = by s.names (assign (map (assign_of s.names) o.assignments)) o.only
row_of (FiltersFerry o) s = by (with_targets s.names o.ferries) (assign (ferries_bound s.names o.ferries)) o.only
row_of (FiltersExpression o) s = by s.names (expression (bound s.names o.expression)) o.only
row_of (FiltersDecimation o) s = by s.names (decimation o.step o.offset o.limit) o.only
row_of (FiltersHead o) s = by s.names (head o.count) o.only
row_of (FiltersReturns o) s = by s.names (returns o.groups) o.only
row_of (FiltersMerge o) s = filters Merge
row_of (FiltersSort o) s = gathers (Sort (dim_of s.names o.dimension) o.down)
row_of (FiltersTail o) s = gathers (Tail o.count)
row_of (FiltersGroupby o) s = gathers (GroupBy (dim_of s.names o.dimension))
row_of (FiltersSplitter o) s = gathers (Squares (squares_of o))
row_of (FiltersVoxeldownsize o) s = gathers (Voxels (edge_of o.cell))
row_of (FiltersPlug o) s = folds s.names s.dims (named_in s.handed.filters o.plug) o.only
row_of (WritersTally o) s = shows s.names (named_in s.handed.tallies o.tally) o.only
row_of (WritersLas o) s = writes (is_numbered o.filename) s.names (unplaced_in (las_form s.dims s.names s.reads o)) (las_output (las_form s.dims s.names s.reads o)) o.only
row_of (WritersText o) s = writes (is_numbered o.filename) s.names (λ k p. None) (text_output (text_form s.names o)) o.only

-- a filter that needs whole views has no fault
abbrev pub made : Making → Flow Point → Flow Point
made (Judging f) flow = filtered f flow
made (Folding step opening clear only) flow = map_views (plug_fold (step_where (passes only) clear step) opening) (before_stop (first_unjudged (passes only) 0 (points flow)) flow)
made (Gathered g) flow = gathered g flow
made (Whole reason only) flow = admitted_in_views reason (passes only) flow

-- the fault of a point by its number, which is told up to the greatest u64, and why
abbrev told_fault : ℕ × Reason → PointFault
told_fault s = point_fault (up_to_limit s.0) s.1

abbrev pub stop : Making → Flow Point → Option PointFault
stop (Judging f) flow = filtered_stop f flow
stop (Folding step opening clear only) flow = option_map told_fault (first_unjudged (passes only) 0 (points flow))
stop (Gathered g) flow = None
stop (Whole reason only) flow = option_map told_fault (refusal_in_views reason (passes only) flow)

-- the value of a stage on the flow that it takes, and its fault there
abbrev pub value_on : Row → Flow Point → Flow Point
value_on row flow = made row.making flow

abbrev pub fault_on : Row → Flow Point → Option PointFault
fault_on row flow = stop row.making flow
