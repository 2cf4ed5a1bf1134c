-- What the work of each stage means.
use Rattle.std.specs.Prelude.{◌≡◌, ℕ, ◌==◌, Bool, true, false, not, ◌&&◌, ◌||◌, List, length, Option, Some, None, is_some}
use Rattle.cloud_points.specs.declared.dims.Dim.{Dim}
use Rattle.cloud_points.specs.declared.point.Point.{Point}
use Rattle.cloud_points.specs.declared.faults.StageFault.{StageFault}
use Rattle.cloud_points.specs.Flows.{Flow}
use Rattle.cloud_points.specs.Lifted.{lifted}
use Rattle.cloud_points.specs.Meaning.{Meaning}
use Rattle.cloud_points.specs.Queue.{up_to_limit}
use Rattle.expr_lang.specs.Formula.{Formula}
use Rattle.network_theory.specs.Machine.{Machine}
use Rattle.stage_meanings.specs.ByRule.{admitting_steps, spot_at}
use Rattle.stage_meanings.specs.Conditions.{passes}
use Rattle.stage_meanings.specs.Filtering.{Filtering, Admit, filter_meaning}
use Rattle.stage_meanings.specs.Filters.{refused_by, first_refused}
use Rattle.stage_meanings.specs.Steps.{Steps, given, reached, stopped}
use Rattle.stage_meanings.specs.declared.reason.Reason.{Reason}
use Rattle.stage_meanings.specs.declared.spot.Spot.{Spot}
use Rattle.plug_stages.specs.Works.{plug_meaning, plug_spot, tally_meaning, tally_spot}
use Rattle.plug_stages.specs.declared.filter.PlugFilter as filter
use Rattle.plug_stages.specs.declared.spots.PlugSpot.{PlugSpot}
use Rattle.plug_stages.specs.declared.spots.TallySpot.{TallySpot}
use Rattle.plug_stages.specs.declared.tally.PlugTally as tally
use Rattle.run_report.specs.declared.tally.TallyLine.{TallyLine}
use Rattle.stream_filters.specs.Kinds.{filtering_of, spot_of}
use Rattle.view_works.specs.Collecting.{Held, collecting, held}
use Rattle.view_works.specs.Giving.{resting, resting_until}
use Rattle.stage_kinds.specs.declared.file_form.Writing.{Writing as Writes}
use Rattle.stage_kinds.specs.declared.making.Making.{Making}
use Rattle.stage_kinds.specs.declared.stage_work.StageState.{StageState}
use Rattle.stage_kinds.specs.declared.stage_work.StageState.TheVariants.{Reading, Filtering as At, Plugging, Tallying, Collecting, Keeping, Writing}
use Rattle.stage_kinds.specs.declared.stage_work.StageWork.{StageWork}
use Rattle.stage_kinds.specs.declared.stage_work.StageWork.TheVariants.{Reader, Filter, Plug, Tally, Collector, Views, ViewFiles, Writer}
use Rattle.stage_kinds.specs.declared.writer_stage.WriterStage.{WriterStage}
use Rattle.stage_kinds.specs.Files.{chosen, count_of, file_form, file_holds, unwritten}

-- ---- writers

-- as a filter: it admits the points that aren't to be written, and those that have a place in the file
abbrev pub writing_filter : Writes → Filtering
writing_filter x = Admit (unwritten x.form) x.only

abbrev pub writing_steps : Writes → Steps Spot Point StageFault
writing_steps x = admitting_steps (unwritten x.form) (passes x.only)

-- why it stops at a point behind so many that were written
abbrev pub why_not : Writes → ℕ → Point → Option Reason
why_not x k p = refused_by (unwritten x.form) (passes x.only) (p, k)

-- the first of these points at which it stops behind so many that were written, by its number among them
abbrev pub first_stop : Writes → ℕ → List Point → Option (ℕ × Reason)
first_stop x k points = first_refused (unwritten x.form) (passes x.only) 0 k points

-- what the writer writes stands in its state, beside where its next point stands
abbrev pub writing_meaning : Meaning (Writes × Spot) Point StageFault
writing_meaning = record {
  emit = λ s points. given (writing_steps s.0) s.1 points;
  after = λ s points. (s.0, reached (writing_steps s.0) s.1 points);
  fault = λ s points. stopped (writing_steps s.0) s.1 points;
  at_view = λ s. ((s.0, (writing_steps s.0).anew s.1), true);
  at_end = λ s cut. (s, false);
  nature = None;
}

-- from its first point on it stops at one of these, or at none
abbrev pub stops_somewhere : Writes → List Point → Bool
stops_somewhere x points = is_some (first_stop x 0 points)

abbrev pub stops_nowhere : Writes → List Point → Bool
stops_nowhere x points = not (stops_somewhere x points)

module _ {K : Type 0} where
  abbrev pub only_of : WriterStage K → Option (Formula Dim)
  only_of w = w.taken.only

  abbrev pub writes_of : WriterStage K → Writes
  writes_of w = record { form = file_form w.file; only = only_of w }

  -- where its next point stands: behind so many of its points, and so many that it wrote
  abbrev pub spot_in : WriterStage K → Spot
  spot_in w = record { number = w.taken.number; place = count_of w.file }

  -- it wrote those of these points that are chosen, and its sink holds them, by the bytes that a sink tells; nothing is said where it
  -- stops at one of them
  abbrev pub holds_chosen : (K → Option (List ℕ)) → WriterStage K → List Point → Bool
  holds_chosen bytes w points =
      stops_somewhere (writes_of w) points
      || ((count_of w.file == up_to_limit (length (chosen (only_of w) points))) && file_holds bytes w.file (chosen (only_of w) points))

-- ---- all

abbrev pub filtering_in : StageState → Option Spot
filtering_in (At spot) = Some spot
filtering_in _ = None

abbrev pub plugging_in : StageState → Option PlugSpot
plugging_in (Plugging spot) = Some spot
plugging_in _ = None

abbrev pub tallying_in : StageState → Option TallySpot
tallying_in (Tallying spot) = Some spot
tallying_in _ = None

abbrev pub collecting_in : StageState → Option (Making × Held)
collecting_in (Collecting g views) = Some (g, views)
collecting_in _ = None

abbrev pub writing_in : StageState → Option (Writes × Spot)
writing_in (Writing x spot) = Some (x, spot)
writing_in _ = None

abbrev pub filter_work : Filtering → Meaning StageState Point StageFault
filter_work f = lifted (filter_meaning f) filtering_in At

abbrev pub writer_work : Meaning StageState Point StageFault
writer_work = lifted writing_meaning writing_in (λ s. Writing s.0 s.1)

-- a stage that needs whole views keeps what it takes
abbrev pub collector_work : Meaning StageState Point StageFault
collector_work = lifted collecting collecting_in (λ s. Collecting s.0 s.1)

-- a leaf that keeps what it gives, and writes files of it: that is the state in which an end leaves it
abbrev pub keeping : Writes → Flow Point → Meaning StageState Point StageFault
keeping x views = resting_until (λ s. Keeping x views)

-- the stages of the caller's filters and tallies, by what these are
abbrev pub plug_work : Meaning PlugSpot Point StageFault → Meaning StageState Point StageFault
plug_work m = lifted m plugging_in Plugging

abbrev pub tally_work : Meaning TallySpot Point StageFault → Meaning StageState Point StageFault
tally_work m = lifted m tallying_in Tallying

module _ {S K P Q : Type 0} (plugs : filter.Ghosts P) (tallies : tally.Ghosts Q) where
  abbrev pub meaning_of : StageWork S K P Q → Meaning StageState Point StageFault
  meaning_of (Reader r) = resting
  meaning_of (Filter f) = filter_work (filtering_of f)
  meaning_of (Plug w) = plug_work (plug_meaning plugs w)
  meaning_of (Tally w) = tally_work (tally_meaning tallies w)
  meaning_of (Collector c) = collector_work
  meaning_of (Views h) = resting
  meaning_of (ViewFiles t) = keeping t.writing t.views.views
  meaning_of (Writer w) = writer_work

  abbrev pub state_of : StageWork S K P Q → StageState
  state_of (Reader r) = Reading
  state_of (Filter f) = At (spot_of f)
  state_of (Plug w) = Plugging (plug_spot plugs w)
  state_of (Tally w) = Tallying (tally_spot tallies w)
  state_of (Collector c) = Collecting c.making (held c.short c.views)
  state_of (Views h) = Reading
  state_of (ViewFiles t) = Keeping t.writing t.views.views
  state_of (Writer w) = Writing (writes_of w) (spot_in w)

module _ {S K P Q : Type 0} where
  abbrev pub is_leaf : StageWork S K P Q → Bool
  is_leaf (Reader r) = true
  is_leaf (Views h) = true
  is_leaf (ViewFiles t) = true
  is_leaf _ = false

  -- whether memory was wanting for what it takes
  abbrev pub is_short : StageWork S K P Q → Bool
  is_short (Collector c) = c.short
  is_short _ = false

  -- what its sink holds, by the bytes that a sink tells
  abbrev pub holds_of : (K → Option (List ℕ)) → StageWork S K P Q → List Point → Bool
  holds_of bytes (Writer w) points = holds_chosen bytes w points
  holds_of bytes _ points = true

  -- what a stage writes
  abbrev pub writing_of : StageWork S K P Q → Option Writes
  writing_of (Writer w) = Some (writes_of w)
  writing_of _ = None

  -- where its next point stands
  abbrev pub writes_at : StageWork S K P Q → Option Spot
  writes_at (Writer w) = Some (spot_in w)
  writes_at _ = None

  -- what it writes of each view, and the views that it keeps for that
  abbrev pub keeps_of : StageWork S K P Q → Option (Writes × Flow Point)
  keeps_of (ViewFiles t) = Some (t.writing, t.views.views)
  keeps_of _ = None

  -- how many points it writes
  abbrev pub written_by : StageWork S K P Q → Option ℕ
  written_by (Writer w) = Some (count_of w.file)
  written_by (ViewFiles t) = Some t.wrote
  written_by _ = None

  -- how many points it showed to a tally, and what that says
  abbrev pub shown_by : StageWork S K P Q → Option ℕ
  shown_by (Tally w) = Some w.shown
  shown_by _ = None

  abbrev pub says_of : tally.Ghosts Q → StageWork S K P Q → Option TallyLine
  says_of tallies (Tally w) = Some (record { name = tallies.called w.tally; text = tallies.text w.tally (tallies.state w.tally) })
  says_of tallies _ = None

  -- how many files it writes
  abbrev pub files_by : StageWork S K P Q → ℕ
  files_by (Writer w) = 1
  files_by (ViewFiles t) = up_to_limit (length t.views.views.views)
  files_by _ = 0

-- a writer of this holds these points, and stops at none of them
pub record HoldsAll {S K P Q : Type 0} (bytes : K → Option (List ℕ)) (writing : Writes) (points : List Point) (w : StageWork S K P Q) : Type 0 where
  pub is : writing_of w ≡ Some writing
  pub holds : holds_of bytes w points ≡ true
  pub nowhere : stops_nowhere writing points ≡ true

-- a work with one input, before its first mark
abbrev pub fresh : StageState → Machine StageState StageFault
fresh state = record { state = state; fault = None; cut = false; inputs = 1; ended = 0 }

-- the state of a writer before all points
abbrev pub begun : Writes → StageState
begun x = Writing x (spot_at 0)
