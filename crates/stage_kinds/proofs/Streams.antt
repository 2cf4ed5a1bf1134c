-- What the works of filters and writers make of a flow.
use Rattle.std.proofs.Common.{◌≡◌, ℕ, true, not, Option, Some, None, is_some, refl, ap, ◌∙◌, List, length}
use Rattle.std.specs.Prelude.{ℤ, Bool, Result, option_map}
use Rattle.cloud_points.specs.declared.point.Point.{Point}
use Rattle.cloud_points.specs.declared.faults.StageFault.TheVariants as stage
use Rattle.cloud_points.specs.Flows.{Flow, points, map_views}
use Rattle.cloud_points.specs.Marks.{flow_marks}
use Rattle.cloud_points.specs.Meaning.{Nature}
use Rattle.cloud_points.specs.Queue.{up_to_limit}
use Rattle.network_theory.specs.Machine.{made_of, fault_on, state_after}
use Rattle.stage_meanings.proofs.Admits.{admitting_stops, admitting_streams}
use Rattle.stage_meanings.specs.ByRule.{spot_at}
use Rattle.stage_meanings.specs.Conditions.{passes}
use Rattle.stage_meanings.specs.Filtering.{Filtering, filtered, filtered_stop, filter_meaning, same_fault}
use Rattle.stage_meanings.specs.Filters.{admitted, before_stop, first_unjudged, point_fault, told_stop}
use Rattle.stage_meanings.specs.declared.reason.Reason.{Reason}
use Rattle.stage_meanings.proofs.FiltersStream.{filters_give, filters_fault}
use Rattle.stage_meanings.proofs.Streams.{StreamsBy, streams_give, streams_fault, views_same}
use Rattle.stage_meanings.proofs.Through.{lifted_gives, lifted_faults, lifted_leaves}
use Rattle.stage_meanings.specs.declared.spot.Spot.{Spot}
use Rattle.plug_stages.proofs.PlugStreams as plugs
use Rattle.plug_stages.proofs.TallyStreams as tallies
use Rattle.plug_stages.specs.Folds.{Step, plug_fold, step_where}
use Rattle.plug_stages.specs.PlugSteps.{plug_spot_at, plug_stage}
use Rattle.plug_stages.specs.Tallied.{tallied}
use Rattle.plug_stages.specs.TallySteps.{passing, tally_spot_at, tally_stage}
use Rattle.stage_kinds.specs.declared.file_form.Writing.{Writing as Writes}
use Rattle.stage_kinds.specs.declared.stage_work.StageState.TheVariants.{Filtering as At, Plugging, Tallying, Writing}
use Rattle.stage_kinds.specs.declared.writer_stage.WriterStage.{WriterStage}
use Rattle.stage_kinds.specs.Files.{chosen, count_of, unwritten}
use Rattle.stage_kinds.specs.Keeps.{writing_keeps}
use Rattle.stage_kinds.proofs.Putting.{held, unlike}
use Rattle.stage_kinds.specs.Stages.{begun, filter_work, filtering_in, plug_work, plugging_in, tally_work, tallying_in, first_stop, holds_chosen, only_of, stops_nowhere, stops_somewhere, writer_work, writes_of, writing_filter, writing_in, writing_meaning}

-- ---- filters

pub filter_gives : (f : Filtering) (flow : Flow Point) → made_of (filter_work f) (At (spot_at 0)) flow ≡ flow_marks (filtered f flow)
filter_gives f flow = lifted_gives (filter_meaning f) filtering_in At (λ s. refl) (spot_at 0) (flow_marks flow) ∙ filters_give f flow

pub filter_fault : (f : Filtering) (flow : Flow Point) → fault_on (filter_work f) (At (spot_at 0)) flow ≡ option_map stage.Point (filtered_stop f flow)
filter_fault f flow = lifted_faults (filter_meaning f) filtering_in At (λ s. refl) (spot_at 0) (flow_marks flow) ∙ filters_fault f flow ∙ same_fault f flow

-- ---- writers

-- behind so many points, of which so many were written
abbrev at : Writes → ℕ × ℕ → Writes × Spot
at x h = (x, record { number = up_to_limit h.0; place = up_to_limit h.1 })

-- it does with each view as its filter does
writing_streams : (x : Writes) → StreamsBy writing_meaning (admitting_stops (unwritten x.form) (passes x.only)) told_stop (at x) (λ v. v)
writing_streams x =
    let by = admitting_streams (unwritten x.form) (passes x.only) in
    record {
      fault = by.fault;
      gives = by.gives;
      stops = by.stops;
      anew = λ h v e. ap (λ t. ((x, t.0), t.1)) (by.anew h v e);
      ends = λ h v cut. refl;
    }

pub writer_gives : (x : Writes) (flow : Flow Point) → made_of writer_work (begun x) flow ≡ flow_marks (filtered (writing_filter x) flow)
writer_gives x flow = lifted_gives writing_meaning writing_in (λ s. Writing s.0 s.1) (λ s. refl) (at x (0, 0)) (flow_marks flow)
    ∙ streams_give writing_meaning writing_keeps (admitting_stops (unwritten x.form) (passes x.only)) told_stop (at x) (λ v. v) (writing_streams x) (0, 0) refl flow
    ∙ ap flow_marks (views_same (admitted (unwritten x.form) (passes x.only) flow))

pub writer_fault : (x : Writes) (flow : Flow Point) → fault_on writer_work (begun x) flow ≡ option_map stage.Point (filtered_stop (writing_filter x) flow)
writer_fault x flow = lifted_faults writing_meaning writing_in (λ s. Writing s.0 s.1) (λ s. refl) (at x (0, 0)) (flow_marks flow)
    ∙ streams_fault writing_meaning writing_keeps (admitting_stops (unwritten x.form) (passes x.only)) told_stop (at x) (λ v. v) (writing_streams x) (0, 0) flow
    ∙ same_fault (writing_filter x) flow

-- ---- filters and tallies of the caller

pub told_point : (o : Option (ℕ × Reason)) → option_map told_stop o ≡ option_map stage.Point (option_map (λ s. point_fault (up_to_limit s.0) s.1) o)
told_point None = refl
told_point (Some s) = refl

module _ (nature : Nature Point) (opening : List ℤ) (step : Step Point) (clear : Point → Point) (only : Point → Result Bool Reason) (s : List ℤ) (flow : Flow Point) where
  pub plug_gives : made_of (plug_work (plug_stage nature opening step clear only)) (Plugging (plug_spot_at 0 s)) flow
      ≡ flow_marks (map_views (plug_fold (step_where only clear step) opening) (before_stop (first_unjudged only 0 (points flow)) flow))
  plug_gives = lifted_gives (plug_stage nature opening step clear only) plugging_in Plugging (λ s. refl) (plug_spot_at 0 s) (flow_marks flow)
      ∙ plugs.plug_gives nature opening step clear only s flow

  pub plug_fault : fault_on (plug_work (plug_stage nature opening step clear only)) (Plugging (plug_spot_at 0 s)) flow
      ≡ option_map stage.Point (option_map (λ s. point_fault (up_to_limit s.0) s.1) (first_unjudged only 0 (points flow)))
  plug_fault = lifted_faults (plug_stage nature opening step clear only) plugging_in Plugging (λ s. refl) (plug_spot_at 0 s) (flow_marks flow)
      ∙ plugs.plug_faults nature opening step clear only s flow ∙ told_point (first_unjudged only 0 (points flow))

module _ (nature : Nature Point) (step : List ℤ → Point → List ℤ) (only : Point → Result Bool Reason) (s : List ℤ) (flow : Flow Point) where
  pub tally_gives : made_of (tally_work (tally_stage nature step only)) (Tallying (tally_spot_at 0 0 s)) flow ≡ flow_marks (before_stop (first_unjudged only 0 (points flow)) flow)
  tally_gives = lifted_gives (tally_stage nature step only) tallying_in Tallying (λ s. refl) (tally_spot_at 0 0 s) (flow_marks flow)
      ∙ tallies.tally_gives nature step only s flow

  pub tally_fault : fault_on (tally_work (tally_stage nature step only)) (Tallying (tally_spot_at 0 0 s)) flow
      ≡ option_map stage.Point (option_map (λ s. point_fault (up_to_limit s.0) s.1) (first_unjudged only 0 (points flow)))
  tally_fault = lifted_faults (tally_stage nature step only) tallying_in Tallying (λ s. refl) (tally_spot_at 0 0 s) (flow_marks flow)
      ∙ tallies.tally_faults nature step only s flow ∙ told_point (first_unjudged only 0 (points flow))

-- what a tally remembers behind a flow on which it has no fault
pub tally_leaves : (nature : Nature Point) (step : List ℤ → Point → List ℤ) (only : Point → Result Bool Reason) (s : List ℤ) (flow : Flow Point) → first_unjudged only 0 (points flow) ≡ None
    → state_after (tally_work (tally_stage nature step only)) (Tallying (tally_spot_at 0 0 s)) flow
    ≡ Tallying (tally_spot_at (length (points flow)) (length (passing only (points flow))) (tallied step s (passing only (points flow))))
tally_leaves nature step only s flow e = lifted_leaves (tally_stage nature step only) tallying_in Tallying (λ s. refl) (tally_spot_at 0 0 s) flow
    ∙ ap Tallying (tallies.tally_remembers nature step only s flow e)

-- ---- where a writer stops

no_stop : {A B : Type 0} (f : A → B) (o : Option A) → option_map f o ≡ None → o ≡ None
no_stop f None e = refl
no_stop f (Some s) e = absurd cc

-- a flow on which it has no fault
pub sound_nowhere : (x : Writes) (flow : Flow Point) → filtered_stop (writing_filter x) flow ≡ None → stops_nowhere x (points flow) ≡ true
sound_nowhere x flow e = ap (λ o. not (is_some o)) (no_stop _ (first_stop x 0 (points flow)) e)

-- where it stops nowhere, it counted those that are chosen
pub written-count : {K : Type 0} (w : WriterStage K) (bytes : K → Option (List ℕ)) (ps : List Point) → holds_chosen bytes w ps ≡ true → stops_nowhere (writes_of w) ps ≡ true
    → count_of w.file ≡ up_to_limit (length (chosen (only_of w) ps))
written-count w bytes ps holds nowhere = (held bytes w ps holds (unlike (stops_somewhere (writes_of w) ps) nowhere)).counted
