-- The stages keep the law of cutting.
use Rattle.std.proofs.Common.{◌≡◌, Some, refl, sym, ap}
use Rattle.cloud_points.specs.Lifted.{lifted-keeps}
use Rattle.cloud_points.specs.Meaning.{Meaning, KeepsCutting}
use Rattle.cloud_points.specs.declared.faults.StageFault.{StageFault}
use Rattle.cloud_points.specs.declared.point.Point.{Point}
use Rattle.stage_meanings.specs.Filtering.{Filtering, filter_meaning}
use Rattle.stage_meanings.proofs.FiltersStream.{filter_keeps}
use Rattle.stage_meanings.proofs.StepsCut.{steps_keep}
use Rattle.stage_meanings.specs.declared.spot.Spot.{Spot}
use Rattle.plug_stages.specs.Keeps.{plug_keeps, tally_keeps}
use Rattle.plug_stages.specs.declared.filter.PlugFilter as filter
use Rattle.plug_stages.specs.declared.spots.PlugSpot.{PlugSpot}
use Rattle.plug_stages.specs.declared.spots.TallySpot.{TallySpot}
use Rattle.plug_stages.specs.declared.tally.PlugTally as tally
use Rattle.stream_filters.specs.Kinds.{filtering_of}
use Rattle.view_works.specs.Collecting.{Held, collecting, collecting_keeps}
use Rattle.view_works.specs.Giving.{resting_keeps}
use Rattle.stage_kinds.specs.declared.file_form.Writing.{Writing as Writes}
use Rattle.stage_kinds.specs.declared.making.Making.{Making}
use Rattle.stage_kinds.specs.declared.stage_work.StageState.{StageState}
use Rattle.stage_kinds.specs.declared.stage_work.StageState.TheVariants.{Filtering as At, Plugging, Tallying, Collecting, Keeping, Writing}
use Rattle.stage_kinds.specs.declared.stage_work.StageWork.{StageWork}
use Rattle.stage_kinds.specs.declared.stage_work.StageWork.TheVariants.{Reader, Filter, Plug, Tally, Collector, Views, ViewFiles, Writer}
use Rattle.stage_kinds.specs.Stages.{writing_steps, writing_meaning, filtering_in, plugging_in, tallying_in, collecting_in, writing_in, filter_work, plug_work, tally_work, collector_work, writer_work, meaning_of}

-- a writer does so by its steps, whatever it writes
pub writing_keeps : KeepsCutting writing_meaning
writing_keeps = record {
  emits = λ s. (steps_keep (writing_steps s.0)).emits s.1;
  goes_on = λ s a b h. ap (λ t. (s.0, t)) ((steps_keep (writing_steps s.0)).goes_on s.1 a b h);
  finds = λ s. (steps_keep (writing_steps s.0)).finds s.1;
  stops_emit = λ s. (steps_keep (writing_steps s.0)).stops_emit s.1;
  stops_after = λ s a b h. ap (λ t. (s.0, t)) ((steps_keep (writing_steps s.0)).stops_after s.1 a b h);
  stops_fault = λ s. (steps_keep (writing_steps s.0)).stops_fault s.1;
  holds_back = λ s. (steps_keep (writing_steps s.0)).holds_back s.1;
  rests = λ s. ap (λ t. (s.0, t)) ((steps_keep (writing_steps s.0)).rests s.1);
  is_sound = λ s. (steps_keep (writing_steps s.0)).is_sound s.1;
  no_longer = λ s. (steps_keep (writing_steps s.0)).no_longer s.1;
}

filtering_back : (t : StageState) (s : Spot) → filtering_in t ≡ Some s → At s ≡ t
filtering_back (At spot) s e = cc
filtering_back _ s e = absurd (cc)

plugging_back : (t : StageState) (s : PlugSpot) → plugging_in t ≡ Some s → Plugging s ≡ t
plugging_back (Plugging spot) s e = cc
plugging_back _ s e = absurd (cc)

tallying_back : (t : StageState) (s : TallySpot) → tallying_in t ≡ Some s → Tallying s ≡ t
tallying_back (Tallying spot) s e = cc
tallying_back _ s e = absurd (cc)

collecting_back : (t : StageState) (s : Making × Held) → collecting_in t ≡ Some s → Collecting s.0 s.1 ≡ t
collecting_back (Collecting g views) s e = let same : (g, views) ≡ s = cc in ap (λ y. Collecting y.0 y.1) (sym same)
collecting_back _ s e = absurd (cc)

writing_back : (t : StageState) (s : Writes × Spot) → writing_in t ≡ Some s → Writing s.0 s.1 ≡ t
writing_back (Writing x spot) s e = let same : (x, spot) ≡ s = cc in ap (λ y. Writing y.0 y.1) (sym same)
writing_back _ s e = absurd (cc)

pub filter_work_keeps : (f : Filtering) → KeepsCutting (filter_work f)
filter_work_keeps f = lifted-keeps (filter_meaning f) (filter_keeps f) filtering_in At (λ s. refl) filtering_back

pub plug_work_keeps : (m : Meaning PlugSpot Point StageFault) → KeepsCutting m → KeepsCutting (plug_work m)
plug_work_keeps m law = lifted-keeps m law plugging_in Plugging (λ s. refl) plugging_back

pub tally_work_keeps : (m : Meaning TallySpot Point StageFault) → KeepsCutting m → KeepsCutting (tally_work m)
tally_work_keeps m law = lifted-keeps m law tallying_in Tallying (λ s. refl) tallying_back

pub collector_keeps : KeepsCutting collector_work
collector_keeps = lifted-keeps collecting collecting_keeps collecting_in (λ s. Collecting s.0 s.1) (λ s. refl) collecting_back

pub writer_keeps : KeepsCutting writer_work
writer_keeps = lifted-keeps writing_meaning writing_keeps writing_in (λ s. Writing s.0 s.1) (λ s. refl) writing_back

module _ {S K P Q : Type 0} (plugs : filter.Ghosts P) (tallies : tally.Ghosts Q) where
  pub meaning_keeps : (k : StageWork S K P Q) → KeepsCutting (meaning_of plugs tallies k)
  meaning_keeps (Reader r) = resting_keeps (λ s. s)
  meaning_keeps (Filter f) = filter_work_keeps (filtering_of f)
  meaning_keeps (Plug w) = plug_work_keeps _ (plug_keeps plugs w)
  meaning_keeps (Tally w) = tally_work_keeps _ (tally_keeps tallies w)
  meaning_keeps (Collector c) = collector_keeps
  meaning_keeps (Views h) = resting_keeps (λ s. s)
  meaning_keeps (ViewFiles t) = resting_keeps (λ s. Keeping t.writing t.views.views)
  meaning_keeps (Writer w) = writer_keeps
