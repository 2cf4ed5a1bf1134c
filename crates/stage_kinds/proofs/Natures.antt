-- What works hold of a caller's stands in what they mean.
use Rattle.std.proofs.Common.{◌≡◌, Bool, true, false, if◌then◌else◌, [], Option, None, refl, ap, sym, ◌∙◌}
use Rattle.cloud_points.specs.Meaning.{Meaning, Nature}
use Rattle.cloud_points.specs.declared.faults.StageFault.{StageFault}
use Rattle.cloud_points.specs.declared.point.Point.{Point}
use Rattle.plug_stages.specs.PlugSteps.{plug_spot_at}
use Rattle.plug_stages.specs.TallySteps.{tally_spot_at}
use Rattle.plug_stages.specs.declared.filter.PlugFilter as filter
use Rattle.plug_stages.specs.declared.tally.PlugTally as tally
use Rattle.stage_kinds.specs.Held.{HoldsSame, filter_in, tally_in}
use Rattle.stage_kinds.specs.Stages.{meaning_of, says_of, shown_by}
use Rattle.stage_kinds.specs.declared.stage_work.StageState.{StageState}
use Rattle.stage_kinds.specs.declared.stage_work.StageState.TheVariants.{Plugging, Tallying}
use Rattle.stage_kinds.specs.declared.stage_work.StageWork.{StageWork}
use Rattle.stage_kinds.specs.declared.stage_work.StageWork.TheVariants.{Reader, Filter, Plug, Tally, Collector, Views, ViewFiles, Writer}

-- the nature of a work that goes on behind a view at this state
abbrev nature_at : StageState → Meaning StageState Point StageFault → Option (Nature Point)
nature_at s m = if (m.at_view s).1 then m.nature else None

module _ {S K P Q : Type 0} (plugs : filter.Ghosts P) (tallies : tally.Ghosts Q) where
  filter-is : (w : StageWork S K P Q) → filter_in plugs w ≡ nature_at (Plugging (plug_spot_at 0 [])) (meaning_of plugs tallies w)
  filter-is (Reader r) = refl
  filter-is (Filter f) = refl
  filter-is (Plug w) = refl
  filter-is (Tally w) = refl
  filter-is (Collector c) = refl
  filter-is (Views h) = refl
  filter-is (ViewFiles t) = refl
  filter-is (Writer w) = refl

  tally-is : (w : StageWork S K P Q) → tally_in tallies w ≡ nature_at (Tallying (tally_spot_at 0 0 [])) (meaning_of plugs tallies w)
  tally-is (Reader r) = refl
  tally-is (Filter f) = refl
  tally-is (Plug w) = refl
  tally-is (Tally w) = refl
  tally-is (Collector c) = refl
  tally-is (Views h) = refl
  tally-is (ViewFiles t) = refl
  tally-is (Writer w) = refl

  pub filters-same : (v w : StageWork S K P Q) → meaning_of plugs tallies v ≡ meaning_of plugs tallies w → filter_in plugs v ≡ filter_in plugs w
  filters-same v w e = filter-is v ∙ ap (nature_at (Plugging (plug_spot_at 0 []))) e ∙ sym (filter-is w)

  pub tallies-same : (v w : StageWork S K P Q) → meaning_of plugs tallies v ≡ meaning_of plugs tallies w → tally_in tallies v ≡ tally_in tallies w
  tallies-same v w e = tally-is v ∙ ap (nature_at (Tallying (tally_spot_at 0 0 []))) e ∙ sym (tally-is w)

  pub same-held : (old new : StageWork S K P Q) → meaning_of plugs tallies new ≡ meaning_of plugs tallies old → HoldsSame plugs tallies old new
  same-held old new e = (filters-same new old e, tallies-same new old e)

-- a work without a tally shows nothing, and says nothing
module _ {S K P Q : Type 0} (tallies : tally.Ghosts Q) where
  pub silent : (w : StageWork S K P Q) → tally_in tallies w ≡ None → (shown_by w ≡ None) × (says_of tallies w ≡ None)
  silent (Reader r) e = (refl, refl)
  silent (Filter f) e = (refl, refl)
  silent (Plug v) e = (refl, refl)
  silent (Tally v) e = absurd (cc)
  silent (Collector c) e = (refl, refl)
  silent (Views h) e = (refl, refl)
  silent (ViewFiles t) e = (refl, refl)
  silent (Writer v) e = (refl, refl)
