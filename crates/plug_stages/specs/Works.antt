-- The works of the stages of plugs and of tallies.
use Rattle.std.specs.Prelude.{◌≡◌}
use Rattle.cloud_points.specs.Clearing.{cleared}
use Rattle.cloud_points.specs.Layouts.{holds}
use Rattle.cloud_points.specs.Meaning.{Meaning, Nature}
use Rattle.cloud_points.specs.declared.faults.StageFault.{StageFault}
use Rattle.cloud_points.specs.declared.point.Point.{Point}
use Rattle.stage_meanings.specs.Conditions.{passes}
use Rattle.stage_meanings.specs.Steps.{Steps}
use Rattle.plug_stages.specs.Handed.{filter_nature, tally_nature_at}
use Rattle.plug_stages.specs.PlugSteps.{plug_stage, plug_steps}
use Rattle.plug_stages.specs.TallySteps.{tally_stage, tally_steps}
use Rattle.plug_stages.specs.declared.filter.PlugFilter as filter
use Rattle.plug_stages.specs.declared.plug_work.PlugWork.{PlugWork}
use Rattle.plug_stages.specs.declared.spots.PlugSpot.{PlugSpot}
use Rattle.plug_stages.specs.declared.spots.TallySpot.{TallySpot}
use Rattle.plug_stages.specs.declared.tally.PlugTally as tally_type
use Rattle.plug_stages.specs.declared.tally_work.TallyWork.{TallyWork}

-- ---- plugs

module _ {P : Type 0} (plug : filter.Ghosts P) where
  abbrev pub plug_spot : PlugWork P → PlugSpot
  plug_spot w = record { number = w.number; begun = w.begun; remembered = plug.state w.plug }

  abbrev pub plug_steps_in : PlugWork P → Steps PlugSpot Point StageFault
  plug_steps_in w = plug_steps (plug.opening w.plug) (plug.step w.plug) (cleared (holds w.layout)) (passes w.only)

  -- whose it is: the plug of a place
  abbrev pub plug_nature : PlugWork P → Nature Point
  plug_nature w = filter_nature plug w.place w.plug

  abbrev pub plug_meaning : PlugWork P → Meaning PlugSpot Point StageFault
  plug_meaning w = plug_stage (plug_nature w) (plug.opening w.plug) (plug.step w.plug) (cleared (holds w.layout)) (passes w.only)

  -- the same stage of the same plug, but for where it stands and what the plug remembers
  pub record IsSamePlug (a b : PlugWork P) : Type 0 where
    pub place : b.place ≡ a.place
    pub called : plug.called b.plug ≡ plug.called a.plug
    pub opening : plug.opening b.plug ≡ plug.opening a.plug
    pub step : plug.step b.plug ≡ plug.step a.plug
    pub only : b.only ≡ a.only
    pub layout : b.layout ≡ a.layout

-- ---- tallies

module _ {T : Type 0} (tally : tally_type.Ghosts T) where
  abbrev pub tally_spot : TallyWork T → TallySpot
  tally_spot w = record { number = w.number; shown = w.shown; remembered = tally.state w.tally }

  abbrev pub tally_steps_in : TallyWork T → Steps TallySpot Point StageFault
  tally_steps_in w = tally_steps (tally.step w.tally) (passes w.only)

  abbrev pub tally_nature : TallyWork T → Nature Point
  tally_nature w = tally_nature_at tally w.place w.tally

  abbrev pub tally_meaning : TallyWork T → Meaning TallySpot Point StageFault
  tally_meaning w = tally_stage (tally_nature w) (tally.step w.tally) (passes w.only)

  -- the same stage of the same tally, but for where it stands and what the tally remembers
  pub record IsSameTally (a b : TallyWork T) : Type 0 where
    pub place : b.place ≡ a.place
    pub called : tally.called b.tally ≡ tally.called a.tally
    pub opening : tally.opening b.tally ≡ tally.opening a.tally
    pub step : tally.step b.tally ≡ tally.step a.tally
    pub text : tally.text b.tally ≡ tally.text a.tally
    pub only : b.only ≡ a.only
