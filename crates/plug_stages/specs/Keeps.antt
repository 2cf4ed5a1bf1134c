-- The stages of plugs and of tallies keep the law of cutting.
use Rattle.cloud_points.specs.Meaning.{Meaning, KeepsCutting, Nature}
use Rattle.stage_meanings.proofs.StepsCut.{steps_keep}
use Rattle.plug_stages.specs.PlugSteps.{with_nature}
use Rattle.plug_stages.specs.Works.{plug_meaning, plug_nature, plug_steps_in, tally_meaning, tally_nature, tally_steps_in}
use Rattle.plug_stages.specs.declared.filter.PlugFilter as filter
use Rattle.plug_stages.specs.declared.plug_work.PlugWork.{PlugWork}
use Rattle.plug_stages.specs.declared.tally.PlugTally as tally_type
use Rattle.plug_stages.specs.declared.tally_work.TallyWork.{TallyWork}

-- the law speaks of no nature
pub named_keeps : {S P F : Type 0} (nature : Nature P) (m : Meaning S P F) → KeepsCutting m → KeepsCutting (with_nature nature m)
named_keeps nature m law = record {
  emits = law.emits;
  goes_on = law.goes_on;
  finds = law.finds;
  stops_emit = law.stops_emit;
  stops_after = law.stops_after;
  stops_fault = law.stops_fault;
  holds_back = law.holds_back;
  rests = law.rests;
  is_sound = law.is_sound;
  no_longer = law.no_longer;
}

pub plug_keeps : {P : Type 0} (plug : filter.Ghosts P) (w : PlugWork P) → KeepsCutting (plug_meaning plug w)
plug_keeps plug w = named_keeps (plug_nature plug w) _ (steps_keep (plug_steps_in plug w))

pub tally_keeps : {T : Type 0} (tally : tally_type.Ghosts T) (w : TallyWork T) → KeepsCutting (tally_meaning tally w)
tally_keeps tally w = named_keeps (tally_nature tally w) _ (steps_keep (tally_steps_in tally w))
