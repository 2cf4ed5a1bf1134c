-- What is out of a caller's places with works.
use Rattle.std.specs.Prelude.{List, map}
use Rattle.answer_model.specs.Naming.{is_used}
use Rattle.plug_stages.specs.Handed.{filter_nature, handed_by, tally_nature_at}
use Rattle.plug_stages.specs.Out.{AreOut}
use Rattle.plug_stages.specs.declared.filter.PlugFilter as plug_type
use Rattle.plug_stages.specs.declared.places.Places.{Places}
use Rattle.plug_stages.specs.declared.tally.PlugTally as tally_type
use Rattle.stage_kinds.specs.Held.{filter_in, tally_in}
use Rattle.stage_kinds.specs.declared.stage_work.StageWork.{StageWork}
use Rattle.stage_options.specs.Roles.{plug_of, tally_of}
use Rattle.stage_options.specs.declared.stage.StageSpec.{StageSpec}

-- what these works hold was taken out of places that stages name, and all other places are as they were
pub record AreTakenOut {S K P Q : Type 0} (fs : plug_type.Ghosts P) (ts : tally_type.Ghosts Q) (stages : List StageSpec) (old : Places P Q) (works : List (StageWork S K P Q)) (now : Places P Q) : Type 0 where
  pub filters : AreOut (filter_nature fs) (is_used plug_of (handed_by fs ts old).filters stages) (map (filter_in fs) works) old.filters.items now.filters.items
  pub tallies : AreOut (tally_nature_at ts) (is_used tally_of (handed_by fs ts old).tallies stages) (map (tally_in ts) works) old.tallies.items now.tallies.items
