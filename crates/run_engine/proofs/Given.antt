-- What works held of the caller's is back once they are released.
use Rattle.std.proofs.Common.{ℕ, List, [], map}
use Rattle.answer_model.specs.Naming.{AreBack, is_used}
use Rattle.plug_stages.specs.Handed.{filter_nature, handed_by, tally_nature_at}
use Rattle.plug_stages.specs.Out.{AreOut}
use Rattle.plug_stages.specs.declared.filter.PlugFilter as plug_type
use Rattle.plug_stages.specs.declared.places.Places.{Places}
use Rattle.plug_stages.specs.declared.tally.PlugTally as tally_type
use Rattle.stage_forms.proofs.Out.{taken-back, taken-later}
use Rattle.stage_forms.specs.Later.{AreLater}
use Rattle.stage_forms.specs.Out.{AreTakenOut}
use Rattle.stage_kinds.specs.Held.{filter_in, tally_in}
use Rattle.stage_kinds.specs.declared.stage_work.StageWork.{StageWork}
use Rattle.stage_options.specs.Roles.{plug_of, tally_of}
use Rattle.stage_options.specs.declared.stage.StageSpec.{StageSpec}

-- by what a release does to places of filters and of tallies that stages name
pub released-back : {S K P Q : Type 0} (fs : plug_type.Ghosts P) (ts : tally_type.Ghosts Q) (stages : List StageSpec) (before : Places P Q) (works : List (StageWork S K P Q)) (now after : Places P Q)
    → (AreOut (filter_nature fs) (is_used plug_of (handed_by fs ts before).filters stages) (map (filter_in fs) works) before.filters.items now.filters.items
    → AreOut (filter_nature fs) (is_used plug_of (handed_by fs ts before).filters stages) [] before.filters.items after.filters.items)
    → (AreOut (tally_nature_at ts) (is_used tally_of (handed_by fs ts before).tallies stages) (map (tally_in ts) works) before.tallies.items now.tallies.items
    → AreOut (tally_nature_at ts) (is_used tally_of (handed_by fs ts before).tallies stages) [] before.tallies.items after.tallies.items)
    → AreTakenOut fs ts stages before works now → AreBack fs ts stages before after
released-back {S = S} {K = K} fs ts stages before works now after filters tallies out = taken-back {S = S} {K = K} fs ts stages before after (record { filters = filters out.filters; tallies = tallies out.tallies })

-- the same works later hold the same
pub later-out : {S K P Q : Type 0} {fs : plug_type.Ghosts P} {ts : tally_type.Ghosts Q} {stages : List StageSpec} {before now : Places P Q} (faults : StageWork S K P Q → ℕ) (works later : List (StageWork S K P Q))
    → AreLater fs ts faults works later → AreTakenOut fs ts stages before works now → AreTakenOut fs ts stages before later now
later-out {fs = fs} {ts = ts} {stages = stages} {before = before} {now = now} faults works later are out = taken-later fs ts stages before works later now out are.count are.same
