-- What the works of stages take out of a caller's places.
use Rattle.std.specs.Prelude.{◌≡◌, ℕ, List, Option, Some, None, is_some, set}
use Rattle.answer_model.specs.Naming.{found_in}
use Rattle.cloud_points.specs.Meaning.{Nature}
use Rattle.cloud_points.specs.declared.point.Point.{Point}
use Rattle.plug_stages.specs.Handed.{Handed}
use Rattle.stage_options.specs.Roles.{plug_of, tally_of}
use Rattle.stage_options.specs.declared.options.Options.{Options}

-- where a stage names one of these, it is there
abbrev pub IsFound : List (Option (Nature Point)) → Option (List ℕ) → Type 0
IsFound natures name = is_some (found_in natures name) ≡ is_some name

-- the filter and the tally that the options of a stage name are there
abbrev pub AreFound : Options → Handed → Type 0
AreFound o handed = IsFound handed.filters (plug_of o) × IsFound handed.tallies (tally_of o)

-- places without what a work holds of them
abbrev pub without : {X : Type 0} → Option (Nature Point) → List (Option X) → List (Option X)
without None places = places
without (Some n) places = set places n.place None
