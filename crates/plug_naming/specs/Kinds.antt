-- What stages name of a caller's, by its kind.
use Rattle.std.specs.Prelude.{ℕ, List, Option}
use Rattle.answer_model.specs.Naming.{name_fault}
use Rattle.answer_model.specs.Values.{options_at}
use Rattle.cloud_points.specs.Meaning.{Nature}
use Rattle.cloud_points.specs.declared.point.Point.{Point}
use Rattle.plug_naming.specs.declared.Named.{Named}
use Rattle.plug_naming.specs.declared.Named.TheVariants.{Filter, Tally}
use Rattle.plug_stages.specs.Handed.{Handed}
use Rattle.stage_names.specs.declared.faults.PipeFault.{PipeFault}
use Rattle.stage_options.specs.Roles.{plug_of, tally_of}
use Rattle.stage_options.specs.declared.options.Options.{Options}
use Rattle.stage_options.specs.declared.stage.StageSpec.{StageSpec}

-- the name that a stage has for one
abbrev pub names_of : Named → Options → Option (List ℕ)
names_of Filter o = plug_of o
names_of Tally o = tally_of o

-- those that were handed in
abbrev pub natures_of : Named → Handed → List (Option (Nature Point))
natures_of Filter handed = handed.filters
natures_of Tally handed = handed.tallies

-- the fault of stage i for one
abbrev pub kind_fault : Named → Handed → List StageSpec → ℕ → Option PipeFault
kind_fault kind handed stages i = name_fault (names_of kind) (natures_of kind handed) stages i (names_of kind (options_at stages i))
