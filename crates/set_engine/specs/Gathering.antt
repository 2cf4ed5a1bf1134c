-- What stages that need whole views make of them.
use Rattle.std.specs.Prelude.{◌≡◌, option_map}
use Rattle.cloud_points.specs.Flows.{Flow}
use Rattle.cloud_points.specs.declared.faults.StageFault.TheVariants as stage
use Rattle.cloud_points.specs.declared.point.Point.{Point}
use Rattle.stage_kinds.specs.Makings.{made_by, fault_by, kept_by}
use Rattle.stage_kinds.specs.Stages.{keeps_of}
use Rattle.stage_kinds.specs.declared.making.Making.{Making}
use Rattle.stage_kinds.specs.declared.stage_work.StageWork.{StageWork}
use Rattle.stage_kinds.specs.declared.stage_work.StageWork.TheVariants.{Collector}
use Rattle.set_engine.specs.declared.output.StageOutput.{StageOutput}

-- this was made of a flow, and the work keeps what is to be written of it
pub record IsMadeOf {S K P Q : Type 0} (making : Making) (taken : Flow Point) (w : StageWork S K P Q) (given : StageOutput) : Type 0 where
  pub views : given.views ≡ made_by making taken
  pub fault : given.fault ≡ option_map stage.Point (fault_by making taken)
  pub keeps : keeps_of w ≡ kept_by making given.views

-- a work that takes whole views made of them what it was to make
abbrev pub IsMadeBy : {S K P Q : Type 0} → StageWork S K P Q → Flow Point → StageWork S K P Q → StageOutput → Type 0
IsMadeBy (Collector c) taken w given = IsMadeOf c.making taken w given
IsMadeBy v taken w given = ⊥
