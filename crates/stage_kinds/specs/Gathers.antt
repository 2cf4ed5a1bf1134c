-- What a stage has made of whole views.
use Rattle.std.specs.Prelude.{◌≡◌, ℕ, List, Bool, true, false, Option}
use Rattle.cloud_points.specs.Flows.{Flow}
use Rattle.cloud_points.specs.Marks.{flow_marks}
use Rattle.cloud_points.specs.declared.point.Point.{Point}
use Rattle.stage_kinds.specs.declared.making.Making.{Making}
use Rattle.stage_kinds.specs.declared.stage_work.StageWork.{StageWork}
use Rattle.stage_kinds.specs.declared.stage_work.StageWork.TheVariants.{Collector}
use Rattle.stage_kinds.specs.Makings.{made_by, fault_by, kept_by}
use Rattle.stage_kinds.specs.Reads.{tells_of, told_of, told_fault_of, fault_with}
use Rattle.stage_kinds.specs.Stages.{is_leaf, keeps_of}

module _ {S K P Q : Type 0} where
  -- a leaf that gives all of what is made of a flow, and its fault, and keeps what is to be written
  pub record IsMade (making : Making) (flow : Flow Point) (w : StageWork S K P Q) : Type 0 where
    pub leaf : is_leaf w ≡ true
    pub tells : (bytes : S → Option (List ℕ)) → tells_of bytes w ≡ true
    pub told : (bytes : S → Option (List ℕ)) → told_of bytes w ≡ flow_marks (made_by making flow)
    pub fault : (bytes : S → Option (List ℕ)) → told_fault_of bytes w ≡ fault_with (fault_by making flow)
    pub keeps : keeps_of w ≡ kept_by making (made_by making flow)

  -- a stage that took a flow, all of it, has made that of it; any other one is as it was
  pub record HasGathered (short : Bool) (making : Making) (flow : Flow Point) (w : StageWork S K P Q) : Type 0 where
    pub enough : short ≡ false
    pub made : IsMade making flow w

  abbrev pub IsGathered : StageWork S K P Q → StageWork S K P Q → Type 0
  IsGathered (Collector c) w = HasGathered c.short c.making c.views w
  IsGathered v w = w ≡ v
