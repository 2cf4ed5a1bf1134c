-- A filter, what it gives for a flow, and its fault.
use Rattle.std.specs.Prelude.{◌≡◌, ℕ, Option, Some, None, option_map}
use Rattle.std.proofs.Common.{refl}
use Rattle.cloud_points.specs.Queue.{up_to_limit}
use Rattle.cloud_points.specs.declared.faults.PointFault.{PointFault}
use Rattle.cloud_points.specs.declared.faults.StageFault.TheVariants as stage
use Rattle.cloud_points.specs.Flows.{Flow}
use Rattle.cloud_points.specs.Meaning.{Meaning}
use Rattle.cloud_points.specs.declared.dims.Dim.{Dim}
use Rattle.cloud_points.specs.declared.point.Point.{Point}
use Rattle.cloud_points.specs.declared.faults.StageFault.{StageFault}
use Rattle.expr_lang.specs.Formula.{Formula}
use Rattle.stage_meanings.specs.declared.reason.Reason.{Reason}
use Rattle.stage_meanings.specs.declared.spot.Spot.{Spot}
use Rattle.stage_meanings.specs.Conditions.{passes}
use Rattle.stage_meanings.specs.Filters.{Rule, point_fault, stop_of, streamed, told_stop, refusal_of, admitted, merged}
use Rattle.stage_meanings.specs.ByRule.{rule_meaning, admitting_meaning, merge_meaning}

-- it judges by a rule the points that pass its `where`; or it gives all on, up to the first that passes and against which there is a
-- reason, which may look at how many passed before it over all views; or it merges all views
pub data Filtering : Type 0 where
  By : Rule Point Reason → Option (Formula Dim) → Filtering
  Admit : (ℕ → Point → Option Reason) → Option (Formula Dim) → Filtering
  Merge : Filtering

abbrev pub filtered : Filtering → Flow Point → Flow Point
filtered (By rule only) flow = streamed rule (passes only) flow
filtered (Admit against only) flow = admitted against (passes only) flow
filtered Merge flow = merged flow

-- the point at which it stops, and why
abbrev pub stop_in : Filtering → Flow Point → Option (ℕ × Reason)
stop_in (By rule only) flow = stop_of rule (passes only) flow
stop_in (Admit against only) flow = refusal_of against (passes only) flow
stop_in Merge flow = None

-- its fault there; the number is told up to the greatest u64
abbrev pub filtered_stop : Filtering → Flow Point → Option PointFault
filtered_stop f flow = option_map (λ s. point_fault (up_to_limit s.0) s.1) (stop_in f flow)

abbrev pub filtered_fault : Filtering → Flow Point → Option StageFault
filtered_fault f flow = option_map told_stop (stop_in f flow)

-- as a stage's fault
pub same_fault : (f : Filtering) (flow : Flow Point) → filtered_fault f flow ≡ option_map stage.Point (filtered_stop f flow)
same_fault f flow = go (stop_in f flow)
  where
    go : (o : Option (ℕ × Reason)) → option_map told_stop o ≡ option_map stage.Point (option_map (λ s. point_fault (up_to_limit s.0) s.1) o)
    go None = refl
    go (Some s) = refl

-- what its calls do
abbrev pub filter_meaning : Filtering → Meaning Spot Point StageFault
filter_meaning (By rule only) = rule_meaning rule (passes only)
filter_meaning (Admit against only) = admitting_meaning against (passes only)
filter_meaning Merge = merge_meaning
