-- A filter keeps the law of cutting, and a node with it gives for a flow what it is defined to give.
use Rattle.std.proofs.Common.{◌≡◌}
use Rattle.cloud_points.specs.Flows.{Flow}
use Rattle.cloud_points.specs.Marks.{flow_marks}
use Rattle.cloud_points.specs.Meaning.{KeepsCutting}
use Rattle.cloud_points.specs.declared.point.Point.{Point}
use Rattle.cloud_points.specs.declared.faults.StageFault.{StageFault}
use Rattle.network_theory.specs.Machine.{made_of, fault_on}
use Rattle.stage_meanings.specs.Conditions.{passes}
use Rattle.stage_meanings.specs.ByRule.{steps_of, admitting_steps, spot_at}
use Rattle.stage_meanings.proofs.Admits.{admitting_gives, admitting_faults}
use Rattle.stage_meanings.proofs.ByView.{filter_gives, filter_faults}
use Rattle.stage_meanings.specs.Filtering.{Filtering, By, Admit, Merge, filtered, filtered_fault, filter_meaning}
use Rattle.stage_meanings.proofs.Merging.{merge_keeps, merge_gives, merge_faults}
use Rattle.stage_meanings.proofs.StepsCut.{steps_keep}

pub filter_keeps : (f : Filtering) → KeepsCutting (filter_meaning f)
filter_keeps (By rule only) = steps_keep (steps_of rule (passes only))
filter_keeps (Admit against only) = steps_keep (admitting_steps against (passes only))
filter_keeps Merge = merge_keeps

pub filters_give : (filter : Filtering) (f : Flow Point) → made_of (filter_meaning filter) (spot_at 0) f ≡ flow_marks (filtered filter f)
filters_give (By rule only) f = filter_gives rule (passes only) f
filters_give (Admit against only) f = admitting_gives against (passes only) f
filters_give Merge f = merge_gives StageFault (spot_at 0) f

pub filters_fault : (filter : Filtering) (f : Flow Point) → fault_on (filter_meaning filter) (spot_at 0) f ≡ filtered_fault filter f
filters_fault (By rule only) f = filter_faults rule (passes only) f
filters_fault (Admit against only) f = admitting_faults against (passes only) f
filters_fault Merge f = merge_faults StageFault (spot_at 0) f
