use Rattle.std.proofs.Common.{ap, ◌∙◌}
use Rattle.cloud_points.specs.Events.{is_device}
use Rattle.stage_meanings.specs.Conditions.{passes}
use Rattle.stage_meanings.proofs.Faults.{filters_have_no_device, filters_name_no_device}
use Rattle.stream_filters.proofs.point_filter.PointFilter.on_chunk.Goals as goal

pub returns-clause-no_device : goal.returns-clause-no_device
returns-clause-no_device g c =
    ap is_device c.judge_chunk-kept.ensures.stops ∙ filters_have_no_device (g.R.PointRule.rule c.args.self.now.rule) (passes c.args.self.now.only) c.args.self.now.spot c.as_mut_slice.result.now

pub returns-clause-unnamed : goal.returns-clause-unnamed
returns-clause-unnamed g c =
    rw c.judge_chunk-kept.ensures.stops (filters_name_no_device (g.R.PointRule.rule c.args.self.now.rule) (passes c.args.self.now.only) c.args.self.now.spot c.as_mut_slice.result.now)
