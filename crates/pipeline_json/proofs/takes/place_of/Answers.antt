use Rattle.std.proofs.Common.{◌∙◌, sym}
use Rattle.pipeline_json.specs.Shown.{stage_view}
use Rattle.pipeline_json.specs.Stages.{is_tagged}
use Rattle.pipeline_json.proofs.Numbers.{position_map}
use Rattle.pipeline_json.proofs.takes.place_of.Goals as goal

pub returns-clause-value : goal.returns-clause-value
returns-clause-value c = c.tagged_at.ensures.value ∙ sym (position_map (is_tagged c.args.name.now) stage_view c.args.earlier.now)
