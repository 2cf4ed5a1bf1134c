use Rattle.std.proofs.Common.{◌∙◌, sym, ap, is_some}
use Rattle.serde_json.specs.View.{view}
use Rattle.pipeline_json.specs.Shown.{stages_view}
use Rattle.pipeline_json.specs.Stages.{is_unknown}
use Rattle.pipeline_json.proofs.Numbers.{position_map}
use Rattle.pipeline_json.proofs.takes.has_unknown.Goals as goal

pub returns : goal.returns
returns c = c.is_some.ensures ∙ ap is_some (c.unknown_at.ensures ∙ sym (position_map (is_unknown (stages_view c.args.earlier.now)) view c.args.items.now))
