use Rattle.std.proofs.Common.{◌∙◌, sym}
use Rattle.pipeline_json.specs.Lists.{has}
use Rattle.pipeline_json.specs.Shown.{stage_view, stages_view}
use Rattle.pipeline_json.proofs.Numbers.{any-flat_map, any-map}
use Rattle.pipeline_json.proofs.takes.is_taken.Goals as goal

pub returns : goal.returns
returns c = c.is_input.ensures ∙ sym (any-flat_map (λ s. s.ins) c.args.number (stages_view c.args.stages.now) ∙ any-map (λ s. has s.ins c.args.number) stage_view c.args.stages.now)
