use Rattle.std.proofs.Common.{◌∙◌, ap}
use Rattle.serde_json.specs.View.{members_view}
use Rattle.pipeline_json.specs.Stages.{without_own}
use Rattle.pipeline_json.proofs.Members.{options_kept, cloned_members}
use Rattle.pipeline_json.proofs.elements.options_in.Goals as goal

pub returns : goal.returns
returns c = ap members_view c.retain_options.ensures ∙ options_kept c.in_ok-options.options.entries ∙ ap without_own (cloned_members _ _ c.in_ok-options.ensures.cases)
