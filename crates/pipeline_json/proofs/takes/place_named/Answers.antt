use Rattle.std.proofs.Common.{◌∙◌, ap}
use Rattle.pipeline_json.specs.Shown.{stages_view}
use Rattle.pipeline_json.specs.Stages.{place_of}
use Rattle.pipeline_json.proofs.Numbers.{now_unwrap}
use Rattle.pipeline_json.proofs.takes.place_named.Goals as goal

pub returns-clause-value : goal.returns-clause-value
returns-clause-value c = rw (← c.as_str.ensures) (c.place_of.ensures.value ∙ rw c.unwrap_or.ensures (ap (λ t. place_of (stages_view c.args.earlier.now) t) (now_unwrap c.as_str.result _)))
