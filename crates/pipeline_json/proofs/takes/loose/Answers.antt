use Rattle.std.proofs.Common.{◌∙◌, ◌-◌, not, length, sym, ap}
use Rattle.pipeline_json.specs.Lists.{has}
use Rattle.pipeline_json.specs.Shown.{stages_view}
use Rattle.pipeline_json.specs.Stages.{taken}
use Rattle.pipeline_json.proofs.Numbers.{find_next}
use Rattle.pipeline_json.proofs.takes.loose.Goals as goal

pub loop-number-preserved : goal.loop-number-preserved
loop-number-preserved c =
    c.loop-number.invariant ∙ find_next (λ j. not (has (taken (stages_view c.args.stages.now)) j)) c.loop-number.number (length c.args.stages.now - 1) (rw (← c.saturating_sub-last.ensures) c.loop-number-test.true) (ap not (sym c.is_taken.ensures ∙ c.if-not-is_taken.false))
