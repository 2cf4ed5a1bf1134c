use Rattle.std.proofs.Common.{ap, ◌∙◌}
use Rattle.stage_options.specs.TreeShown.{specs_view}
use Rattle.lasline_top.specs.Texts.{plan_text}
use Rattle.lasline_top.proofs.Planned.{file-plan-unprinted}
use Rattle.lasline_top.proofs.Printed.{if-unprinted}
use Rattle.lasline_top.proofs.planning.plan_file.Goals as goal

pub returns-clause-err : goal.returns-clause-err
returns-clause-err g c = λ handed. if-unprinted c.print_text.result _ _ _ c.print_text.ensures.err c.print_text.ensures.part c.print_text.ensures.rose
    (λ r is part rose. file-plan-unprinted handed c.args.name.now (specs_view c.in_ok-tree.tree) _ _ _ _ _ _ c.as_str.result.now r is rose c.in_ok-tree.ensures.settled.map_same c.in_ok-tree.ensures.ok
    (c.as_str.ensures.value ∙ c.in-Ok-plan_text.ensures ∙ ap plan_text (c.as_slice.ensures ∙ c.in-Ok.ensures.plan)) part)
