use Rattle.std.proofs.Common.{◌≡◌, drop}
use Rattle.stage_typing.specs.OptionFaults.{is_known}
use Rattle.stage_options.specs.Seen.{rules_view}
use Rattle.stage_typing.proofs.walks.is_known.Given as goal

abbrev pub invariant-loop-rule : goal.invariant-loop-rule
invariant-loop-rule l = is_known (rules_view l.table) l.name ≡ is_known (rules_view (drop l.rule-index l.table)) l.name
