use Rattle.std.proofs.Common.{◌≡◌, drop, option_map}
use Rattle.serde_json.specs.View.{members_view}
use Rattle.stage_typing.specs.OptionFaults.{first_missing}
use Rattle.stage_options.specs.Seen.{rules_view}
use Rattle.stage_typing.proofs.walks.first_missing.Given as goal

abbrev pub invariant-loop-rule : goal.invariant-loop-rule
invariant-loop-rule l = first_missing (rules_view l.table) (option_map (λ s. s.now) l.filename) (members_view l.options.entries) ≡ first_missing (rules_view (drop l.rule-index l.table)) (option_map (λ s. s.now) l.filename) (members_view l.options.entries)
