use Rattle.std.proofs.Common.{ap, ◌∙◌, not, option_map, string_bytes}
use Rattle.stage_typing.specs.OptionFaults.{is_known}
use Rattle.stage_options.specs.Seen.{rules_view}
use Rattle.stage_typing.proofs.Keys.{find-least}
use Rattle.stage_typing.proofs.walks.least_key.Goals as goal

pub returns-in-Some : goal.returns-in-Some
returns-in-Some c = rw c.as_str.ensures.value
    (ap (option_map string_bytes) c.in-Some.ensures.value ∙ find-least (λ name. not (is_known (rules_view c.args.table.now) name)) c.args.options.now.entries c.in-Some.ensures.ordered)

pub returns-in-None : goal.returns-in-None
returns-in-None c = ap (option_map string_bytes) c.in-None.ensures.value ∙ find-least (λ name. not (is_known (rules_view c.args.table.now) name)) c.args.options.now.entries c.in-None.ensures.ordered
