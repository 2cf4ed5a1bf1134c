use Rattle.std.proofs.Common.{option_map, rules}
use Rattle.serde_json.specs.View.{members_view}
use Rattle.stage_typing.proofs.Named.{named}
use Rattle.stage_typing.proofs.typing.type_options.Goals as goal

pub typed-requires : goal.typed-requires
typed-requires c = named c.args.i c.args.kind (option_map (λ s. s.now) c.args.filename) (members_view c.args.options.now.entries) (search rules)
