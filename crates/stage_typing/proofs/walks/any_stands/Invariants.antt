use Rattle.std.proofs.Common.{◌≡◌, drop, map, option_map}
use Rattle.std.specs.List.{list_any}
use Rattle.serde_json.specs.View.{members_view}
use Rattle.stage_typing.specs.OptionFaults.{stands}
use Rattle.stage_typing.proofs.walks.any_stands.Given as goal

abbrev pub invariant-loop-name : goal.invariant-loop-name
invariant-loop-name l =
    let there = stands (option_map (λ s. s.now) l.filename) (members_view l.options.entries) in
    list_any there (map (λ s. s.now) l.names) ≡ list_any there (map (λ s. s.now) (drop l.name-index l.names))
