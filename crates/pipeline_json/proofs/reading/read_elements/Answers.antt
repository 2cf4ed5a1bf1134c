use Rattle.std.proofs.Common.{◌≤◌, length, map, arith, rules}
use Rattle.std.proofs.lemmas.List.{length-map}
use Rattle.serde_json.specs.View.{view}
use Rattle.pipeline_json.proofs.TreeFacts.{tree_facts}
use Rattle.pipeline_json.proofs.reading.read_elements.Goals as goal

pub new-requires : goal.new-requires
new-requires c =
    let count = length-map c.args.list.now view in
    let some : 1 ≤ length c.args.list.now = search rules in
    tree_facts (map view c.args.list.now) _ (omega (arith, count, some)) (omega (arith, count, c.if-list-gt-MOST_STAGES.false)) c.in_ok-stages.ensures.ok
