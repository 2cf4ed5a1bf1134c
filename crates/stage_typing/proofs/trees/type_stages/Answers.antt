use Rattle.std.proofs.Common.{◌∙◌, sym, rules}
use Rattle.stage_typing.proofs.Steps.{faults_rest, specs_done}
use Rattle.stage_typing.proofs.trees.type_stages.Goals as goal

pub loop-i-preserved : goal.loop-i-preserved
loop-i-preserved c = record {
  rest = c.loop-i.invariant.rest ∙ faults_rest c.loop-i.i c.args.list.now c.index-list-i.result c.loop-i-test.true (sym c.index-list-i.is) c.in-Ok.ensures.no_fault;
  done = c.loop-i.invariant.done ∙ specs_done c.loop-i.i c.args.list.now c.index-list-i.result c.loop-i.specs.items c.push_reserved.new.self.items c.loop-i-test.true (sym c.index-list-i.is) (search rules);
  count = search rules;
  room = search rules;
}
