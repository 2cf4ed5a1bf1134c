use Rattle.std.proofs.Common.{ap, subst, sym}
use Rattle.network_core.specs.declared.net.Net.{Net}
use Rattle.network_core.specs.Nets.{ins_of, nodes_of, capacity_of, IsNewNet}
use Rattle.network_solo.specs.Ahead.{IsReadAhead}
use Rattle.network_solo.specs.Stopping.{CameToEnd, NoneFaulty}
use Rattle.network_solo.specs.Trees.{IsRanTree}
use Rattle.network_solo.proofs.Stopping.{runs-to-end}
use Rattle.network_solo.proofs.tree.ran.Goals as goal

pub returns-in-Last-clause-over : goal.returns-in-Last-clause-over
returns-in-Last-clause-over g c = λ came. record {
  start = c.new-solo.result;
  ended = c.run.new.self;
  is_new = subst (IsNewNet g.W.Work) (sym c.new-solo.ensures) c.requires.new;
  nodes = ap nodes_of c.new-solo.ensures;
  children = ap ins_of c.new-solo.ensures;
  room = ap capacity_of c.new-solo.ensures;
  turns = c.run.ensures.counted.turns;
  left = ap nodes_of (sym c.into_net.ensures);
  done = c.run.ensures.done;
}

pub returns-clause-ran : goal.returns-clause-ran
returns-clause-ran g c = λ came.
    let first = subst (λ stop. CameToEnd g.W.Work stop (nodes_of c.into_net-in-First.result)) c.in-First.is came in
    let none = subst (λ (n : Net _). NoneFaulty g.W.Work (nodes_of n)) c.into_net-in-First.ensures first in
    subst (λ (n : Net _). IsRanTree g.W.Work (ins_of c.args.net) (nodes_of c.args.net) (nodes_of n)) (sym c.into_net-in-First.ensures)
    (subst (λ (n : Net _). IsRanTree g.W.Work (ins_of n) (nodes_of n) (nodes_of c.run_first.new.self)) c.new-solo.ensures (c.run_first.ensures.ran none))

pub returns-clause-over : goal.returns-clause-over
returns-clause-over g c = λ came.
    let first = subst (λ stop. CameToEnd g.W.Work stop (nodes_of c.into_net-in-First.result)) c.in-First.is came in
    let none = subst (λ (n : Net _). NoneFaulty g.W.Work (nodes_of n)) c.into_net-in-First.ensures first in record {
      start = c.new-solo.result;
      ended = c.run_first.new.self;
      is_new = subst (IsNewNet g.W.Work) (sym c.new-solo.ensures) c.requires.new;
      nodes = ap nodes_of c.new-solo.ensures;
      children = ap ins_of c.new-solo.ensures;
      room = ap capacity_of c.new-solo.ensures;
      turns = c.run_first.ensures.counted.turns;
      left = ap nodes_of (sym c.into_net-in-First.ensures);
      done = runs-to-end g.W.Work c.run_first.new.self c.run_first.ensures.over none;
    }

pub returns-clause-ahead : goal.returns-clause-ahead
returns-clause-ahead g c = λ first.
    subst (λ (n : Net _). IsReadAhead g.W.Work (ins_of c.args.net) (capacity_of c.args.net) (nodes_of c.args.net) (nodes_of n)) (sym c.into_net-in-First.ensures)
    (subst (λ (n : Net _). IsReadAhead g.W.Work (ins_of n) (capacity_of n) (nodes_of n) (nodes_of c.run_first.new.self)) c.new-solo.ensures c.run_first.ensures.ahead)
