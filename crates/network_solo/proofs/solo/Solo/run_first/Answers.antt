use Rattle.std.proofs.Common.{subst, sym}
use Rattle.network_core.specs.declared.net.Net.{Net}
use Rattle.network_core.specs.Nets.{capacity_of, IsNewNet}
use Rattle.network_solo.specs.Ahead.{IsReadAhead}
use Rattle.network_solo.specs.Runs.{IsWithinDue}
use Rattle.network_solo.specs.Stopping.{FaultsToCome, IsStoppedTree, NoneFaulty}
use Rattle.network_solo.specs.Trees.{IsRanTree}
use Rattle.network_solo.proofs.Ahead.{read-ahead}
use Rattle.network_solo.proofs.Stopping.{stopped-tree}
use Rattle.network_solo.proofs.solo.Solo.run_first.Goals as goal

pub returns-clause-bounded : goal.returns-clause-bounded
returns-clause-bounded g c =
    subst (λ (n : Net _). IsWithinDue g.W.Work n c.args.steps.now c.take_rounds.new.steps) c.self.view_is c.take_rounds.ensures.bounded

pub returns-clause-faults : goal.returns-clause-faults
returns-clause-faults g c = subst (λ (n : Net _). FaultsToCome g.W.Work n c.take_rounds.new.net) c.self.view_is c.take_rounds.ensures.faults

pub returns-clause-stopped : goal.returns-clause-stopped
returns-clause-stopped g c =
    subst (λ (n : Net _). IsStoppedTree g.W.Work n.ins n.nodes.items c.take_rounds.new.net.nodes.items) c.self.view_is
    (stopped-tree g.W.Work c.self.inside.net c.take_rounds.new.net (subst (IsNewNet g.W.Work) (sym c.self.view_is) c.requires.new) g.met.W.Work.cutting c.take_rounds.ensures.in_time.turns c.take_rounds.ensures.over c.take_rounds.ensures.faults)

pub returns-clause-ran : goal.returns-clause-ran
returns-clause-ran g c =
    subst (λ (n : Net _). NoneFaulty g.W.Work c.take_rounds.new.net.nodes.items → IsRanTree g.W.Work n.ins n.nodes.items c.take_rounds.new.net.nodes.items) c.self.view_is c.take_rounds.ensures.ran

pub returns-clause-ahead : goal.returns-clause-ahead
returns-clause-ahead g c =
    subst (λ (n : Net _). IsReadAhead g.W.Work n.ins (capacity_of n) n.nodes.items c.take_rounds.new.net.nodes.items) c.self.view_is
    (read-ahead g.W.Work c.self.inside.net c.take_rounds.new.net (subst (IsNewNet g.W.Work) (sym c.self.view_is) c.requires.new) g.met.W.Work.cutting c.take_rounds.ensures.in_time)
