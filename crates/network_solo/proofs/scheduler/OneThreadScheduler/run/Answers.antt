use Rattle.std.proofs.Common.{ℕ, subst}
use Rattle.network_solo.specs.Ahead.{IsReadAhead}
use Rattle.network_solo.specs.Runs.{IsRanOver}
use Rattle.network_solo.proofs.scheduler.OneThreadScheduler.run.Goals as goal

pub returns-clause-besides : goal.returns-clause-besides
returns-clause-besides g c = λ came capacity fits.
    subst (λ (k : ℕ). IsRanOver g.W.Work c.args.ins k c.args.nodes c.run_tree.result) fits.1 (c.run_tree.ensures.over came)

pub returns-clause-ahead : goal.returns-clause-ahead
returns-clause-ahead g c = λ bounded first capacity fits.
    subst (λ (k : ℕ). IsReadAhead g.W.Work c.args.ins k c.args.nodes c.run_tree.result) fits.1 (c.run_tree.ensures.ahead first)
