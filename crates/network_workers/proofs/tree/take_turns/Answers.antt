use Rattle.network_workers.proofs.Carrying.{deals-on}
use Rattle.network_workers.proofs.tree.take_turns.Goals as goal

pub returns-in-Last-clause-carries : goal.returns-in-Last-clause-carries
returns-in-Last-clause-carries g c = deals-on g.W.Work _ _ _ c.run_workers.ensures.carries c.finish_deals.ensures.carries

pub returns-in-First-clause-carries : goal.returns-in-First-clause-carries
returns-in-First-clause-carries g c = deals-on g.W.Work _ _ _ c.run_workers_first.ensures.carries c.finish_deals_first.ensures.carries
