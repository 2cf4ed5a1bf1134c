use Rattle.network_core.proofs.Opened.{new-fresh}
use Rattle.network_core.proofs.node.Node.new.Goals as goal

pub returns-clause-fresh : goal.returns-clause-fresh
returns-clause-fresh g c = λ ins same. new-fresh g.W.Work ins c.args.work c.args.inputs c.args.chunk c.requires.leaf same
