use Rattle.std.proofs.Common.{ap}
use Rattle.network_core.specs.Shown.{left}
use Rattle.network_core.specs.declared.turned.Turned.TheVariants.{Gave}
use Rattle.network_core.proofs.node.Node.lay_down.Goals as goal

pub returns-clause-row : goal.returns-clause-row
returns-clause-row g c = λ ins cap input out ch. ap (λ n. left n input out Gave) (c.count_up.ensures.given ins)
