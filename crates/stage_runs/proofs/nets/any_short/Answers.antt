use Rattle.std.proofs.Common.{◌∙◌, sym, rules}
use Rattle.std.proofs.lemmas.Iterator.{YieldsList-from_slice}
use Rattle.std.proofs.lemmas.Iterator.Search.{any_from_yields_List}
use Rattle.network_core.specs.declared.node.Node.{Node}
use Rattle.stage_kinds.specs.Stages.{is_short}
use Rattle.stage_runs.proofs.Searched.{found-at, none-found}
use Rattle.stage_runs.proofs.nets.any_short.Goals as goal

pub returns-clause-short : goal.returns-clause-short
returns-clause-short g c = λ e. found-at (λ (n : Node _). is_short n.work) c.args.nodes.now
    (sym (any_from_yields_List (λ (n : Node _). is_short n.work) _ _ _ c.any.ensures.ran (YieldsList-from_slice c.args.nodes.now cc) (λ x b q k. search rules)) ∙ e)

pub returns-clause-enough : goal.returns-clause-enough
returns-clause-enough g c = λ e. none-found (λ (n : Node _). is_short n.work) c.args.nodes.now
    (sym (any_from_yields_List (λ (n : Node _). is_short n.work) _ _ _ c.any.ensures.ran (YieldsList-from_slice c.args.nodes.now cc) (λ x b q k. search rules)) ∙ e)
