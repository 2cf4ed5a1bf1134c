use Rattle.std.proofs.Common.{◌≡◌, false, Option, Some, None, is_some, refl, sym, ◌∙◌, true≢false, rules}
use Rattle.std.proofs.lemmas.Iterator.{YieldsList-from_slice}
use Rattle.std.proofs.lemmas.Iterator.Search.{any_from_yields_List}
use Rattle.cloud_points.specs.declared.faults.StageFault.{StageFault}
use Rattle.network_core.specs.declared.node.Node.{Node}
use Rattle.stage_runs.proofs.Searched.{found-at, none-found}
use Rattle.stage_runs.proofs.nets.any_fault.Goals as goal

none-is : (fault : Option StageFault) → is_some fault ≡ false → fault ≡ None
none-is None e = refl
none-is (Some f) e = absurd (true≢false e)

pub returns-clause-some : goal.returns-clause-some
returns-clause-some g c = λ e. found-at (λ (n : Node _). is_some n.fault) c.args.nodes.now
    (sym (any_from_yields_List (λ (n : Node _). is_some n.fault) _ _ _ c.any.ensures.ran (YieldsList-from_slice c.args.nodes.now cc) (λ x b q k. search rules)) ∙ e)

pub returns-clause-none : goal.returns-clause-none
returns-clause-none g c = λ e j n at. none-is n.fault (none-found (λ (n : Node _). is_some n.fault) c.args.nodes.now
    (sym (any_from_yields_List (λ (n : Node _). is_some n.fault) _ _ _ c.any.ensures.ran (YieldsList-from_slice c.args.nodes.now cc) (λ x b q k. search rules)) ∙ e) j n at)
