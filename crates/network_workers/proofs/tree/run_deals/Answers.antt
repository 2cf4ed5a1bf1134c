use Rattle.std.proofs.Common.{◌∙◌, subst, sym}
use Rattle.std.proofs.lemmas.List.{with_items_is}
use Rattle.network_workers.specs.Seats.{DealsCarry}
use Rattle.network_workers.specs.Stopping.{DealsOver}
use Rattle.network_workers.proofs.tree.run_deals.Goals as goal

pub returns-clause-carries : goal.returns-clause-carries
returns-clause-carries g c =
    subst (DealsCarry g.W.Work c.args.deals.now.items) (sym (with_items_is c.args.deals.now c.take_turns.new.deals (c.take_turns.ensures.carries.len ∙ c.as_mut_slice-deals.ensures.len)))
    (subst (λ xs. DealsCarry g.W.Work xs c.take_turns.new.deals) c.as_mut_slice-deals.ensures.value c.take_turns.ensures.carries)

pub returns-clause-over : goal.returns-clause-over
returns-clause-over g c =
    subst (DealsOver c.args.stop) (sym (with_items_is c.args.deals.now c.take_turns.new.deals (c.take_turns.ensures.carries.len ∙ c.as_mut_slice-deals.ensures.len))) c.take_turns.ensures.over
