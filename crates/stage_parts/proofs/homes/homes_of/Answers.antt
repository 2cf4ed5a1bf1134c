use Rattle.std.proofs.Common.{◌≡◌, ◌+◌, ◌-◌, ◌<◌, ◌∙◌, ap, subst, sym, cond, length, arith}
use Rattle.std.proofs.lemmas.List.{get_or_read}
use Rattle.network_theory.specs.Shape.{In}
use Rattle.stage_parts.specs.Parts.{gathers_at, home_at}
use Rattle.stage_parts.proofs.Descent.{HomesFrom, homes-step}
use Rattle.stage_parts.proofs.Leading.{written_back}
use Rattle.stage_parts.proofs.homes.homes_of.Goals as goal
use Rattle.stage_parts.proofs.homes.homes_of.Goals.{then-gathers-node, else-gathers-node}

pub loop-node-preserved : goal.loop-node-preserved
loop-node-preserved c =
    let k = c.loop-node.node - 1 in
    let own = c.children.ensures in
    let value = c.as_mut_slice.ensures.value in
    let size : length c.lead_home.new.homes ≡ length c.loop-node.homes.items = c.lead_home.auto.homes ∙ ap length value in
    let above : c.loop-node.node ≡ k + 1 = (let some = c.loop-node-test.true in omega arith) in
    let inside : k < length c.loop-node.homes.items = (let s = c.loop-node.invariant.size in let b = c.loop-node.auto.node in omega arith) in
    let home : c.if-gathers-node.home ≡ cond (gathers_at c.args.gathers.now k) k (home_at c.loop-node.homes.items k) = elim c.if-gathers-node.branch [
      | then-gathers-node w ↦ w.home-is ∙ sym (ap (λ g. cond g k (home_at c.loop-node.homes.items k)) w.if-gathers-node.true)
      | else-gathers-node w ↦ w.home-is ∙ get_or_read c.loop-node.homes.items k w.index.result.now inside w.index.ensures 0
          ∙ sym (ap (λ g. cond g k (home_at c.loop-node.homes.items k)) w.if-gathers-node.false)
    ] in
    subst (HomesFrom k c.args.gathers.now c.args.ins.now)
    (sym (written_back c.loop-node.homes.len c.loop-node.homes.items c.lead_home.new.homes (sym c.as_mut_slice.ensures.len ∙ ap length value) size))
    (homes-step c.args.gathers.now c.args.ins.now c.requires.forest k c.loop-node.node c.if-gathers-node.home c.loop-node.homes.items c.lead_home.new.homes above
    c.loop-node.invariant size home
    (λ j i. c.lead_home.ensures.led j (subst (In j) (sym own) i))
    (λ j no. c.lead_home.ensures.others j (λ i. no (subst (In j) own i)) ∙ ap (λ xs. home_at xs j) value))
