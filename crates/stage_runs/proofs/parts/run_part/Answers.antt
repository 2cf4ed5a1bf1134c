use Rattle.std.proofs.Common.{◌≡◌, ◌-◌, length, slice_get, ap, sym, ◌∙◌, arith}
use Rattle.network_theory.specs.Forest.{children}
use Rattle.stage_parts.specs.Parts.{part_ins}
use Rattle.stage_runs.specs.Parts.{Ran, StoppedOver}
use Rattle.stage_runs.proofs.Answered.{both-ok, on-ok}
use Rattle.stage_runs.proofs.Lending.{left-size, root-leaf, renewed-size, net-fresh, net-forest, part-later, part-short, rest-held, part-became, part-sound, net-edges}
use Rattle.stage_runs.proofs.Widths.{few-children}
use Rattle.stage_runs.proofs.parts.run_part.Goals as goal

pub lend-requires-clause-net : goal.lend-requires-clause-net
lend-requires-clause-net g c =
    let size = c.requires.room.net.count in let inside = c.requires.root in omega (arith, size, inside)

pub lend-requires-clause-homes : goal.lend-requires-clause-homes
lend-requires-clause-homes g c =
    ap (λ hs. length hs) c.as_slice-homes.ensures.value ∙ c.requires.homes

pub children-requires : goal.children-requires
children-requires g c =
    let plan = c.args.plan.now in
    let homes = plan.homes.items in
    let home = c.args.home in
    let root = c.args.root in
    let part = part_ins plan.gathers.items plan.ins homes home root in
    let is-part : c.args.room.ins ≡ part = c.requires.room.ins in
    let n = c.requires.forest.nodes in let e = ap (λ xss. length xss) is-part in omega (arith, n, e)

pub overflow_cast-children : goal.overflow_cast-children
overflow_cast-children g c =
    let plan = c.args.plan.now in
    let homes = plan.homes.items in
    let home = c.args.home in
    let root = c.args.root in
    let part = part_ins plan.gathers.items plan.ins homes home root in
    let is-part : c.args.room.ins ≡ part = c.requires.room.ins in
    let count : length (children part root) ≡ length c.children.result.now = ap (λ xs. length xs) (sym (c.children.ensures ∙ ap (λ xss. children xss root) is-part)) in
    let few = few-children part root c.requires.forest in let inside = c.requires.root in let most = c.requires.few in omega (arith, count, few, inside, most)

pub renew_root-requires-clause-leaf : goal.renew_root-requires-clause-leaf
renew_root-requires-clause-leaf g c =
    root-leaf g.S.Source g.K.Sink g.P.PlugFilter g.Q.PlugTally g.T.Scheduler.fits c.args.plan.now c.args.room c.args.home c.args.root c.args.sizes.queue c.args.nodes.now c.requires.room c.requires.root c.requires.fresh c.as_slice-homes.ensures.value c.lend.ensures c.children.ensures (λ n e. (c.requires.waits n e).0)

pub run_net-net-requires-clause-some : goal.run_net-net-requires-clause-some
run_net-net-requires-clause-some g c =
    let size = renewed-size g.S.Source g.K.Sink g.P.PlugFilter g.Q.PlugTally g.T.Scheduler.fits c.args.plan.now c.args.room c.args.home c.args.root c.args.sizes.queue c.args.nodes.now c.requires.room c.requires.root c.requires.fresh c.as_slice-homes.ensures.value c.lend.ensures c.children.ensures c.renew_root.ensures.renewed in
    omega (arith, size)

pub run_net-net-requires-clause-few : goal.run_net-net-requires-clause-few
run_net-net-requires-clause-few g c =
    let size = renewed-size g.S.Source g.K.Sink g.P.PlugFilter g.Q.PlugTally g.T.Scheduler.fits c.args.plan.now c.args.room c.args.home c.args.root c.args.sizes.queue c.args.nodes.now c.requires.room c.requires.root c.requires.fresh c.as_slice-homes.ensures.value c.lend.ensures c.children.ensures c.renew_root.ensures.renewed in
    let inside = c.requires.root in
    let most = c.requires.few in
    omega (arith, size, inside, most)

pub run_net-net-requires-clause-fresh : goal.run_net-net-requires-clause-fresh
run_net-net-requires-clause-fresh g c =
    net-fresh g.S.Source g.K.Sink g.P.PlugFilter g.Q.PlugTally g.T.Scheduler.fits c.args.plan.now c.args.room c.args.home c.args.root c.args.sizes.queue c.args.nodes.now c.requires.room c.requires.root c.requires.fresh c.as_slice-homes.ensures.value c.lend.ensures c.children.ensures c.renew_root.ensures.renewed

pub run_net-net-requires-clause-forest : goal.run_net-net-requires-clause-forest
run_net-net-requires-clause-forest g c =
    net-forest g.S.Source g.K.Sink g.P.PlugFilter g.Q.PlugTally g.T.Scheduler.fits c.args.plan.now c.args.room c.args.home c.args.root c.args.sizes.queue c.args.nodes.now c.requires.room c.requires.root c.requires.fresh c.as_slice-homes.ensures.value c.lend.ensures c.children.ensures c.renew_root.ensures.renewed c.requires.forest

pub run_net-net-requires-clause-edges : goal.run_net-net-requires-clause-edges
run_net-net-requires-clause-edges g c =
    (c.args.sizes.queue, net-edges g.S.Source g.K.Sink g.P.PlugFilter g.Q.PlugTally g.T.Scheduler.fits c.args.plan.now c.args.room c.args.home c.args.root c.args.sizes.queue c.args.nodes.now c.requires.room c.requires.root c.requires.fresh c.as_slice-homes.ensures.value c.lend.ensures c.children.ensures c.renew_root.ensures.renewed)

pub lend-requires-2-clause-net : goal.lend-requires-2-clause-net
lend-requires-2-clause-net g c =
    let size = renewed-size g.S.Source g.K.Sink g.P.PlugFilter g.Q.PlugTally g.T.Scheduler.fits c.args.plan.now c.args.room c.args.home c.args.root c.args.sizes.queue c.args.nodes.now c.requires.room c.requires.root c.requires.fresh c.as_slice-homes.ensures.value c.lend.ensures c.children.ensures c.renew_root.ensures.renewed in
    let same = left-size g.S.Source g.K.Sink g.P.PlugFilter g.Q.PlugTally g.T.Scheduler.fits c.args.plan.now c.args.room c.args.home c.args.root c.args.sizes.queue c.args.nodes.now c.requires.room c.requires.root c.requires.fresh c.as_slice-homes.ensures.value c.lend.ensures c.children.ensures in
    let many = c.run_net-net.ensures.later.count in
    let inside = c.requires.root in
    omega (arith, size, many, same, inside)

pub lend-requires-2-clause-homes : goal.lend-requires-2-clause-homes
lend-requires-2-clause-homes g c =
    ap (λ hs. length hs) c.as_slice-homes.ensures.value ∙ c.requires.homes ∙ sym (left-size g.S.Source g.K.Sink g.P.PlugFilter g.Q.PlugTally g.T.Scheduler.fits c.args.plan.now c.args.room c.args.home c.args.root c.args.sizes.queue c.args.nodes.now c.requires.room c.requires.root c.requires.fresh c.as_slice-homes.ensures.value c.lend.ensures c.children.ensures)

pub let_go-requires : goal.let_go-requires
let_go-requires g c =
    rest-held g.S.Source g.K.Sink g.P.PlugFilter g.Q.PlugTally g.T.Scheduler.fits c.args.plan.now c.args.room c.args.home c.args.root c.args.sizes.queue c.args.nodes.now c.requires.room c.requires.root c.requires.fresh c.as_slice-homes.ensures.value c.lend.ensures c.children.ensures c.renew_root.ensures.renewed c.run_net-net.ensures.later c.lend-2.ensures

pub returns-clause-later : goal.returns-clause-later
returns-clause-later g c =
    part-later g.S.Source g.K.Sink g.P.PlugFilter g.Q.PlugTally g.T.Scheduler.fits c.args.plan.now c.args.room c.args.home c.args.root c.args.sizes.queue c.args.nodes.now c.requires.room c.requires.root c.requires.fresh c.as_slice-homes.ensures.value c.lend.ensures c.children.ensures c.renew_root.ensures.renewed c.run_net-net.ensures.later c.lend-2.ensures (λ n e. (c.requires.waits n e).1)

pub returns-clause-run : goal.returns-clause-run
returns-clause-run g c =
    let edges = net-edges g.S.Source g.K.Sink g.P.PlugFilter g.Q.PlugTally g.T.Scheduler.fits c.args.plan.now c.args.room c.args.home c.args.root c.args.sizes.queue c.args.nodes.now c.requires.room c.requires.root c.requires.fresh c.as_slice-homes.ensures.value c.lend.ensures c.children.ensures c.renew_root.ensures.renewed in
    on-ok c.run_net-net.result.ended _ _
    (λ x. part-became g.S.Source g.K.Sink g.P.PlugFilter g.Q.PlugTally g.T.Scheduler.fits c.args.plan.now c.args.room c.args.home c.args.root c.args.sizes.queue c.args.nodes.now c.requires.room c.requires.root c.requires.fresh c.as_slice-homes.ensures.value c.lend.ensures c.children.ensures c.renew_root.ensures.renewed c.run_net-net.ensures.later c.lend-2.ensures
    (λ xss. Ran g.S.Source g.K.Sink g.P.PlugFilter g.Q.PlugTally (g.T.Scheduler.besides c.args.sizes.queue) xss) (x.0 c.args.sizes.queue edges) x.1)
    (both-ok c.run_net-net.result.ended _ _ c.run_net-net.ensures.ran c.run_net-net.ensures.enough)

pub returns-clause-short : goal.returns-clause-short
returns-clause-short g c = λ halted.
    part-short g.S.Source g.K.Sink g.P.PlugFilter g.Q.PlugTally g.T.Scheduler.fits c.args.plan.now c.args.room c.args.home c.args.root c.args.sizes.queue c.args.nodes.now c.requires.room c.requires.root c.requires.fresh c.as_slice-homes.ensures.value c.lend.ensures c.children.ensures c.renew_root.ensures.renewed c.run_net-net.ensures.later c.lend-2.ensures (c.run_net-net.ensures.short halted)

pub returns-clause-stopped : goal.returns-clause-stopped
returns-clause-stopped g c = λ halted.
    let edges = net-edges g.S.Source g.K.Sink g.P.PlugFilter g.Q.PlugTally g.T.Scheduler.fits c.args.plan.now c.args.room c.args.home c.args.root c.args.sizes.queue c.args.nodes.now c.requires.room c.requires.root c.requires.fresh c.as_slice-homes.ensures.value c.lend.ensures c.children.ensures c.renew_root.ensures.renewed in
    let stopped = c.run_net-net.ensures.stopped halted c.args.sizes.queue edges in
    part-became g.S.Source g.K.Sink g.P.PlugFilter g.Q.PlugTally g.T.Scheduler.fits c.args.plan.now c.args.room c.args.home c.args.root c.args.sizes.queue c.args.nodes.now c.requires.room c.requires.root c.requires.fresh c.as_slice-homes.ensures.value c.lend.ensures c.children.ensures c.renew_root.ensures.renewed c.run_net-net.ensures.later c.lend-2.ensures
    (λ xss. StoppedOver g.S.Source g.K.Sink g.P.PlugFilter g.Q.PlugTally (g.T.Scheduler.bounded c.args.scheduler.now) c.args.sizes.queue c.args.sizes.chunk xss) (stopped.0, stopped.1, stopped.2, λ n e. c.renew_root.ensures.cut n (ap (λ m. slice_get c.renew_root.new.net.items (m - 1)) (sym c.renew_root.ensures.renewed.count) ∙ e)) (c.run_net-net.ensures.enough_then halted)

pub returns-clause-sound : goal.returns-clause-sound
returns-clause-sound g c = on-ok c.run_net-net.result.ended _ _
    (part-sound g.S.Source g.K.Sink g.P.PlugFilter g.Q.PlugTally g.T.Scheduler.fits c.args.plan.now c.args.room c.args.home c.args.root c.args.sizes.queue c.args.nodes.now c.requires.room c.requires.root c.requires.fresh c.as_slice-homes.ensures.value c.lend.ensures c.children.ensures c.renew_root.ensures.renewed c.run_net-net.ensures.later c.lend-2.ensures (g.T.Scheduler.stop c.args.scheduler.now)) c.run_net-net.ensures.sound
