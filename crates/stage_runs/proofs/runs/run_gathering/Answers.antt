use Rattle.std.proofs.lemmas.Result.{err_from_is_err_and}
use Rattle.std.proofs.Common.{Err, ◌≡◌, ◌+◌, ◌<◌, length, refl, ap, sym, subst, ◌∙◌, arith}
use Rattle.network_theory.specs.Opening.{IsFresh}
use Rattle.network_core.specs.Shown.{shown}
use Rattle.stage_runs.specs.Works.{as_works, ins_of}
use Rattle.stage_runs.specs.Parts.{AreLaterNodes, AreRunBefore, AreTurned}
use Rattle.stage_runs.proofs.Forests.{children-are}
use Rattle.stage_runs.proofs.Later.{same-later, step-later}
use Rattle.stage_runs.proofs.Turns.{few-stages, ins-size, gathers-size, gathers-inside, homes-size, at-first, skipped, part-forest, part-fresh, part-inputs, gathers-one, turn-stopped, collects, taken-turn, turned-on, turned-over}
use Rattle.stage_runs.proofs.runs.run_gathering.Goals as goal
use Rattle.stage_runs.proofs.runs.run_gathering.Goals.{then-index+in_ok-room+in_ok-run_part+in_ok-gather_at, else-index}

pub loop-at-init : goal.loop-at-init
loop-at-init g c =
    let new = c.requires.new in
    record {
      later = same-later g.S.Source g.K.Sink g.P.PlugFilter g.Q.PlugTally (ins_of c.args.stages.now) c.args.nodes.now (λ i n e. subst (λ xs. IsFresh (shown (as_works g.S.Source g.K.Sink g.P.PlugFilter g.Q.PlugTally) xs n)) (sym (children-are c.args.stages.now i)) (new.fresh i n e));
      done = at-first g.S.Source g.K.Sink g.P.PlugFilter g.Q.PlugTally c.args.stages.now c.requires.tree c.requires.new c.args.plan.now c.requires.gathers c.requires.ins c.requires.homes (g.T.Scheduler.besides c.args.sizes.queue);
      turned = refl;
    }

pub index-requires : goal.index-requires
index-requires g c =
    let stages = c.args.stages.now in
    let plan = c.args.plan.now in
    let is = c.requires in
    subst (λ n. c.loop-at.at < n) (sym plan.gathers.ok.0) (gathers-inside stages plan.gathers.items is.gathers c.loop-at.at c.loop-at-test.true)

pub overflow_cast-at : goal.overflow_cast-at
overflow_cast-at g c =
    let few = few-stages c.args.stages.now c.requires.tree in
    let inside = c.loop-at-test.true in
    omega (arith, few, inside)

pub overflow_cast-at-then-index : goal.overflow_cast-at-then-index
overflow_cast-at-then-index g c =
    let few = few-stages c.args.stages.now c.requires.tree in
    let inside = c.loop-at-test.true in
    omega (arith, few, inside)

pub new-requires-clause-root : goal.new-requires-clause-root
new-requires-clause-root g c =
    let stages = c.args.stages.now in
    let plan = c.args.plan.now in
    let is = c.requires in
    let many : length plan.gathers.items ≡ length stages = ap (λ gs. length gs) is.gathers ∙ gathers-size stages in
    let inside = c.loop-at-test.true in
    omega (arith, inside, many)

pub new-requires-clause-few : goal.new-requires-clause-few
new-requires-clause-few g c =
    let stages = c.args.stages.now in
    let plan = c.args.plan.now in
    let is = c.requires in
    let many : length plan.gathers.items ≡ length stages = ap (λ gs. length gs) is.gathers ∙ gathers-size stages in
    let few = few-stages stages c.requires.tree in
    omega (arith, few, many)

pub new-requires-clause-ins : goal.new-requires-clause-ins
new-requires-clause-ins g c =
    let stages = c.args.stages.now in
    let plan = c.args.plan.now in
    let is = c.requires in
    let many : length plan.gathers.items ≡ length stages = ap (λ gs. length gs) is.gathers ∙ gathers-size stages in
    ap (λ xss. length xss) is.ins ∙ ins-size stages ∙ sym many

pub new-requires-clause-homes : goal.new-requires-clause-homes
new-requires-clause-homes g c =
    let stages = c.args.stages.now in
    let plan = c.args.plan.now in
    let is = c.requires in
    let many : length plan.gathers.items ≡ length stages = ap (λ gs. length gs) is.gathers ∙ gathers-size stages in
    homes-size stages plan.homes.items is.homes ∙ sym many

pub returns-in_err-room-clause-gathers : goal.returns-in_err-room-clause-gathers
returns-in_err-room-clause-gathers g c = λ halted. gathers-one g.S.Source g.K.Sink g.P.PlugFilter g.Q.PlugTally c.args.stages.now c.requires.tree c.requires.new c.args.plan.now c.requires.gathers c.requires.ins c.requires.homes (g.T.Scheduler.besides c.args.sizes.queue) c.loop-at.at c.loop-at.invariant.later c.loop-at.invariant.done c.loop-at-test.true c.index.ensures c.if-index.true

pub run_part-requires-clause-room : goal.run_part-requires-clause-room
run_part-requires-clause-room g c = c.in_ok-room.ensures

pub run_part-requires-clause-few : goal.run_part-requires-clause-few
run_part-requires-clause-few g c =
    let stages = c.args.stages.now in
    let new = c.requires.new in
    let now = c.loop-at.nodes in
    let count : length now ≡ length stages = c.loop-at.invariant.later.count ∙ new.count in
    let few = few-stages stages c.requires.tree in omega (arith, count, few)

pub run_part-requires-clause-homes : goal.run_part-requires-clause-homes
run_part-requires-clause-homes g c =
    let stages = c.args.stages.now in
    let new = c.requires.new in
    let plan = c.args.plan.now in
    let is = c.requires in
    let now = c.loop-at.nodes in
    let count : length now ≡ length stages = c.loop-at.invariant.later.count ∙ new.count in
    homes-size stages plan.homes.items is.homes ∙ sym count

pub run_part-requires-clause-forest : goal.run_part-requires-clause-forest
run_part-requires-clause-forest g c = part-forest g.S.Source g.K.Sink g.P.PlugFilter g.Q.PlugTally c.args.stages.now c.requires.tree c.requires.new c.args.plan.now c.requires.gathers c.requires.ins c.requires.homes (g.T.Scheduler.besides c.args.sizes.queue) c.loop-at.at c.loop-at.invariant.later c.loop-at.invariant.done c.loop-at-test.true c.index.ensures c.if-index.true

pub run_part-requires-clause-fresh : goal.run_part-requires-clause-fresh
run_part-requires-clause-fresh g c = part-fresh g.S.Source g.K.Sink g.P.PlugFilter g.Q.PlugTally c.args.stages.now c.requires.tree c.requires.new c.args.plan.now c.requires.gathers c.requires.ins c.requires.homes (g.T.Scheduler.besides c.args.sizes.queue) c.loop-at.at c.loop-at.invariant.later c.loop-at.invariant.done c.loop-at-test.true c.index.ensures c.if-index.true

pub run_part-requires-clause-waits : goal.run_part-requires-clause-waits
run_part-requires-clause-waits g c = part-inputs g.S.Source g.K.Sink g.P.PlugFilter g.Q.PlugTally c.args.stages.now c.requires.tree c.requires.new c.args.plan.now c.requires.gathers c.requires.ins c.requires.homes (g.T.Scheduler.besides c.args.sizes.queue) c.loop-at.at c.loop-at.invariant.later c.loop-at.invariant.done c.loop-at-test.true c.index.ensures c.if-index.true

pub returns-in_err-run_part-clause-later : goal.returns-in_err-run_part-clause-later
returns-in_err-run_part-clause-later g c =
    let s = g.S.Source in
    let k = g.K.Sink in
    let fs = g.P.PlugFilter in
    let ts = g.Q.PlugTally in
    step-later s k fs ts c.args.nodes.now c.loop-at.nodes c.run_part.new.nodes c.loop-at.invariant.later c.run_part.ensures.later

pub returns-in_err-run_part-clause-gathers : goal.returns-in_err-run_part-clause-gathers
returns-in_err-run_part-clause-gathers g c = λ halted. gathers-one g.S.Source g.K.Sink g.P.PlugFilter g.Q.PlugTally c.args.stages.now c.requires.tree c.requires.new c.args.plan.now c.requires.gathers c.requires.ins c.requires.homes (g.T.Scheduler.besides c.args.sizes.queue) c.loop-at.at c.loop-at.invariant.later c.loop-at.invariant.done c.loop-at-test.true c.index.ensures c.if-index.true

pub returns-in_err-run_part-clause-stopped : goal.returns-in_err-run_part-clause-stopped
returns-in_err-run_part-clause-stopped g c = λ halted. turn-stopped g.S.Source g.K.Sink g.P.PlugFilter g.Q.PlugTally c.args.stages.now c.requires.tree c.requires.new c.args.plan.now c.requires.gathers c.requires.ins c.requires.homes (g.T.Scheduler.besides c.args.sizes.queue) c.loop-at.at c.loop-at.invariant.later c.loop-at.invariant.done c.loop-at-test.true c.index.ensures c.if-index.true (g.T.Scheduler.bounded c.args.scheduler.now) c.args.sizes.queue c.args.sizes.chunk (c.run_part.ensures.stopped (
    let p = err_from_is_err_and c.from_residual-in_err-run_part.result c.from_residual-in_err-run_part.ensures.1 in
    c.in_err-run_part.was ∙ ap Err (sym p.2) ∙ sym p.1 ∙ halted))

pub gather_at-requires-clause-collects : goal.gather_at-requires-clause-collects
gather_at-requires-clause-collects g c = collects g.S.Source g.K.Sink g.P.PlugFilter g.Q.PlugTally c.args.stages.now c.requires.tree c.requires.new c.args.plan.now c.requires.gathers c.requires.ins c.requires.homes (g.T.Scheduler.besides c.args.sizes.queue) c.loop-at.at c.loop-at.invariant.later c.loop-at.invariant.done c.loop-at-test.true c.index.ensures c.if-index.true c.in_ok-run_part.ensures.run

pub returns-in_err-gather_at-clause-later : goal.returns-in_err-gather_at-clause-later
returns-in_err-gather_at-clause-later g c =
    let s = g.S.Source in
    let k = g.K.Sink in
    let fs = g.P.PlugFilter in
    let ts = g.Q.PlugTally in
    step-later s k fs ts c.args.nodes.now c.run_part.new.nodes c.gather_at.new.nodes (step-later s k fs ts c.args.nodes.now c.loop-at.nodes c.run_part.new.nodes c.loop-at.invariant.later c.run_part.ensures.later) c.gather_at.ensures.later

pub returns-in_err-gather_at-clause-gathers : goal.returns-in_err-gather_at-clause-gathers
returns-in_err-gather_at-clause-gathers g c = λ halted. gathers-one g.S.Source g.K.Sink g.P.PlugFilter g.Q.PlugTally c.args.stages.now c.requires.tree c.requires.new c.args.plan.now c.requires.gathers c.requires.ins c.requires.homes (g.T.Scheduler.besides c.args.sizes.queue) c.loop-at.at c.loop-at.invariant.later c.loop-at.invariant.done c.loop-at-test.true c.index.ensures c.if-index.true

pub loop-at-preserved : goal.loop-at-preserved
loop-at-preserved g c =
    let s = g.S.Source in
    let k = g.K.Sink in
    let fs = g.P.PlugFilter in
    let ts = g.Q.PlugTally in
    let stages = c.args.stages.now in
    let homes = c.args.plan.now.homes.items in
    let old = c.args.nodes.now in
    let besides = g.T.Scheduler.besides c.args.sizes.queue in
    let now = c.loop-at.nodes in
    let at = c.loop-at.at in
    elim c.if-index.branch [
      | then-index+in_ok-room+in_ok-run_part+in_ok-gather_at w ↦ subst (λ ns. record { later : AreLaterNodes s k fs ts old ns; done : AreRunBefore s k fs ts stages homes old (at + 1) ns; turned : AreTurned s k fs ts stages homes old besides (at + 1) ns }) (sym w.nodes-is) (record {
        later = step-later s k fs ts old w.run_part.new.nodes w.gather_at.new.nodes (step-later s k fs ts old now w.run_part.new.nodes c.loop-at.invariant.later w.run_part.ensures.later) w.gather_at.ensures.later;
        done = taken-turn g.S.Source g.K.Sink g.P.PlugFilter g.Q.PlugTally c.args.stages.now c.requires.tree c.requires.new c.args.plan.now c.requires.gathers c.requires.ins c.requires.homes (g.T.Scheduler.besides c.args.sizes.queue) c.loop-at.at c.loop-at.invariant.later c.loop-at.invariant.done c.loop-at-test.true c.index.ensures w.if-index.true w.in_ok-run_part.ensures.run w.in_ok-gather_at.ensures.gathered;
        turned = turned-on g.S.Source g.K.Sink g.P.PlugFilter g.Q.PlugTally c.args.stages.now c.requires.tree c.requires.new c.args.plan.now c.requires.gathers c.requires.ins c.requires.homes (g.T.Scheduler.besides c.args.sizes.queue) c.loop-at.at c.loop-at.invariant.later c.loop-at.invariant.done c.loop-at-test.true c.index.ensures w.if-index.true w.in_ok-run_part.ensures.run w.in_ok-gather_at.ensures.gathered c.loop-at.invariant.turned;
      })
      | else-index w ↦ subst (λ ns. record { later : AreLaterNodes s k fs ts old ns; done : AreRunBefore s k fs ts stages homes old (at + 1) ns; turned : AreTurned s k fs ts stages homes old besides (at + 1) ns }) (sym w.nodes-is) (record {
        later = c.loop-at.invariant.later;
        done = skipped g.S.Source g.K.Sink g.P.PlugFilter g.Q.PlugTally c.args.stages.now c.requires.tree c.requires.new c.args.plan.now c.requires.gathers c.requires.ins c.requires.homes (g.T.Scheduler.besides c.args.sizes.queue) c.loop-at.at c.loop-at.invariant.later c.loop-at.invariant.done c.loop-at-test.true c.index.ensures w.if-index.false;
        turned = turned-over g.S.Source g.K.Sink g.P.PlugFilter g.Q.PlugTally c.args.stages.now c.requires.tree c.requires.new c.args.plan.now c.requires.gathers c.requires.ins c.requires.homes (g.T.Scheduler.besides c.args.sizes.queue) c.loop-at.at c.loop-at.invariant.later c.loop-at.invariant.done c.loop-at-test.true c.index.ensures w.if-index.false c.loop-at.invariant.turned;
      })
    ]

pub returns-clause-done : goal.returns-clause-done
returns-clause-done g c =
    let at-end : c.loop-at.at ≡ length c.args.stages.now = (let a = c.loop-at.auto.at-end in let b = c.loop-at-test.false in omega (arith, a, b)) in
    subst (λ n. AreRunBefore g.S.Source g.K.Sink g.P.PlugFilter g.Q.PlugTally c.args.stages.now c.args.plan.now.homes.items c.args.nodes.now n c.loop-at.nodes) at-end c.loop-at.invariant.done

pub returns-clause-turned : goal.returns-clause-turned
returns-clause-turned g c =
    let at-end : c.loop-at.at ≡ length c.args.stages.now = (let a = c.loop-at.auto.at-end in let b = c.loop-at-test.false in omega (arith, a, b)) in
    subst (λ n. AreTurned g.S.Source g.K.Sink g.P.PlugFilter g.Q.PlugTally c.args.stages.now c.args.plan.now.homes.items c.args.nodes.now (g.T.Scheduler.besides c.args.sizes.queue) n c.loop-at.nodes) at-end c.loop-at.invariant.turned

pub returns-in_err-room-clause-known : goal.returns-in_err-room-clause-known
returns-in_err-room-clause-known g c = λ halted. gathers-one g.S.Source g.K.Sink g.P.PlugFilter g.Q.PlugTally c.args.stages.now c.requires.tree c.requires.new c.args.plan.now c.requires.gathers c.requires.ins c.requires.homes (g.T.Scheduler.besides c.args.sizes.queue) c.loop-at.at c.loop-at.invariant.later c.loop-at.invariant.done c.loop-at-test.true c.index.ensures c.if-index.true

pub returns-in_err-run_part-clause-known : goal.returns-in_err-run_part-clause-known
returns-in_err-run_part-clause-known g c = λ halted. gathers-one g.S.Source g.K.Sink g.P.PlugFilter g.Q.PlugTally c.args.stages.now c.requires.tree c.requires.new c.args.plan.now c.requires.gathers c.requires.ins c.requires.homes (g.T.Scheduler.besides c.args.sizes.queue) c.loop-at.at c.loop-at.invariant.later c.loop-at.invariant.done c.loop-at-test.true c.index.ensures c.if-index.true

pub returns-in_err-gather_at-clause-known : goal.returns-in_err-gather_at-clause-known
returns-in_err-gather_at-clause-known g c = λ halted. gathers-one g.S.Source g.K.Sink g.P.PlugFilter g.Q.PlugTally c.args.stages.now c.requires.tree c.requires.new c.args.plan.now c.requires.gathers c.requires.ins c.requires.homes (g.T.Scheduler.besides c.args.sizes.queue) c.loop-at.at c.loop-at.invariant.later c.loop-at.invariant.done c.loop-at-test.true c.index.ensures c.if-index.true
