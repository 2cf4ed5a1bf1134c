use Rattle.std.proofs.Common.{List, length, sym, subst, ◌∙◌}
use Rattle.network_core.specs.declared.node.Node.{Node}
use Rattle.network_solo.specs.Ahead.{IsReadAhead}
use Rattle.network_solo.specs.Stopping.{CameToEnd, IsStoppedTree, SomeFault}
use Rattle.network_solo.specs.Trees.{AreFresh}
use Rattle.stage_runs.specs.Works.{as_works}
use Rattle.stage_runs.specs.Parts.{AreLaterNodes, Ran}
use Rattle.stage_runs.specs.Short.{NoneShort, SomeShort}
use Rattle.stage_runs.proofs.Answered.{on-ok}
use Rattle.stage_runs.proofs.Later.{AreTurnedNodes, any-turned, ran-later}
use Rattle.stage_runs.proofs.Short.{short-ran}
use Rattle.stage_runs.proofs.nets.run_net.Goals as goal

pub run-requires-clause-fresh : goal.run-requires-clause-fresh
run-requires-clause-fresh g c = subst (AreFresh (as_works g.S.Source g.K.Sink g.P.PlugFilter g.Q.PlugTally) c.args.ins) (sym c.new.ensures) c.requires.fresh

pub run-requires-clause-edges : goal.run-requires-clause-edges
run-requires-clause-edges g c = (
  c.requires.edges.0,
  subst (λ (ns : List (Node _)). g.T.Scheduler.fits (length ns) c.requires.edges.0 c.args.edges) (sym c.new.ensures) c.requires.edges.1,
)

pub returns-clause-later : goal.returns-clause-later
returns-clause-later g c = subst (AreLaterNodes g.S.Source g.K.Sink g.P.PlugFilter g.Q.PlugTally c.args.nodes.items) (sym c.into_vec-nodes.ensures)
    (ran-later g.S.Source g.K.Sink g.P.PlugFilter g.Q.PlugTally c.args.ins c.args.nodes.items c.run.result c.requires.fresh
    (subst (λ (ns : List (Node _)). AreTurnedNodes g.S.Source g.K.Sink g.P.PlugFilter g.Q.PlugTally ns c.run.result) c.new.ensures
    (any-turned g.S.Source g.K.Sink g.P.PlugFilter g.Q.PlugTally c.args.ins c.new.result c.run.result (g.T.Scheduler.stop c.args.scheduler.now) c.run.ensures.ran c.run.ensures.stopped)))

pub returns-clause-ran : goal.returns-clause-ran
returns-clause-ran g c = on-ok c.how_ended-ended.result _ _ (λ came queue fits.
    let ended = subst (λ (ns : List (Node _)). CameToEnd (as_works g.S.Source g.K.Sink g.P.PlugFilter g.Q.PlugTally) (g.T.Scheduler.stop c.args.scheduler.now) ns) (c.deref.ensures.value ∙ c.into_vec-nodes.ensures) came in
    subst (λ (ns : List (Node _)). Ran g.S.Source g.K.Sink g.P.PlugFilter g.Q.PlugTally (g.T.Scheduler.besides queue) c.args.ins c.args.nodes.items ns) (sym c.into_vec-nodes.ensures)
    (subst (λ (ns : List (Node _)). Ran g.S.Source g.K.Sink g.P.PlugFilter g.Q.PlugTally (g.T.Scheduler.besides queue) c.args.ins ns c.run.result) c.new.ensures
    (c.run.ensures.ran ended, c.run.ensures.besides ended queue (subst (λ (ns : List (Node _)). g.T.Scheduler.fits (length ns) queue c.args.edges) (sym c.new.ensures) fits)))) c.how_ended-ended.ensures.done

pub returns-clause-enough : goal.returns-clause-enough
returns-clause-enough g c = on-ok c.how_ended-ended.result _ _ (subst (λ (ns : List (Node _)). NoneShort ns) c.deref.ensures.value) c.how_ended-ended.ensures.enough

pub returns-clause-short : goal.returns-clause-short
returns-clause-short g c = λ halted.
    let found = subst (λ (ns : List (Node _)). SomeShort ns) c.deref.ensures.value (c.how_ended-ended.ensures.short halted) in
    short-ran g.S.Source g.K.Sink g.P.PlugFilter g.Q.PlugTally c.args.nodes.items c.into_vec-nodes.result.items
    (subst (λ (ns : List (Node _)). AreTurnedNodes g.S.Source g.K.Sink g.P.PlugFilter g.Q.PlugTally c.args.nodes.items ns) (sym c.into_vec-nodes.ensures)
    (subst (λ (ns : List (Node _)). AreTurnedNodes g.S.Source g.K.Sink g.P.PlugFilter g.Q.PlugTally ns c.run.result) c.new.ensures
    (any-turned g.S.Source g.K.Sink g.P.PlugFilter g.Q.PlugTally c.args.ins c.new.result c.run.result (g.T.Scheduler.stop c.args.scheduler.now) c.run.ensures.ran c.run.ensures.stopped)))
    found.0 found.1 found.2 found.3

pub returns-clause-stopped : goal.returns-clause-stopped
returns-clause-stopped g c = λ halted queue fits. (
  subst (λ (ns : List (Node _)). IsStoppedTree (as_works g.S.Source g.K.Sink g.P.PlugFilter g.Q.PlugTally) c.args.ins c.args.nodes.items ns) (sym c.into_vec-nodes.ensures)
      (subst (λ (ns : List (Node _)). IsStoppedTree (as_works g.S.Source g.K.Sink g.P.PlugFilter g.Q.PlugTally) c.args.ins ns c.run.result) c.new.ensures (c.run.ensures.stopped (c.how_ended-ended.ensures.stops halted))),
  subst (λ (ns : List (Node _)). SomeFault (as_works g.S.Source g.K.Sink g.P.PlugFilter g.Q.PlugTally) ns) c.deref.ensures.value (c.how_ended-ended.ensures.fault halted),
  λ bounded. subst (λ (ns : List (Node _)). IsReadAhead (as_works g.S.Source g.K.Sink g.P.PlugFilter g.Q.PlugTally) c.args.ins queue c.args.nodes.items ns) (sym c.into_vec-nodes.ensures)
      (subst (λ (ns : List (Node _)). IsReadAhead (as_works g.S.Source g.K.Sink g.P.PlugFilter g.Q.PlugTally) c.args.ins queue ns c.run.result) c.new.ensures
      (c.run.ensures.ahead bounded (c.how_ended-ended.ensures.stops halted) queue (subst (λ (ns : List (Node _)). g.T.Scheduler.fits (length ns) queue c.args.edges) (sym c.new.ensures) fits))),
)

pub returns-clause-sound : goal.returns-clause-sound
returns-clause-sound g c = on-ok c.how_ended-ended.result _ _ (subst (λ (ns : List (Node _)). CameToEnd (as_works g.S.Source g.K.Sink g.P.PlugFilter g.Q.PlugTally) (g.T.Scheduler.stop c.args.scheduler.now) ns) c.deref.ensures.value) c.how_ended-ended.ensures.done

pub returns-clause-enough_then : goal.returns-clause-enough_then
returns-clause-enough_then g c = λ halted. subst (λ (ns : List (Node _)). NoneShort ns) c.deref.ensures.value (c.how_ended-ended.ensures.enough_then halted)
