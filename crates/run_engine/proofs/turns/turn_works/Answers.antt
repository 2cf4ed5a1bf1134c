use Rattle.std.proofs.Common.{List, map, length, Option, Ok, Err, OnErr, refl, ap, sym, subst, ◌∙◌, arith, inl, inr}
use Rattle.cloud_points.specs.declared.faults.StageFault.{StageFault}
use Rattle.network_core.specs.declared.node.Node.{Node}
use Rattle.network_core.specs.Shown.{work_of}
use Rattle.stage_kinds.specs.Held.{faults_of}
use Rattle.stage_runs.specs.Parts.{AreLaterNodes}
use Rattle.stage_runs.specs.Ran.{AreRanStages, AreStoppedStages}
use Rattle.stage_runs.specs.Ahead.{AreReadAhead, HaveReadAhead}
use Rattle.stage_runs.specs.Short.{SomeGathers}
use Rattle.stage_runs.proofs.Lending.{slice-back}
use Rattle.run_engine.specs.Counted.{AreCounted, AreFaultsOf}
use Rattle.stage_forms.specs.Later.{AreLater}
use Rattle.run_outcome.specs.Faults.{AreSound}
use Rattle.run_engine.specs.Stopping.{HaveEndedBy}
use Rattle.run_engine.proofs.Ahead.{none-ahead, some-ahead}
use Rattle.run_engine.proofs.Stopping.{three-if-ok, by-halt, ended-by, on-err-so}
use Rattle.run_outcome.proofs.Results.{ok-same}
use Rattle.run_engine.proofs.Ran.{later, have-ended, have-stopped, some-unsound}
use Rattle.run_engine.proofs.turns.turn_works.Goals.{in-Ok, in-Err}
use Rattle.run_engine.proofs.turns.turn_works.Goals as goal

pub returns-clause-later : goal.returns-clause-later
returns-clause-later g c =
    let s = g.S.Source in
    let k = g.K.Sink in
    let fs = g.P.PlugFilter in
    let ts = g.Q.PlugTally in
    let stages = c.args.stages.now in
    let works = c.args.works.items in
    let made = c.nodes_over-nodes.ensures in
    let old = c.nodes_over-nodes.result.items in
    let new = c.run_stages-ran.new.nodes in
    let lasted = subst (λ xs. AreLaterNodes s k fs ts xs new) c.as_mut_slice.ensures.value c.run_stages-ran.ensures.later in
    let back = slice-back old new c.nodes_over-nodes.result.len lasted.count c.nodes_over-nodes.result.ok.0 in
    let is-works = c.works_in-works.ensures ∙ ap (map work_of) back in
    subst (AreLater fs ts (faults_of s.faults k.faults) works) (sym is-works) (later s k fs ts stages old new works made.works made.new lasted)

pub returns-clause-ended : goal.returns-clause-ended
returns-clause-ended g c =
    let s = g.S.Source in
    let k = g.K.Sink in
    let fs = g.P.PlugFilter in
    let ts = g.Q.PlugTally in
    let stages = c.args.stages.now in
    let works = c.args.works.items in
    let made = c.nodes_over-nodes.ensures in
    let old = c.nodes_over-nodes.result.items in
    let new = c.run_stages-ran.new.nodes in
    let lasted = subst (λ xs. AreLaterNodes s k fs ts xs new) c.as_mut_slice.ensures.value c.run_stages-ran.ensures.later in
    let back = slice-back old new c.nodes_over-nodes.result.len lasted.count c.nodes_over-nodes.result.ok.0 in
    let is-works = c.works_in-works.ensures ∙ ap (map work_of) back in
    let stop = g.T.Scheduler.stop c.args.scheduler.now in
    elim c.match-ran.branch [
      | in-Ok w ↦ (
          let ran = subst (λ xs. AreRanStages s k fs ts stages xs new) c.as_mut_slice.ensures.value w.in-Ok.ensures.ran in
          let nodes = w.deref.ensures.value ∙ back in
          let out = w.ended.ensures in
          let report = w.ended.result in
          ok-same _ c.match-ran.outcome (Ok report) w.outcome-is
          (subst (λ ws. HaveEndedBy s k fs ts stop stages works ws report.faults.items report.report.items) (sym is-works)
          (ended-by s k fs ts stop stages works (map work_of new) report.faults.items report.report.items
          (have-ended s k fs ts stages old new works made.works made.new lasted ran report.faults.items report.report.items
          (subst (λ (ns : List (Node _)). AreFaultsOf ns report.faults.items) nodes out.faults) out.count
          (subst (λ (ns : List (Node _)). AreCounted ts stages ns report.report.items) nodes out.counted)))))
      | in-Err w ↦ (
          let nodes = w.deref-in-Err.ensures.value ∙ back in
          let result = w.halted-outcome.result in
          let ensures = w.halted-outcome.ensures in
          ok-same _ c.match-ran.outcome result w.outcome-is
          (three-if-ok result _ _ _ _ ensures.fault ensures.faults ensures.faulty (λ report fault faults faulty.
          let stopped = subst (λ xs. AreStoppedStages s k fs ts stages xs new) c.as_mut_slice.ensures.value (w.in-Err.ensures.stopped (ap Err fault)) in
          subst (λ ws. HaveEndedBy s k fs ts stop stages works ws report.faults.items report.report.items) (sym is-works)
          (subst (λ end. HaveEndedBy s k fs ts end stages works (map work_of new) report.faults.items report.report.items) (sym (w.in-Err.ensures.stops (ap Err fault)))
          (have-stopped s k fs ts stages old new works made.works made.new lasted stopped report.faults.items report.report.items
          (subst (λ (ns : List (Node _)). AreFaultsOf ns report.faults.items) nodes faults) faulty)))))
    ]

pub ended-requires-clause-fit : goal.ended-requires-clause-fit
ended-requires-clause-fit g c =
    let s = g.S.Source in
    let k = g.K.Sink in
    let fs = g.P.PlugFilter in
    let ts = g.Q.PlugTally in
    let made = c.nodes_over-nodes.ensures in
    let old = c.nodes_over-nodes.result.items in
    let new = c.run_stages-ran.new.nodes in
    let lasted = subst (λ xs. AreLaterNodes s k fs ts xs new) c.as_mut_slice.ensures.value c.run_stages-ran.ensures.later in
    let back = slice-back old new c.nodes_over-nodes.result.len lasted.count c.nodes_over-nodes.result.ok.0 in
    ap (λ (ns : List (Node _)). length ns) (c.deref.ensures.value ∙ back) ∙ lasted.count ∙ made.new.count

pub works_in-works-requires-clause-room : goal.works_in-works-requires-clause-room
works_in-works-requires-clause-room g c =
    let s = g.S.Source in
    let k = g.K.Sink in
    let fs = g.P.PlugFilter in
    let ts = g.Q.PlugTally in
    let stages = c.args.stages.now in
    let works = c.args.works.items in
    let made = c.nodes_over-nodes.ensures in
    let old = c.nodes_over-nodes.result.items in
    let new = c.run_stages-ran.new.nodes in
    let lasted = subst (λ xs. AreLaterNodes s k fs ts xs new) c.as_mut_slice.ensures.value c.run_stages-ran.ensures.later in
    let back = slice-back old new c.nodes_over-nodes.result.len lasted.count c.nodes_over-nodes.result.ok.0 in
    let left = ap (λ (ns : List (Node _)). length ns) back in
    let stay = lasted.count in
    let many = made.new.count in
    let room = c.requires.room.works_room in
    omega (arith, left, stay, many, room)

pub halted-outcome-requires-clause-fit : goal.halted-outcome-requires-clause-fit
halted-outcome-requires-clause-fit g c =
    let s = g.S.Source in
    let k = g.K.Sink in
    let fs = g.P.PlugFilter in
    let ts = g.Q.PlugTally in
    let made = c.nodes_over-nodes.ensures in
    let old = c.nodes_over-nodes.result.items in
    let new = c.run_stages-ran.new.nodes in
    let lasted = subst (λ xs. AreLaterNodes s k fs ts xs new) c.as_mut_slice.ensures.value c.run_stages-ran.ensures.later in
    let back = slice-back old new c.nodes_over-nodes.result.len lasted.count c.nodes_over-nodes.result.ok.0 in
    ap (λ (ns : List (Node _)). length ns) (c.deref-in-Err.ensures.value ∙ back) ∙ lasted.count ∙ made.new.count

pub returns-clause-gathers : goal.returns-clause-gathers
returns-clause-gathers g c =
    let s = g.S.Source in
    let k = g.K.Sink in
    let fs = g.P.PlugFilter in
    let ts = g.Q.PlugTally in
    let old = c.nodes_over-nodes.result.items in
    let new = c.run_stages-ran.new.nodes in
    let lasted = subst (λ xs. AreLaterNodes s k fs ts xs new) c.as_mut_slice.ensures.value c.run_stages-ran.ensures.later in
    let back = slice-back old new c.nodes_over-nodes.result.len lasted.count c.nodes_over-nodes.result.ok.0 in
    elim c.match-ran.branch [
      | in-Ok w ↦ subst (λ o. OnErr o (SomeGathers c.args.stages.now)) (sym w.outcome-is) tt
      | in-Err w ↦ subst (λ o. OnErr o (SomeGathers c.args.stages.now)) (sym w.outcome-is)
          (on-err-so w.halted-outcome.result _ _ w.halted-outcome.ensures.none (λ none. by-halt w.in-Err.halt (λ memory. w.in-Err.ensures.gathers (ap Err memory))
          (λ fault. elim (w.in-Err.ensures.known (ap Err fault)) [
            | inl f ↦ absurd (some-unsound new (map (λ (n : Node _). n.fault) new) refl f.0 f.1 f.2 f.3
                (subst (λ (ns : List (Node _)). (found : List (Option StageFault)) → AreFaultsOf ns found → AreSound found) (w.deref-in-Err.ensures.value ∙ back) (none fault) (map (λ (n : Node _). n.fault) new) refl))
            | inr gathers ↦ gathers
          ])))
    ]

pub returns-clause-ahead : goal.returns-clause-ahead
returns-clause-ahead g c =
    let s = g.S.Source in
    let k = g.K.Sink in
    let fs = g.P.PlugFilter in
    let ts = g.Q.PlugTally in
    let stages = c.args.stages.now in
    let works = c.args.works.items in
    let made = c.nodes_over-nodes.ensures in
    let old = c.nodes_over-nodes.result.items in
    let new = c.run_stages-ran.new.nodes in
    let lasted = subst (λ xs. AreLaterNodes s k fs ts xs new) c.as_mut_slice.ensures.value c.run_stages-ran.ensures.later in
    let back = slice-back old new c.nodes_over-nodes.result.len lasted.count c.nodes_over-nodes.result.ok.0 in
    let is-works = c.works_in-works.ensures ∙ ap (map work_of) back in
    let room = c.requires.room in
    let queue = c.args.room.shape.queue in
    let chunk = c.args.room.shape.chunk in
    elim c.match-ran.branch [
      | in-Ok w ↦ (
          let report = w.ended.result in
          ok-same _ c.match-ran.outcome (Ok report) w.outcome-is (λ bounded first.
          none-ahead s k fs ts stages queue chunk new works c.works_in-works.result.items report.faults.items (w.in-Ok.ensures.sound first)
          (subst (λ (ns : List (Node _)). AreFaultsOf ns report.faults.items) (w.deref.ensures.value ∙ back) w.ended.ensures.faults)))
      | in-Err w ↦ (
          let result = w.halted-outcome.result in
          let ensures = w.halted-outcome.ensures in
          ok-same _ c.match-ran.outcome result w.outcome-is
          (three-if-ok result _ _ _ _ ensures.fault ensures.faults ensures.faulty (λ report fault faults faulty bounded first.
          let ahead = subst (λ xs. HaveReadAhead s fs ts stages c.args.room.stages.sizes.queue c.args.room.stages.sizes.chunk xs new) c.as_mut_slice.ensures.value (w.in-Err.ensures.ahead bounded (ap Err fault)) in
          let shaped = subst (λ q. HaveReadAhead s fs ts stages q chunk old new) room.queue (subst (λ n. HaveReadAhead s fs ts stages c.args.room.stages.sizes.queue n old new) room.chunk ahead) in
          subst (λ ws. AreReadAhead s fs ts stages queue chunk works ws report.faults.items) (sym is-works)
          (some-ahead s k fs ts stages queue chunk old new works report.faults.items shaped (λ j n e. made.chunk j n e ∙ c.chunk.ensures.value) made.works
          (subst (λ (ns : List (Node _)). AreFaultsOf ns report.faults.items) (w.deref-in-Err.ensures.value ∙ back) faults)))))
    ]
