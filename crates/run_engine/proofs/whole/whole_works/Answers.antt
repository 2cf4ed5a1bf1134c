use Rattle.std.proofs.Common.{sym, subst}
use Rattle.std.specs.Prelude.{IfOk}
use Rattle.set_engine.specs.Evaluated.{HaveEnded}
use Rattle.stage_forms.specs.Later.{AreLater}
use Rattle.stage_forms.specs.Starts.{AreAtStart}
use Rattle.stage_kinds.specs.Held.{faults_of}
use Rattle.stage_runs.proofs.Lending.{slice-back}
use Rattle.run_engine.proofs.whole.whole_works.Goals as goal

pub evaluate_stages-outcome-requires-clause-starts : goal.evaluate_stages-outcome-requires-clause-starts
evaluate_stages-outcome-requires-clause-starts g c = subst (AreAtStart g.K.Sink.bytes c.args.stages.now) (sym c.as_mut_slice.ensures.value) c.requires.starts

pub returns-clause-later : goal.returns-clause-later
returns-clause-later g c =
    let fs = g.P.PlugFilter in
    let ts = g.Q.PlugTally in
    let faults = faults_of g.S.Source.faults g.K.Sink.faults in
    let old = c.args.works.items in
    let new = c.evaluate_stages-outcome.new.works in
    let later = subst (λ ws. AreLater fs ts faults ws new) c.as_mut_slice.ensures.value c.evaluate_stages-outcome.ensures.later in
    subst (AreLater fs ts faults old) (sym (slice-back old new c.args.works.len later.count c.args.works.ok.0)) later

pub returns-clause-ended : goal.returns-clause-ended
returns-clause-ended g c =
    let s = g.S.Source in
    let k = g.K.Sink in
    let fs = g.P.PlugFilter in
    let ts = g.Q.PlugTally in
    let stages = c.args.stages.now in
    let old = c.args.works.items in
    let new = c.evaluate_stages-outcome.new.works in
    let later = subst (λ ws. AreLater fs ts (faults_of s.faults k.faults) ws new) c.as_mut_slice.ensures.value c.evaluate_stages-outcome.ensures.later in
    let back = slice-back old new c.args.works.len later.count c.args.works.ok.0 in
    subst (λ ws. IfOk c.evaluate_stages-outcome.result (λ ended. HaveEnded s k fs ts stages old ws ended.faults.items ended.report.items)) (sym back)
    (subst (λ ws. IfOk c.evaluate_stages-outcome.result (λ ended. HaveEnded s k fs ts stages ws new ended.faults.items ended.report.items)) c.as_mut_slice.ensures.value c.evaluate_stages-outcome.ensures.ended)
