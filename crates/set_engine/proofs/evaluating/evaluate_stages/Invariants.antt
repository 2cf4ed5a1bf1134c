use Rattle.std.proofs.Common.{◌≡◌, ◌≤◌, ℕ, length, vec_len}
use Rattle.std.specs.Prelude.{slice_get, vec_capacity}
use Rattle.answer_model.specs.Values.{Opened}
use Rattle.run_outcome.specs.Faults.{NoneFailed}
use Rattle.stage_kinds.specs.Held.{faults_of}
use Rattle.set_engine.proofs.Values.{AreAfter}
use Rattle.set_engine.specs.Evaluated.{AreCaused}
use Rattle.stage_forms.specs.Starts.{AreGiven}
use Rattle.set_engine.proofs.UpTo.{AreUpTo}
use Rattle.set_engine.proofs.evaluating.evaluate_stages.Given as goal

-- the stages before this one were evaluated
abbrev pub invariant-loop-i : goal.invariant-loop-i
invariant-loop-i g l =
    let faults = faults_of g.S.Source.faults g.K.Sink.faults in
    let found = l.faults.items in
    record {
      values : vec_len l.values ≡ l.i;
      room : length l.stages ≤ vec_capacity l.values;
      counts : length l.report.items ≡ l.i;
      told : length found ≡ l.i;
      after : AreAfter g.P.PlugFilter g.Q.PlugTally faults l.fn.works l.works;
      rest : (j : ℕ) → l.i ≤ j → slice_get l.works j ≡ slice_get l.fn.works j;
      caused : AreCaused faults l.fn.works l.works found;
      up_to : NoneFailed found → (opened : Opened) → AreGiven g.S.Source g.P.PlugFilter g.Q.PlugTally l.stages l.fn.works opened → AreUpTo g.K.Sink.bytes g.P.PlugFilter g.Q.PlugTally l.stages opened l.fn.works l.i l.values.items l.report.items found l.works;
    }
