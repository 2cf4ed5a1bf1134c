use Rattle.std.proofs.Common.{◌≡◌, ◌≤◌, ◌<◌, ℕ, Some}
use Rattle.std.specs.Prelude.{slice_get}
use Rattle.stage_kinds.specs.declared.stage_work.StageWork.{StageWork}
use Rattle.stage_kinds.specs.Held.{faults_of}
use Rattle.stage_forms.specs.Later.{AreLater}
use Rattle.run_ending.specs.Finished.{AreKept, IsFinished, OthersStay}
use Rattle.run_ending.proofs.finishing.finish.Given as goal

abbrev pub invariant-loop-i : goal.invariant-loop-i
invariant-loop-i g l = record {
  later : AreLater g.P.PlugFilter g.Q.PlugTally (faults_of g.S.Source.faults g.K.Sink.faults) l.fn.works.items l.works.items;
  kept : AreKept l.fn.works.items l.works.items;
  others : OthersStay l.fn.works.items l.works.items;
  finished : (x : ℕ) (v w : StageWork _ _ _ _) → x < l.i → slice_get l.fn.works.items x ≡ Some v → slice_get l.works.items x ≡ Some w → IsFinished g.K.Sink.bytes v w;
  calm : (x : ℕ) (v w : StageWork _ _ _ _) → x < l.i → slice_get l.fn.works.items x ≡ Some v → slice_get l.works.items x ≡ Some w → faults_of g.S.Source.faults g.K.Sink.faults w ≡ faults_of g.S.Source.faults g.K.Sink.faults v;
  left : (x : ℕ) → l.i ≤ x → slice_get l.works.items x ≡ slice_get l.fn.works.items x;
}
