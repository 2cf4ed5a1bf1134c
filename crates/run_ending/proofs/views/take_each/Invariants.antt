use Rattle.std.proofs.Common.{◌≡◌, ◌≤◌, ◌++◌, ℕ, Some, None, length, drop, map}
use Rattle.std.specs.Prelude.{slice_get}
use Rattle.stage_kinds.specs.declared.stage_work.StageWork.{StageWork}
use Rattle.stage_kinds.specs.Held.{faults_of}
use Rattle.stage_kinds.specs.Stages.{keeps_of}
use Rattle.stage_forms.specs.Later.{AreLater}
use Rattle.run_ending.specs.Each.{AreInside, kept_from, shown_each}
use Rattle.run_ending.proofs.views.take_each.Given as goal

abbrev pub invariant-loop-i : goal.invariant-loop-i
invariant-loop-i g l = record {
  kept : map shown_each l.each.items ++ kept_from l.i (drop l.i l.fn.works.items) ≡ kept_from 0 l.fn.works.items;
  inside : AreInside (length l.fn.works.items) l.each.items;
  others : (k : ℕ) (w : StageWork _ _ _ _) → slice_get l.fn.works.items k ≡ Some w → keeps_of w ≡ None → slice_get l.works.items k ≡ Some w;
  later : AreLater g.P.PlugFilter g.Q.PlugTally (faults_of g.S.Source.faults g.K.Sink.faults) l.fn.works.items l.works.items;
  left : (k : ℕ) → l.i ≤ k → slice_get l.works.items k ≡ slice_get l.fn.works.items k;
}
