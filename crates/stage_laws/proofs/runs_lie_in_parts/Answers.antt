use Rattle.stage_laws.proofs.Runs.{run-home, end-taker, end-last}
use Rattle.stage_laws.proofs.runs_lie_in_parts.Goals as goal

pub returns : goal.returns
returns c = record {
  runs = λ stages homes e a i tree are run h. run-home stages tree e a run homes are i h;
  whole = λ stages e a w tree run t. end-taker stages tree e a run w t;
  last = λ stages e a tree run t. end-last stages tree e a run t;
}
