use Rattle.std.proofs.Common.{arith}
use Rattle.stage_meanings.specs.declared.reason.Reason.{Reason}
use Rattle.stage_meanings.proofs.Heads.{head_first, head_takes}
use Rattle.stage_meanings.proofs.laws.heads_are_first.Goals as goal

pub returns : goal.returns
returns c = record {
  passing = λ only n fits view. head_first only n (omega (arith, fits)) view;
  all = λ n fits view. head_takes Reason n (omega (arith, fits)) view;
}
