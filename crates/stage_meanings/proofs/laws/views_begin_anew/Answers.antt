use Rattle.stage_meanings.proofs.ByView.{rule_streams}
use Rattle.stage_meanings.proofs.laws.views_begin_anew.Goals as goal

pub returns : goal.returns
returns c = record {
  fault = λ rule only. (rule_streams rule only).fault;
  gives = λ rule only. (rule_streams rule only).gives;
  anew = λ rule only. (rule_streams rule only).anew;
}
