use Rattle.pipeline_json.proofs.Judged.{all_are_read, first_fault_decides, each_is_judged}
use Rattle.pipeline_json.proofs.laws.stages_are_judged.Goals as goal

pub returns : goal.returns
returns c = record {
  all = all_are_read;
  first = first_fault_decides;
  each = each_is_judged;
}
