use Rattle.stage_meanings.proofs.FiltersStream.{filters_give, filters_fault}
use Rattle.stage_meanings.proofs.laws.filters_stream.Goals as goal

pub returns : goal.returns
returns c = record {
  gives = filters_give;
  faults = filters_fault;
}
