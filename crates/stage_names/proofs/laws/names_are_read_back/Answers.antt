use Rattle.stage_names.proofs.Named.{lead_back, are_own}
use Rattle.stage_names.proofs.laws.names_are_read_back.Goals as goal

pub returns : goal.returns
returns c = record {
  back = lead_back;
  own = are_own;
}
