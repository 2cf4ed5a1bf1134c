use Rattle.pipeline_json.proofs.Judged.{piles_are_taken}
use Rattle.pipeline_json.proofs.laws.piles_are_taken.Goals as goal

pub returns : goal.returns
returns c = piles_are_taken
