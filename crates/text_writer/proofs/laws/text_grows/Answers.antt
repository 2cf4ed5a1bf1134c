use Rattle.text_writer.proofs.Held.{text-append}
use Rattle.text_writer.proofs.laws.text_grows.Goals as goal

pub returns : goal.returns
returns c = text-append
