use Rattle.text_writer.proofs.Held.{held_bytes, held_grow}
use Rattle.text_writer.proofs.laws.held_text_grows.Goals as goal

pub returns-clause-text : goal.returns-clause-text
returns-clause-text c = held_bytes

pub returns-clause-grows : goal.returns-clause-grows
returns-clause-grows c = held_grow
