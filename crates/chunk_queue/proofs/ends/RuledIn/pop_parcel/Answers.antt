use Rattle.chunk_queue.specs.Rule.{item_number, item_ends}
use Rattle.chunk_queue.proofs.Steps.{gets, looks-got}
use Rattle.chunk_queue.proofs.ends.RuledIn.pop_parcel.Goals as goal

pub pop_as-requires-clause-rule : goal.pop_as-requires-clause-rule
pop_as-requires-clause-rule g c = (gets item_number item_ends _ _ c.self.invariant.role, looks-got item_number item_ends _ _ c.self.invariant.role)
