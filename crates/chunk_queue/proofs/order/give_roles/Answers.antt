use Rattle.chunk_queue.specs.Rule.{item_number, item_ends}
use Rattle.chunk_queue.proofs.Steps.{splits}
use Rattle.chunk_queue.proofs.order.give_roles.Goals as goal

pub another-other-requires-clause-rule : goal.another-other-requires-clause-rule
another-other-requires-clause-rule g c = splits item_number item_ends _ _ _ c.requires.fresh
