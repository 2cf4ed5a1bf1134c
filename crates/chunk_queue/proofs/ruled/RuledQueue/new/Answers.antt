use Rattle.chunk_queue.specs.Rule.{item_number, item_ends}
use Rattle.chunk_queue.proofs.Steps.{begins}
use Rattle.chunk_queue.proofs.ruled.RuledQueue.new.Goals as goal

pub ruled-requires-clause-rule : goal.ruled-requires-clause-rule
ruled-requires-clause-rule c = begins item_number item_ends
