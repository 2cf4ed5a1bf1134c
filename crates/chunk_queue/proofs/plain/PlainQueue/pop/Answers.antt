use Rattle.chunk_queue.proofs.plain.PlainQueue.pop.Goals as goal

pub body_of-requires : goal.body_of-requires
body_of-requires c = c.in_ok-tag.ensures.popped.2
