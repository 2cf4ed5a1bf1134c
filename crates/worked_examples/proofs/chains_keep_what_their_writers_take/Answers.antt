use Rattle.worked_examples.proofs.Parts.{reader_reads, both_write}
use Rattle.worked_examples.proofs.chains_keep_what_their_writers_take.Goals as goal

pub returns : goal.returns
returns c = record { reader_alone = reader_reads; writer_between = both_write }
