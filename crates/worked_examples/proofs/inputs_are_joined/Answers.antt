use Rattle.worked_examples.proofs.Parts.{twice_read, second_unread}
use Rattle.worked_examples.proofs.inputs_are_joined.Goals as goal

pub returns : goal.returns
returns c = record { one_file_twice = twice_read; second_absent = second_unread }
