use Rattle.std.specs.Fmt.{digits}
use Rattle.answer_model.specs.Forms.{text_form}
use Rattle.answer_model.specs.Values.{evaluated}
use Rattle.worked_examples.proofs.Parts.{read_whole, two_read, older_read, longer_read, far_read, none_read}
use Rattle.worked_examples.proofs.whole_files_become_text.Goals as goal

pub returns : goal.returns
unfolding digits text_form evaluated
returns c = record { two_points = read_whole _ two_read; older_version = read_whole _ older_read; longer_records = read_whole _ longer_read; far_point = read_whole _ far_read; no_points = read_whole _ none_read }
