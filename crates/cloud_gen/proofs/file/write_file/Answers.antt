use Rattle.cloud_gen.proofs.Chunks.{form_is_taken}
use Rattle.cloud_gen.proofs.file.write_file.Goals as goal

pub begin_file-requires : goal.begin_file-requires
begin_file-requires g c = form_is_taken c.args.form c.requires.form
