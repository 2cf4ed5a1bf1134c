use Rattle.std.proofs.Common.{codes}
use Rattle.std.proofs.lemmas.Str.Pattern.{ends_text}
use Rattle.stage_options.proofs.file_names.is_part.Goals as goal

pub returns : goal.returns
returns c = ends_text c.ends_with.result (codes ".lasline-part") c.args.name.now c.ends_with.ensures.cases
