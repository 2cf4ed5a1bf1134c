use Rattle.std.proofs.Common.{arith}
use Rattle.std.proofs.lemmas.Str.Pattern.{split_once_first}
use Rattle.stage_typing.proofs.Alike.{parts_are}
use Rattle.stage_typing.proofs.meeting.parts_of.Goals as goal

pub returns : goal.returns
returns c = parts_are c.args.name.now c.split_once.result (split_once_first 35 c.args.name.now c.split_once.result c.split_once.ensures.cases (omega arith))
