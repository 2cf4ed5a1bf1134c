use Rattle.std.proofs.Common.{true, false}
use Rattle.packed_chunk.proofs.Widths.{groups_width}
use Rattle.packed_chunk.proofs.laws.widths_of_formats.Goals as goal

pub returns-clause-format_0 : goal.returns-clause-format_0
returns-clause-format_0 c = groups_width false false false false c.args.layout.now

pub returns-clause-format_3 : goal.returns-clause-format_3
returns-clause-format_3 c = groups_width false true true false c.args.layout.now

pub returns-clause-format_6 : goal.returns-clause-format_6
returns-clause-format_6 c = groups_width true true false false c.args.layout.now

pub returns-clause-format_8 : goal.returns-clause-format_8
returns-clause-format_8 c = groups_width true true true true c.args.layout.now
