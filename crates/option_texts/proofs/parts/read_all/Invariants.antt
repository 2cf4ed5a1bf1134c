use Rattle.std.proofs.Common.{length}
use Rattle.option_texts.proofs.Reading.{Read}
use Rattle.option_texts.proofs.parts.read_all.Given as goal

abbrev pub invariant-loop-part : goal.invariant-loop-part
invariant-loop-part g l = Read g.P.ListPart.read l.text l.list.items l.rest

abbrev pub decreases-loop-part : goal.decreases-loop-part
decreases-loop-part g l = length l.rest
