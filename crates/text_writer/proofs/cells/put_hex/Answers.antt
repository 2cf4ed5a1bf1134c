use Rattle.std.proofs.Common.{rules}
use Rattle.text_writer.proofs.Hex.{no_digits, digits_more}
use Rattle.text_writer.proofs.cells.put_hex.Goals as goal

pub loop-count-init : goal.loop-count-init
loop-count-init c = no_digits c.args.word c.args.end c.args.line.now

pub loop-count-preserved : goal.loop-count-preserved
loop-count-preserved c =
    digits_more c.args.word c.args.end c.loop-count.count c.loop-count.rest c.hex_digit.result c.args.line.now c.loop-count.line
    c.requires.room c.requires.within c.loop-count-test.true (search rules) c.loop-count.invariant
