use Rattle.std.proofs.Common.{◌∙◌, arith}
use Rattle.file_devices.proofs.Filling.{beginning_more, ends_at, passes}
use Rattle.file_devices.proofs.whole.read_whole.Goals as goal

pub returns-then-len-start-clause-ok : goal.returns-then-len-start-clause-ok
returns-then-len-start-clause-ok g c = λ b e.
    let was = c.loop-bytes.invariant in
    ends_at _ _ _ _ _ _ c.args.limit c.min-most.result c.loop-bytes.bytes.items c.read_more.new.bytes.items b was e (omega arith) (omega arith) (omega arith) (c.in_ok-read_more.ensures.items b (was.same ∙ e))

pub returns-then-len-start-clause-no_further : goal.returns-then-len-start-clause-no_further
returns-then-len-start-clause-no_further g c = omega (arith, c.in_ok-read_more.ensures.no_further, c.in_ok-read_more.ensures.no_less, c.loop-bytes.invariant.got)

pub loop-bytes-preserved : goal.loop-bytes-preserved
loop-bytes-preserved g c =
    let read = c.in_ok-read_more.ensures in
    beginning_more _ _ _ _ _ _ _ _ _ c.args.limit c.min-most.result c.loop-bytes.bytes.items c.read_more.new.bytes.items c.loop-bytes.invariant (omega arith) (omega arith) read.same read.later (omega (arith, read.no_further)) (omega (arith, read.within)) read.items

pub returns-clause-ok : goal.returns-clause-ok
returns-clause-ok g c = λ b e. passes _ _ _ _ _ _ c.args.limit c.loop-bytes.bytes.items b c.loop-bytes.invariant e (omega arith)
