use Rattle.std.proofs.Common.{refl, ap, ◌∙◌, ◌++◌, arith}
use Rattle.std.specs.Int.{w64, to_le_bytes}
use Rattle.byte_numbers.proofs.Putting.{putting_none, putting_more, putting_all}
use Rattle.byte_numbers.proofs.appending.put_u64s.Goals as goal

pub loop-number-init : goal.loop-number-init
loop-number-init g c = putting_none (to_le_bytes w64) 8 c.args.numbers.now c.args.part.now.items

pub put-requires : goal.put-requires
put-requires g c = omega (arith, c.loop-number.invariant.len)

pub loop-number-preserved : goal.loop-number-preserved
loop-number-preserved g c =
    putting_more (to_le_bytes w64) 8 c.args.numbers.now c.loop-number.number-index 0 c.args.part.now.items c.loop-number.part.items c.put.new.part.items
    c.loop-number-test.true refl (c.put.ensures.items ∙ ap (λ l. c.loop-number.part.items ++ l) c.to_le_bytes.ensures) c.loop-number.invariant

pub returns-clause-items : goal.returns-clause-items
returns-clause-items g c = putting_all (to_le_bytes w64) 8 c.args.numbers.now c.loop-number.number-index c.args.part.now.items c.loop-number.part.items (omega arith) (omega arith) c.loop-number.invariant

pub returns-clause-len : goal.returns-clause-len
returns-clause-len g c = omega (arith, c.loop-number.invariant.len)
