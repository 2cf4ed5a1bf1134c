use Rattle.std.proofs.Common.{◌≡◌, ◌+◌, ◌++◌, take, drop, ap, sym, ◌∙◌, arith, append_assoc}
use Rattle.std.proofs.lemmas.List.{take-append-drop}
use Rattle.packed_chunk.specs.Rows.{cells, row, row_size, first_dims, middle_dims, late_dims, extra_dims}
use Rattle.packed_chunk.proofs.CellByCell.{earlier_cell, later_rest}
use Rattle.packed_chunk.proofs.packing.Packing.pack_at.Goals as goal

pub returns : goal.returns
returns c =
    let layout = c.args.self.now.layout in
    let p = c.args.p.now in
    let old = c.args.out.now in
    let first = take c.args.at old in
    let second = take c.put_first.new.at c.put_first.new.out in
    let third = take c.put_middle.new.at c.put_middle.new.out in
    let fourth = take c.put_late.new.at c.put_late.new.out in
    let last = take c.put_extra.new.at c.put_extra.new.out in
    let extras = cells layout p extra_dims in
    let lates = cells layout p late_dims ++ extras in
    let in_late = earlier_cell third (cells layout p late_dims) extras fourth last c.put_late.ensures.written c.put_extra.ensures.written in
    let in_middle = earlier_cell second (cells layout p middle_dims) lates third last c.put_middle.ensures.written in_late in
    let all = earlier_cell first (cells layout p first_dims) (cells layout p middle_dims ++ lates) second last c.put_first.ensures.written in_middle in
    let rest1 = later_rest c.put_first.new.at c.put_middle.new.at _ _ _ (omega (arith, c.put_middle.ensures.at)) c.put_first.ensures.rest c.put_middle.ensures.rest in
    let rest2 = later_rest c.put_middle.new.at c.put_late.new.at _ _ _ (omega (arith, c.put_late.ensures.at)) rest1 c.put_late.ensures.rest in
    let rest3 = later_rest c.put_late.new.at c.put_extra.new.at _ _ _ (omega (arith, c.put_extra.ensures.at)) rest2 c.put_extra.ensures.rest in
    let end : c.put_extra.new.at ≡ c.args.at + row_size layout = omega (arith, c.put_first.ensures.at, c.put_middle.ensures.at, c.put_late.ensures.at, c.put_extra.ensures.at) in
    sym (take-append-drop c.put_extra.new.at c.put_extra.new.out)
    ∙ (λ i. all i ++ (rest3 ∙ ap (λ n. drop n old) end) i)
    ∙ append_assoc first (row layout p) (drop (c.args.at + row_size layout) old)
