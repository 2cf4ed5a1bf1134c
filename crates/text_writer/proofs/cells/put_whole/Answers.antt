use Rattle.std.proofs.Common.{◌≤◌, ◌++◌, length, decimal, drop, arith, ap, sym, ◌∙◌}
use Rattle.decimal_coords.specs.Fixed.{fixed_text}
use Rattle.text_writer.proofs.Whole.{short_decimal, whole_is_decimal}
use Rattle.text_writer.proofs.cells.put_whole.Goals as goal

pub write_digits-requires : goal.write_digits-requires
write_digits-requires c =
    let short : length (decimal c.whole_of.result) ≤ 5 = short_decimal c.whole_of.result c.whole_of.type_inv in
    (omega (arith, short, c.requires.room), c.requires.within)

pub returns-clause-short : goal.returns-clause-short
returns-clause-short c =
    let short : length (decimal c.whole_of.result) ≤ 5 = short_decimal c.whole_of.result c.whole_of.type_inv in
    omega (arith, short, c.write_digits.ensures.start)

pub returns-clause-written : goal.returns-clause-written
returns-clause-written c = λ kind.
    c.write_digits.ensures.written
    ∙ ap (λ text. text ++ drop c.args.end c.args.line.now) (sym (ap (λ z. fixed_text z 0) (c.whole_of.ensures kind) ∙ whole_is_decimal c.whole_of.result))
