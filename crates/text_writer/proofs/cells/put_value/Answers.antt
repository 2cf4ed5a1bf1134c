use Rattle.std.proofs.Common.{◌++◌, drop, ap, ◌∙◌, w64}
use Rattle.std.proofs.lemmas.Int.{to_z-of_z}
use Rattle.std.proofs.lemmas.List.Folds.{drop_split}
use Rattle.decimal_coords.specs.Fixed.{fixed_text}
use Rattle.text_writer.proofs.cells.put_value.Goals as goal

pub returns-clause-written : goal.returns-clause-written
returns-clause-written c =
    drop_split c.put_fixed.new.line c.put_fixed.result c.args.end c.put_fixed.ensures.start
    ∙ ap (λ xs. xs ++ drop c.args.end c.put_fixed.new.line) (rw (to_z-of_z w64 c.args.nano c.ranges.nano) at c.put_fixed.ensures.written)
    ∙ ap (λ ys. fixed_text c.args.nano c.args.places ++ ys) c.put_fixed.ensures.after
