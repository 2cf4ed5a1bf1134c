use Rattle.std.proofs.Common.{◌≡◌, ◌+◌, ◌<◌, ◌∷◌, ◌++◌, length, drop, ap, ◌∙◌, sym, arith, rules, append_assoc}
use Rattle.std.specs.List.{flat_map}
use Rattle.text_writer.specs.Cells.{cell}
use Rattle.text_writer.specs.TextOutput.{joined}
use Rattle.text_writer.proofs.Headings.{end_of_line, no_columns, first_left_out}
use Rattle.text_writer.proofs.lines.put_line.Goals as goal

pub returns-then-is_empty-clause-written : goal.returns-then-is_empty-clause-written
returns-then-is_empty-clause-written c =
    let f = c.args.form.now in
    let p = c.args.point.now in
    let none : length f.columns ≡ 0 = search rules in
    c.put_fields-at.ensures.written
    ∙ ap (λ ys. flat_map (λ k. f.delimiter ++ cell p k) f.columns ++ ys) (end_of_line c.args.line.now c.args.end (omega (arith, c.requires.room)) c.requires.within)
    ∙ ap (λ ys. ys ++ 10 ∷ drop c.args.end c.args.line.now) (no_columns f.delimiter (cell p) f.columns none)
    ∙ sym (simp append_assoc)

pub returns-clause-start : goal.returns-clause-start
returns-clause-start c =
    let f = c.args.form.now in
    let some : 0 < length f.columns = search rules in
    let size : length c.as_str.result.now ≡ length f.delimiter = search rules in
    omega (arith, c.put_fields-at.ensures.first some, c.requires.room, size)

pub returns-clause-written : goal.returns-clause-written
returns-clause-written c =
    let f = c.args.form.now in
    let p = c.args.point.now in
    let some : 0 < length f.columns = search rules in
    let size : length c.as_str.result.now ≡ length f.delimiter = search rules in
    ap (λ n. drop (c.put_fields-at.result + n) c.put_fields-at.new.line) size
    ∙ first_left_out f.delimiter (cell p) f.columns c.put_fields-at.result c.put_fields-at.new.line _ some c.put_fields-at.ensures.written
    ∙ ap (λ ys. joined f.delimiter (cell p) f.columns ++ ys) (end_of_line c.args.line.now c.args.end (omega (arith, c.requires.room)) c.requires.within)
    ∙ sym (simp append_assoc)
