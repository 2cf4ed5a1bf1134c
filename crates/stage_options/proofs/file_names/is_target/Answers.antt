use Rattle.std.proofs.Common.{◌∙◌, ◌&&◌, ap, count_by, nat_le, not}
use Rattle.stage_options.specs.Values.{is_mark}
use Rattle.stage_options.proofs.file_names.is_target.Goals as goal

pub returns-then-not-is_part : goal.returns-then-not-is_part
returns-then-not-is_part c =
    ap (λ marks. nat_le marks 1) c.marks.ensures ∙ ap (λ part. not part && nat_le (count_by is_mark c.args.name.now) 1) c.if-not-is_part.ensures
