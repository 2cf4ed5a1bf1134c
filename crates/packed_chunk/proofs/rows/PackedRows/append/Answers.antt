use Rattle.std.proofs.Common.{◌++◌, take, ap, sym, ◌∙◌}
use Rattle.packed_chunk.specs.Held.{Held}
use Rattle.packed_chunk.proofs.Behind.{none_of, where_done, where_refused}
use Rattle.packed_chunk.proofs.rows.PackedRows.append.Goals as goal

pub returns-then-len-eq0-clause-ok : goal.returns-then-len-eq0-clause-ok
returns-then-len-eq0-clause-ok c =
    let none = none_of c.args.self.now.points (sym c.len-len.ensures ∙ c.if-len-eq0.true) in
    ap (λ l. l ++ c.args.later.points) (sym none)

pub returns-then-is_err-clause-refused : goal.returns-then-is_err-clause-refused
returns-then-is_err-clause-refused c =
    ap (λ (h : Held). h.points) c.truncate.ensures ∙ ap (λ n. take n c.append_each.new.self.points) c.len-len.ensures
    ∙ where_refused c.append_each.result (sym c.if-is_err.ensures.value) c.append_each.ensures.refused

pub returns-clause-ok : goal.returns-clause-ok
returns-clause-ok c = where_done c.append_each.result (sym c.if-is_err.ensures.value) c.append_each.ensures.ok
