use Rattle.std.proofs.Common.{take, ap, sym, ◌∙◌}
use Rattle.packed_chunk.specs.Held.{Held}
use Rattle.packed_chunk.proofs.Behind.{where_done, where_refused}
use Rattle.packed_chunk.proofs.rows.PackedRows.push_all.Goals as goal

pub returns-then-is_err-clause-refused : goal.returns-then-is_err-clause-refused
returns-then-is_err-clause-refused c =
    ap (λ (h : Held). h.points) c.truncate.ensures ∙ ap (λ n. take n c.push_each.new.self.points) c.len-before.ensures
    ∙ where_refused c.push_each.result (sym c.if-is_err.ensures.value) c.push_each.ensures.refused

pub returns-clause-ok : goal.returns-clause-ok
returns-clause-ok c = where_done c.push_each.result (sym c.if-is_err.ensures.value) c.push_each.ensures.ok
