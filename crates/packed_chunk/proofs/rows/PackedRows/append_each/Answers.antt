use Rattle.packed_chunk.proofs.rows.PackedRows.append_each.Goals as goal

pub append_rows-requires : goal.append_rows-requires
append_rows-requires c = c.is_alike.ensures c.if-is_alike.true

pub returns-then-is_alike-clause-ok : goal.returns-then-is_alike-clause-ok
returns-then-is_alike-clause-ok c = c.append_rows.ensures.ok

pub returns-then-is_alike-clause-refused : goal.returns-then-is_alike-clause-refused
returns-then-is_alike-clause-refused c = c.append_rows.ensures.refused

pub returns-clause-ok : goal.returns-clause-ok
returns-clause-ok c = c.append_points.ensures.ok

pub returns-clause-refused : goal.returns-clause-refused
returns-clause-refused c = c.append_points.ensures.refused
