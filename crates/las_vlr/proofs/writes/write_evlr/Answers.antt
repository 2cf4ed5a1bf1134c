use Rattle.std.proofs.Common.{sym}
use Rattle.las_vlr.proofs.Entries.{evlr_is}
use Rattle.las_vlr.proofs.writes.write_evlr.Goals as goal

pub returns-clause-is_entry : goal.returns-clause-is_entry
returns-clause-is_entry g c =
    λ rest. evlr_is c.args.vlr.now rest c.write_entry.ensures.sizes (rw (sym c.as_slice.ensures) (c.as_slice.type_inv.0))
