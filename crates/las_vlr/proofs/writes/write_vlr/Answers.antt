use Rattle.std.proofs.Common.{arith}
use Rattle.las_vlr.proofs.Entries.{vlr_is}
use Rattle.las_vlr.proofs.writes.write_vlr.Goals as goal

pub returns-clause-is_entry : goal.returns-clause-is_entry
returns-clause-is_entry g c =
    λ points_at rest. vlr_is c.args.vlr.now points_at rest c.write_entry.ensures.sizes (omega (arith, c.requires))
