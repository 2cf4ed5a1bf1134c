use Rattle.extra_bytes.proofs.Computed.{high, low, high_written, low_written, refused, descriptor}
use Rattle.extra_bytes.proofs.examples.values_are_bytes.Goals as goal

pub returns : goal.returns
returns c = record { high = high; low = low; high_tenths = high_written; low_tenths = low_written; refused = refused; descriptor = descriptor }
