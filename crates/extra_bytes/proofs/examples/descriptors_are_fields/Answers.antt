use Rattle.extra_bytes.proofs.Computed.{whole, short, stepped_over}
use Rattle.extra_bytes.proofs.examples.descriptors_are_fields.Goals as goal

pub returns : goal.returns
returns c = record { whole = whole; short = short; stepped_over = stepped_over }
