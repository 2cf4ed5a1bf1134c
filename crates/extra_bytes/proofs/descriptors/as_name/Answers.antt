use Rattle.extra_bytes.proofs.Named.{no_name}
use Rattle.extra_bytes.proofs.descriptors.as_name.Goals as goal

pub returns-in-Err : goal.returns-in-Err
returns-in-Err c = no_name c.args.bytes.now c.in-Err.ensures.cases.0
