use Rattle.run_engine.proofs.Counted.{anyhow, premised}
use Rattle.run_engine.proofs.counting.halted.Goals as goal

pub returns-in-Fault-clause-fault : goal.returns-in-Fault-clause-fault
returns-in-Fault-clause-fault g c = anyhow c.stopped.result _ c.in-Fault.is

pub returns-in-Fault-clause-none : goal.returns-in-Fault-clause-none
returns-in-Fault-clause-none g c = premised c.stopped.result _ _ c.stopped.ensures.none
