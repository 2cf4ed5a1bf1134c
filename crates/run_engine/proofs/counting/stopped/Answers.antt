use Rattle.std.proofs.Common.{List, Option, ap, ◌∙◌}
use Rattle.cloud_points.specs.declared.faults.StageFault.{StageFault}
use Rattle.run_outcome.specs.Faults.{fault_at}
use Rattle.run_engine.proofs.Ran.{none-sound, some-unsound}
use Rattle.run_engine.proofs.counting.stopped.Goals as goal

pub returns-then-not-any_fault-clause-none : goal.returns-then-not-any_fault-clause-none
returns-then-not-any_fault-clause-none g c = λ found are i.
    ap (λ (fs : List (Option StageFault)). fault_at fs i) are ∙ none-sound c.args.nodes.now (c.any_fault.ensures.none c.if-not-any_fault.true) i

pub returns-clause-faulty : goal.returns-clause-faulty
returns-clause-faulty g c = λ sound.
    let found = c.any_fault.ensures.some c.if-not-any_fault.false in
    some-unsound c.args.nodes.now c.ended.result.faults.items c.ended.ensures.faults found.0 found.1 found.2 found.3 sound
