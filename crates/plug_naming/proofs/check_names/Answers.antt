use Rattle.std.proofs.Common.{arith}
use Rattle.plug_naming.proofs.Firsts.{first-fault}
use Rattle.plug_stages.specs.Handed.{handed_by}
use Rattle.plug_naming.proofs.check_names.Goals as goal

pub returns-in-Err-clause-fault : goal.returns-in-Err-clause-fault
returns-in-Err-clause-fault g c = first-fault (handed_by g.P.PlugFilter g.Q.PlugTally c.args.places.now) c.args.stages.now c.loop-number.number c.in-Err.error
    (let a = c.loop-number-test.true in omega (arith, a)) c.loop-number.invariant c.in-Err.ensures.fault
