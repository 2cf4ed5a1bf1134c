use Rattle.std.proofs.Common.{rules, ◌≡◌, ◌<◌, length, Some, sym, arith}
use Rattle.answer_model.proofs.Least.{least-at, least-nowhere}
use Rattle.run_outcome.specs.Faults.{fault_at}
use Rattle.run_outcome.specs.Outcomes.{point_fault}
use Rattle.run_outcome.proofs.judging.first_faulty.Goals as goal

pub returns-in-Some : goal.returns-in-Some
returns-in-Some c =
    let faults = c.args.faults.now in
    let i = c.loop-i.i in
    let inside : i < length faults = (let t = c.loop-i-test.true in omega (arith, t)) in
    let here : point_fault (fault_at faults i) ≡ Some c.in-Some.reason = search rules in
    sym (least-at (λ j. point_fault (fault_at faults j)) (length faults) i c.in-Some.reason inside here c.loop-i.invariant)

pub returns : goal.returns
returns c = sym (least-nowhere (λ j. point_fault (fault_at c.args.faults.now j)) (length c.args.faults.now) (λ j l. c.loop-i.invariant j (let t = c.loop-i-test.false in omega (arith, t, l))))
