use Rattle.std.proofs.Common.{◌∙◌, arith}
use Rattle.run_engine.proofs.Given.{released-back}
use Rattle.run_engine.proofs.preparing.prepare.Goals as goal

pub returns-in-Err-clause-settles : goal.returns-in-Err-clause-settles
returns-in-Err-clause-settles g c =
    let first = c.in_ok-works.ensures.lends in
    let back = c.release_works.ensures.settles in
    record {
      map = back.map ∙ first.map;
      later = (let a = first.later in let b = back.later in omega (arith, a, b));
      lent = λ others e. back.lent others (let a = first.lent in omega (arith, a, e));
    }

pub returns-in-Err-clause-back : goal.returns-in-Err-clause-back
returns-in-Err-clause-back g c = released-back g.P.PlugFilter g.Q.PlugTally c.args.stages.now c.args.places.now c.in_ok-works.works.items c.ready_works.new.places c.release_works.new.places
    (c.release_works.ensures.filters _ _) (c.release_works.ensures.tallies _ _) c.in_ok-works.ensures.out
