use Rattle.std.proofs.Common.{subst, sym}
use Rattle.answer_model.specs.Naming.{AreNamed, first_naming_fault}
use Rattle.plug_naming.specs.First.{IsFirstFault}
use Rattle.plug_stages.specs.Handed.{handed_by}
use Rattle.stage_options.specs.TreeShown.{specs_view}
use Rattle.lasline_top.specs.Answer.{runnable_in}
use Rattle.lasline_top.specs.Cause.{Never}
use Rattle.run_outcome.specs.Cause.{Because}
use Rattle.lasline_top.proofs.Runnable.{is-runnable, misnamed}
use Rattle.lasline_top.proofs.naming.runnable_stages.Goals as goal

pub returns-in-Ok-clause-ok : goal.returns-in-Ok-clause-ok
returns-in-Ok-clause-ok g c =
    let handed = handed_by g.P.PlugFilter g.Q.PlugTally c.args.places.now in
    is-runnable handed c.args.text.now (specs_view c.in_ok-tree.tree) c.in_ok-tree.ensures.ok
    (subst (AreNamed handed) c.as_slice.ensures.stages c.in-Ok.ensures.named)

pub returns-in-Err-clause-err : goal.returns-in-Err-clause-err
returns-in-Err-clause-err g c =
    let handed = handed_by g.P.PlugFilter g.Q.PlugTally c.args.places.now in
    subst (Because (runnable_in handed c.args.text.now) Never) (sym c.refusal_of.ensures)
    (misnamed handed c.args.text.now (specs_view c.in_ok-tree.tree) c.in_ok-tree.ensures.ok c.in-Err.e
    (subst (λ stages. IsFirstFault (first_naming_fault handed stages) c.in-Err.e) c.as_slice.ensures.stages c.in-Err.ensures.fault))
