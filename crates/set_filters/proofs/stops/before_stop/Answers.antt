use Rattle.std.proofs.Common.{sym, ap, ◌∙◌, subst, IfSome}
use Rattle.std.specs.Option.{option_map}
use Rattle.stage_meanings.specs.Filters.{before_stop}
use Rattle.set_filters.specs.Stops.{numbered, IsIn}
use Rattle.set_filters.proofs.Parts.{before_point}
use Rattle.set_filters.proofs.stops.before_stop.Goals as goal

pub returns-in-Some-clause-part : goal.returns-in-Some-clause-part
returns-in-Some-clause-part c =
    let flow = c.args.views.now in
    let there : IsIn flow c.in-Some.stop = subst (λ o. IfSome o (IsIn flow)) c.in-Some.is c.requires in
    before_point flow c.in-Some.stop.view c.in-Some.stop.place there.view there.place
    ∙ ap (λ o. before_stop (option_map (numbered flow) o) flow) (sym c.in-Some.is)
