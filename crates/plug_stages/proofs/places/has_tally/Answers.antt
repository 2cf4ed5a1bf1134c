use Rattle.std.proofs.Common.{is_some, refl, ap, ◌∙◌}
use Rattle.plug_stages.specs.Handed.{tally_nature_at}
use Rattle.plug_stages.proofs.Placing.{is_found}
use Rattle.plug_stages.proofs.places.has_tally.Goals as goal

pub returns : goal.returns
returns g c = c.is_some.ensures ∙ ap is_some c.tally_place.ensures.first
    ∙ is_found (tally_nature_at g.Q.PlugTally) (λ k x. refl) c.args.name.now c.args.tallies.now.items
