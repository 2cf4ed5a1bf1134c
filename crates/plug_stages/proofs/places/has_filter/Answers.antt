use Rattle.std.proofs.Common.{is_some, refl, ap, ◌∙◌}
use Rattle.plug_stages.specs.Handed.{filter_nature}
use Rattle.plug_stages.proofs.Placing.{is_found}
use Rattle.plug_stages.proofs.places.has_filter.Goals as goal

pub returns : goal.returns
returns g c = c.is_some.ensures ∙ ap is_some c.filter_place.ensures.first
    ∙ is_found (filter_nature g.P.PlugFilter) (λ k x. refl) c.args.name.now c.args.filters.now.items
