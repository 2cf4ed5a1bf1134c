use Rattle.std.proofs.Common.{refl, sym}
use Rattle.plug_stages.specs.Handed.{filter_nature}
use Rattle.plug_stages.proofs.Placing.{first_holds, none_found}
use Rattle.plug_stages.proofs.places.take_filter.Goals as goal

pub returns-in_err-at-clause-none : goal.returns-in_err-at-clause-none
returns-in_err-at-clause-none g c = λ none. (
  refl,
  none_found (filter_nature g.P.PlugFilter) (λ k x. refl) c.args.name.now c.args.filters.now.items (sym c.in_err-at.ensures.first),
)

pub returns-clause-taken : goal.returns-clause-taken
returns-clause-taken g c = record {
  there = c.take_out.ensures.taken;
  named = first_holds (filter_nature g.P.PlugFilter) (λ k x. refl) c.args.name.now c.args.filters.now.items c.in_ok-at.at c.take_out.result
      (sym c.in_ok-at.ensures.first) c.take_out.ensures.taken;
  left = c.take_out.ensures.left;
}
