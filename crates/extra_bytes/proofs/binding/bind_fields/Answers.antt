use Rattle.extra_bytes.proofs.Offered.{bound_ends, bound_own, bound_places}
use Rattle.extra_bytes.proofs.binding.bind_fields.Goals as goal

pub returns-clause-places : goal.returns-clause-places
returns-clause-places c =
    bound_places c.bind_each.result c.args.i c.args.names.now c.args.found.now c.known_names.ensures.few c.bind_each.ensures.ok c.bind_each.ensures.none

pub returns-clause-within : goal.returns-clause-within
returns-clause-within c = λ size so. bound_ends c.bind_each.result size c.args.names.now c.args.found.now c.bind_each.ensures.ok so

pub returns-clause-own : goal.returns-clause-own
returns-clause-own c = λ own new. bound_own c.bind_each.result c.args.names.now c.bind_each.new.names c.args.found.now c.bind_each.ensures.names own new
