use Rattle.network_workers.specs.Rooms.{ends_at, place_of}
use Rattle.network_workers.proofs.Deals.{given-hands}
use Rattle.network_workers.proofs.hands.give_to.Goals as goal

pub returns-clause-given : goal.returns-clause-given
returns-clause-given g c =
    given-hands c.args.deals.now.items c.args.worker (place_of c.args.seat (ends_at c.args.inns.now.items c.args.children.now))
    c.index_mut.result.now c.give.new.deal c.requires.worker c.index_mut.ensures.value c.give.ensures.given
