use Rattle.std.proofs.Common.{length, ap, sym, ◌∙◌, subst, ◌-◌, ◌^◌}
use Rattle.std.specs.Prelude.{◌||◌, ◌&&◌, ◌==◌, nat_lt}
use Rattle.cloud_points.specs.Queue.{up_to_limit}
use Rattle.cloud_points.specs.declared.item.Item.{Item}
use Rattle.chunk_queue.specs.declared.known.Known.{Known}
use Rattle.chunk_queue.specs.Rule.{item_number, item_ends}
use Rattle.chunk_queue.specs.Known.{HeldByBoth}
use Rattle.chunk_queue.specs.Ends.{InSeen, OutSeen, are_counts_equal, knows}
use Rattle.chunk_queue.proofs.Steps.{merges}
use Rattle.chunk_queue.proofs.Settled.{settled}
use Rattle.chunk_queue.proofs.ruled.RuledQueue.settle.Goals as goal

pub absorb-requires-clause-rule : goal.absorb-requires-clause-rule
absorb-requires-clause-rule c = merges item_number item_ends _ _ _ _ c.inn.invariant.role c.out.invariant.role

pub returns-clause-whole : goal.returns-clause-whole
returns-clause-whole c r =
    let know = c.learn_as.ensures.rule in
    let ok = subst (λ (v : Known Item). HeldByBoth item_number item_ends v know.0) c.absorb.ensures.rule know.1 in
    let got = (knows c.inn.inside.pass).got in
    let counts = c.are_exact.ensures
    ∙ ap (λ n. (n == c.out.inside.count) && nat_lt c.out.inside.count (2 ^ 64 - 1)) c.inn.invariant.count
    ∙ ap (λ n. (up_to_limit (length got) == n) && nat_lt n (2 ^ 64 - 1)) c.out.invariant.count in
    let exact = ap (λ x. c.inn.inside.ended || x) counts ∙ ap (λ e. e || are_counts_equal got (knows c.out.inside.pass).sent) c.inn.invariant.end in
    sym (ap (λ (i : InSeen). i.got) c.inn.view_is) ∙ settled _ _ know.0 _ ok (sym exact ∙ r) ∙ ap (λ (o : OutSeen). o.sent) c.out.view_is
