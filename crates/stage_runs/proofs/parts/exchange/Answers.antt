use Rattle.std.proofs.Common.{◌≡◌, ◌-◌, ◌+◌, true, length, subst, sym, arith}
use Rattle.stage_runs.specs.Parts.{IsExchanged, is_own}
use Rattle.stage_runs.proofs.Exchanged.{swapped, other-more, at-root, at-home, at-neither}
use Rattle.stage_runs.proofs.parts.exchange.Goals as goal
use Rattle.stage_runs.proofs.parts.exchange.Goals.{then-k-count, then-k-count-via-then-k-count, then-k-count-via-else-k-count+then-homes-k, else-k-count+else-homes-k}

pub loop-k-preserved : goal.loop-k-preserved
loop-k-preserved g c =
    let homes = c.args.homes.now in
    let home = c.args.home in
    let count = length c.args.net.now in
    let picked = is_own homes home (count - 1) in
    let now = c.loop-k.invariant in
    let less = c.loop-k-test.true in
    let one = now.one_count in
    let other = now.other_count in
    let net = c.requires.net in
    elim c.if-k-count.branch [
      | then-k-count w ↦
          let swap = λ (p : picked c.loop-k.k ≡ true). swapped picked c.args.nodes.now c.args.net.now c.loop-k.k c.loop-k.nodes c.loop-k.net now w.index-nodes-k.result w.index-net-k.result w.swap.new.x w.swap.new.y
          c.if-k-count.nodes c.if-k-count.net p (omega (arith, less, one, net)) (omega (arith, less, other)) w.index-nodes-k.is w.index-net-k.is w.swap.ensures.x_after w.swap.ensures.y_after w.nodes-is w.net-is in
          elim w.then-k-count.branch [
            | then-k-count-via-then-k-count v ↦ swap (at-root homes home count c.loop-k.k v.if-k-count.true)
            | then-k-count-via-else-k-count+then-homes-k v ↦ swap (at-home homes home (count - 1) c.loop-k.k v.if-homes-k.true)
          ]
      | else-k-count+else-homes-k w ↦
          subst (λ xs. IsExchanged picked (c.loop-k.k + 1) c.args.nodes.now c.args.net.now xs c.if-k-count.net) (sym w.nodes-is)
          (subst (λ ys. IsExchanged picked (c.loop-k.k + 1) c.args.nodes.now c.args.net.now c.loop-k.nodes ys) (sym w.net-is)
          (other-more picked c.args.nodes.now c.args.net.now c.loop-k.k c.loop-k.nodes c.loop-k.net now (at-neither homes home count c.loop-k.k (omega (arith, less)) w.if-k-count.false w.if-homes-k.false)))
    ]
