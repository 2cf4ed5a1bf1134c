use Rattle.std.proofs.Common.{◌-◌, length, sym, subst}
use Rattle.stage_runs.specs.Parts.{IsExchanged, is_own}
use Rattle.stage_runs.proofs.Lending.{slice-back}
use Rattle.stage_runs.proofs.parts.lend.Goals as goal

pub returns : goal.returns
returns g c =
    let net = c.args.net.now.items in
    let exchanged = subst (λ xs. IsExchanged (is_own c.args.homes.now c.args.home (length xs - 1)) (length xs) c.args.nodes.now xs c.exchange.new.nodes c.exchange.new.net) c.as_mut_slice.ensures.value c.exchange.ensures in
    subst (IsExchanged (is_own c.args.homes.now c.args.home (length net - 1)) (length net) c.args.nodes.now net c.exchange.new.nodes)
    (sym (slice-back net c.exchange.new.net c.args.net.now.len exchanged.other_count c.args.net.now.ok.0)) exchanged
