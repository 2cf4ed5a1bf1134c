use Rattle.std.proofs.Common.{Bool, List, length, ap, subst, ◌∙◌, arith}
use Rattle.stage_parts.specs.Parts.{part_ins}
use Rattle.stage_runs.proofs.Later.{leaf-empty}
use Rattle.stage_runs.proofs.Owning.{own-count}
use Rattle.stage_runs.proofs.rooms.PartRoom.new.Goals as goal

pub returns-in-Ok : goal.returns-in-Ok
returns-in-Ok g c =
    let plan = c.args.plan.now in
    record {
      ins = c.in_ok-ins.ensures
          ∙ ap (λ gs. part_ins gs plan.ins c.as_slice-homes.result.now c.args.home c.args.root) c.as_slice-gathers.ensures.value
          ∙ ap (λ hs. part_ins plan.gathers.items plan.ins hs c.args.home c.args.root) c.as_slice-homes.ensures.value;
      net = c.in_ok-net.ensures;
      edges = subst (λ n. g.T.Scheduler.fits n c.args.sizes.queue c.in-Ok.edges)
          (ap (λ (own : List Bool). length own) (c.as_slice.ensures.value ∙ c.in_ok-own.ensures) ∙ own-count c.as_slice-homes.result.now c.args.home c.args.root) c.in-Ok.ensures;
    }

pub let_go-requires : goal.let_go-requires
let_go-requires g c = λ i n e. leaf-empty g.S.Source g.K.Sink g.P.PlugFilter g.Q.PlugTally n (c.in_ok-net.ensures.each i n e).0

pub edges-requires-clause-some : goal.edges-requires-clause-some
edges-requires-clause-some g c =
    let count = ap (λ (own : List Bool). length own) (c.as_slice.ensures.value ∙ c.in_ok-own.ensures) ∙ own-count c.as_slice-homes.result.now c.args.home c.args.root in
    omega (arith, count)

pub edges-requires-clause-few : goal.edges-requires-clause-few
edges-requires-clause-few g c =
    let count = ap (λ (own : List Bool). length own) (c.as_slice.ensures.value ∙ c.in_ok-own.ensures) ∙ own-count c.as_slice-homes.result.now c.args.home c.args.root in
    let inside = c.requires.root in let few = c.requires.few in omega (arith, count, inside, few)
