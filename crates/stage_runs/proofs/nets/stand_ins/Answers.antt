use Rattle.std.proofs.Common.{sym, subst, arith}
use Rattle.stage_runs.specs.Parts.{AreStandIns}
use Rattle.stage_runs.proofs.Later.{none-stand-in, one-stands-in}
use Rattle.stage_runs.proofs.nets.stand_ins.Goals as goal

pub loop-place-init : goal.loop-place-init
loop-place-init g c = record {
  made = none-stand-in g.S.Source g.K.Sink g.P.PlugFilter g.Q.PlugTally c.in_ok-nodes.nodes.items c.in_ok-nodes.ensures.items;
  room = c.in_ok-nodes.ensures.capacity;
}

pub push_reserved-requires : goal.push_reserved-requires
push_reserved-requires g c =
    let ok = c.loop-place.nodes.ok in
    let made = c.loop-place.invariant.made.count in
    let room = c.loop-place.invariant.room in
    let less = c.loop-place-test.true in
    omega (arith, ok, made, room, less)

pub loop-place-preserved : goal.loop-place-preserved
loop-place-preserved g c = record {
  made = subst (AreStandIns g.S.Source g.K.Sink g.P.PlugFilter g.Q.PlugTally _) (sym c.push_reserved.ensures.items)
      (one-stands-in g.S.Source g.K.Sink g.P.PlugFilter g.Q.PlugTally c.loop-place._place c.loop-place.nodes.items c.stand_in.result c.loop-place.invariant.made c.stand_in.ensures.leaf c.stand_in.ensures.gives);
  room = (let a = c.loop-place.invariant.room in let b = c.push_reserved.ensures.capacity in omega (arith, a, b));
}

pub returns : goal.returns
returns g c =
    let end = c.loop-place.auto._place-end in
    let test = c.loop-place-test.false in
    subst (λ n. AreStandIns g.S.Source g.K.Sink g.P.PlugFilter g.Q.PlugTally n c.loop-place.nodes.items) (omega (arith, end, test)) c.loop-place.invariant.made
