use Rattle.std.proofs.Common.{refl, arith}
use Rattle.stage_runs.proofs.Owning.{one-owns, root-owns}
use Rattle.stage_runs.proofs.rooms.own_of.Goals as goal

pub loop-place-preserved : goal.loop-place-preserved
loop-place-preserved c =
    let now = c.loop-place.invariant in
    let pushed = c.push_reserved.ensures in
    record {
      made = one-owns c.args.homes.now c.args.home c.args.root c.loop-place.own.items c.push_reserved.new.self.items c.loop-place.place _ c.loop-place-test.true now.made refl pushed.items;
      count = (let a = pushed.len in let b = now.count in omega (arith, a, b));
      room = (let a = pushed.capacity in let b = now.room in omega (arith, a, b));
      inside = (let t = c.loop-place-test.true in omega (arith, t));
    }

pub returns : goal.returns
returns c =
    let end = c.loop-place.auto.place-end in
    let test = c.loop-place-test.false in
    root-owns c.args.homes.now c.args.home c.args.root c.loop-place.own.items c.push_reserved-2.new.self.items c.loop-place.place (omega (arith, end, test)) c.loop-place.invariant.made c.push_reserved-2.ensures.items
