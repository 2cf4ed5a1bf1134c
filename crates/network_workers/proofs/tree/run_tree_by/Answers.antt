use Rattle.std.proofs.Common.{◌-◌, subst, rules}
use Rattle.network_workers.specs.Dealt.{AreOpened}
use Rattle.network_workers.specs.Gathered.{IsStart}
use Rattle.network_workers.specs.RoomParts.{outs_of, inns_of}
use Rattle.network_workers.proofs.tree.run_tree_by.Goals as goal

pub run_opened-requires : goal.run_opened-requires
run_opened-requires g c κs within =
    let tree : IsStart g.W.Work c.args.ins (record { nodes = c.args.nodes; outs = outs_of c.args.room; inns = inns_of c.args.room }) = record {
      some = c.requires.some;
      fresh = c.requires.fresh;
      forest = c.requires.forest;
      opened = subst (λ n. AreOpened (n - 1) (outs_of c.args.room) (inns_of c.args.room)) c.requires.room c.args.room.sound.ends.opened;
    } in
    search rules
