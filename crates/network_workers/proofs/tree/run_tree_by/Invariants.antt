use Rattle.network_workers.specs.RoomParts.{outs_of, inns_of}
use Rattle.network_workers.proofs.tree.run_tree_by.Given as goal

abbrev pub ghost-run_opened : goal.ghost-run_opened
ghost-run_opened g a = record { start = record { nodes = a.nodes; outs = outs_of a.room; inns = inns_of a.room }; stop = a.stop }
