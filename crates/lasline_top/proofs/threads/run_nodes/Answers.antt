use denote.Param.{param}
use denote.Param.Send.{sendable}
use Rattle.lasline_top.proofs.Crossing.{work-send}
use Rattle.lasline_top.proofs.threads.run_nodes.Goals as goal

pub run_tree_by-requires-send-W : goal.run_tree_by-requires-send-W
run_tree_by-requires-send-W g c κs lives =
    let w = work-send (param 0 g.row.S) (param 1 g.row.O) (param 2 g.row.P) (param 3 g.row.Q) g.O.Sink c.type_bounds.send-S c.type_bounds.send-O c.type_bounds.send-P c.type_bounds.send-Q in
    search sendable
