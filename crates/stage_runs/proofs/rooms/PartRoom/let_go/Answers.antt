use Rattle.stage_runs.proofs.Later.{leaf-empty}
use Rattle.stage_runs.proofs.rooms.PartRoom.let_go.Goals as goal

pub let_go-requires : goal.let_go-requires
let_go-requires g c = λ i n e. leaf-empty g.S.Source g.K.Sink g.P.PlugFilter g.Q.PlugTally n (c.requires.3.net.each i n e).0
