-- What a crew may be asked to run, and what comes of it.
use Rattle.std.specs.Prelude.{◌≡◌, ℕ, ◌-◌, ◌<◌, ◌≤◌, List, length}
use Rattle.cloud_points.specs.declared.work.Work.{Ghosts}
use Rattle.network_theory.specs.Forest.{IsForest}
use Rattle.network_core.specs.declared.node.Node.{Node}
use Rattle.network_core.specs.declared.stop.Stop.{Stop}
use Rattle.network_core.specs.declared.stop.Stop.TheVariants.{First}
use Rattle.network_solo.specs.Stopping.{CameToEnd, IsStoppedTree}
use Rattle.network_solo.specs.Trees.{AreFresh, IsRanTree}
use Rattle.network_workers.specs.declared.rooms.WorkerRoom.{WorkerRoom}
use Rattle.network_workers.specs.Gathered.{AreCarried, AreSettled}
use Rattle.network_workers.specs.RoomParts.{nodes_in}

-- a tree of new nodes, 1 to 64, with the memory for as many
pub record MayRun {W S : Type 0} (g : Ghosts W S) (nodes : List (Node W)) (ins : List (List ℕ)) (room : WorkerRoom W) : Type 0 where
  pub some : 0 < length nodes
  pub few : length nodes ≤ 64
  pub fresh : AreFresh g ins nodes
  pub forest : IsForest ins (length nodes - 1)
  pub room_fits : nodes_in room ≡ length nodes

-- each node carried what it took of its children. Where turns came to the end all end as on one thread; where they end at the first
-- fault, each fault of a node is one that was to come
pub record HasRun {W S : Type 0} (g : Ghosts W S) (stop : Stop) (nodes : List (Node W)) (ins : List (List ℕ)) (result : List (Node W)) : Type 0 where
  pub carried : AreCarried g ins nodes result
  pub ran : CameToEnd g stop result → IsRanTree g ins nodes result
  pub settled : CameToEnd g stop result → AreSettled g ins nodes result
  pub stopped : stop ≡ First → IsStoppedTree g ins nodes result

-- a call may be made of all that a crew may be asked to run, and what it gives has come of that
abbrev pub Runs : {W S : Type 0} (g : Ghosts W S) → Stop → (List (Node W) → List (List ℕ) → WorkerRoom W → Type 0)
    → (List (Node W) → List (List ℕ) → WorkerRoom W → List (Node W) → Type 0) → Type 0
Runs {W} g stop may gives = ((nodes : List (Node W)) (ins : List (List ℕ)) (room : WorkerRoom W) → MayRun g nodes ins room → may nodes ins room)
    × ((nodes : List (Node W)) (ins : List (List ℕ)) (room : WorkerRoom W) (result : List (Node W)) → gives nodes ins room result → HasRun g stop nodes ins result)
