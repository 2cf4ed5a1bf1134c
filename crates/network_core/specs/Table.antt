-- What a node of the code does in a turn, by the table of turns.
use Rattle.std.specs.Prelude.{◌≡◌, ℕ, Bool, List}
use Rattle.cloud_points.specs.declared.point.Point.{Point}
use Rattle.cloud_points.specs.declared.item.Item as code
use Rattle.cloud_points.specs.declared.work.Work.{Ghosts}
use Rattle.cloud_points.specs.Bodies.{bodies}
use Rattle.cloud_points.specs.Marks.{Item}
use Rattle.network_theory.specs.Net as net
use Rattle.network_core.specs.declared.node.Node.{Node}
use Rattle.network_core.specs.declared.turned.Turned.{Turned}
use Rattle.network_core.specs.Shown.{shown, chosen, choice, left}

-- between the node and the items of the queues below and above it, before and after, stands the row of the table
abbrev pub IsRow : {W S : Type 0} (g : Ghosts W S) → Bool → ℕ → Node W → Node W → Turned
    → List code.Item → List code.Item → List code.Item → List code.Item → Type 0
IsRow g root cap old new t below above below' above' = (ins : List ℕ) → left (shown g ins new) (bodies below') (bodies above') t
    ≡ net.turn root cap (choice g old new) (shown g ins old) (bodies below) (bodies above)

-- the node is as it was, but that it took the item
abbrev pub HasTaken : {W S : Type 0} (g : Ghosts W S) → Node W → Node W → Item Point → Type 0
HasTaken g old new item = (ins : List ℕ) → shown g ins new ≡ net.taken (chosen g old new) (shown g ins old) item
