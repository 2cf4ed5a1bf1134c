-- The memory in which the stages of a tree take turns.
use Rattle.std.specs.Prelude.{◌≡◌, ℕ, ◌+◌, ◌-◌, Bool, true, false, List, length, map, Option, Some, None, ⊤}
use Rattle.std.specs.List.{range_with_len}
use Rattle.file_devices.specs.declared.devices.Source as source
use Rattle.file_devices.specs.declared.devices.Sink as sink
use Rattle.stage_options.specs.declared.stage.StageSpec.{StageSpec}
use Rattle.stage_parts.specs.Parts.{AreHomes, gathers_at, part_ins}
use Rattle.stage_runs.specs.declared.plan.Plan.{Plan}
use Rattle.stage_runs.specs.declared.rooms.PartRoom.{PartRoom}
use Rattle.stage_runs.specs.declared.rooms.StageRoom.{StageRoom}
use Rattle.stage_runs.specs.Works.{ins_of}
use Rattle.stage_runs.specs.Parts.{gathers_of, is_own, AreStandIns}
use Rattle.plug_stages.specs.declared.filter.PlugFilter as plug_type
use Rattle.plug_stages.specs.declared.tally.PlugTally as tally_type

-- the children of the nodes of a part, as it is planned
abbrev pub part_of : Plan → ℕ → ℕ → List (List ℕ)
part_of plan home root = part_ins plan.gathers.items plan.ins plan.homes.items home root

-- whether each node of a part with this root is one of its own, as `is_own` says; the others stand in for nodes of other parts
abbrev pub own_of : List ℕ → ℕ → ℕ → List Bool
own_of homes home root = map (is_own homes home root) (range_with_len 0 (root + 1))

-- what fits so many nodes, over queues of this capacity
module _ {S K P Q E : Type 0} (s : source.Ghosts S) (k : sink.Ghosts K) (fs : plug_type.Ghosts P) (ts : tally_type.Ghosts Q) (fits : ℕ → ℕ → E → Type 0) where
  -- the memory of a part with this root: the children of its nodes, leaves that give nothing in the places of all, and what lies between
  -- them
  pub record IsRoom (part : List (List ℕ)) (root queue : ℕ) (room : PartRoom S K P Q E) : Type 0 where
    pub ins : room.ins ≡ part
    pub net : AreStandIns s k fs ts (root + 1) room.net.items
    pub edges : fits (root + 1) queue room.edges

  -- the last part has its memory, unless its root needs whole views
  abbrev pub IsLastRoom : List (List ℕ) → ℕ → ℕ → Bool → Option (PartRoom S K P Q E) → Type 0
  IsLastRoom part root queue true None = ⊤
  IsLastRoom part root queue false (Some room) = IsRoom part root queue room
  IsLastRoom part root queue _ _ = ⊥

  -- the memory of the stages of a tree: how they fall into parts, and that of the last one
  pub record IsStageRoom (stages : List StageSpec) (room : StageRoom S K P Q E) : Type 0 where
    pub ins : room.plan.ins ≡ ins_of stages
    pub gathers : room.plan.gathers.items ≡ gathers_of stages
    pub homes : AreHomes (gathers_of stages) (ins_of stages) room.plan.homes.items
    pub last : IsLastRoom (part_ins (gathers_of stages) (ins_of stages) room.plan.homes.items (length stages) (length stages - 1))
        (length stages - 1) room.sizes.queue (gathers_at (gathers_of stages) (length stages - 1)) room.last
