-- What may come between a call of a work and its meaning.
use Rattle.std.specs.Prelude.{◌≡◌, Bool, true, false, not, ◌&&◌, ◌||◌, Option, Some, None, ⊤}
use Rattle.file_devices.specs.declared.devices.Op.{Op}
use Rattle.cloud_points.specs.declared.faults.StageFault.{StageFault}
use Rattle.cloud_points.specs.declared.faults.StageFault.TheVariants.{Point, Device}

abbrev pub is_device : Option StageFault → Bool
is_device None = false
is_device (Some (Point fault)) = false
is_device (Some (Device op)) = true

-- a device's fault names this operation, and there is none without one
abbrev pub IsOf : Option Op → Option StageFault → Type 0
IsOf op (Some (Device o)) = op ≡ Some o
IsOf op _ = ⊤

-- a call noted want of memory
abbrev pub ran_short : Bool → Bool → Bool
ran_short before now = not before && now

-- a call met an event: its device failed, or it noted want of memory
abbrev pub happened : Option StageFault → Bool → Bool → Bool
happened fault before now = is_device fault || ran_short before now

-- the first of two faults
abbrev pub first_fault : {F : Type 0} → Option F → Option F → Option F
first_fault (Some f) g = Some f
first_fault None g = g
