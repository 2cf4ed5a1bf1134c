-- The flow that a LAS file gives.
use Rattle.std.specs.Prelude.{true, false, List, [], ◌∷◌, Option, Some, None}
use Rattle.cloud_points.specs.declared.point.Point.{Point}
use Rattle.cloud_points.specs.declared.faults.PointFault.{PointFault}
use Rattle.cloud_points.specs.Flows.{Flow}
use Rattle.las_reader.specs.Files.{Las}

abbrev pub flow_with : List Point → Option PointFault → Flow Point
flow_with points None = record { views = points ∷ []; open_view = []; cut = false }
flow_with points (Some fault) = record { views = []; open_view = points; cut = true }

-- a file without a fault is one view, and one with a fault an open view
abbrev pub las_flow : Las → Flow Point
las_flow las = flow_with las.points las.fault

-- the fault that comes behind its points
abbrev pub las_fault : Las → Option PointFault
las_fault las = las.fault
