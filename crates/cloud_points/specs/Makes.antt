-- What a leaf makes.
use Rattle.std.specs.Prelude.{Bool, true, false, List, Option, None}
use Rattle.cloud_points.specs.declared.point.Point.{Point}
use Rattle.cloud_points.specs.declared.faults.StageFault.{StageFault}
use Rattle.cloud_points.specs.declared.faults.Make.{Make}
use Rattle.cloud_points.specs.declared.faults.Make.TheVariants as make
use Rattle.cloud_points.specs.Marks.{Item, Points, End_view, End_all}

-- the item that is made, where the spread has these points
abbrev pub made : Make → List Point → Item Point
made make.Points ps = Points ps
made make.EndView ps = End_view
made (make.End cut fault) ps = End_all cut

abbrev pub made_fault : Make → Option StageFault
made_fault make.Points = None
made_fault make.EndView = None
made_fault (make.End cut fault) = fault

abbrev pub gives_points : Make → Bool
gives_points make.Points = true
gives_points make.EndView = false
gives_points (make.End cut fault) = false

abbrev pub gives_end : Make → Bool
gives_end make.Points = false
gives_end make.EndView = false
gives_end (make.End cut fault) = true

-- an end that has a fault is cut
abbrev pub ends_cut : Make → Bool
ends_cut make.Points = false
ends_cut make.EndView = false
ends_cut (make.End cut fault) = cut
