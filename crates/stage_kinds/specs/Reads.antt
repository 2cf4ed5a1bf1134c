-- What a leaf still gives: a reader of its file, another one of its views.
use Rattle.std.specs.Prelude.{ℕ, ◌-◌, nat_le, Bool, true, false, not, List, [], ◌∷◌, ◌++◌, length, map, drop, Option, Some, None, option_map}
use Rattle.cloud_points.specs.declared.extra.ExtraField.{ExtraField}
use Rattle.cloud_points.specs.declared.point.Point.{Point}
use Rattle.cloud_points.specs.declared.faults.StageFault.{StageFault}
use Rattle.cloud_points.specs.declared.faults.StageFault.TheVariants as stage
use Rattle.cloud_points.specs.declared.faults.PointFault.{PointFault}
use Rattle.cloud_points.specs.Marks.{Mark, At, View_end, End}
use Rattle.las_header.specs.declared.block.Header.{Header}
use Rattle.las_header.specs.Counts.{points_in}
use Rattle.las_reader.specs.Files.{Las, las_with}
use Rattle.las_reader.specs.declared.reader.Progress.{Progress}
use Rattle.las_reader.specs.declared.reader.Progress.TheVariants.{Records, ViewEnded, Ended}
use Rattle.network_theory.specs.Net.{count_views, count_points}
use Rattle.view_works.specs.Giving.{left_of}
use Rattle.stage_kinds.specs.declared.stage_work.StageWork.{StageWork}
use Rattle.stage_kinds.specs.declared.stage_work.StageWork.TheVariants.{Reader, Views, ViewFiles}

-- the fault of a file as that of a stage
abbrev pub fault_with : Option PointFault → Option StageFault
fault_with fault = option_map stage.Point fault

abbrev pub cut_fault : Las → Option StageFault
cut_fault las = fault_with las.fault

abbrev pub end_marks : Option PointFault → List (Mark Point)
end_marks None = View_end ∷ End false ∷ []
end_marks (Some fault) = End true ∷ []

-- what comes from a place in a file on
abbrev pub rest_marks : Las → Progress → List (Mark Point)
rest_marks las (Records given) = map At (drop given las.points) ++ end_marks las.fault
rest_marks las ViewEnded = End false ∷ []
rest_marks las (Ended cut) = []

-- the fault that is still to come
abbrev pub rest_fault : Las → Progress → Option StageFault
rest_fault las (Records given) = cut_fault las
rest_fault las ViewEnded = None
rest_fault las (Ended cut) = None

-- it isn't ended, nor past the points of the file
abbrev pub is_within : Las → Progress → Bool
is_within las (Records given) = nat_le given (length las.points)
is_within las ViewEnded = true
is_within las (Ended cut) = false

-- the same by the bytes that the source tells, and the header and the fields of the file
abbrev pub tells_at : Option (List ℕ) → Header → List ExtraField → Progress → Bool
tells_at None header fields progress = false
tells_at (Some file) header fields progress = is_within (las_with header fields file) progress

abbrev pub told_at : Option (List ℕ) → Header → List ExtraField → Progress → List (Mark Point)
told_at None header fields progress = []
told_at (Some file) header fields progress = rest_marks (las_with header fields file) progress

abbrev pub told_fault_at : Option (List ℕ) → Header → List ExtraField → Progress → Option StageFault
told_fault_at None header fields progress = None
told_fault_at (Some file) header fields progress = rest_fault (las_with header fields file) progress

-- how many points and views are left at most
abbrev pub points_left : ℕ → Progress → ℕ
points_left count (Records given) = count - given
points_left count ViewEnded = 0
points_left count (Ended cut) = 0

abbrev pub views_left : Progress → ℕ
views_left (Records given) = 1
views_left ViewEnded = 0
views_left (Ended cut) = 0

-- of a stage, by the bytes that a source tells: a reader has something to give, and one that gives what was made of whole views
module _ {S K P Q : Type 0} where
  abbrev pub tells_of : (S → Option (List ℕ)) → StageWork S K P Q → Bool
  tells_of bytes (Reader r) = tells_at (bytes r.source) r.header r.fields r.progress
  tells_of bytes (Views h) = not h.ended
  tells_of bytes (ViewFiles t) = not t.views.ended
  tells_of bytes _ = false

  abbrev pub told_of : (S → Option (List ℕ)) → StageWork S K P Q → List (Mark Point)
  told_of bytes (Reader r) = told_at (bytes r.source) r.header r.fields r.progress
  told_of bytes (Views h) = left_of h
  told_of bytes (ViewFiles t) = left_of t.views
  told_of bytes _ = []

  abbrev pub told_fault_of : (S → Option (List ℕ)) → StageWork S K P Q → Option StageFault
  told_fault_of bytes (Reader r) = told_fault_at (bytes r.source) r.header r.fields r.progress
  told_fault_of bytes (ViewFiles t) = fault_with t.fault
  told_fault_of bytes _ = None

  abbrev pub points_left_of : StageWork S K P Q → ℕ
  points_left_of (Reader r) = points_left (points_in r.header) r.progress
  points_left_of (Views h) = count_points (left_of h)
  points_left_of (ViewFiles t) = count_points (left_of t.views)
  points_left_of _ = 0

  abbrev pub views_left_of : StageWork S K P Q → ℕ
  views_left_of (Reader r) = views_left r.progress
  views_left_of (Views h) = count_views (left_of h)
  views_left_of (ViewFiles t) = count_views (left_of t.views)
  views_left_of _ = 0
