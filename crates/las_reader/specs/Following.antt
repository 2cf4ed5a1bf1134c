-- A file that is read to its end, in chunks of any sizes.
use Rattle.std.specs.Prelude.{◌≡◌, ◌⊎◌, ℕ, ◌+◌, ◌<◌, ◌≤◌, List, [], ◌∷◌, ◌++◌, length, Option, Some, None, true, false, ⊤}
use Rattle.std.specs.List.{All, flat_map}
use Rattle.cloud_points.specs.declared.extra.ExtraField.{ExtraField}
use Rattle.cloud_points.specs.declared.point.Point.{Point}
use Rattle.cloud_points.specs.declared.faults.PointFault.{PointFault}
use Rattle.cloud_points.specs.declared.faults.Make.{Make}
use Rattle.cloud_points.specs.declared.faults.Make.TheVariants.{Points, End}
use Rattle.las_header.specs.declared.block.Header.{Header}
use Rattle.las_reader.specs.declared.reader.Progress.{Progress}
use Rattle.las_reader.specs.declared.reader.Progress.TheVariants.{Records}
use Rattle.las_reader.specs.Files.{Las, las_with}
use Rattle.las_reader.specs.Reading.{Step, IsStep, IsWithin, step_of, ends, view_ends}

-- the size of a chunk
abbrev pub IsChunk : ℕ → Type 0
IsChunk chunk = (1 ≤ chunk) × (chunk ≤ 64)

-- calls for chunks of these sizes, one after another from a place on, give these steps in a file with these points and this fault
abbrev pub AreSteps : List Point → Option PointFault → Progress → List ℕ → List Step → Type 0
AreSteps points fault progress [] [] = ⊤
AreSteps points fault progress (chunk ∷ chunks) (step ∷ steps) =
    IsStep (step_of points fault progress chunk) step.made step.points step.progress
    × AreSteps points fault step.progress chunks steps
AreSteps points fault progress chunks steps = ⊥

-- it is the end of all
abbrev pub IsEnd : Make → Type 0
IsEnd (End cut fault) = ⊤
IsEnd made = ⊥

-- the last step is the first that gives the end
abbrev pub EndAtLast : List Step → Type 0
EndAtLast [] = ⊥
EndAtLast (step ∷ []) = IsEnd step.made
EndAtLast (step ∷ steps) = (¬ IsEnd step.made) × EndAtLast steps

-- one of them gives the end
abbrev pub ComeToTheEnd : List Step → Type 0
ComeToTheEnd [] = ⊥
ComeToTheEnd (step ∷ steps) = IsEnd step.made ⊎ ComeToTheEnd steps

-- a step that gives points
pub record GivesPoints (step : Step) : Type 0 where
  pub made : step.made ≡ Points
  pub some : 0 < length step.points

abbrev pub points_given : List Step → List Point
points_given steps = flat_map (λ step. step.points) steps

-- what comes behind the points: the end of the view and the end of all, or the end that is cut short
abbrev pub ending : Option PointFault → List Step
ending None = view_ends ∷ ends false None ∷ []
ending (Some fault) = ends true (Some fault) ∷ []

-- steps that give the points of a file, and then its end
pub record GiveFile (las : Las) (steps : List Step) : Type 0 where
  pub giving : List Step
  pub steps_are : steps ≡ giving ++ ending las.fault
  pub give : All GivesPoints giving
  pub points_are : points_given giving ≡ las.points

-- a file that is read to its first end gives its points and then its end, for chunks of any sizes
abbrev pub StepsGiveFile : Type 0
StepsGiveFile = (header : Header) (fields : List ExtraField) (file chunks : List ℕ) (steps : List Step) → All IsChunk chunks
    → AreSteps (las_with header fields file).points (las_with header fields file).fault (Records 0) chunks steps → EndAtLast steps
    → GiveFile (las_with header fields file) steps

-- behind a step no more points were given than there are
abbrev pub StepsStayWithin : Type 0
StepsStayWithin = (points : List Point) (fault : Option PointFault) (chunk : ℕ) (before : Progress) (made : Make) (next : List Point) (after : Progress)
    → IsStep (step_of points fault before chunk) made next after → IsWithin points after

-- two more calls than there are points are enough for the end
abbrev pub StepsComeToTheEnd : Type 0
StepsComeToTheEnd = (header : Header) (fields : List ExtraField) (file chunks : List ℕ) (steps : List Step) → All IsChunk chunks
    → AreSteps (las_with header fields file).points (las_with header fields file).fault (Records 0) chunks steps
    → length (las_with header fields file).points + 2 ≤ length chunks → ComeToTheEnd steps
