-- What is printed of a run.
use Rattle.std.specs.Prelude.{ℕ, List, [], ◌∷◌, ◌++◌, Option, Some, None, codes, decimal}
use Rattle.std.specs.List.{sum_by}
use Rattle.cloud_points.specs.Queue.{up_to_limit}
use Rattle.stage_names.specs.Kinds.{name_of}
use Rattle.run_report.specs.declared.report.StageCount.{StageCount}
use Rattle.run_report.specs.declared.tally.TallyLine.{TallyLine}

-- how many points a writer wrote, or a tally's stage showed
abbrev pub wrote_text : Option ℕ → List ℕ
wrote_text None = []
wrote_text (Some points) = codes " wrote " ++ decimal points

-- the line of a stage
abbrev pub stage_line : StageCount → List ℕ
stage_line count = codes "stage " ++ decimal count.stage ++ codes " " ++ name_of count.kind ++ codes " views " ++ decimal count.views
    ++ codes " points " ++ decimal count.points ++ wrote_text count.wrote ++ codes "\n"

-- the line of a tally, where a stage has one
abbrev pub tally_text : Option TallyLine → List ℕ
tally_text None = []
tally_text (Some line) = codes "tally " ++ line.name ++ codes " " ++ line.text ++ codes "\n"

-- the line of a stage, and behind it that of its tally, where it has one
abbrev pub stage_text : StageCount → List ℕ
stage_text count = stage_line count ++ tally_text count.tally

-- the lines of the stages and of their tallies
abbrev pub lines_of : List StageCount → List ℕ
lines_of [] = []
lines_of (count ∷ counts) = stage_text count ++ lines_of counts

-- how many files the stages wrote
abbrev pub outputs_in : List StageCount → ℕ
outputs_in counts = up_to_limit (sum_by (λ count. count.files) counts)

-- the report of a run, by what each of its stages gave on
abbrev pub report_of : List StageCount → List ℕ
report_of counts = lines_of counts ++ (codes "outputs " ++ decimal (outputs_in counts) ++ codes "\n")
