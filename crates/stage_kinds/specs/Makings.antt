-- What stages make of whole views.
use Rattle.std.specs.Prelude.{⊤, Option, Some, None, option_map}
use Rattle.cloud_points.specs.Flows.{Flow}
use Rattle.cloud_points.specs.declared.point.Point.{Point}
use Rattle.cloud_points.specs.declared.faults.PointFault.{PointFault}
use Rattle.stage_meanings.specs.Conditions.{passes}
use Rattle.stage_meanings.specs.Filters.{admitted_in_views, refusal_in_views}
use Rattle.tile_filters.specs.Gathered.{gathered}
use Rattle.stage_kinds.specs.declared.file_form.Writing.{Writing}
use Rattle.stage_kinds.specs.declared.making.Making.{Making}
use Rattle.stage_kinds.specs.declared.making.Making.TheVariants.{Gathers, WritesEach}
use Rattle.stage_kinds.specs.Files.{IsFileForm, unwritten}
use Rattle.stage_kinds.specs.Judging.{told_fault}

-- the form of what is written can be written
abbrev pub IsGoodMaking : Making → Type 0
IsGoodMaking (Gathers g) = ⊤
IsGoodMaking (WritesEach x) = IsFileForm x.form

-- the flow that is made, and the fault at its end; files are written of the views that are given on
abbrev pub made_by : Making → Flow Point → Flow Point
made_by (Gathers g) flow = gathered g flow
made_by (WritesEach x) flow = admitted_in_views (unwritten x.form) (passes x.only) flow

abbrev pub fault_by : Making → Flow Point → Option PointFault
fault_by (Gathers g) flow = None
fault_by (WritesEach x) flow = option_map told_fault (refusal_in_views (unwritten x.form) (passes x.only) flow)

-- what is to be written of each view of this, which is kept for that
abbrev pub kept_by : Making → Flow Point → Option (Writing × Flow Point)
kept_by (Gathers g) flow = None
kept_by (WritesEach x) flow = Some (x, flow)
