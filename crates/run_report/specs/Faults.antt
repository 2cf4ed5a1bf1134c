-- What is printed of a command that was refused.
use Rattle.std.specs.Prelude.{ℕ, List, ◌++◌, codes, decimal}
use Rattle.file_devices.specs.declared.devices.Op.{Op}
use Rattle.file_devices.specs.declared.devices.Op.TheVariants.{Open, Read, Create, Write, Patch, Keep}
use Rattle.las_header.specs.declared.faults.HeaderAxis.{HeaderAxis}
use Rattle.las_header.specs.declared.faults.HeaderAxis.TheVariants.{X, Y, Z}
use Rattle.las_header.specs.declared.faults.HeaderFault.{HeaderFault}
use Rattle.las_header.specs.declared.faults.HeaderFault.TheVariants.{NotLas, VersionNotRead, HeaderSize, Compressed, FormatNotRead, RecordTooShort, PointsInHeader, ScaleNotPositive, ScaleNotDecimal, OffsetOutOfRange}
use Rattle.las_vlr.specs.declared.entry.VlrFault.{VlrFault}
use Rattle.las_vlr.specs.declared.entry.VlrFault.TheVariants.{TooManyVlrs, VlrPastPoints, VlrPastEnd, EvlrPastEnd}
use Rattle.cloud_points.specs.declared.faults.PointFault.{PointFault}
use Rattle.cloud_points.specs.declared.faults.PointFault.TheVariants.{Cut, NotHeld, ValueOutOfRange, DivideByZero, ArithOverflow, TooMany}
use Rattle.cloud_points.specs.Dims.{name_of}
use Rattle.stage_names.specs.declared.faults.PipeFault.{PipeFault}
use Rattle.stage_names.specs.declared.faults.PipeFault.TheVariants.{TextTooLong, NotJson, NotAPipeline, Empty, TooManyStages, BadStage, TypeUnknown, CannotInfer, TagTwice, TagUnknown, InputOfReader, NoInput, UsedTwice, Loose, OptionUnknown, OptionMissing, OptionValue, SameOutput, PlugUnknown, PlugTaken, DimUnknown, DimNotNumeric, TooManyDims}
use Rattle.run_report.specs.declared.refusal.Place.{Place}
use Rattle.run_report.specs.declared.refusal.Place.TheVariants.{PipelineFile, Stage, Generated, Out}
use Rattle.run_report.specs.declared.refusal.Fault.{Fault}
use Rattle.run_report.specs.declared.refusal.Fault.TheVariants.{Header, Vlr, Point}
use Rattle.run_report.specs.declared.refusal.Refusal.{Refusal}
use Rattle.run_report.specs.declared.refusal.Refusal.TheVariants.{Usage, Pipeline, Data, Device, Memory}

abbrev pub axis_text : HeaderAxis → List ℕ
axis_text X = codes "X"
axis_text Y = codes "Y"
axis_text Z = codes "Z"

abbrev pub header_fault_text : HeaderFault → List ℕ
header_fault_text NotLas = codes "not a LAS file"
header_fault_text VersionNotRead = codes "version not read"
header_fault_text HeaderSize = codes "header too short"
header_fault_text Compressed = codes "compressed points"
header_fault_text FormatNotRead = codes "point format not read"
header_fault_text RecordTooShort = codes "record too short for its format"
header_fault_text PointsInHeader = codes "points begin inside the header"
header_fault_text (ScaleNotPositive axis) = codes "scale of " ++ axis_text axis ++ codes " not positive"
header_fault_text (ScaleNotDecimal axis) = codes "scale of " ++ axis_text axis ++ codes " has no decimal of 9 places"
header_fault_text (OffsetOutOfRange axis) = codes "offset of " ++ axis_text axis ++ codes " out of range"

abbrev pub record_text : List ℕ → ℕ → List ℕ → List ℕ
record_text kind k after = kind ++ decimal k ++ after

abbrev pub vlr_fault_text : VlrFault → List ℕ
vlr_fault_text TooManyVlrs = codes "too many VLRs"
vlr_fault_text (VlrPastPoints k) = record_text (codes "VLR ") k (codes " ends after the points begin")
vlr_fault_text (VlrPastEnd k) = record_text (codes "VLR ") k (codes " ends after the file")
vlr_fault_text (EvlrPastEnd k) = record_text (codes "EVLR ") k (codes " ends after the file")

abbrev pub point_text : ℕ → List ℕ
point_text k = codes "point " ++ decimal k ++ codes ": "

abbrev pub point_fault_text : PointFault → List ℕ
point_fault_text (Cut k) = codes "file ends before record " ++ decimal k
point_fault_text (NotHeld k dim) = point_text k ++ name_of dim ++ codes " not held by the scale"
point_fault_text (ValueOutOfRange k dim) = point_text k ++ name_of dim ++ codes " out of range"
point_fault_text (DivideByZero k) = point_text k ++ codes "division by zero"
point_fault_text (ArithOverflow k) = point_text k ++ codes "overflow"
point_fault_text (TooMany k) = point_text k ++ codes "more than 4294967295 points"

abbrev pub fault_text : Fault → List ℕ
fault_text (Header f) = header_fault_text f
fault_text (Vlr f) = vlr_fault_text f
fault_text (Point f) = point_fault_text f

-- at the stage with this number
abbrev pub at_stage : ℕ → List ℕ → List ℕ
at_stage i text = codes "stage " ++ decimal i ++ codes ": " ++ text

abbrev pub pipe_fault_text : PipeFault → List ℕ
pipe_fault_text TextTooLong = codes "text too long"
pipe_fault_text NotJson = codes "not JSON"
pipe_fault_text NotAPipeline = codes "no stage list"
pipe_fault_text Empty = codes "no stages"
pipe_fault_text TooManyStages = codes "more than 64 stages"
pipe_fault_text (BadStage i) = at_stage i (codes "malformed")
pipe_fault_text (TypeUnknown i) = at_stage i (codes "unknown type")
pipe_fault_text (CannotInfer i) = at_stage i (codes "no type for this file name")
pipe_fault_text (TagTwice i) = at_stage i (codes "tag used twice")
pipe_fault_text (TagUnknown i) = at_stage i (codes "unknown input")
pipe_fault_text (InputOfReader i) = at_stage i (codes "a reader takes no input")
pipe_fault_text (NoInput i) = at_stage i (codes "no input")
pipe_fault_text (UsedTwice i) = at_stage i (codes "input already taken")
pipe_fault_text (Loose i) = at_stage i (codes "output not used")
pipe_fault_text (OptionUnknown i name) = at_stage i (codes "unknown option " ++ name)
pipe_fault_text (OptionMissing i name) = at_stage i (codes "missing option " ++ name)
pipe_fault_text (OptionValue i name) = at_stage i (codes "bad value of option " ++ name)
pipe_fault_text (SameOutput i) = at_stage i (codes "output file already named")
pipe_fault_text (PlugUnknown i name) = at_stage i (codes "no plug " ++ name)
pipe_fault_text (PlugTaken i name) = at_stage i (codes "plug " ++ name ++ codes " already used")
pipe_fault_text (DimUnknown i name) = at_stage i (codes "unknown dimension " ++ name)
pipe_fault_text (DimNotNumeric i name) = at_stage i (codes "dimension " ++ name ++ codes " is not numeric")
pipe_fault_text (TooManyDims i) = at_stage i (codes "more than 8 extra dimensions")

abbrev pub place_text : Place → List ℕ
place_text PipelineFile = codes "pipeline file"
place_text Generated = codes "generated file"
place_text (Stage i) = codes "stage " ++ decimal i
place_text Out = codes "output"

abbrev pub op_text : Op → List ℕ
op_text Open = codes "open"
op_text Read = codes "read"
op_text Create = codes "create"
op_text Write = codes "write"
op_text Patch = codes "patch"
op_text Keep = codes "keep"

abbrev pub reason_text : Refusal → List ℕ
reason_text (Usage k) = codes "usage: bad or missing word " ++ decimal k
reason_text (Pipeline fault) = codes "pipeline: " ++ pipe_fault_text fault
reason_text (Data i fault) = at_stage i (fault_text fault)
reason_text (Device place op) = codes "device: " ++ place_text place ++ codes ": " ++ op_text op ++ codes " failed"
reason_text Memory = codes "out of memory"

-- the line that says why a command was refused
abbrev pub fault_line : Refusal → List ℕ
fault_line refusal = codes "lasline: " ++ reason_text refusal ++ codes "\n"
