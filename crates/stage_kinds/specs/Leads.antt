-- How far a reader has read its file, and how many points a writer took.
use Rattle.std.specs.Prelude.{◌≡◌, ◌≤◌, ℕ, ◌+◌, ◌-◌, ◌*◌, ◌^◌, max, nat_lt, nat_le, cond, if◌then◌else◌, List, length, Option, Some, None, option_map, slice_get}
use Rattle.cloud_points.specs.Extents.{Extent}
use Rattle.cloud_points.specs.Queue.{up_to_limit}
use Rattle.cloud_points.specs.declared.extra.ExtraField.{ExtraField}
use Rattle.cloud_points.specs.declared.faults.PointFault.TheVariants as fault
use Rattle.cloud_points.specs.declared.faults.StageFault.{StageFault}
use Rattle.cloud_points.specs.declared.faults.StageFault.TheVariants as stage
use Rattle.las_header.specs.declared.block.Header.{Header}
use Rattle.las_header.specs.Counts.{points_in}
use Rattle.las_reader.specs.Files.{Las, las_with}
use Rattle.las_reader.specs.declared.reader.LasReader.{LasReader}
use Rattle.las_reader.specs.declared.reader.Progress.{Progress}
use Rattle.las_reader.specs.declared.reader.Progress.TheVariants.{Records, ViewEnded, Ended}
use Rattle.network_theory.specs.Due.{total}
use Rattle.stage_kinds.specs.declared.stage_work.StageState.{StageState}
use Rattle.stage_kinds.specs.declared.stage_work.StageState.TheVariants.{Writing}
use Rattle.stage_kinds.specs.declared.stage_work.StageWork.{StageWork}
use Rattle.stage_kinds.specs.declared.stage_work.StageWork.TheVariants.{Reader}

-- 1 where a record begins below a place in the file
abbrev pub begins_below : Header → ℕ → ℕ → ℕ
begins_below header place j = cond (nat_lt (header.points_at + header.record_length * j) place) 1 0

-- how many of the first records, so many, begin below a place
abbrev pub records_below : Header → ℕ → ℕ → ℕ
records_below header place many = total (begins_below header place) many

-- how many of the records that the header counts begin below the highest place that a read got to
abbrev pub lead : {S : Type 0} → (S → ℕ) → LasReader S → ℕ
lead reached r = records_below r.header (reached r.source) (points_in r.header)

abbrev pub lead_of : {S K P Q : Type 0} → (S → ℕ) → StageWork S K P Q → ℕ
lead_of reached (Reader r) = lead reached r
lead_of reached _ = 0

-- how many begin there of any number of records
abbrev pub read_at : Header → ℕ → ℕ
read_at header reached = records_below header reached reached

-- how many records a reader read beyond those that it gave, which are all of its file's points once their end was given; where it gave more
-- points than the file has, as none does from its start on, it may have read all, and those that it may yet give are counted too
abbrev pub beyond_in : Las → ℕ → ℕ → Progress → ℕ
beyond_in las count read (Records given) = if nat_le given (length las.points) then read - given else max read count + (count - given)
beyond_in las count read ViewEnded = read - length las.points
beyond_in las count read (Ended cut) = read - length las.points

-- the same by the bytes that the source tells, and the header and the fields of the file
abbrev pub beyond_at : Option (List ℕ) → Header → List ExtraField → ℕ → Progress → ℕ
beyond_at None header fields reached progress = 0
beyond_at (Some file) header fields reached progress =
    beyond_in (las_with header fields file) (points_in header) (read_at header reached) progress

-- of a stage: only readers read
abbrev pub ahead_of : {S K P Q : Type 0} → (S → Option (List ℕ)) → (S → ℕ) → StageWork S K P Q → ℕ
ahead_of bytes reached (Reader r) = beyond_at (bytes r.source) r.header r.fields (reached r.source) r.progress
ahead_of bytes reached _ = 0

-- the points in what it reads, where its source tells its bytes
abbrev pub extent_in : Header → List ExtraField → List ℕ → Extent
extent_in header fields file = record {
  points = length (las_with header fields file).points;
  begin = header.points_at;
  stride = header.record_length;
}

abbrev pub extent_of : {S K P Q : Type 0} → (S → Option (List ℕ)) → StageWork S K P Q → Option Extent
extent_of bytes (Reader r) = option_map (extent_in r.header r.fields) (bytes r.source)
extent_of bytes _ = None

-- how far a stage has read its file, and where the points begin there
abbrev pub reached_of : {S K P Q : Type 0} → (S → ℕ) → StageWork S K P Q → ℕ
reached_of reached (Reader r) = reached r.source
reached_of reached _ = 0

abbrev pub begins_at : {S K P Q : Type 0} → StageWork S K P Q → ℕ
begins_at (Reader r) = r.header.points_at
begins_at _ = 0

-- no header counts EVLRs
abbrev pub HaveNoEvlrs : {S K P Q : Type 0} → List (StageWork S K P Q) → Type 0
HaveNoEvlrs {S} works = (i : ℕ) (r : LasReader S) → slice_get works i ≡ Some (Reader r) → r.header.evlrs ≡ 0

-- of the files whose headers count none nothing behind the header and the VLRs was read
abbrev pub AreInFront : {S K P Q : Type 0} → (S → ℕ) → List (StageWork S K P Q) → Type 0
AreInFront {S} reached works = (i : ℕ) (r : LasReader S) → slice_get works i ≡ Some (Reader r) → r.header.evlrs ≡ 0 → reached r.source ≤ r.header.points_at

-- ---- what a writer counts

-- the number of the point at which a stage has a fault; a device's has none
abbrev pub number_of : StageFault → ℕ
number_of (stage.Point (fault.Cut n)) = n
number_of (stage.Point (fault.NotHeld n dim)) = n
number_of (stage.Point (fault.ValueOutOfRange n dim)) = n
number_of (stage.Point (fault.DivideByZero n)) = n
number_of (stage.Point (fault.ArithOverflow n)) = n
number_of (stage.Point (fault.TooMany n)) = n
number_of (stage.Device op) = 0

-- how many points a writer took, up to the greatest u64, which stands for any other state
abbrev pub taken_in : StageState → ℕ
taken_in (Writing x spot) = up_to_limit spot.number
taken_in _ = 2 ^ 64 - 1
