-- What a LAS file holds.
use Rattle.std.specs.Prelude.{◌≡◌, ℕ, ◌-◌, ◌/◌, min, ◌==◌, if◌then◌else◌, List, [], drop, length, Option, Some, None, Result, Ok}
use Rattle.cloud_points.specs.declared.dims.Dim.{Dim}
use Rattle.cloud_points.specs.declared.extra.ExtraField.{ExtraField}
use Rattle.cloud_points.specs.declared.point.Point.{Point}
use Rattle.cloud_points.specs.declared.faults.PointFault.{PointFault}
use Rattle.cloud_points.specs.declared.faults.PointFault.TheVariants.{Cut, ValueOutOfRange}
use Rattle.las_header.specs.declared.block.Header.{Header}
use Rattle.las_header.specs.Counts.{points_in}
use Rattle.las_header.specs.Steps.{◌>>=◌}
use Rattle.las_reader.specs.Frames.{LasFault, frame_of}
use Rattle.las_reader.specs.Records.{point_of, point_with, points_from, out_from}

pub record Las : Type 0 where
  -- the points of the records before the first that isn't whole or has a value that no point holds
  pub points : List Point
  -- why the file holds no more of them, where the header counts more
  pub fault : Option PointFault

-- how many records have room in the file
abbrev pub records_in : Header → List ℕ → ℕ
records_in header file = (length file - header.points_at) / header.record_length

-- how many of the counted records are wholly in the file, from the first on
abbrev pub whole_records : Header → List ℕ → ℕ
whole_records header file = min (points_in header) (records_in header file)

-- the fault of a file of which so many of the counted records are whole: the number of the first that isn't
abbrev pub cut_of : ℕ → ℕ → Option PointFault
cut_of count whole = if whole == count then None else Some (Cut whole)

-- the first of the whole records in which one of these fields has a value that no point holds, and the dimension
abbrev pub out_in : Header → List ExtraField → List ℕ → Option (ℕ × Dim)
out_in header fields file = out_from fields header.record_length 0 (whole_records header file) (drop header.points_at file)

-- how many records stand before that one, where there is one, and else how many are whole
abbrev pub sound_records : ℕ → Option (ℕ × Dim) → ℕ
sound_records whole (Some out) = out.0
sound_records whole None = whole

-- the fault of the file is that record, where there is one, and else the first that isn't whole
abbrev pub fault_of : ℕ → ℕ → Option (ℕ × Dim) → Option PointFault
fault_of count whole (Some out) = Some (ValueOutOfRange out.0 out.1)
fault_of count whole None = cut_of count whole

-- the points of a file with this header, with the values of these fields in extra dimensions
abbrev pub las_with : Header → List ExtraField → List ℕ → Las
las_with header fields file = record {
  points = points_from (point_with header fields) header.record_length 0 (sound_records (whole_records header file) (out_in header fields file)) (drop header.points_at file);
  fault = fault_of (points_in header) (whole_records header file) (out_in header fields file);
}

-- without fields they are the points of all whole records
abbrev pub WithoutFields : Type 0
WithoutFields = (header : Header) (file : List ℕ) → las_with header [] file ≡ record {
  points = points_from (point_of header) header.record_length 0 (whole_records header file) (drop header.points_at file);
  fault = cut_of (points_in header) (whole_records header file);
}

-- what the bytes of a file hold, read without extra dimensions, or the first reason why it isn't read
abbrev pub las_of : List ℕ → Result Las LasFault
las_of file = do
  frame ← frame_of file
  Ok (las_with frame.header [] file)
