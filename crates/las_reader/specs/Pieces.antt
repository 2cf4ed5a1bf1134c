-- Files that are read in pieces.
use Rattle.std.specs.Prelude.{◌≡◌, ℕ, ◌+◌, ◌-◌, ◌*◌, min, List, length, take, drop, Option, None}
use Rattle.cloud_points.specs.declared.dims.Dim.{Dim}
use Rattle.cloud_points.specs.declared.extra.ExtraField.{ExtraField}
use Rattle.cloud_points.specs.declared.point.Point.{Point}
use Rattle.las_header.specs.declared.block.Header.{Header}
use Rattle.las_reader.specs.Files.{records_in}
use Rattle.las_reader.specs.Records.{point_with, points_from, out_from, out_or}

-- how many of `most` records from number `given` on are wholly in the file
abbrev pub whole_from : Header → List ℕ → ℕ → ℕ → ℕ
whole_from header file given most = min most (records_in header file - given)

-- a buffer begins with the n records from number `given` on, which are those of `most` that are whole
pub record HasRecords (header : Header) (file : List ℕ) (given most n : ℕ) (buffer : List ℕ) : Type 0 where
  pub count : n ≡ whole_from header file given most
  pub bytes : take (header.record_length * n) buffer ≡ take (header.record_length * n) (drop (header.points_at + header.record_length * given) file)

-- these are the points of the records from number `given` on, at most `most`, up to the first that isn't whole or has a value that no
-- point holds; the next record has one in the dimension `out`, if any
pub record HasPoints (header : Header) (fields : List ExtraField) (file : List ℕ) (given most : ℕ) (points : List Point) (out : Option Dim) : Type 0 where
  pub points_are : points ≡ points_from (point_with header fields) header.record_length given (length points) (drop header.points_at file)
  pub out_is : out_from fields header.record_length given (whole_from header file given most) (drop header.points_at file) ≡ out_or (given + length points) out None
  pub all : out ≡ None → length points ≡ whole_from header file given most
