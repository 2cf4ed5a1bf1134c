-- Point data records, one after another.
use Rattle.std.specs.Prelude.{ℕ, zero, suc, ◌+◌, ◌*◌, List, [], ◌∷◌, take, drop, Option, Some, None}
use Rattle.cloud_points.specs.declared.dims.Dim.{Dim}
use Rattle.cloud_points.specs.declared.extra.ExtraField.{ExtraField}
use Rattle.cloud_points.specs.declared.point.Point.{Point}
use Rattle.extra_bytes.specs.Fields.{with_extra, first_out}
use Rattle.las_header.specs.declared.block.Header.{Header}
use Rattle.point_formats.specs.Grids.{grid_of}
use Rattle.point_formats.specs.Records.{decoded}

-- the point of a record in a file with this header; bytes behind the fields of its format aren't looked at
unfoldable pub point_of : Header → List ℕ → Point
point_of header record_bytes = decoded header.format (grid_of header) record_bytes

-- the same with the values of these fields in extra dimensions
unfoldable pub point_with : Header → List ExtraField → List ℕ → Point
point_with header fields record_bytes = with_extra fields record_bytes (point_of header record_bytes)

-- the bytes of record k, where each has so many
abbrev pub record_at : ℕ → ℕ → List ℕ → List ℕ
record_at size k bytes = take size (drop (size * k) bytes)

-- the points of so many records from record k on, where each has so many bytes and is read in this way
unfoldable pub points_from : (List ℕ → Point) → ℕ → ℕ → ℕ → List ℕ → List Point
points_from read size k zero bytes = []
points_from read size k (suc left) bytes = read (record_at size k bytes) ∷ points_from read size (k + 1) left bytes

-- record k, where a value in this dimension is held by no point, or else what is told of later records
abbrev pub out_or : ℕ → Option Dim → Option (ℕ × Dim) → Option (ℕ × Dim)
out_or k (Some dim) later = Some (k, dim)
out_or k None later = later

-- of so many records from record k on, where each has so many bytes, the first with a value that no point holds: its number, and the
-- dimension of the first such value in it
unfoldable pub out_from : List ExtraField → ℕ → ℕ → ℕ → List ℕ → Option (ℕ × Dim)
out_from fields size k zero bytes = None
out_from fields size k (suc left) bytes = out_or k (first_out fields (record_at size k bytes)) (out_from fields size (k + 1) left bytes)
