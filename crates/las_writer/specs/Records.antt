-- The records of a LAS writer.
use Rattle.std.specs.Prelude.{ℕ, ◌+◌, ◌*◌, ℤ, Bool, true, false, List, [], ◌∷◌, ◌++◌, Option, Some, None, Result, Ok, Err}
use Rattle.std.specs.List.{flat_map}
use Rattle.std.specs.Int.{w32, cast_signed}
use Rattle.cloud_points.specs.declared.dims.Dim.{Dim}
use Rattle.cloud_points.specs.declared.point.Point.{Point}
use Rattle.byte_numbers.specs.Bytes.{number_at}
use Rattle.las_header.specs.Versions.{fits_count}
use Rattle.las_header.specs.Formats.{format_size}
use Rattle.las_header.specs.Steps.{◌>>=◌}
use Rattle.point_formats.specs.declared.encoding.EncodeFault.{EncodeFault}
use Rattle.point_formats.specs.declared.encoding.EncodeFault.TheVariants as encode
use Rattle.point_formats.specs.declared.grid.Grid.{Grid}
use Rattle.point_formats.specs.Encoded.{encoded}
use Rattle.extra_bytes.specs.Fields.{fields_bytes, fields_size}
use Rattle.forward_rules.specs.declared.form.LasForm.{LasForm}
use Rattle.las_writer.specs.declared.faults.RecordFault.{RecordFault}
use Rattle.las_writer.specs.declared.faults.RecordFault.TheVariants.{TooMany, NotHeld, ValueOutOfRange}

-- the grid of the coordinates
abbrev pub grid_for : LasForm → Grid
grid_for form = record { scale = form.scale; offset = form.offset }

-- the bytes of the extra dimensions, where a number that leaves its field is told as one that leaves the format's
abbrev pub or_refused : Result (List ℕ) Dim → Result (List ℕ) EncodeFault
or_refused (Ok bytes) = Ok bytes
or_refused (Err dim) = Err (encode.ValueOutOfRange dim)

-- the record of a point, the fields of the format and behind them the extra dimensions, or why it has none
abbrev pub written : LasForm → Point → Result (List ℕ) EncodeFault
written form p = encoded form.format (grid_for form) p >>= (λ fields. or_refused (fields_bytes form.extra p) >>= (λ extra. Ok (fields ++ extra)))

-- the length of each record
abbrev pub record_size : LasForm → ℕ
record_size form = format_size form.format + fields_size form.extra

abbrev pub bytes_or_none : Result (List ℕ) EncodeFault → List ℕ
bytes_or_none (Ok bytes) = bytes
bytes_or_none (Err f) = []

-- its bytes; a point without a record has none
unfoldable pub point_record : LasForm → Point → List ℕ
point_record form p = bytes_or_none (written form p)

-- the records of points, one after another
abbrev pub records : LasForm → List Point → List ℕ
records form points = flat_map (point_record form) points

-- the raw number on an axis, as it stands in the record
abbrev pub raw_number : ℕ → List ℕ → ℤ
raw_number axis bytes = cast_signed w32 (number_at (4 * axis) 4 bytes)

-- ---- points without a place in the file

-- one point more may be written behind k
abbrev pub fits : LasForm → ℕ → Bool
fits form k = fits_count form.minor (k + 1)

-- why a point has no record
abbrev pub fault_of : EncodeFault → RecordFault
fault_of (encode.NotHeld dim) = NotHeld dim
fault_of (encode.ValueOutOfRange dim) = ValueOutOfRange dim

-- why a point has no place: the file counts no more of them, or else it has no record
abbrev pub unplaced : Bool → Result (List ℕ) EncodeFault → Option RecordFault
unplaced false w = Some TooMany
unplaced true (Ok bytes) = None
unplaced true (Err f) = Some (fault_of f)

-- the refusal of a point with this number, or else one of those behind it
abbrev pub refused_or : ℕ → Option RecordFault → Option (ℕ × RecordFault) → Option (ℕ × RecordFault)
refused_or n None later = later
refused_or n (Some f) later = Some (n, f)

-- the first of the points with the numbers n, n + 1, .. without a place, where k points were written before number 0
abbrev pub refusal_from : LasForm → ℕ → ℕ → List Point → Option (ℕ × RecordFault)
refusal_from form k n [] = None
refusal_from form k n (p ∷ rest) = refused_or n (unplaced (fits form (k + n)) (written form p)) (refusal_from form k (n + 1) rest)

-- the first of the points without a place behind k that were written, as its number among them, and why it has none
abbrev pub refusal : LasForm → ℕ → List Point → Option (ℕ × RecordFault)
refusal form k points = refusal_from form k 0 points
