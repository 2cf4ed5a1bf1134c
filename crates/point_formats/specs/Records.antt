-- The points that records stand for.
use Rattle.std.specs.Prelude.{ℕ, ◌+◌, ◌/◌, ◌%◌, ◌^◌, pos, ◌*ℤ◌, List, [], ◌∷◌, slice_index}
use Rattle.std.specs.Int.{w32, byte_len, cast_signed}
use Rattle.cloud_points.specs.declared.point.Point.{Point}
use Rattle.cloud_points.specs.Points.{zero_point, with_fixed, with_whole}
use Rattle.las_header.specs.declared.form.Format.{Format}
use Rattle.byte_numbers.specs.Bytes.{number_at}
use Rattle.point_formats.specs.declared.grid.Grid.{Grid}
use Rattle.point_formats.specs.Grids.{coordinate}
use Rattle.point_formats.specs.Formats.{BitField, Item, Coordinate, Angle, Time, Number, Bits, items}

-- the bytes that an item takes
abbrev pub size_of : Item → ℕ
size_of (Coordinate dim axis) = 4
size_of (Angle width step) = byte_len width
size_of Time = 8
size_of (Number dim width) = byte_len width
size_of (Bits fields) = 1

-- the point with the bit fields of a byte, of which the first begins at a bit
abbrev pub with_bits : Point → ℕ → ℕ → List BitField → Point
with_bits p byte low [] = p
with_bits p byte low (x ∷ rest) = with_bits (with_whole p x.dim (byte / 2 ^ low % 2 ^ x.bits)) byte (low + x.bits) rest

-- the point with an item that stands at a place
abbrev pub with_item : Grid → List ℕ → ℕ → Point → Item → Point
with_item grid bytes at p (Coordinate dim axis) = with_fixed p dim (coordinate grid axis (cast_signed w32 (number_at at 4 bytes)))
with_item grid bytes at p (Angle width step) = record p { scan_angle_rank = cast_signed width (number_at at (byte_len width) bytes) *ℤ pos step }
with_item grid bytes at p Time = record p { gps_time = number_at at 8 bytes }
with_item grid bytes at p (Number dim width) = with_whole p dim (number_at at (byte_len width) bytes)
with_item grid bytes at p (Bits fields) = with_bits p (slice_index bytes at) 0 fields

-- the point with items that stand one after another from a place
abbrev pub with_items : Grid → List ℕ → ℕ → Point → List Item → Point
with_items grid bytes at p [] = p
with_items grid bytes at p (item ∷ rest) = with_items grid bytes (at + size_of item) (with_item grid bytes at p item) rest

-- the point of a record; the dimensions that its format lacks are 0
abbrev pub decoded : Format → Grid → List ℕ → Point
decoded format grid bytes = with_items grid bytes 0 zero_point (items format)
