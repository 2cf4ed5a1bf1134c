-- The cells of a line.
use Rattle.std.specs.Prelude.{ℕ, zero, suc, ◌+◌, ◌/◌, ◌%◌, ◌^◌, nat_lt, List, [], ◌∷◌, ◌++◌, codes, if◌then◌else◌}
use Rattle.cloud_points.specs.Dims.{kind_of}
use Rattle.cloud_points.specs.Points.{get}
use Rattle.cloud_points.specs.declared.dims.Kind.{Kind}
use Rattle.cloud_points.specs.declared.dims.Kind.TheVariants.{Fixed, Whole, Word}
use Rattle.cloud_points.specs.declared.point.Point.{Point}
use Rattle.decimal_coords.specs.Fixed.{fixed_text}
use Rattle.text_writer.specs.declared.form.Column.{Column}

-- a digit from 0 to 15: one of 0 to 9, a to f
abbrev pub hex_digit : ℕ → ℕ
hex_digit d = if nat_lt d 10 then 48 + d else 87 + d

-- the last hexadecimal digits of a word
unfoldable pub last_hex : (count : ℕ) (word : ℕ) → List ℕ
last_hex zero word = []
last_hex (suc k) word = hex_digit (word / 16 ^ k % 16) ∷ last_hex k word

-- a coordinate or an angle has the column's places, a whole number has none, a time is its word
abbrev pub cell_as : Kind → Point → Column → List ℕ
cell_as Fixed p c = fixed_text (get p c.dim) c.places
cell_as Whole p c = fixed_text (get p c.dim) 0
cell_as Word p c = codes "0x" ++ last_hex 16 p.gps_time

-- a point's value in a column
abbrev pub cell : Point → Column → List ℕ
cell p c = cell_as (kind_of c.dim) p c
