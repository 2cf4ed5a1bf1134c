-- The point that stands in a packed row.
use Rattle.std.specs.Prelude.{ℕ, ◌+◌, ℤ, Bool, List, [], ◌∷◌, get_or, if◌then◌else◌}
use Rattle.std.specs.Int.{w64, byte_len, cast_signed}
use Rattle.byte_numbers.specs.Bytes.{number_at}
use Rattle.cloud_points.specs.Layouts.{holds}
use Rattle.cloud_points.specs.Points.{zero_point}
use Rattle.cloud_points.specs.declared.dims.Dim.{Dim}
use Rattle.cloud_points.specs.declared.layout.Layout.{Layout}
use Rattle.cloud_points.specs.declared.point.Point.{Point}
use Rattle.packed_chunk.specs.Rows.{width, size_in, size_of, first_dims, middle_dims, late_dims, extra_dims}

-- the number of so many bytes from a place on, or 0 where the layout has not its dimension
abbrev pub number_where : Bool → ℕ → ℕ → List ℕ → ℕ
number_where held at size bytes = if held then number_at at size bytes else 0

abbrev pub number_in : Layout → Dim → ℕ → List ℕ → ℕ
number_in layout dim at bytes = number_where (holds layout dim) at (byte_len (width dim)) bytes

abbrev pub numbers_in : Layout → List Dim → ℕ → List ℕ → List ℕ
numbers_in layout [] at bytes = []
numbers_in layout (dim ∷ rest) at bytes = number_in layout dim at bytes ∷ numbers_in layout rest (at + size_in layout dim) bytes

-- the numbers of dimensions in their order, from a place on
unfoldable pub numbers : Layout → List Dim → ℕ → List ℕ → List ℕ
numbers layout dims at bytes = numbers_in layout dims at bytes

abbrev pub nth : List ℕ → ℕ → ℕ
nth ns k = get_or ns k 0

abbrev pub signed_nth : List ℕ → ℕ → ℤ
signed_nth ns k = cast_signed w64 (get_or ns k 0)

-- the point with these numbers in its first dimensions; so too below
unfoldable pub with_first : List ℕ → Point → Point
with_first ns p = record p {
  x = signed_nth ns 0;
  y = signed_nth ns 1;
  z = signed_nth ns 2;
  intensity = nth ns 3;
  return_number = nth ns 4;
  number_of_returns = nth ns 5;
  scan_direction_flag = nth ns 6;
  edge_of_flight_line = nth ns 7;
  classification = nth ns 8;
  synthetic = nth ns 9;
  key_point = nth ns 10;
  withheld = nth ns 11;
}

unfoldable pub with_middle : List ℕ → Point → Point
with_middle ns p = record p {
  overlap = nth ns 0;
  scan_channel = nth ns 1;
  scan_angle_rank = signed_nth ns 2;
  user_data = nth ns 3;
  point_source_id = nth ns 4;
}

unfoldable pub with_late : List ℕ → Point → Point
with_late ns p = record p {
  gps_time = nth ns 0;
  red = nth ns 1;
  green = nth ns 2;
  blue = nth ns 3;
  infrared = nth ns 4;
}

unfoldable pub with_extras : List ℕ → Point → Point
with_extras ns p = record p {
  extra = signed_nth ns 0 ∷ signed_nth ns 1 ∷ signed_nth ns 2 ∷ signed_nth ns 3
      ∷ signed_nth ns 4 ∷ signed_nth ns 5 ∷ signed_nth ns 6 ∷ signed_nth ns 7 ∷ [];
}

-- the point of a row that stands at a place
unfoldable pub unpacked_at : Layout → ℕ → List ℕ → Point
unpacked_at layout at bytes =
    let middle = at + size_of layout first_dims in
    let late = middle + size_of layout middle_dims in
    let extras = late + size_of layout late_dims in
    with_extras (numbers layout extra_dims extras bytes) (with_late (numbers layout late_dims late bytes)
    (with_middle (numbers layout middle_dims middle bytes) (with_first (numbers layout first_dims at bytes) zero_point)))
