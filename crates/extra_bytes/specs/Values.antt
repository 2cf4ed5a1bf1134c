-- The values of extra dimensions in a record.
use Rattle.std.specs.Prelude.{ℕ, ◌+◌, ◌-◌, ◌*◌, ◌^◌, ◌≤◌, ℤ, pos, neg_ℤ, ◌+ℤ◌, ◌*ℤ◌, unsigned_abs, Bool, List, ◌++◌, length, take, drop, Option, Some, None, if◌then◌else◌}
use Rattle.std.specs.Int.{w8, w16, w32, w64, to_le_bytes, cast_signed, cast_unsigned}
use Rattle.byte_numbers.specs.Bytes.{number_at}
use Rattle.decimal_coords.specs.Grid.{nearest_step}
use Rattle.cloud_points.specs.Points.{is_between}
use Rattle.cloud_points.specs.ExtraFields.{kind_size}
use Rattle.cloud_points.specs.declared.extra.ExtraKind.{ExtraKind}
use Rattle.cloud_points.specs.declared.extra.ExtraKind.TheVariants.{U8, I8, U16, I16, U32, I32, U64, I64}
use Rattle.cloud_points.specs.declared.extra.ExtraField.{ExtraField}

-- the bytes of a field are there
abbrev pub LiesIn : ExtraField → List ℕ → Type 0
LiesIn f bytes = f.at + kind_size f.kind ≤ length bytes

-- the raw number of a kind that stands at a place, in two's complement where it has a sign
abbrev pub raw_at : ExtraKind → ℕ → List ℕ → ℤ
raw_at U8 at bytes = pos (number_at at 1 bytes)
raw_at I8 at bytes = cast_signed w8 (number_at at 1 bytes)
raw_at U16 at bytes = pos (number_at at 2 bytes)
raw_at I16 at bytes = cast_signed w16 (number_at at 2 bytes)
raw_at U32 at bytes = pos (number_at at 4 bytes)
raw_at I32 at bytes = cast_signed w32 (number_at at 4 bytes)
raw_at U64 at bytes = pos (number_at at 8 bytes)
raw_at I64 at bytes = cast_signed w64 (number_at at 8 bytes)

-- the value of a raw number, in nanounits
abbrev pub value_of : ExtraField → ℤ → ℤ
value_of f raw = raw *ℤ f.scale.nano +ℤ f.offset

-- the value of a field in a record
abbrev pub extra_value : ExtraField → List ℕ → ℤ
extra_value f bytes = value_of f (raw_at f.kind f.at bytes)

-- a point holds so many nanounits in an extra dimension
abbrev pub is_held : ℤ → Bool
is_held nano = is_between (neg_ℤ (pos (4 * 10 ^ 18))) (pos (4 * 10 ^ 18)) nano

-- the value of a field, where a point holds it
unfoldable pub extra_read : ExtraField → List ℕ → Option ℤ
extra_read f bytes = if is_held (extra_value f bytes) then Some (extra_value f bytes) else None

-- the raw number whose value is nearest, a half away from zero
abbrev pub raw_of : ExtraField → ℤ → ℤ
raw_of f nano = nearest_step nano f.scale.nano f.offset

-- whether a number is one of a kind
abbrev pub is_raw : ExtraKind → ℤ → Bool
is_raw U8 n = is_between (pos 0) (pos (2 ^ 8 - 1)) n
is_raw I8 n = is_between (neg_ℤ (pos (2 ^ 7))) (pos (2 ^ 7 - 1)) n
is_raw U16 n = is_between (pos 0) (pos (2 ^ 16 - 1)) n
is_raw I16 n = is_between (neg_ℤ (pos (2 ^ 15))) (pos (2 ^ 15 - 1)) n
is_raw U32 n = is_between (pos 0) (pos (2 ^ 32 - 1)) n
is_raw I32 n = is_between (neg_ℤ (pos (2 ^ 31))) (pos (2 ^ 31 - 1)) n
is_raw U64 n = is_between (pos 0) (pos (2 ^ 64 - 1)) n
is_raw I64 n = is_between (neg_ℤ (pos (2 ^ 63))) (pos (2 ^ 63 - 1)) n

-- the bytes of a raw number
abbrev pub raw_bytes : ExtraKind → ℤ → List ℕ
raw_bytes U8 n = to_le_bytes w8 (unsigned_abs n)
raw_bytes I8 n = to_le_bytes w8 (cast_unsigned w8 n)
raw_bytes U16 n = to_le_bytes w16 (unsigned_abs n)
raw_bytes I16 n = to_le_bytes w16 (cast_unsigned w16 n)
raw_bytes U32 n = to_le_bytes w32 (unsigned_abs n)
raw_bytes I32 n = to_le_bytes w32 (cast_unsigned w32 n)
raw_bytes U64 n = to_le_bytes w64 (unsigned_abs n)
raw_bytes I64 n = to_le_bytes w64 (cast_unsigned w64 n)

-- with these bytes in place of those from a place on
abbrev pub with_piece : ℕ → List ℕ → List ℕ → List ℕ
with_piece at piece bytes = take at bytes ++ piece ++ drop (at + length piece) bytes

-- the record with a value in a field, where the nearest raw number is one of the field's kind
unfoldable pub extra_written : ExtraField → ℤ → List ℕ → Option (List ℕ)
extra_written f nano bytes = if is_raw f.kind (raw_of f nano) then Some (with_piece f.at (raw_bytes f.kind (raw_of f nano)) bytes) else None
