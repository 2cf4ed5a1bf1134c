-- The header that the first bytes of a file stand for (LAS 1.4 R15, "Public Header Block").
use Rattle.std.specs.Prelude.{ℕ, ℤ, Bool, ◌&&◌, ◌==◌, nat_lt, nat_le, List, [], ◌∷◌, take, length, codes, Option, Some, None, Result, Ok, Err}
use Rattle.std.specs.Str.{bytes_eq}
use Rattle.decimal_coords.specs.declared.grid.Scale.{Scale}
use Rattle.ieee_words.specs.declared.decimals.Dec.{Dec}
use Rattle.ieee_words.specs.declared.decimals.WordFault.{WordFault}
use Rattle.ieee_words.specs.DecimalOfWord.{decimal_of_word}
use Rattle.las_header.specs.declared.faults.HeaderAxis.{HeaderAxis}
use Rattle.las_header.specs.declared.faults.HeaderAxis.TheVariants.{X, Y, Z}
use Rattle.las_header.specs.declared.faults.HeaderFault.{HeaderFault}
use Rattle.las_header.specs.declared.faults.HeaderFault.TheVariants.{NotLas, VersionNotRead, HeaderSize, Compressed, FormatNotRead, RecordTooShort, PointsInHeader, ScaleNotPositive, ScaleNotDecimal, OffsetOutOfRange}
use Rattle.las_header.specs.declared.faults.ScaleFault.{ScaleFault}
use Rattle.las_header.specs.declared.faults.ScaleFault.TheVariants.{NotPositive, NotDecimal}
use Rattle.las_header.specs.declared.form.Format.{Format}
use Rattle.las_header.specs.declared.block.Header.{Header}
use Rattle.byte_numbers.specs.Bytes.{number_at, numbers_at, piece}
use Rattle.las_header.specs.Formats.{format_of, format_size}
use Rattle.las_header.specs.ScaleWords.{scale_read}
use Rattle.las_header.specs.Steps.{◌>>=◌, wants}
use Rattle.las_header.specs.Versions.{is_version, block_size, takes_format}

-- the file signature
abbrev pub has_signature : List ℕ → Bool
has_signature bytes = bytes_eq (codes "LASF") (take 4 bytes)

abbrev pub minor_of : List ℕ → ℕ
minor_of bytes = number_at 25 1 bytes

abbrev pub has_version : List ℕ → Bool
has_version bytes = (number_at 24 1 bytes == 1) && is_version (minor_of bytes)

-- the block of its version is there, and its size is given as no less
abbrev pub has_block : List ℕ → Bool
has_block bytes = nat_le (block_size (minor_of bytes)) (length bytes) && nat_le (block_size (minor_of bytes)) (number_at 94 2 bytes)

-- the header block in front of a file, or the first fault of what stands before its format; the version ends at byte 26
unfoldable pub block_of : List ℕ → Result (List ℕ) HeaderFault
block_of bytes = do
  _ ← wants (has_signature bytes) NotLas
  _ ← wants (nat_le 26 (length bytes)) HeaderSize
  _ ← wants (has_version bytes) VersionNotRead
  _ ← wants (has_block bytes) HeaderSize
  Ok (take (block_size (minor_of bytes)) bytes)

-- ---- what a block says; a field that ends behind it is 0, as `number_at` has it

abbrev pub format_known : Option Format → Result Format HeaderFault
format_known (Some format) = Ok format
format_known None = Err FormatNotRead

-- a record has the bytes of the format's fields
abbrev pub holds_fields : Format → List ℕ → Bool
holds_fields format bytes = nat_le (format_size format) (number_at 105 2 bytes)

-- the points begin behind the header block
abbrev pub has_points_behind : List ℕ → Bool
has_points_behind bytes = nat_le (number_at 94 2 bytes) (number_at 96 4 bytes)

-- the format of the records, or the first fault of what the block says of them
unfoldable pub record_format : List ℕ → Result Format HeaderFault
record_format block = do
  _ ← wants (nat_lt (number_at 104 1 block) 128) Compressed
  format ← format_known (format_of (number_at 104 1 block))
  _ ← wants (takes_format (minor_of block) format) FormatNotRead
  _ ← wants (holds_fields format block) RecordTooShort
  _ ← wants (has_points_behind block) PointsInHeader
  Ok format

-- the scale of an axis
abbrev pub scale_on : HeaderAxis → Result Scale ScaleFault → Result Scale HeaderFault
scale_on axis (Ok scale) = Ok scale
scale_on axis (Err NotPositive) = Err (ScaleNotPositive axis)
scale_on axis (Err NotDecimal) = Err (ScaleNotDecimal axis)

unfoldable pub scales_of : List ℕ → Result (List Scale) HeaderFault
scales_of bytes = do
  x ← scale_on X (scale_read (number_at 131 8 bytes))
  y ← scale_on Y (scale_read (number_at 139 8 bytes))
  z ← scale_on Z (scale_read (number_at 147 8 bytes))
  Ok (x ∷ y ∷ z ∷ [])

-- the offset of an axis, in nanounits
abbrev pub offset_on : HeaderAxis → Result Dec WordFault → Result ℤ HeaderFault
offset_on axis (Ok decimal) = Ok decimal.nano
offset_on axis (Err e) = Err (OffsetOutOfRange axis)

unfoldable pub offsets_of : List ℕ → Result (List ℤ) HeaderFault
offsets_of bytes = do
  x ← offset_on X (decimal_of_word (number_at 155 8 bytes))
  y ← offset_on Y (decimal_of_word (number_at 163 8 bytes))
  z ← offset_on Z (decimal_of_word (number_at 171 8 bytes))
  Ok (x ∷ y ∷ z ∷ [])

-- the header of this format and on this grid, with its other fields at their places
unfoldable pub header_with : Format → List Scale → List ℤ → List ℕ → Header
header_with format scale offset bytes = record {
  signature = piece 0 4 bytes;
  source_id = number_at 4 2 bytes;
  encoding = number_at 6 2 bytes;
  guid = piece 8 16 bytes;
  major = number_at 24 1 bytes;
  minor = number_at 25 1 bytes;
  system = piece 26 32 bytes;
  software = piece 58 32 bytes;
  day = number_at 90 2 bytes;
  year = number_at 92 2 bytes;
  header_size = number_at 94 2 bytes;
  points_at = number_at 96 4 bytes;
  vlrs = number_at 100 4 bytes;
  format = format;
  record_length = number_at 105 2 bytes;
  legacy_count = number_at 107 4 bytes;
  legacy_returns = numbers_at 111 5 4 bytes;
  scale = scale;
  offset = offset;
  bounds = numbers_at 179 6 8 bytes;
  waveform = number_at 227 8 bytes;
  evlrs_at = number_at 235 8 bytes;
  evlrs = number_at 243 4 bytes;
  count = number_at 247 8 bytes;
  returns = numbers_at 255 15 8 bytes;
}

-- the header that a block stands for, or its first fault
unfoldable pub header_in : List ℕ → Result Header HeaderFault
header_in block = do
  format ← record_format block
  scale ← scales_of block
  offset ← offsets_of block
  Ok (header_with format scale offset block)

-- the header of a file, or its first fault
abbrev pub header_of : List ℕ → Result Header HeaderFault
header_of bytes = block_of bytes >>= header_in
