-- The bytes that stand for a header.
use Rattle.std.specs.Prelude.{◌≡◌, ℕ, ◌≤◌, ◌<◌, List, length, replicate, codes, true, Some, Ok}
use Rattle.las_header.specs.declared.block.Header.{Header}
use Rattle.byte_numbers.specs.Bytes.{number_at}
use Rattle.las_header.specs.Formats.{format_of, format_size}
use Rattle.las_header.specs.Headers.{scales_of, offsets_of, header_with}
use Rattle.las_header.specs.Versions.{block_size, is_version, takes_format}

-- the bytes are a block of its version; each field that ends within it stands at its place, the format as its number, and the scales and
-- offsets as words that are read as them; each other field is 0, as `number_at` has it
pub record Stands (bytes : List ℕ) (h : Header) : Type 0 where
  pub size : length bytes ≡ block_size h.minor
  pub format : format_of (number_at 104 1 bytes) ≡ Some h.format
  pub scale : scales_of bytes ≡ Ok h.scale
  pub offset : offsets_of bytes ≡ Ok h.offset
  pub fields : header_with h.format h.scale h.offset bytes ≡ h

-- a header of a version that is written; a field that ends behind its block is 0
pub record FitsBlock (h : Header) : Type 0 where
  pub version : is_version h.minor ≡ true
  pub waveform : block_size h.minor < 235 → h.waveform ≡ 0
  pub evlrs_at : block_size h.minor < 243 → h.evlrs_at ≡ 0
  pub evlrs : block_size h.minor < 247 → h.evlrs ≡ 0
  pub count : block_size h.minor < 255 → h.count ≡ 0
  pub returns : block_size h.minor < 375 → h.returns ≡ replicate 15 0

-- a header whose bytes are read, and not refused
pub record HasNoFault (h : Header) : Type 0 where
  pub signature : h.signature ≡ codes "LASF"
  pub major : h.major ≡ 1
  pub version : is_version h.minor ≡ true
  pub format : takes_format h.minor h.format ≡ true
  pub block : block_size h.minor ≤ h.header_size
  pub behind : h.header_size ≤ h.points_at
  pub long : format_size h.format ≤ h.record_length
