-- What every header that is read has.
use Rattle.std.specs.Prelude.{◌≡◌, ◌≤◌, true}
use Rattle.std.specs.List.{All}
use Rattle.las_header.specs.declared.block.Header.{Header}
use Rattle.las_header.specs.Formats.{format_size}
use Rattle.las_header.specs.Offsets.{IsOffset}
use Rattle.las_header.specs.Standing.{FitsBlock}
use Rattle.las_header.specs.Versions.{block_size, takes_format}

-- what a header has that has no fault
pub record IsSound (header : Header) : Type 0 where
  pub behind : header.header_size ≤ header.points_at
  pub long : format_size header.format ≤ header.record_length
  pub offsets : All IsOffset header.offset

-- and what its version asks of it
pub record HasItsBlock (header : Header) : Type 0 where
  pub fits : FitsBlock header
  pub format : takes_format header.minor header.format ≡ true
  pub block : block_size header.minor ≤ header.header_size
