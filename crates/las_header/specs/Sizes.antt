-- The sizes of a header's fields, as their types have them.
use Rattle.std.specs.Prelude.{◌≡◌, ◌^◌, ◌<◌, length}
use Rattle.std.specs.List.{All}
use Rattle.las_header.specs.declared.block.Header.{Header}

-- from the signature to the creation year
pub record HasFileSizes (h : Header) : Type 0 where
  pub signature : length h.signature ≡ 4
  pub source_id : h.source_id < 2 ^ 16
  pub encoding : h.encoding < 2 ^ 16
  pub guid : length h.guid ≡ 16
  pub system : length h.system ≡ 32
  pub software : length h.software ≡ 32
  pub day : h.day < 2 ^ 16
  pub year : h.year < 2 ^ 16

-- from the header size to the legacy counts by return
pub record HasRecordSizes (h : Header) : Type 0 where
  pub header_size : h.header_size < 2 ^ 16
  pub points_at : h.points_at < 2 ^ 32
  pub vlrs : h.vlrs < 2 ^ 32
  pub record_length : h.record_length < 2 ^ 16
  pub legacy_count : h.legacy_count < 2 ^ 32
  pub five_returns : length h.legacy_returns ≡ 5
  pub legacy_returns : All (λ n. n < 2 ^ 32) h.legacy_returns

-- the scales, the offsets and the bounds
pub record HasGridSizes (h : Header) : Type 0 where
  pub three_scales : length h.scale ≡ 3
  pub three_offsets : length h.offset ≡ 3
  pub six_bounds : length h.bounds ≡ 6
  pub bounds : All (λ n. n < 2 ^ 64) h.bounds

-- from the start of the waveform packets to the counts by return
pub record HasCountSizes (h : Header) : Type 0 where
  pub waveform : h.waveform < 2 ^ 64
  pub evlrs_at : h.evlrs_at < 2 ^ 64
  pub evlrs : h.evlrs < 2 ^ 32
  pub count : h.count < 2 ^ 64
  pub fifteen_returns : length h.returns ≡ 15
  pub returns : All (λ n. n < 2 ^ 64) h.returns
