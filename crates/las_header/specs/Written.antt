-- The bytes of a header, its fields in order (LAS 1.4 R15, "Public Header Block").
use Rattle.std.specs.Prelude.{ℕ, ℤ, List, [], ◌∷◌, ◌++◌, take}
use Rattle.std.specs.List.{flat_map}
use Rattle.std.specs.Int.{w16, w32, w64, to_le_bytes}
use Rattle.decimal_coords.specs.declared.grid.Scale.{Scale}
use Rattle.ieee_words.specs.NearWord.{near_word}
use Rattle.las_header.specs.declared.block.Header.{Header}
use Rattle.las_header.specs.Formats.{format_number}
use Rattle.las_header.specs.Versions.{block_size}

-- the word nearest to a number of nanounits
abbrev pub nano_bytes : ℤ → List ℕ
nano_bytes nano = to_le_bytes w64 (near_word nano 9)

abbrev pub scale_bytes : Scale → List ℕ
scale_bytes scale = nano_bytes scale.nano

-- from the signature to the creation year
unfoldable pub file_part : Header → List ℕ
file_part h = h.signature ++ to_le_bytes w16 h.source_id ++ to_le_bytes w16 h.encoding ++ h.guid ++ (h.major ∷ h.minor ∷ [])
    ++ h.system ++ h.software ++ to_le_bytes w16 h.day ++ to_le_bytes w16 h.year

-- from the header size to the legacy counts by return
unfoldable pub record_part : Header → List ℕ
record_part h = to_le_bytes w16 h.header_size ++ to_le_bytes w32 h.points_at ++ to_le_bytes w32 h.vlrs
    ++ (format_number h.format ∷ []) ++ to_le_bytes w16 h.record_length ++ to_le_bytes w32 h.legacy_count
    ++ flat_map (to_le_bytes w32) h.legacy_returns

-- the scales, the offsets and the bounds
unfoldable pub grid_part : Header → List ℕ
grid_part h = flat_map scale_bytes h.scale ++ flat_map nano_bytes h.offset ++ flat_map (to_le_bytes w64) h.bounds

-- from the start of the waveform packets to the counts by return
unfoldable pub count_part : Header → List ℕ
count_part h = to_le_bytes w64 h.waveform ++ to_le_bytes w64 h.evlrs_at ++ to_le_bytes w32 h.evlrs ++ to_le_bytes w64 h.count
    ++ flat_map (to_le_bytes w64) h.returns

-- all fields of LAS 1.4, one after another
abbrev pub header_fields : Header → List ℕ
header_fields h = file_part h ++ record_part h ++ grid_part h ++ count_part h

-- the header block: those fields that end within the block of its version
abbrev pub header_block : Header → List ℕ
header_block h = take (block_size h.minor) (header_fields h)
