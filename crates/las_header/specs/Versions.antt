-- The versions of LAS that are read and written, by their minor version: 1.2, 1.3 and 1.4.
use Rattle.std.specs.Prelude.{ℕ, ◌==◌, nat_lt, Bool, not, ◌&&◌, ◌||◌, if◌then◌else◌}
use Rattle.las_header.specs.declared.form.Format.{Format}
use Rattle.las_header.specs.Formats.{format_number}

-- a version that is read and written
abbrev pub is_version : ℕ → Bool
is_version minor = (minor == 2) || (minor == 3) || (minor == 4)

-- the bytes of the header block: in 1.2 it ends behind the bounds, in 1.3 behind the start of the waveform packets; of any other version
-- nothing is read but what stands before its end, which tells it
abbrev pub block_size : ℕ → ℕ
block_size minor = if minor == 2 then 227 else (if minor == 3 then 235 else (if minor == 4 then 375 else 26))

-- files of a version have points of this format: of 6 to 8 only those of 1.4
abbrev pub takes_format : ℕ → Format → Bool
takes_format minor format = nat_lt (format_number format) 6 || (minor == 4)

-- a header of this version counts so many points: before 1.4 their number has 32 bits
abbrev pub fits_count : ℕ → ℕ → Bool
fits_count minor written = not (((minor == 2) || (minor == 3)) && nat_lt 4_294_967_295 written)
