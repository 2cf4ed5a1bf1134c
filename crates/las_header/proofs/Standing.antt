-- The header block of a header stands for it.
use Rattle.std.proofs.Common.{◌≡◌, ℕ, ◌-◌, ◌≤◌, ◌<◌, ◌==◌, Bool, true, false, ◌||◌, cond, List, [], ◌++◌, length, drop, replicate, Some, refl, ap, sym, ◌∙◌, append_assoc, arith}
use Rattle.std.proofs.lemmas.Bool.{eqb-true}
use Rattle.std.proofs.lemmas.List.{append-nil, drop_all, length-take-le, take-append-drop}
use Rattle.std.specs.List.{All}
use Rattle.las_header.specs.declared.block.Header.{Header}
use Rattle.las_header.specs.declared.form.Format.{Format}
use Rattle.las_header.specs.declared.form.Format.TheVariants.{F0, F1, F2, F3, F6, F7, F8}
use Rattle.las_header.specs.Formats.{format_of, format_number}
use Rattle.las_header.specs.Headers.{header_with, scales_of, offsets_of}
use Rattle.las_header.specs.Versions.{block_size, is_version}
use Rattle.byte_numbers.specs.Bytes.{number_at}
use Rattle.las_header.specs.Sizes.{HasFileSizes, HasRecordSizes, HasGridSizes, HasCountSizes}
use Rattle.las_header.specs.Standing.{FitsBlock, Stands}
use Rattle.las_header.specs.WordOffsets.{IsWordOffset}
use Rattle.las_header.specs.Written.{file_part, record_part, grid_part, count_part, header_fields, header_block}
use Rattle.las_header.proofs.FilePart.{FileFields, file_fields}
use Rattle.las_header.proofs.RecordPart.{RecordFields, record_fields}
use Rattle.las_header.proofs.GridPart.{GridFields, grid_fields}
use Rattle.las_header.proofs.CountPart.{CountFields, count_fields, behind_bounds, behind_waveform}
use Rattle.las_header.proofs.Padded.{number_padded, scales_padded, offsets_padded, header_padded}

-- the sizes of all fields
pub record HasSizes (h : Header) : Type 0 where
  pub file : HasFileSizes h
  pub recorded : HasRecordSizes h
  pub grid : HasGridSizes h
  pub count : HasCountSizes h

format_again : (f : Format) → format_of (format_number f) ≡ Some f
format_again F0 = refl
format_again F1 = refl
format_again F2 = refl
format_again F3 = refl
format_again F6 = refl
format_again F7 = refl
format_again F8 = refl

-- what is read from the bytes of a header, part by part
record Fields (h : Header) (bytes tail : List ℕ) : Type 0 where
  file : FileFields h bytes (record_part h ++ (grid_part h ++ (count_part h ++ tail)))
  recorded : RecordFields h bytes (grid_part h ++ (count_part h ++ tail))
  grid : GridFields h bytes (count_part h ++ tail)
  count : CountFields h bytes

flat : (a b c d rest : List ℕ) → (((a ++ b) ++ c) ++ d) ++ rest ≡ a ++ (b ++ (c ++ (d ++ rest)))
flat a b c d rest = simp append_assoc refl

all_fields : (h : Header) (bytes : List ℕ) → HasSizes h → bytes ≡ header_fields h → Fields h bytes []
all_fields h bytes sizes is =
    let x3 = count_part h ++ [] in
    let x2 = grid_part h ++ x3 in
    let x1 = record_part h ++ x2 in
    let parts : bytes ≡ file_part h ++ x1 = is ∙ sym (append-nil (header_fields h)) ∙ flat (file_part h) (record_part h) (grid_part h) (count_part h) [] in
    let file = file_fields h bytes x1 sizes.file parts in
    let recorded = record_fields h bytes x2 sizes.recorded file.end in
    let grid = grid_fields h bytes x3 sizes.grid recorded.end in
    record { file = file; recorded = recorded; grid = grid; count = count_fields h bytes [] sizes.count grid.end }

header_again : (h : Header) (bytes tail : List ℕ) → Fields h bytes tail → header_with h.format h.scale h.offset bytes ≡ h
unfolding header_with
header_again h bytes tail f = λ i. record {
  signature = f.file.signature i;
  source_id = f.file.source_id i;
  encoding = f.file.encoding i;
  guid = f.file.guid i;
  major = f.file.major i;
  minor = f.file.minor i;
  system = f.file.system i;
  software = f.file.software i;
  day = f.file.day i;
  year = f.file.year i;
  header_size = f.recorded.header_size i;
  points_at = f.recorded.points_at i;
  vlrs = f.recorded.vlrs i;
  format = h.format;
  record_length = f.recorded.record_length i;
  legacy_count = f.recorded.legacy_count i;
  legacy_returns = f.recorded.legacy_returns i;
  scale = h.scale;
  offset = h.offset;
  bounds = f.grid.bounds i;
  waveform = f.count.waveform i;
  evlrs_at = f.count.evlrs_at i;
  evlrs = f.count.evlrs i;
  count = f.count.count i;
  returns = f.count.returns i;
}

-- the three versions
data Known (minor : ℕ) : Type 0 where
  Two : minor ≡ 2 → Known minor
  Three : minor ≡ 3 → Known minor
  Four : minor ≡ 4 → Known minor

known : (minor : ℕ) → is_version minor ≡ true → Known minor
known minor e = go (minor == 2) (minor == 3) (minor == 4) refl refl refl e
  where
    go : (a b c : Bool) → minor == 2 ≡ a → minor == 3 ≡ b → minor == 4 ≡ c → a || b || c ≡ true → Known minor
    go true b c two three four e = Two (eqb-true minor 2 two)
    go false true c two three four e = Three (eqb-true minor 3 three)
    go false false true two three four e = Four (eqb-true minor 4 four)
    go false false false two three four e = absurd cc

-- what stands behind the block of its version is 0
behind_block : (h : Header) (bytes : List ℕ) → Fields h bytes [] → length bytes ≡ 375 → FitsBlock h → Known h.minor → drop (block_size h.minor) bytes ≡ replicate (375 - block_size h.minor) 0
behind_block h bytes f long fits (Two e) =
    let low : block_size h.minor ≡ 227 = ap block_size e in
    let all = behind_bounds h bytes f.grid.end (fits.waveform (omega (arith, low))) (fits.evlrs_at (omega (arith, low))) (fits.evlrs (omega (arith, low))) (fits.count (omega (arith, low))) (fits.returns (omega (arith, low))) in
    ap (λ n. drop n bytes) low ∙ all ∙ ap (λ n. replicate (375 - n) 0) (sym low)
behind_block h bytes f long fits (Three e) =
    let low : block_size h.minor ≡ 235 = ap block_size e in
    let all = behind_waveform h bytes f.grid.end (fits.evlrs_at (omega (arith, low))) (fits.evlrs (omega (arith, low))) (fits.count (omega (arith, low))) (fits.returns (omega (arith, low))) in
    ap (λ n. drop n bytes) low ∙ all ∙ ap (λ n. replicate (375 - n) 0) (sym low)
behind_block h bytes f long fits (Four e) =
    let low : block_size h.minor ≡ 375 = ap block_size e in
    ap (λ n. drop n bytes) low ∙ drop_all 375 bytes (omega (arith, long)) ∙ ap (λ n. replicate (375 - n) 0) (sym low)

block_long : (minor : ℕ) → Known minor → 227 ≤ block_size minor
block_long minor (Two e) = let low : block_size minor ≡ 227 = ap block_size e in omega (arith, low)
block_long minor (Three e) = let low : block_size minor ≡ 235 = ap block_size e in omega (arith, low)
block_long minor (Four e) = let low : block_size minor ≡ 375 = ap block_size e in omega (arith, low)

pub block_is_long : (minor : ℕ) → is_version minor ≡ true → 227 ≤ block_size minor
block_is_long minor e = block_long minor (known minor e)

-- where the block of a version ends before a field, it ends with the bounds or with the start of the waveform packets
pub record Ends (size : ℕ) : Type 0 where
  pub bounds : size < 235 → size ≤ 227
  pub packets : size < 375 → size ≤ 235

pub block_ends : (minor : ℕ) → is_version minor ≡ true → Ends (block_size minor)
block_ends minor e = go (known minor e)
  where
    go : Known minor → Ends (block_size minor)
    go (Two e) = let low : block_size minor ≡ 227 = ap block_size e in record { bounds = λ less. omega (arith, low); packets = λ less. omega (arith, low) }
    go (Three e) = let low : block_size minor ≡ 235 = ap block_size e in record { bounds = λ less. absurd (omega (arith, low, less)); packets = λ less. omega (arith, low) }
    go (Four e) = let low : block_size minor ≡ 375 = ap block_size e in record { bounds = λ less. absurd (omega (arith, low, less)); packets = λ less. absurd (omega (arith, low, less)) }

-- no block is longer than that of 1.4
pub block_is_short : (minor : ℕ) → block_size minor ≤ 375
block_is_short minor = go (minor == 2) (minor == 3) (minor == 4)
  where
    go : (a b c : Bool) → cond a 227 (cond b 235 (cond c 375 26)) ≤ 375
    go true b c = omega arith
    go false true c = omega arith
    go false false true = omega arith
    go false false false = omega arith

-- and the version stands in it
pub block_is_some : (minor : ℕ) → 26 ≤ block_size minor
block_is_some minor = go (minor == 2) (minor == 3) (minor == 4)
  where
    go : (a b c : Bool) → 26 ≤ cond a 227 (cond b 235 (cond c 375 26))
    go true b c = omega arith
    go false true c = omega arith
    go false false true = omega arith
    go false false false = omega arith

pub block_length : (h : Header) → length (header_fields h) ≡ 375 → length (header_block h) ≡ block_size h.minor
block_length h long = length-take-le (block_size h.minor) (header_fields h) (let s = block_is_short h.minor in omega (arith, s, long))

-- the header block of a header stands for it
pub block_stands : (h : Header) → HasSizes h → length (header_fields h) ≡ 375 → FitsBlock h → All IsWordOffset h.offset → Stands (header_block h) h
block_stands h sizes long fits words =
    let all = header_fields h in
    let f = all_fields h all sizes refl in
    let filled : header_block h ++ replicate (375 - block_size h.minor) 0 ≡ all =
    ap (λ zs. header_block h ++ zs) (sym (behind_block h all f long fits (known h.minor fits.version))) ∙ take-append-drop (block_size h.minor) all in
    let size = block_length h long in
    let enough : 90 ≤ length (header_block h) = (let l = block_is_long h.minor fits.version in omega (arith, l, size)) in
    let zeros = 375 - block_size h.minor in
    record {
      size = size;
      format = ap format_of (sym (number_padded 104 1 (header_block h) zeros) ∙ ap (number_at 104 1) filled ∙ f.recorded.format) ∙ format_again h.format;
      scale = sym (scales_padded (header_block h) zeros) ∙ ap scales_of filled ∙ f.grid.scale;
      offset = sym (offsets_padded (header_block h) zeros) ∙ ap offsets_of filled ∙ f.grid.offset words;
      fields = sym (header_padded h.format h.scale h.offset (header_block h) zeros enough) ∙ ap (header_with h.format h.scale h.offset) filled ∙ header_again h all [] f;
    }
