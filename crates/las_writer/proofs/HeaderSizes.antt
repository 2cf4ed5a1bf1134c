-- The sizes of a written header.
use Rattle.std.proofs.Common.{◌≡◌, ℕ, zero, suc, ◌+◌, ◌-◌, ◌*◌, ◌/◌, ◌%◌, ◌^◌, ◌<◌, ◌≤◌, min, Bool, true, false, List, [], ◌∷◌, ◌++◌, length, map, replicate, eqb-true, refl, ◌∙◌, arith, length-append}
use Rattle.std.specs.Prelude.{slice_index, nat_lt, ◌==◌, ◌&&◌, if◌then◌else◌}
use Rattle.std.specs.Int.{to_le_bytes, w16, w32, w64}
use Rattle.std.specs.List.{All, flat_map}
use Rattle.std.proofs.lemmas.List.Elements.{All-cons}
use Rattle.las_header.specs.declared.block.Header.{Header}
use Rattle.las_header.specs.declared.form.Format.{Format}
use Rattle.las_header.specs.declared.form.Format.TheVariants.{F0, F1, F2, F3, F6, F7, F8}
use Rattle.las_header.specs.Formats.{format_number, format_size}
use Rattle.las_header.specs.Sizes.{HasFileSizes, HasRecordSizes, HasGridSizes, HasCountSizes}
use Rattle.las_header.specs.Written.{nano_bytes, scale_bytes, file_part, record_part, grid_part, count_part, header_fields, header_block}
use Rattle.las_header.specs.Versions.{block_size}
use Rattle.las_header.proofs.Standing.{HasSizes, block_is_short, block_length}
use Rattle.las_vlr.specs.declared.entry.Vlr.{Vlr}
use Rattle.cloud_points.specs.declared.extra.ExtraField.{ExtraField}
use Rattle.cloud_points.specs.declared.point.Point.{Point}
use Rattle.extra_bytes.proofs.Sized.{fields_small}
use Rattle.forward_rules.specs.declared.form.LasForm.{LasForm}
use Rattle.las_writer.specs.declared.totals.Totals.{Totals}
use Rattle.las_writer.specs.Sizes.{HasFieldSizes, HasSmallTotals}
use Rattle.cloud_points.specs.Queue.{up_to_limit}
use Rattle.las_writer.specs.Totals.{returns_from, totals_of}
use Rattle.las_writer.specs.Records.{grid_for, record_size}
use Rattle.las_writer.specs.LasOutput.{IsForm, is_old, with_text_systems, legacy, bound, bounds, points_at, has_wide_counts, extra_vlrs, file_evlrs, evlrs_at, from_one, header_with}

pub flat_length : {A : Type 0} (f : A → List ℕ) (width : ℕ) (items : List A) → ((x : A) → length (f x) ≡ width) → length (flat_map f items) ≡ width * length items
flat_length f width [] h = omega arith
flat_length f width (x ∷ items) h = omega (arith, length-append (f x) (flat_map f items), h x, flat_length f width items h)

nine : (a b c d e f g h j : List ℕ) → length (a ++ b ++ c ++ d ++ e ++ f ++ g ++ h ++ j) ≡ length a + length b + length c + length d + length e + length f + length g + length h + length j
nine a b c d e f g h j =
    omega (
      arith,
      length-append (a ++ b ++ c ++ d ++ e ++ f ++ g ++ h) j,
      length-append (a ++ b ++ c ++ d ++ e ++ f ++ g) h,
      length-append (a ++ b ++ c ++ d ++ e ++ f) g,
      length-append (a ++ b ++ c ++ d ++ e) f,
      length-append (a ++ b ++ c ++ d) e,
      length-append (a ++ b ++ c) d,
      length-append (a ++ b) c,
      length-append a b,
    )

file_length : (h : Header) → HasFileSizes h → length (file_part h) ≡ 94
unfolding file_part
file_length h s =
    nine h.signature (to_le_bytes w16 h.source_id) (to_le_bytes w16 h.encoding) h.guid (h.major ∷ h.minor ∷ []) h.system h.software (to_le_bytes w16 h.day) (to_le_bytes w16 h.year)
    ∙ omega (arith, s.signature, s.guid, s.system, s.software)

seven : (a b c d e f g : List ℕ) → length (a ++ b ++ c ++ d ++ e ++ f ++ g) ≡ length a + length b + length c + length d + length e + length f + length g
seven a b c d e f g =
    omega (arith, length-append (a ++ b ++ c ++ d ++ e ++ f) g, length-append (a ++ b ++ c ++ d ++ e) f, length-append (a ++ b ++ c ++ d) e, length-append (a ++ b ++ c) d, length-append (a ++ b) c, length-append a b)

record_length : (h : Header) → HasRecordSizes h → length (record_part h) ≡ 37
unfolding record_part
record_length h s =
    seven (to_le_bytes w16 h.header_size) (to_le_bytes w32 h.points_at) (to_le_bytes w32 h.vlrs) (format_number h.format ∷ []) (to_le_bytes w16 h.record_length) (to_le_bytes w32 h.legacy_count) (flat_map (to_le_bytes w32) h.legacy_returns)
    ∙ omega (arith, flat_length (to_le_bytes w32) 4 h.legacy_returns (λ n. refl), s.five_returns)

grid_length : (h : Header) → HasGridSizes h → length (grid_part h) ≡ 96
unfolding grid_part
grid_length h s =
    let scales = flat_map scale_bytes h.scale in
    let offsets = flat_map nano_bytes h.offset in
    let bounds = flat_map (to_le_bytes w64) h.bounds in
    omega (
      arith,
      length-append (scales ++ offsets) bounds,
      length-append scales offsets,
      flat_length scale_bytes 8 h.scale (λ n. refl),
      flat_length nano_bytes 8 h.offset (λ n. refl),
      flat_length (to_le_bytes w64) 8 h.bounds (λ n. refl),
      s.three_scales,
      s.three_offsets,
      s.six_bounds,
    )

five : (a b c d e : List ℕ) → length (a ++ b ++ c ++ d ++ e) ≡ length a + length b + length c + length d + length e
five a b c d e = omega (arith, length-append (a ++ b ++ c ++ d) e, length-append (a ++ b ++ c) d, length-append (a ++ b) c, length-append a b)

count_length : (h : Header) → HasCountSizes h → length (count_part h) ≡ 148
unfolding count_part
count_length h s =
    five (to_le_bytes w64 h.waveform) (to_le_bytes w64 h.evlrs_at) (to_le_bytes w32 h.evlrs) (to_le_bytes w64 h.count) (flat_map (to_le_bytes w64) h.returns)
    ∙ omega (arith, flat_length (to_le_bytes w64) 8 h.returns (λ n. refl), s.fifteen_returns)

pub all_length : (h : Header) → HasSizes h → length (header_fields h) ≡ 375
all_length h s =
    let a = file_part h in
    let b = record_part h in
    let c = grid_part h in
    omega (arith, length-append (a ++ b ++ c) (count_part h), length-append (a ++ b) c, length-append a b, file_length h s.file, record_length h s.recorded, grid_length h s.grid, count_length h s.count)

pub same_minor : (form : LasForm) (t : Totals) → (header_with form t).minor ≡ form.minor
unfolding header_with
same_minor form t = refl

-- a header's block
pub header_length : (h : Header) → HasSizes h → length (header_block h) ≡ block_size h.minor
header_length h s = block_length h (all_length h s)

encoding_small : (format : Format) (encoding : ℕ) → encoding < 2 ^ 16 → with_text_systems format encoding < 2 ^ 16
encoding_small format encoding h = by (is_old format) (encoding / 16 % 2 == 0) refl
  where
    by : (old unset : Bool) → (encoding / 16 % 2 == 0) ≡ unset → (if old then encoding else (if unset then encoding + 16 else encoding)) < 2 ^ 16
    by true unset e = h
    by false true e = let free = eqb-true (encoding / 16 % 2) 0 e in omega arith
    by false false e = h

legacy_small : (format : Format) (count n : ℕ) → legacy format count n < 2 ^ 32
legacy_small format count n = by (is_old format && nat_lt count (2 ^ 32))
  where
    by : (b : Bool) → (if b then min n (2 ^ 32 - 1) else 0) < 2 ^ 32
    by true = omega arith
    by false = omega arith

bounds_length : (form : LasForm) (t : Totals) → length (bounds (grid_for form) t) ≡ 6
bounds_length form t = by (t.count == 0)
  where
    by : (b : Bool) → length (if b then replicate 6 0 else bound (grid_for form) 0 t.greatest ∷ bound (grid_for form) 0 t.least ∷ bound (grid_for form) 1 t.greatest ∷ bound (grid_for form) 1 t.least ∷ bound (grid_for form) 2 t.greatest ∷ bound (grid_for form) 2 t.least ∷ []) ≡ 6
    by true = refl
    by false = refl

evlrs_at_small : (form : LasForm) (count : ℕ) → evlrs_at form count < 2 ^ 64
evlrs_at_small form count = by (length (file_evlrs form) == 0)
  where
    by : (b : Bool) → (if b then 0 else up_to_limit (points_at form + record_size form * count)) < 2 ^ 64
    by true = omega arith
    by false = omega arith

pub format_small : (format : Format) → format_size format ≤ 38
format_small F0 = omega arith
format_small F1 = omega arith
format_small F2 = omega arith
format_small F3 = omega arith
format_small F6 = omega arith
format_small F7 = omega arith
format_small F8 = omega arith

pub format_long : (format : Format) → 12 ≤ format_size format
format_long F0 = omega arith
format_long F1 = omega arith
format_long F2 = omega arith
format_long F3 = omega arith
format_long F6 = omega arith
format_long F7 = omega arith
format_long F8 = omega arith

-- no record is longer than 102 bytes
pub record_small : (form : LasForm) → IsForm form → record_size form ≤ 102
record_small form is = omega (arith, is.few, fields_small form.extra, format_small form.format)

-- at most one VLR describes the extra dimensions
one_more_vlr : (vlrs : List Vlr) (fields : List ExtraField) → length (vlrs ++ extra_vlrs fields) ≤ suc (length vlrs)
one_more_vlr vlrs [] = omega (arith, length-append vlrs (extra_vlrs []))
one_more_vlr vlrs (f ∷ fields) = omega (arith, length-append vlrs (extra_vlrs (f ∷ fields)))

pub all_mapped : {A : Type 0} (P : ℕ → Type 0) (f : A → ℕ) (items : List A) → ((x : A) → P (f x)) → All P (map f items)
all_mapped P f [] h = λ k d l. absurd (omega arith)
all_mapped P f (x ∷ items) h = All-cons P (f x) (map f items) (h x) (all_mapped P f items h)

-- what only a file of 1.4 has
evlrs_few : (b : Bool) (evlrs : List Vlr) → length evlrs < 2 ^ 32 → length (if b then evlrs else []) < 2 ^ 32
evlrs_few true evlrs h = h
evlrs_few false evlrs h = omega arith

count_small : (b : Bool) (n : ℕ) → n < 2 ^ 64 → (if b then n else 0) < 2 ^ 64
count_small true n h = h
count_small false n h = omega arith

returns_length : (b : Bool) (all : List ℕ) → length (if b then from_one all else replicate 15 0) ≡ 15
returns_length true all = refl
returns_length false all = refl

returns_small : (b : Bool) (all : List ℕ) → ((k : ℕ) → slice_index all k < 2 ^ 64) → All (λ n. n < 2 ^ 64) (if b then from_one all else replicate 15 0)
returns_small true all h = all_mapped (λ n. n < 2 ^ 64) (slice_index all) (1 ∷ 2 ∷ 3 ∷ 4 ∷ 5 ∷ 6 ∷ 7 ∷ 8 ∷ 9 ∷ 10 ∷ 11 ∷ 12 ∷ 13 ∷ 14 ∷ 15 ∷ []) h
returns_small false all h = all_mapped {A = ℕ} (λ n. n < 2 ^ 64) (λ n. 0) (replicate 15 0) (λ n. omega arith)

-- the sizes of a header
pub header_sizes : (form : LasForm) (t : Totals) → HasFieldSizes form → IsForm form → points_at form < 2 ^ 32 → HasSmallTotals form t → HasSizes (header_with form t)
unfolding header_with
header_sizes form t fields is start small = record {
  file = record {
    signature = refl;
    source_id = fields.source_id;
    encoding = encoding_small form.format form.encoding fields.encoding;
    guid = fields.guid;
    system = fields.system;
    software = fields.software;
    day = fields.day;
    year = fields.year;
  };
  recorded = record {
    header_size = omega (arith, block_is_short form.minor);
    points_at = start;
    vlrs = omega (arith, is.vlrs.count, one_more_vlr form.vlrs form.extra);
    record_length = omega (arith, record_small form is);
    legacy_count = legacy_small form.format t.count t.count;
    five_returns = refl;
    legacy_returns = all_mapped (λ n. n < 2 ^ 32) (λ number. legacy form.format t.count (slice_index t.returns number)) (1 ∷ 2 ∷ 3 ∷ 4 ∷ 5 ∷ []) (λ number. legacy_small form.format t.count (slice_index t.returns number));
  };
  grid = record {
    three_scales = fields.scale;
    three_offsets = fields.offset;
    six_bounds = bounds_length form t;
    bounds = small.bounds;
  };
  count = record {
    waveform = omega arith;
    evlrs_at = evlrs_at_small form t.count;
    evlrs = evlrs_few (has_wide_counts form.minor) form.evlrs (omega (arith, is.evlrs.count));
    count = count_small (has_wide_counts form.minor) t.count small.count;
    fifteen_returns = returns_length (has_wide_counts form.minor) t.returns;
    returns = returns_small (has_wide_counts form.minor) t.returns small.returns;
  };
}

pub counts_small : (n k : ℕ) (points : List Point) (j : ℕ) → slice_index (returns_from n k points) j < 2 ^ 64
unfolding returns_from
counts_small zero k points j = omega arith
counts_small (suc n) k points zero = omega arith
counts_small (suc n) k points (suc j) = counts_small n (k + 1) points j

-- the totals of no points
pub no_totals_small : (form : LasForm) → HasSmallTotals form (totals_of form [])
unfolding totals_of
no_totals_small form = record {
  count = omega arith;
  returns = counts_small 16 0 [];
  bounds = all_mapped {A = ℕ} (λ n. n < 2 ^ 64) (λ n. 0) (replicate 6 0) (λ n. omega arith);
}
