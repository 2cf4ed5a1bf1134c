-- The file of a LAS writer: the header block, the VLRs, the records and, in LAS 1.4, the EVLRs.
use Rattle.std.specs.Prelude.{◌≡◌, ℕ, ◌+◌, ◌*◌, ◌/◌, ◌%◌, ◌-◌, ◌^◌, ◌≤◌, ℤ, ◌==◌, min, nat_lt, Bool, true, ◌&&◌, if◌then◌else◌, List, [], ◌∷◌, ◌++◌, length, map, replicate, slice_index, codes}
use Rattle.std.specs.List.{All, flat_map}
use Rattle.cloud_points.specs.declared.point.Point.{Point}
use Rattle.cloud_points.specs.declared.extra.ExtraField.{ExtraField}
use Rattle.extra_bytes.specs.Record.{extra_vlr}
use Rattle.extra_bytes.specs.Fields.{AreLaid}
use Rattle.ieee_words.specs.NearWord.{near_word}
use Rattle.las_header.specs.declared.block.Header.{Header}
use Rattle.las_header.specs.declared.form.Format.{Format}
use Rattle.las_header.specs.Formats.{format_number, format_size}
use Rattle.las_header.specs.Offsets.{IsOffset}
use Rattle.las_header.specs.Versions.{block_size, is_version, takes_format}
use Rattle.las_header.specs.Written.{header_block}
use Rattle.las_vlr.specs.declared.entry.Vlr.{Vlr}
use Rattle.las_vlr.specs.Limits.{AreHeldVlrs, AreHeldEvlrs}
use Rattle.las_vlr.specs.Written.{vlr_bytes, evlr_bytes}
use Rattle.point_formats.specs.declared.grid.Grid.{Grid}
use Rattle.point_formats.specs.Grids.{coordinate}
use Rattle.forward_rules.specs.declared.form.LasForm.{LasForm}
use Rattle.las_writer.specs.declared.totals.Totals.{Totals}
use Rattle.las_writer.specs.Records.{grid_for, record_size, records}
use Rattle.cloud_points.specs.Queue.{up_to_limit}
use Rattle.las_writer.specs.Totals.{number_on, totals_of}

-- what a writer takes: version 1.2, 1.3 or 1.4, a format of that version, offsets below 10 ^ 9 in size, lists within the limits of those
-- that are read, and at most eight extra dimensions, right behind the fields of the format
pub record IsForm (form : LasForm) : Type 0 where
  pub version : is_version form.minor ≡ true
  pub format : takes_format form.minor form.format ≡ true
  pub offsets : All IsOffset form.offset
  pub vlrs : AreHeldVlrs form.vlrs
  pub evlrs : AreHeldEvlrs form.evlrs
  pub extra : AreLaid (format_size form.format) form.extra
  pub few : length form.extra ≤ 8

-- LAS 1.4 alone has EVLRs, and counts of 64 bits
abbrev pub has_wide_counts : ℕ → Bool
has_wide_counts minor = minor == 4

-- formats 0 to 3, which have counts of 32 bits too
abbrev pub is_old : Format → Bool
is_old format = nat_lt (format_number format) 6

-- bit 4 of the encoding, which says that coordinate systems are given as text, is set for formats 6 to 8
abbrev pub with_text_systems : Format → ℕ → ℕ
with_text_systems format encoding = if is_old format then encoding else (if encoding / 16 % 2 == 0 then encoding + 16 else encoding)

-- a legacy count: none for formats 6 to 8, nor where there are more points than 32 bits count
abbrev pub legacy : Format → ℕ → ℕ → ℕ
legacy format count n = if is_old format && nat_lt count (2 ^ 32) then min n (2 ^ 32 - 1) else 0

-- the counts of return numbers 1 to 5 so, of counts from number 0 on
abbrev pub legacy_returns : Format → ℕ → List ℕ → List ℕ
legacy_returns format count all = map (λ number. legacy format count (slice_index all number)) (1 ∷ 2 ∷ 3 ∷ 4 ∷ 5 ∷ [])

-- the counts of return numbers 1 to 15, of those from number 0 on
abbrev pub from_one : List ℕ → List ℕ
from_one all = map (slice_index all) (1 ∷ 2 ∷ 3 ∷ 4 ∷ 5 ∷ 6 ∷ 7 ∷ 8 ∷ 9 ∷ 10 ∷ 11 ∷ 12 ∷ 13 ∷ 14 ∷ 15 ∷ [])

-- the word of a raw number's coordinate on an axis
abbrev pub bound : Grid → ℕ → List ℤ → ℕ
bound grid axis numbers = near_word (coordinate grid axis (number_on numbers axis)) 9

-- the greatest and the least coordinate on each axis, six zero words where there are no points
abbrev pub bounds : Grid → Totals → List ℕ
bounds grid t = if t.count == 0 then replicate 6 0 else bound grid 0 t.greatest ∷ bound grid 0 t.least
    ∷ bound grid 1 t.greatest ∷ bound grid 1 t.least ∷ bound grid 2 t.greatest ∷ bound grid 2 t.least ∷ []

-- the VLR that describes extra dimensions, where there are some
abbrev pub extra_vlrs : List ExtraField → List Vlr
extra_vlrs [] = []
extra_vlrs fields = extra_vlr fields ∷ []

-- the VLRs of the file, that one behind all others
abbrev pub file_vlrs : LasForm → List Vlr
file_vlrs form = form.vlrs ++ extra_vlrs form.extra

abbrev pub vlrs_bytes : LasForm → List ℕ
vlrs_bytes form = flat_map vlr_bytes (file_vlrs form)

-- the EVLRs of the file
abbrev pub file_evlrs : LasForm → List Vlr
file_evlrs form = if has_wide_counts form.minor then form.evlrs else []

abbrev pub evlrs_bytes : LasForm → List ℕ
evlrs_bytes form = flat_map evlr_bytes (file_evlrs form)

-- where the points begin
abbrev pub points_at : LasForm → ℕ
points_at form = block_size form.minor + length (vlrs_bytes form)

-- where the EVLRs begin, behind so many points; 0 without EVLRs
abbrev pub evlrs_at : LasForm → ℕ → ℕ
evlrs_at form count = if length (file_evlrs form) == 0 then 0 else up_to_limit (points_at form + record_size form * count)

-- the header with these totals
unfoldable pub header_with : LasForm → Totals → Header
header_with form t = record {
  signature = codes "LASF";
  source_id = form.source_id;
  encoding = with_text_systems form.format form.encoding;
  guid = form.guid;
  major = 1;
  minor = form.minor;
  system = form.system;
  software = form.software;
  day = form.day;
  year = form.year;
  header_size = block_size form.minor;
  points_at = points_at form;
  vlrs = length (file_vlrs form);
  format = form.format;
  record_length = record_size form;
  legacy_count = legacy form.format t.count t.count;
  legacy_returns = legacy_returns form.format t.count t.returns;
  scale = form.scale;
  offset = form.offset;
  bounds = bounds (grid_for form) t;
  waveform = 0;
  evlrs_at = evlrs_at form t.count;
  evlrs = length (file_evlrs form);
  count = if has_wide_counts form.minor then t.count else 0;
  returns = if has_wide_counts form.minor then from_one t.returns else replicate 15 0;
}

-- the header of a file of these points
abbrev pub header_for : LasForm → List Point → Header
header_for form points = header_with form (totals_of form points)

-- a file that isn't finished: its header is that of no points, and the EVLRs lack
abbrev pub las_unfinished : LasForm → List Point → List ℕ
las_unfinished form points = header_block (header_for form []) ++ (vlrs_bytes form ++ records form points)

-- the whole file of these points
abbrev pub las_output : LasForm → List Point → List ℕ
las_output form points = header_block (header_for form points) ++ (vlrs_bytes form ++ (records form points ++ evlrs_bytes form))
