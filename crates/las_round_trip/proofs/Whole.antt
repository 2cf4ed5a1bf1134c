-- A written file as a whole.
use Rattle.std.proofs.Common.{◌≡◌, ℕ, zero, suc, ◌+◌, ◌-◌, ◌*◌, ◌/◌, ◌^◌, ◌<◌, min, Bool, true, false, List, [], ◌∷◌, ◌++◌, length, take, drop, map, Some, None, Ok, refl, sym, ap, subst, ◌∙◌, arith, append_assoc, append-nil, length-append, eq-eqb, ne_eqb, eqb-true, ltb-false}
use Rattle.std.specs.Prelude.{◌==◌, ◌&&◌, ◌||◌, nat_lt, not, if◌then◌else◌, replicate}
use Rattle.std.specs.List.{All, flat_map}
use Rattle.std.proofs.lemmas.Bool.{le-leb}
use Rattle.std.proofs.lemmas.List.Elements.{All-nil}
use Rattle.std.proofs.Math.Seq.{drop-append_seam, take-append_seam, take-length}
use Rattle.cloud_points.specs.declared.faults.PointFault.TheVariants.{Cut}
use Rattle.cloud_points.specs.declared.extra.ExtraField.{ExtraField}
use Rattle.cloud_points.specs.declared.point.Point.{Point}
use Rattle.las_header.specs.declared.block.Header.{Header}
use Rattle.las_header.specs.declared.form.Format.{Format}
use Rattle.las_header.specs.Counts.{points_in}
use Rattle.byte_numbers.proofs.Fronts.{number_front}
use Rattle.las_header.specs.Headers.{header_of, minor_of, header_with as read_with}
use Rattle.las_header.specs.Standing.{FitsBlock, HasNoFault, Stands}
use Rattle.las_header.specs.Steps.{◌>>=◌}
use Rattle.las_header.specs.WordOffsets.{IsWordOffset}
use Rattle.las_header.specs.Versions.{block_size, fits_count, is_version, takes_format}
use Rattle.las_header.specs.Written.{header_block}
use Rattle.las_header.proofs.Fronts.{header_of_front}
use Rattle.las_header.proofs.Standing.{HasSizes, block_is_long, block_stands}
use Rattle.las_header.proofs.ReadBack.{is_read_back}
use Rattle.las_vlr.specs.declared.entry.Vlr.{Vlr}
use Rattle.las_vlr.specs.Vlrs.{vlrs_of, evlrs_of, entries_from}
use Rattle.las_vlr.specs.Limits.{AreHeldEvlrs}
use Rattle.las_vlr.specs.Written.{IsEvlr, evlr_bytes}
use Rattle.las_vlr.proofs.WrittenLists.{vlrs_again, evlrs_again}
use Rattle.las_reader.specs.Frames.{header_or, list_or, header_in, vlrs_in, evlrs_in, frame_of}
use Rattle.las_reader.specs.Files.{cut_of, whole_records, las_with}
use Rattle.las_reader.specs.Records.{point_of, points_from, out_from}
use Rattle.las_reader.proofs.Plain.{without_fields}
use Rattle.forward_rules.specs.declared.form.LasForm.{LasForm}
use Rattle.las_writer.specs.declared.totals.Totals.{Totals}
use Rattle.las_writer.specs.Records.{record_size, point_record, records, refusal}
use Rattle.cloud_points.specs.Queue.{up_to_limit}
use Rattle.las_writer.specs.Totals.{totals_of}
use Rattle.las_writer.specs.LasOutput.{IsForm, is_old, legacy, has_wide_counts, points_at, file_vlrs, file_evlrs, evlrs_at, from_one, vlrs_bytes, evlrs_bytes, header_with, header_for, las_output}
use Rattle.las_writer.proofs.HeaderSizes.{all_length, header_length, header_sizes, same_minor}
use Rattle.las_writer.proofs.Bounded.{start_small, totals_small}
use Rattle.las_round_trip.specs.RoundTrip.{IsWritten, written_point, FilesAreReadBack}
use Rattle.las_round_trip.proofs.Parts.{NoneOut, record_some, all_held, all_counted, records_length, points_again, none_out_from, all_whole}

no_fault : (form : LasForm) (t : Totals) → IsForm form → HasNoFault (header_with form t)
unfolding header_with
no_fault form t is = record { signature = refl; major = refl; version = is.version; format = is.format; block = omega arith; behind = omega arith; long = omega arith }

-- a block that is shorter than that of 1.4 has no fields of its own
narrow : (minor : ℕ) → block_size minor < 375 → has_wide_counts minor ≡ false
narrow minor short = by (minor == 4) refl
  where
    by : (b : Bool) → minor == 4 ≡ b → minor == 4 ≡ false
    by true e = let size : block_size minor ≡ 375 = ap block_size (eqb-true minor 4 e) in absurd (omega (arith, size, short))
    by false e = e

fits_block : (form : LasForm) (t : Totals) → IsForm form → FitsBlock (header_with form t)
unfolding header_with
fits_block form t is =
    let none : block_size form.minor < 375 → has_wide_counts form.minor ≡ false = narrow form.minor in
    record {
      version = is.version;
      waveform = λ short. refl;
      evlrs_at = λ short. ap (λ b. if length (if b then form.evlrs else []) == 0 then 0 else up_to_limit (points_at form + record_size form * t.count)) (none (omega (arith, short)));
      evlrs = λ short. ap (λ b. length (if b then form.evlrs else [])) (none (omega (arith, short)));
      count = λ short. ap (λ b. if b then t.count else 0) (none (omega (arith, short)));
      returns = λ short. ap (λ b. if b then from_one t.returns else replicate 15 0) (none (omega (arith, short)));
    }

words : (form : LasForm) (t : Totals) → All IsWordOffset form.offset → All IsWordOffset (header_with form t).offset
unfolding header_with
words form t h = h

sizes_of : (form : LasForm) (points : List Point) → IsWritten form points → HasSizes (header_for form points)
sizes_of form points w = header_sizes form (totals_of form points) w.fields w.taken (start_small form w.taken) (totals_small form points w.taken w.held)

front_length : (form : LasForm) (points : List Point) → IsWritten form points → length (header_block (header_for form points)) ≡ block_size form.minor
front_length form points w = header_length (header_for form points) (sizes_of form points w) ∙ ap block_size (same_minor form (totals_of form points))

stands : (form : LasForm) (points : List Point) → IsWritten form points → Stands (header_block (header_for form points)) (header_for form points)
stands form points w =
    block_stands (header_for form points) (sizes_of form points w) (all_length (header_for form points) (sizes_of form points w)) (fits_block form (totals_of form points) w.taken)
    (words form (totals_of form points) w.offsets)

minor_stands : (h : Header) (bytes : List ℕ) → Stands bytes h → minor_of bytes ≡ h.minor
unfolding read_with
minor_stands h bytes s = ap (λ (x : Header). x.minor) s.fields

header_again : (form : LasForm) (points : List Point) (rest : List ℕ) → IsWritten form points → header_in (header_block (header_for form points) ++ rest) ≡ Ok (header_for form points)
header_again form points rest w =
    let h = header_for form points in
    let front = header_block h in
    let file = front ++ rest in
    let long = front_length form points w in
    let enough = block_is_long form.minor w.taken.version in
    let whole : take (length front) file ≡ front = take-append_seam front rest in
    let minor : minor_of file ≡ form.minor =
    sym (number_front 1 25 (length front) front file (omega (arith, long, enough)) (take-length front ∙ sym whole)) ∙ minor_stands h front (stands form points w) ∙ same_minor form (totals_of form points) in
    let taken : take (block_size (minor_of file)) file ≡ front = ap (λ n. take n file) (ap block_size minor ∙ sym long) ∙ whole in
    let again : header_of front ≡ Ok h = is_read_back h front (stands form points w) (no_fault form (totals_of form points) w.taken) in
    ap header_or (sym (header_of_front file) ∙ ap header_of taken ∙ again)

list_again : (form : LasForm) (points : List Point) (rest : List ℕ) → IsWritten form points → vlrs_in (header_for form points) (header_block (header_for form points) ++ (vlrs_bytes form ++ rest)) ≡ Ok (file_vlrs form)
unfolding header_with
list_again form points rest w =
    let front = header_block (header_for form points) in
    let size = front_length form points w in
    let again = vlrs_again front rest (file_vlrs form) (points_at form) w.vlrs (omega (arith, size)) in
    ap list_or (subst (λ n. vlrs_of n (points_at form) (length (file_vlrs form)) (front ++ (vlrs_bytes form ++ rest)) ≡ Ok (file_vlrs form)) size again)

-- how long the file is, and how many points it counts
file_length : (form : LasForm) (points : List Point) → IsWritten form points → length (las_output form points) ≡ points_at form + (record_size form * length points + length (evlrs_bytes form))
file_length form points w =
    let front = header_block (header_for form points) in
    let v = vlrs_bytes form in
    let r = records form points in
    let e = evlrs_bytes form in
    omega (arith, front_length form points w, length-append front (v ++ (r ++ e)), length-append v (r ++ e), length-append r e, records_length form points (all_held form points w.held))

few_points : (size n : ℕ) → 0 < size → size * n < 2 ^ 64 → n < 2 ^ 64
few_points zero n h l = absurd (omega arith)
few_points (suc size) n h l = let e : suc size * n ≡ n + size * n = omega arith in omega arith

count_is : (form : LasForm) (points : List Point) → IsWritten form points → up_to_limit (length points) ≡ length points
count_is form points w =
    let few = few_points (record_size form) (length points) (record_some form) (omega (arith, file_length form points w, w.small)) in
    omega (arith, few)

-- EVLRs stand where the header says
behind_points : (form : LasForm) (evlrs : List Vlr) (at count : ℕ) (front : List ℕ) → AreHeldEvlrs evlrs → length front ≡ at → at < 2 ^ 64
    → evlrs_of (if length evlrs == 0 then 0 else up_to_limit at) (length evlrs) (front ++ flat_map evlr_bytes evlrs) ≡ Ok evlrs
unfolding entries_from
behind_points form [] at count front held long fits = refl
behind_points form (x ∷ evlrs) at count front held long fits =
    let place : length front ≡ up_to_limit at = omega arith in
    let again = evlrs_again front [] (x ∷ evlrs) held in
    let whole = append-nil (flat_map evlr_bytes (x ∷ evlrs)) in
    let some : (length (x ∷ evlrs) == 0) ≡ false = ne_eqb (length (x ∷ evlrs)) 0 (λ none. absurd (omega arith)) in
    ap (λ b. evlrs_of (if b then 0 else up_to_limit at) (length (x ∷ evlrs)) (front ++ flat_map evlr_bytes (x ∷ evlrs))) some
    ∙ subst (λ n. evlrs_of n (length (x ∷ evlrs)) (front ++ flat_map evlr_bytes (x ∷ evlrs)) ≡ Ok (x ∷ evlrs)) place
    (subst (λ l. evlrs_of (length front) (length (x ∷ evlrs)) (front ++ l) ≡ Ok (x ∷ evlrs)) whole again)

held_evlrs : (b : Bool) (evlrs : List Vlr) → AreHeldEvlrs evlrs → AreHeldEvlrs (if b then evlrs else [])
held_evlrs true evlrs h = h
held_evlrs false evlrs h = record { count = omega arith; payloads = omega arith; each = All-nil IsEvlr }

extended_again : (form : LasForm) (points : List Point) → IsWritten form points → evlrs_in (header_for form points) (las_output form points) ≡ Ok (file_evlrs form)
unfolding header_with totals_of
extended_again form points w =
    let front = header_block (header_for form points) in
    let v = vlrs_bytes form in
    let r = records form points in
    let at = points_at form + record_size form * length points in
    let long : length (front ++ (v ++ r)) ≡ at = omega (arith, front_length form points w, length-append front (v ++ r), length-append v r, records_length form points (all_held form points w.held)) in
    let fits : at < 2 ^ 64 = omega (arith, file_length form points w, w.small) in
    let parts : las_output form points ≡ (front ++ (v ++ r)) ++ evlrs_bytes form = ap (λ l. front ++ l) (sym (append_assoc v r (evlrs_bytes form))) ∙ sym (append_assoc front (v ++ r) (evlrs_bytes form)) in
    let again = behind_points form (file_evlrs form) at 0 (front ++ (v ++ r)) (held_evlrs (has_wide_counts form.minor) form.evlrs w.taken.evlrs) long fits in
    let counted : evlrs_at form (up_to_limit (length points)) ≡ (if length (file_evlrs form) == 0 then 0 else up_to_limit at) = ap (λ n. evlrs_at form n) (count_is form points w) in
    ap list_or (counted_at (header_for form points) form at parts counted again)
  where
    counted_at : (h : Header) (f : LasForm) (at : ℕ) → las_output form points ≡ (header_block (header_for form points) ++ (vlrs_bytes form ++ records form points)) ++ evlrs_bytes form → evlrs_at form (up_to_limit (length points)) ≡ (if length (file_evlrs form) == 0 then 0 else up_to_limit at)
        → evlrs_of (if length (file_evlrs form) == 0 then 0 else up_to_limit at) (length (file_evlrs form)) ((header_block (header_for form points) ++ (vlrs_bytes form ++ records form points)) ++ evlrs_bytes form) ≡ Ok (file_evlrs form)
        → evlrs_of (evlrs_at form (up_to_limit (length points))) (length (file_evlrs form)) (las_output form points) ≡ Ok (file_evlrs form)
    counted_at h f at parts counted again = ap (λ n. evlrs_of n (length (file_evlrs form)) (las_output form points)) counted ∙ ap (evlrs_of (if length (file_evlrs form) == 0 then 0 else up_to_limit at) (length (file_evlrs form))) parts ∙ again

-- a count of 64 bits, or the legacy count where there is none
legacy_is : (format : Format) (n : ℕ) → is_old format ≡ true → n < 2 ^ 32 → legacy format n n ≡ n
legacy_is format n old few =
    let small : nat_lt n (2 ^ 32) ≡ true = le-leb (suc n) (2 ^ 32) few in
    ap (λ b. if b && nat_lt n (2 ^ 32) then min n (2 ^ 32 - 1) else 0) old ∙ ap (λ b. if b then min n (2 ^ 32 - 1) else 0) small ∙ omega (arith, few)

legacy_none : (format : Format) → legacy format 0 0 ≡ 0
legacy_none format = by (is_old format && nat_lt 0 (2 ^ 32))
  where
    by : (b : Bool) → (if b then min 0 (2 ^ 32 - 1) else 0) ≡ 0
    by true = refl
    by false = refl

wide_counted : (format : Format) (n : ℕ) → (if n == 0 then legacy format n n else n) ≡ n
wide_counted format n = by (n == 0) refl
  where
    by : (b : Bool) → (n == 0) ≡ b → (if b then legacy format n n else n) ≡ n
    by true e = let none = eqb-true n 0 e in ap (λ m. legacy format m m) none ∙ legacy_none format ∙ sym none
    by false e = refl

-- below 1.4 the format is an old one, and the points are few
few_counted : (minor n : ℕ) → is_version minor ≡ true → has_wide_counts minor ≡ false → fits_count minor n ≡ true → n < 2 ^ 32
few_counted minor n known narrow fit = by (minor == 2) (minor == 3) (minor == 4) (nat_lt 4_294_967_295 n) known narrow refl fit
  where
    by : (a b c above : Bool) → a || b || c ≡ true → c ≡ false → nat_lt 4_294_967_295 n ≡ above → not ((a || b) && above) ≡ true → n < 2 ^ 32
    by a b true above k w e h = absurd cc
    by false false false above k w e h = absurd cc
    by true b false true k w e h = absurd cc
    by false true false true k w e h = absurd cc
    by true b false false k w e h = let few = ltb-false 4_294_967_295 n e in omega (arith, few)
    by false true false false k w e h = let few = ltb-false 4_294_967_295 n e in omega (arith, few)

old_format : (minor : ℕ) (format : Format) → has_wide_counts minor ≡ false → takes_format minor format ≡ true → is_old format ≡ true
old_format minor format narrow takes = by (is_old format) (minor == 4) narrow takes
  where
    by : (a b : Bool) → b ≡ false → a || b ≡ true → a ≡ true
    by true b n e = refl
    by false b n e = absurd cc

few_points_fit : (form : LasForm) (points : List Point) → IsForm form → refusal form 0 points ≡ None → has_wide_counts form.minor ≡ false → length points < 2 ^ 32
few_points_fit form [] is held none = omega arith
few_points_fit form (p ∷ points) is held none = few_counted form.minor (length (p ∷ points)) is.version none (all_counted form (p ∷ points) held (omega arith))

header_counted : (format : Format) (n : ℕ) (b : Bool) → (b ≡ false → legacy format n n ≡ n) → (if (if b then n else 0) == 0 then legacy format n n else (if b then n else 0)) ≡ n
header_counted format n true narrow = wide_counted format n
header_counted format n false narrow = narrow refl

points_counted : (form : LasForm) (points : List Point) → IsWritten form points → points_in (header_for form points) ≡ length points
unfolding header_with totals_of
points_counted form points w =
    header_counted form.format (up_to_limit (length points)) (has_wide_counts form.minor)
    (λ narrow. let few = few_points_fit form points w.taken w.held narrow in legacy_is form.format (up_to_limit (length points)) (old_format form.minor form.format narrow w.taken.format) (omega (arith, few)))
    ∙ count_is form points w

-- all counted records are whole
pub whole_is : (form : LasForm) (points : List Point) → IsWritten form points → whole_records (header_for form points) (las_output form points) ≡ length points
unfolding header_with
whole_is form points w =
    let size = record_size form in
    let n = length points in
    let behind : length (las_output form points) - points_at form ≡ size * n + length (evlrs_bytes form) = omega (arith, file_length form points w) in
    ap (λ c. min c ((length (las_output form points) - points_at form) / size)) (points_counted form points w) ∙ ap (λ m. min n (m / size)) behind ∙ all_whole size n (length (evlrs_bytes form)) (record_some form)

behind_lists : (form : LasForm) (points : List Point) → IsWritten form points → drop (points_at form) (las_output form points) ≡ records form points ++ evlrs_bytes form
behind_lists form points w =
    let front = header_block (header_for form points) in
    let v = vlrs_bytes form in
    let rest = records form points ++ evlrs_bytes form in
    let long : points_at form ≡ length (front ++ v) = omega (arith, front_length form points w, length-append front v) in
    ap (drop (points_at form)) (sym (append_assoc front v rest)) ∙ ap (λ n. drop n ((front ++ v) ++ rest)) long ∙ drop-append_seam (front ++ v) rest

from_first : (form : LasForm) (points : List Point) → IsWritten form points → drop (record_size form * 0) (drop (points_at form) (las_output form points)) ≡ records form points ++ evlrs_bytes form
from_first form points w =
    let none : record_size form * 0 ≡ 0 = omega arith in
    ap (λ n. drop n (drop (points_at form) (las_output form points))) none ∙ behind_lists form points w

-- the points that are read from the records in this way
pub points_read : (form : LasForm) (points : List Point) (read : List ℕ → Point) → IsWritten form points
    → points_from read (header_for form points).record_length 0 (length points) (drop (header_for form points).points_at (las_output form points)) ≡ map (λ p. read (point_record form p)) points
unfolding header_with
points_read form points read w =
    points_again form read (record_size form) 0 points (drop (points_at form) (las_output form points)) (evlrs_bytes form) refl (all_held form points w.held) (from_first form points w)

-- none of them has a value that no point holds
pub none_out : (form : LasForm) (points : List Point) (fields : List ExtraField) → IsWritten form points → NoneOut form fields points
    → out_from fields (header_for form points).record_length 0 (length points) (drop (header_for form points).points_at (las_output form points)) ≡ None
unfolding header_with
none_out form points fields w none =
    none_out_from form fields (record_size form) 0 points (drop (points_at form) (las_output form points)) (evlrs_bytes form) refl (all_held form points w.held) none (from_first form points w)

-- the fault of a file whose counted records are all whole
pub uncut : (form : LasForm) (points : List Point) → IsWritten form points → cut_of (points_in (header_for form points)) (whole_records (header_for form points) (las_output form points)) ≡ None
uncut form points w =
    let n = length points in
    (λ i. cut_of (points_counted form points w i) (whole_is form points w i)) ∙ ap (λ b. if b then None else Some (Cut n)) (eq-eqb n n refl)

plain_points : (form : LasForm) (points : List Point) → map (λ p. point_of (header_for form points) (point_record form p)) points ≡ map (written_point form) points
unfolding header_with point_of
plain_points form points = refl

las_is : (form : LasForm) (points : List Point) → IsWritten form points → las_with (header_for form points) [] (las_output form points) ≡ record { points = map (written_point form) points; fault = None }
las_is form points w =
    let h = header_for form points in
    let file = las_output form points in
    let these : points_from (point_of h) h.record_length 0 (whole_records h file) (drop h.points_at file) ≡ map (written_point form) points =
    ap (λ m. points_from (point_of h) h.record_length 0 m (drop h.points_at file)) (whole_is form points w) ∙ points_read form points (point_of h) w ∙ plain_points form points in
    without_fields h file ∙ (λ i. record { points = these i; fault = uncut form points w i })

-- what stands around the points of the file
pub frame_again : (form : LasForm) (points : List Point) → IsWritten form points → frame_of (las_output form points) ≡ Ok (record { header = header_for form points; vlrs = file_vlrs form; evlrs = file_evlrs form })
frame_again form points w =
    let h = header_for form points in
    let file = las_output form points in
    let behind = records form points ++ evlrs_bytes form in
    ap (λ r. r >>= (λ x. vlrs_in x file >>= (λ vs. evlrs_in x file >>= (λ es. Ok (record { header = x; vlrs = vs; evlrs = es }))))) (header_again form points (vlrs_bytes form ++ behind) w)
    ∙ ap (λ r. r >>= (λ vs. evlrs_in h file >>= (λ es. Ok (record { header = h; vlrs = vs; evlrs = es })))) (list_again form points behind w)
    ∙ ap (λ r. r >>= (λ es. Ok (record { header = h; vlrs = file_vlrs form; evlrs = es }))) (extended_again form points w)

pub files_again : FilesAreReadBack
files_again form points w = ap (λ r. r >>= (λ f. Ok (las_with f.header [] (las_output form points)))) (frame_again form points w) ∙ ap Ok (las_is form points w)
