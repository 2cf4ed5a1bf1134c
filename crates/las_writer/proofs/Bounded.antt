-- The totals of points that have records are numbers of 64 bits.
use Rattle.std.proofs.Common.{◌≡◌, ℕ, zero, suc, ◌+◌, ◌-◌, ◌*◌, ◌^◌, ◌<◌, ◌≤◌, ℤ, pos, ◌+ℤ◌, ◌*ℤ◌, Bool, true, false, cond, List, [], ◌∷◌, length, map, get_or, replicate, Option, None, Result, Ok, Err, if◌then◌else◌, refl, ap, sym, subst, ◌∙◌, arith, length-append, FitsSigned}
use Rattle.std.specs.Prelude.{neg_ℤ, unsigned_abs, int_lt, ◌==◌}
use Rattle.std.specs.Int.{w32, int_min, int_max}
use Rattle.std.specs.List.{All, fold, flat_map, sum_by}
use Rattle.std.proofs.lemmas.List.Sums.{sum_by-cons}
use Rattle.las_vlr.specs.declared.entry.Vlr.{Vlr}
use Rattle.las_vlr.specs.Limits.{AreHeldVlrs}
use Rattle.las_vlr.specs.Written.{IsVlr, payload_size, vlr_bytes}
use Rattle.extra_bytes.specs.Record.{extra_vlr}
use Rattle.extra_bytes.specs.Written.{HasShortName}
use Rattle.extra_bytes.proofs.Sized.{laid_short, record_fits}
use Rattle.cloud_points.specs.declared.extra.ExtraField.{ExtraField}
use Rattle.las_header.specs.Formats.{format_size}
use Rattle.las_header.specs.Versions.{block_size}
use Rattle.std.proofs.lemmas.Grind.{flat_map-append}
use Rattle.las_writer.proofs.FirstItems.{vlr_length}
use Rattle.std.proofs.lemmas.Int.{ints, unsigned_abs-mul}
use Rattle.std.proofs.lemmas.Nat.{mul-le}
use Rattle.std.proofs.lemmas.List.Elements.{All-nil, All-cons, All-head, All-tail}
use Rattle.cloud_points.specs.declared.point.Point.{Point}
use Rattle.decimal_coords.specs.declared.grid.Scale.{Scale}
use Rattle.ieee_words.proofs.NearWords.{near_word_is}
use Rattle.las_header.specs.Offsets.{IsOffset}
use Rattle.las_header.proofs.Standing.{block_is_short}
use Rattle.forward_rules.specs.declared.form.LasForm.{LasForm}
use Rattle.point_formats.specs.declared.encoding.EncodeFault.{EncodeFault}
use Rattle.point_formats.specs.Grids.{scale_on, offset_on, coordinate}
use Rattle.las_writer.specs.declared.totals.Totals.{Totals}
use Rattle.las_writer.specs.Laws.{HasRaws}
use Rattle.las_writer.specs.declared.faults.RecordFault.{RecordFault}
use Rattle.las_writer.specs.Records.{fits, grid_for, written, bytes_or_none, point_record, raw_number, unplaced, refused_or, refusal_from, refusal}
use Rattle.las_writer.specs.Totals.{raws, number_on, totals_of}
use Rattle.las_writer.specs.LasOutput.{IsForm, extra_vlrs, points_at, bound, bounds}
use Rattle.las_writer.specs.Sizes.{HasSmallTotals}
use Rattle.las_writer.proofs.HeaderSizes.{all_mapped, counts_small}
use Rattle.las_writer.proofs.Raws.{raws_are}

-- the raw numbers in a record have 32 bits
record SmallRaws (bytes : List ℕ) : Type 0 where
  x : FitsSigned w32 (raw_number 0 bytes)
  y : FitsSigned w32 (raw_number 1 bytes)
  z : FitsSigned w32 (raw_number 2 bytes)

abbrev AllSmall : LasForm → List Point → Type 0
AllSmall form [] = Unit {0}
AllSmall form (p ∷ points) = SmallRaws (point_record form p) × AllSmall form points

small_record : (form : LasForm) (p : Point) (n : ℕ) (fit : Bool) (later : Option (ℕ × RecordFault)) → refused_or n (unplaced fit (written form p)) later ≡ None → SmallRaws (point_record form p) × (later ≡ None)
unfolding point_record
small_record form p n fit later h = by fit (written form p) (raws_are form p) h
  where
    by : (fit : Bool) (w : Result (List ℕ) EncodeFault) → ((bytes : List ℕ) → w ≡ Ok bytes → HasRaws (grid_for form) p bytes) → refused_or n (unplaced fit w) later ≡ None → SmallRaws (bytes_or_none w) × (later ≡ None)
    by true (Ok bytes) raws e = let r = raws bytes refl in
        (record { x = subst (FitsSigned w32) (sym r.x.is) r.x.small; y = subst (FitsSigned w32) (sym r.y.is) r.y.small; z = subst (FitsSigned w32) (sym r.z.is) r.z.small }, e)
    by true (Err f) raws e = absurd (cc)
    by false w raws e = absurd (cc)

small_from : (form : LasForm) (k n : ℕ) (points : List Point) → refusal_from form k n points ≡ None → AllSmall form points
small_from form k n [] h = tt
small_from form k n (p ∷ points) h = let r = small_record form p n (fits form (k + n)) (refusal_from form k (n + 1) points) h in (r.0, small_from form k (n + 1) points r.1)

either_fits : (b : Bool) (x y : ℤ) → FitsSigned w32 x → FitsSigned w32 y → FitsSigned w32 (cond b x y)
either_fits true x y h k = h
either_fits false x y h k = k

abbrev AllFit : List ℤ → Type 0
AllFit [] = Unit {0}
AllFit (x ∷ xs) = FitsSigned w32 x × AllFit xs

x_fit : (form : LasForm) (points : List Point) → AllSmall form points → AllFit (raws form 0 points)
x_fit form [] h = tt
x_fit form (p ∷ points) h = (h.0.x, x_fit form points h.1)

y_fit : (form : LasForm) (points : List Point) → AllSmall form points → AllFit (raws form 1 points)
y_fit form [] h = tt
y_fit form (p ∷ points) h = (h.0.y, y_fit form points h.1)

z_fit : (form : LasForm) (points : List Point) → AllSmall form points → AllFit (raws form 2 points)
z_fit form [] h = tt
z_fit form (p ∷ points) h = (h.0.z, z_fit form points h.1)

-- the least and the greatest of such numbers
min_fits : (a : ℤ) (xs : List ℤ) → FitsSigned w32 a → AllFit xs → FitsSigned w32 (fold int_min a xs)
min_fits a [] h k = h
min_fits a (x ∷ xs) h k = min_fits (int_min a x) xs (either_fits (int_lt x a) x a k.0 h) k.1

max_fits : (a : ℤ) (xs : List ℤ) → FitsSigned w32 a → AllFit xs → FitsSigned w32 (fold int_max a xs)
max_fits a [] h k = h
max_fits a (x ∷ xs) h k = max_fits (int_max a x) xs (either_fits (int_lt x a) a x h k.0) k.1

top : FitsSigned w32 (pos (2 ^ 31 - 1))
top = omega (arith, ints)

bottom : FitsSigned w32 (neg_ℤ (pos (2 ^ 31)))
bottom = omega (arith, ints)

scale_size : (scales : List Scale) (axis : ℕ) → unsigned_abs (get_or (map (λ s. s.nano) scales) axis (pos 1)) ≤ 10 ^ 9
scale_size [] axis = omega (arith, ints)
scale_size (s ∷ scales) zero = omega (arith, ints, s.low, s.high)
scale_size (s ∷ scales) (suc axis) = scale_size scales axis

offset_size : (offsets : List ℤ) (axis : ℕ) → All IsOffset offsets → unsigned_abs (get_or offsets axis (pos 0)) ≤ 10 ^ 18
offset_size [] axis h = omega (arith, ints)
offset_size (x ∷ offsets) zero h = omega (arith, All-head IsOffset x offsets h)
offset_size (x ∷ offsets) (suc axis) h = offset_size offsets axis (All-tail IsOffset x offsets h)

sum_small : (m o : ℤ) → unsigned_abs m ≤ 2 ^ 31 * 10 ^ 9 → unsigned_abs o ≤ 10 ^ 18 → unsigned_abs (m +ℤ o) ≤ 2 ^ 63
sum_small m o h k = omega (arith, ints)

raw_size : (raw : ℤ) → FitsSigned w32 raw → unsigned_abs raw ≤ 2 ^ 31
raw_size raw h = omega (arith, ints)

-- the word of such a number's coordinate
bound_small : (form : LasForm) (axis : ℕ) (numbers : List ℤ) → IsForm form → FitsSigned w32 (number_on numbers axis) → bound (grid_for form) axis numbers < 2 ^ 64
bound_small form axis numbers is h =
    let raw = number_on numbers axis in
    let scale = scale_on (grid_for form) axis in
    let product : unsigned_abs (raw *ℤ scale) ≤ 2 ^ 31 * 10 ^ 9 = rw (unsigned_abs-mul raw scale) (mul-le (unsigned_abs raw) (unsigned_abs scale) (2 ^ 31) (10 ^ 9) (raw_size raw h) (scale_size form.scale axis)) in
    (near_word_is (coordinate (grid_for form) axis raw) 9 (omega arith) (sum_small (raw *ℤ scale) (offset_on (grid_for form) axis) product (offset_size form.offset axis is.offsets))).finite.0

record Fitting (numbers : List ℤ) : Type 0 where
  x : FitsSigned w32 (number_on numbers 0)
  y : FitsSigned w32 (number_on numbers 1)
  z : FitsSigned w32 (number_on numbers 2)

six : {a b c d e f : ℕ} → a < 2 ^ 64 → b < 2 ^ 64 → c < 2 ^ 64 → d < 2 ^ 64 → e < 2 ^ 64 → f < 2 ^ 64 → All (λ n. n < 2 ^ 64) (a ∷ b ∷ c ∷ d ∷ e ∷ f ∷ [])
six {a} {b} {c} {d} {e} {f} ha hb hc hd he hf =
    let small : ℕ → Type 0 = λ n. n < 2 ^ 64 in
    All-cons small a (b ∷ c ∷ d ∷ e ∷ f ∷ []) ha (All-cons small b (c ∷ d ∷ e ∷ f ∷ []) hb (All-cons small c (d ∷ e ∷ f ∷ []) hc
    (All-cons small d (e ∷ f ∷ []) hd (All-cons small e (f ∷ []) he (All-cons small f [] hf (All-nil small))))))

bounds_small : (form : LasForm) (t : Totals) → IsForm form → Fitting t.least → Fitting t.greatest → All (λ n. n < 2 ^ 64) (bounds (grid_for form) t)
bounds_small form t is low high = by (t.count == 0)
  where
    by : (b : Bool) → All (λ n. n < 2 ^ 64) (if b then replicate 6 0 else bound (grid_for form) 0 t.greatest ∷ bound (grid_for form) 0 t.least ∷ bound (grid_for form) 1 t.greatest ∷ bound (grid_for form) 1 t.least ∷ bound (grid_for form) 2 t.greatest ∷ bound (grid_for form) 2 t.least ∷ [])
    by true = all_mapped {A = ℕ} (λ n. n < 2 ^ 64) (λ n. 0) (replicate 6 0) (λ n. omega arith)
    by false = six (bound_small form 0 t.greatest is high.x) (bound_small form 0 t.least is low.x) (bound_small form 1 t.greatest is high.y) (bound_small form 1 t.least is low.y)
        (bound_small form 2 t.greatest is high.z) (bound_small form 2 t.least is low.z)

pub totals_small : (form : LasForm) (points : List Point) → IsForm form → refusal form 0 points ≡ None → HasSmallTotals form (totals_of form points)
unfolding totals_of
totals_small form points is held =
    let all = small_from form 0 0 points held in
    let x = x_fit form points all in
    let y = y_fit form points all in
    let z = z_fit form points all in
    record {
      count = omega arith;
      returns = counts_small 16 0 points;
      bounds = bounds_small form (totals_of form points) is
          (record { x = min_fits (pos (2 ^ 31 - 1)) (raws form 0 points) top x; y = min_fits (pos (2 ^ 31 - 1)) (raws form 1 points) top y; z = min_fits (pos (2 ^ 31 - 1)) (raws form 2 points) top z })
          (record { x = max_fits (neg_ℤ (pos (2 ^ 31))) (raws form 0 points) bottom x; y = max_fits (neg_ℤ (pos (2 ^ 31))) (raws form 1 points) bottom y; z = max_fits (neg_ℤ (pos (2 ^ 31))) (raws form 2 points) bottom z });
    }

-- where the points begin has 32 bits
vlrs_length : (vlrs : List Vlr) → All IsVlr vlrs → length (flat_map vlr_bytes vlrs) ≡ 54 * length vlrs + sum_by payload_size vlrs
vlrs_length [] h = omega arith
vlrs_length (v ∷ vlrs) h =
    omega (arith, length-append (vlr_bytes v) (flat_map vlr_bytes vlrs), vlr_length v (All-head IsVlr v vlrs h).sizes, vlrs_length vlrs (All-tail IsVlr v vlrs h), sum_by-cons payload_size v vlrs)

-- the VLR that describes the extra dimensions is within the limits
pub extra_held : (form : LasForm) → IsForm form → AreHeldVlrs (extra_vlrs form.extra)
extra_held form is = by form.extra (laid_short (format_size form.format) form.extra is.extra) is.few
  where
    by : (fields : List ExtraField) → All HasShortName fields → length fields ≤ 8 → AreHeldVlrs (extra_vlrs fields)
    by [] short few = record { count = omega arith; payloads = omega arith; each = All-nil IsVlr }
    by (f ∷ fields) short few =
        let vlr = extra_vlr (f ∷ fields) in
        let fits = record_fits (f ∷ fields) short few in
        record { count = omega arith; payloads = omega (arith, sum_by-cons payload_size vlr [], fits.short); each = All-cons IsVlr vlr [] fits (All-nil IsVlr) }

-- where the points begin is behind both parts of the VLRs
pub start_parts : (form : LasForm) → block_size form.minor + (length (flat_map vlr_bytes form.vlrs) + length (flat_map vlr_bytes (extra_vlrs form.extra))) ≡ points_at form
start_parts form =
    ap (λ n. block_size form.minor + n) (sym (length-append (flat_map vlr_bytes form.vlrs) (flat_map vlr_bytes (extra_vlrs form.extra))) ∙ ap length (sym (flat_map-append vlr_bytes form.vlrs (extra_vlrs form.extra))))

pub start_small : (form : LasForm) → IsForm form → points_at form < 2 ^ 32
start_small form is =
    let extra = extra_held form is in
    omega (arith, start_parts form, block_is_short form.minor, is.vlrs.count, is.vlrs.payloads, vlrs_length form.vlrs is.vlrs.each, extra.count, extra.payloads, vlrs_length (extra_vlrs form.extra) extra.each)
