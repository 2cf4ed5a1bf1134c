-- Each generated point has a record in the file.
use Rattle.std.proofs.Common.{◌≡◌, ℕ, zero, suc, ◌+◌, ◌-◌, ◌*◌, ◌/◌, ◌%◌, ◌^◌, ◌<◌, ◌≤◌, ℤ, pos, ◌-ℤ◌, ◌*ℤ◌, ◌+ℤ◌, Bool, true, false, List, [], ◌∷◌, ◌++◌, map, Option, None, Result, Ok, Err, if◌then◌else◌, refl, ap, sym, ◌∙◌, arith, add-zero, zero-add}
use Rattle.std.specs.Prelude.{is_ok, ⊤}
use Rattle.std.specs.Int.{Width, w8, w32, to_le_bytes, cast_unsigned}
use Rattle.std.specs.List.{range_with_len}
use Rattle.std.proofs.lemmas.Int.{ints}
use Rattle.std.proofs.lemmas.List.{map-append}
use Rattle.std.proofs.lemmas.Nat.{mod_below}
use Rattle.std.proofs.lemmas.Bool.Decides.{nat_tests}
use Rattle.cloud_points.specs.declared.dims.Dim.{Dim}
use Rattle.cloud_points.specs.declared.dims.Dim.TheVariants.{X, Y, Z, ScanAngleRank}
use Rattle.cloud_points.specs.declared.point.Point.{Point}
use Rattle.exact_numbers.specs.Rounding.{half_away}
use Rattle.decimal_coords.specs.Grid.{nearest_step}
use Rattle.forward_rules.specs.Forwarded.{form_of}
use Rattle.las_header.specs.Steps.{◌>>=◌}
use Rattle.las_header.specs.declared.form.Format.TheVariants.{F3}
use Rattle.point_formats.specs.declared.encoding.EncodeFault.{EncodeFault}
use Rattle.point_formats.specs.declared.encoding.EncodeFault.TheVariants.{NotHeld, ValueOutOfRange}
use Rattle.point_formats.specs.declared.grid.Grid.{Grid}
use Rattle.point_formats.specs.Encoded.{encoded, number_of, signed_bytes, coordinate_bytes, angle_bytes, field_number, bits_number, item_bytes, items_bytes}
use Rattle.point_formats.specs.Formats.{BitField, Item, items, old_returns, old_class}
use Rattle.point_formats.proofs.Appending.{joined}
use Rattle.point_formats.proofs.Counting.{raw_returns, steps_return}
use Rattle.point_formats.proofs.Holding.{in_range}
use Rattle.las_writer.specs.declared.faults.RecordFault.{RecordFault}
use Rattle.las_writer.specs.Records.{fits, grid_for, written, unplaced, refused_or, refusal_from, refusal}
use Rattle.cloud_gen.specs.Generated.{mixed, hundredths, degrees, class_at, point_of, generated}
use Rattle.cloud_gen.specs.GeneratedFile.{generated_points, generated_form}

-- ---- a record whose parts are not refused

abbrev Bytes : Type 0
Bytes = Result (List ℕ) EncodeFault

joined_is_ok : (a b : Bytes) → is_ok a ≡ true → is_ok b ≡ true → is_ok (joined a b) ≡ true
joined_is_ok (Ok x) (Ok y) ha hb = refl
joined_is_ok (Ok x) (Err e) ha hb = hb
joined_is_ok (Err e) b ha hb = ha

abbrev byte_of : Result ℕ EncodeFault → Bytes
byte_of r = r >>= (λ byte. Ok (byte ∷ []))

byte_is_ok : (r : Result ℕ EncodeFault) → is_ok r ≡ true → is_ok (byte_of r) ≡ true
byte_is_ok (Ok n) h = refl
byte_is_ok (Err e) h = h

-- the parts of a record of format 3 that can be refused
record HasParts (grid : Grid) (p : Point) : Type 0 where
  x : is_ok (coordinate_bytes grid X 0 p.x) ≡ true
  y : is_ok (coordinate_bytes grid Y 1 p.y) ≡ true
  z : is_ok (coordinate_bytes grid Z 2 p.z) ≡ true
  returns : is_ok (bits_number p old_returns) ≡ true
  class : is_ok (bits_number p old_class) ≡ true
  angle : is_ok (angle_bytes w8 1000000000 p.scan_angle_rank) ≡ true

-- no item of a record is refused
abbrev AreOk : Grid → Point → List Item → Type 0
AreOk grid p [] = ⊤
AreOk grid p (item ∷ rest) = (is_ok (item_bytes grid p item) ≡ true) × AreOk grid p rest

items_are_ok : (grid : Grid) (p : Point) (list : List Item) → AreOk grid p list → is_ok (items_bytes grid p list) ≡ true
items_are_ok grid p [] h = refl
items_are_ok grid p (item ∷ rest) h = joined_is_ok (item_bytes grid p item) (items_bytes grid p rest) h.0 (items_are_ok grid p rest h.1)

has_record : (grid : Grid) (p : Point) → HasParts grid p → is_ok (encoded F3 grid p) ≡ true
has_record grid p h =
    items_are_ok grid p (items F3) (
      h.x,
      (
        h.y,
        (
          h.z,
          (
            refl,
            (
              byte_is_ok (bits_number p old_returns) h.returns,
              (
                byte_is_ok (bits_number p old_class) h.class,
                (h.angle, (refl, (refl, (refl, (refl, (refl, (refl, tt))))))),
              ),
            ),
          ),
        ),
      ),
    )

-- ---- the parts of a generated point

signed_is_ok : (w : Width) (fault : EncodeFault) (n m : ℤ) → n ≡ m → in_range w m ≡ true → is_ok (signed_bytes w fault n) ≡ true
signed_is_ok w fault n m same h =
    ap (λ k. is_ok (signed_bytes w fault k)) same ∙ ap (λ t. is_ok ((if t then Ok m else Err fault) >>= (λ k. Ok (to_le_bytes w (cast_unsigned w k))))) h

raw_in_range : (n : ℕ) → n < 2 ^ 31 → in_range w32 (pos n) ≡ true
raw_in_range n h = grind (arith, ints)

angle_in_range : (n : ℕ) → n < 61 → in_range w8 (pos n -ℤ pos 30) ≡ true
angle_in_range n h = grind (arith, ints)

-- so many units and hundredths above an offset of whole units
hundredths_step : (above units cents : ℕ) → nearest_step (hundredths (above + units) cents) (pos 10_000_000) (pos (above * 10 ^ 9)) ≡ pos (units * 100 + cents)
hundredths_step above units cents =
    let same : hundredths (above + units) cents ≡ pos (units * 100 + cents) *ℤ pos 10_000_000 +ℤ pos (above * 10 ^ 9) = ap pos (omega arith) in
    ap (λ v. nearest_step v (pos 10_000_000) (pos (above * 10 ^ 9))) same ∙ raw_returns (pos (units * 100 + cents)) (pos 10_000_000) (pos (above * 10 ^ 9)) (omega (arith, ints))

degrees_step : (n : ℕ) → half_away (degrees n) 1000000000 ≡ pos n -ℤ pos 30
degrees_step n = steps_return (pos n -ℤ pos 30) 1000000000 (omega arith)

field_ok : (dim : Dim) (bound n : ℕ) → n < bound → field_number dim bound n ≡ Ok n
field_ok dim bound n h = grind (arith, nat_tests)

abbrev byte_with : ℕ → ℕ → Result ℕ EncodeFault → Result ℕ EncodeFault
byte_with bound n rest = rest >>= (λ others. Ok (n + bound * others))

sum_is_ok : (bound n : ℕ) (rest : Result ℕ EncodeFault) → is_ok rest ≡ true → is_ok (byte_with bound n rest) ≡ true
sum_is_ok bound n (Ok m) h = refl
sum_is_ok bound n (Err e) h = h

bits_then : (p : Point) (x : BitField) (rest : List BitField) → number_of p x.dim < 2 ^ x.bits → is_ok (bits_number p rest) ≡ true → is_ok (bits_number p (x ∷ rest)) ≡ true
unfolding bits_number
bits_then p x rest h more =
    ap (λ r. is_ok (r >>= (λ first. bits_number p rest >>= (λ others. Ok (first + 2 ^ x.bits * others))))) (field_ok x.dim (2 ^ x.bits) (number_of p x.dim) h)
    ∙ sum_is_ok (2 ^ x.bits) (number_of p x.dim) (bits_number p rest) more

no_bits : (p : Point) → is_ok (bits_number p []) ≡ true
unfolding bits_number
no_bits p = refl

flag_fits : (n : ℕ) → n ≡ 0 → n < 2 ^ 1
flag_fits n h = omega (arith, h)

returns_are_ok : (p : Point) → p.return_number < 8 → p.number_of_returns < 8 → p.scan_direction_flag ≡ 0 → p.edge_of_flight_line ≡ 0 → is_ok (bits_number p old_returns) ≡ true
returns_are_ok p a b c d = bits_then p _ _ a (bits_then p _ _ b (bits_then p _ _ (flag_fits _ c) (bits_then p _ _ (flag_fits _ d) (no_bits p))))

class_is_ok : (p : Point) → p.classification < 32 → p.synthetic ≡ 0 → p.key_point ≡ 0 → p.withheld ≡ 0 → is_ok (bits_number p old_class) ≡ true
class_is_ok p a b c d = bits_then p _ _ a (bits_then p _ _ (flag_fits _ b) (bits_then p _ _ (flag_fits _ c) (bits_then p _ _ (flag_fits _ d) (no_bits p))))

class_below : (k : ℕ) → k < 8 → class_at k < 32
class_below k h = grind (arith, nat_tests)

returns_below : (n : ℕ) → 1 + n % 5 < 8
returns_below n = let h = mod_below n 5 (omega arith) in omega (arith, h)

returned_below : (m n : ℕ) → 1 + m % (1 + n % 5) < 8
returned_below m n = let h = mod_below m (1 + n % 5) (omega arith) in let k = mod_below n 5 (omega arith) in omega (arith, h, k)

point_has_parts : (i h : ℕ) → i < 10000000 → HasParts (grid_for generated_form) (point_of i h)
unfolding form_of coordinate_bytes angle_bytes
point_has_parts i h small =
    let east = mod_below (h / 2 ^ 24) 100 (omega arith) in
    let north = mod_below (h / 2 ^ 32) 100 (omega arith) in
    let up = mod_below (h / 2 ^ 40) 5000 (omega arith) in
    let column = mod_below i 1000 (omega arith) in
    let angle = mod_below (h / 2 ^ 12) 61 (omega arith) in
    record {
      x = signed_is_ok w32 (NotHeld X) _ _ (hundredths_step 500000 (i % 1000) (h / 2 ^ 24 % 100)) (raw_in_range (i % 1000 * 100 + h / 2 ^ 24 % 100) (omega (arith, east, column)));
      y = signed_is_ok w32 (NotHeld Y) _ _ (hundredths_step 4800000 (i / 1000) (h / 2 ^ 32 % 100)) (raw_in_range (i / 1000 * 100 + h / 2 ^ 32 % 100) (omega (arith, north, small)));
      z = signed_is_ok w32 (NotHeld Z) _ _ (hundredths_step 0 100 (h / 2 ^ 40 % 5000)) (raw_in_range (100 * 100 + h / 2 ^ 40 % 5000) (omega (arith, up)));
      returns = returns_are_ok (point_of i h) (returned_below (h / 2 ^ 16) (h / 2 ^ 8)) (returns_below (h / 2 ^ 8)) refl refl;
      class = class_is_ok (point_of i h) (class_below (h / 2 ^ 4 % 8) (mod_below (h / 2 ^ 4) 8 (omega arith))) refl refl refl;
      angle = signed_is_ok w8 (ValueOutOfRange ScanAngleRank) _ _ (degrees_step (h / 2 ^ 12 % 61)) (angle_in_range (h / 2 ^ 12 % 61) angle);
    }

pub is_recorded : (series i : ℕ) → i < 10000000 → is_ok (written generated_form (generated series i)) ≡ true
unfolding form_of
is_recorded series i small =
    joined_is_ok (encoded F3 (grid_for generated_form) (generated series i)) (Ok []) (has_record (grid_for generated_form) (generated series i) (point_has_parts i (mixed series i) small)) refl

-- ---- points behind one another

-- a file of 1.4 counts all
all_fit : (k : ℕ) → fits generated_form k ≡ true
unfolding form_of
all_fit k = refl

not_refused : (n : ℕ) (fit : Bool) (w : Bytes) (later : Option (ℕ × RecordFault)) → fit ≡ true → is_ok w ≡ true → later ≡ None → refused_or n (unplaced fit w) later ≡ None
not_refused n true (Ok bytes) later f h e = e
not_refused n true (Err x) later f h e = absurd cc
not_refused n false w later f h e = absurd cc

none_from : (k n first count : ℕ) → first + count ≤ 10000000 → refusal_from generated_form k n (map (generated 1) (range_with_len first count)) ≡ None
none_from k n first zero h = refl
none_from k n first (suc count) h =
    not_refused n (fits generated_form (k + n)) (written generated_form (generated 1 first)) (refusal_from generated_form k (n + 1) (map (generated 1) (range_with_len (first + 1) count)))
    (all_fit (k + n)) (is_recorded 1 first (omega arith)) (none_from k (n + 1) (first + 1) count (omega arith))

-- no generated points are refused
pub none_refused : (k first count : ℕ) → first + count ≤ 10000000 → refusal generated_form k (map (generated 1) (range_with_len first count)) ≡ None
none_refused k first count h = none_from k 0 first count h

ranges_join : (a m n : ℕ) → range_with_len a m ++ range_with_len (a + m) n ≡ range_with_len a (m + n)
ranges_join a zero n = rw (add-zero, zero-add) refl
ranges_join a (suc m) n =
    let here : a + suc m ≡ a + 1 + m = omega arith in
    let size : suc m + n ≡ suc (m + n) = omega arith in
    ap (λ k. a ∷ (range_with_len (a + 1) m ++ range_with_len k n)) here ∙ ap (λ l. a ∷ l) (ranges_join (a + 1) m n) ∙ ap (range_with_len a) (sym size)

pub no_points : generated_points 0 ≡ []
unfolding generated_points
no_points = refl

-- points, and those behind them up to another place
pub more_points : (first end : ℕ) → first ≤ end → generated_points first ++ map (generated 1) (range_with_len first (end - first)) ≡ generated_points end
unfolding generated_points
more_points first end h =
    let size : first + (end - first) ≡ end = omega (arith, h) in
    let from : first ≡ 0 + first = omega arith in
    let join : range_with_len 0 first ++ range_with_len first (end - first) ≡ range_with_len 0 end =
    ap (λ k. range_with_len 0 first ++ range_with_len k (end - first)) from ∙ ranges_join 0 first (end - first) ∙ ap (range_with_len 0) size in
    sym (map-append (generated 1) (range_with_len 0 first) (range_with_len first (end - first))) ∙ ap (map (generated 1)) join
