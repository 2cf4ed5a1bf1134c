-- A value that was written is read.
use Rattle.std.proofs.Common.{◌≡◌, ℕ, ◌+◌, ◌-◌, ◌^◌, ◌<◌, ◌≤◌, Bool, true, false, ℤ, pos, ◌+ℤ◌, ◌-ℤ◌, ◌*ℤ◌, ◌≤ℤ◌, List, ◌++◌, length, take, drop, Some, None, if◌then◌else◌, refl, sym, ap, ◌∙◌, arith, append_assoc, FitsSigned, w64}
use Rattle.std.specs.Prelude.{unsigned_abs}
use Rattle.std.specs.Int.{Width, w8, w16, w32, byte_len, to_le_bytes, cast_signed, cast_unsigned}
use Rattle.std.proofs.lemmas.Int.{ints, to_z-of_z}
use Rattle.std.proofs.lemmas.Bool.Decides.{nat_tests}
use Rattle.std.proofs.lemmas.Option.{none-some, same_Some}
use Rattle.std.proofs.lemmas.List.{length-take-le}
use Rattle.exact_numbers.specs.Rounding.{half_away}
use Rattle.point_formats.proofs.Counting.{steps_return}
use Rattle.byte_numbers.specs.Bytes.{number_at}
use Rattle.byte_numbers.proofs.Written.{number_read}
use Rattle.cloud_points.specs.Points.{is_between}
use Rattle.cloud_points.specs.declared.extra.ExtraKind.{ExtraKind}
use Rattle.cloud_points.specs.declared.extra.ExtraKind.TheVariants.{U8, I8, U16, I16, U32, I32, U64, I64}
use Rattle.cloud_points.specs.declared.extra.ExtraField.{ExtraField}
use Rattle.extra_bytes.specs.Values.{raw_at, value_of, extra_value, is_raw, raw_bytes, raw_of, with_piece, extra_written}
use Rattle.extra_bytes.specs.Laws.{NearestIsRead, ExactIsRead, IsFine, FineTakesAll}

-- ---- a raw number is what stands in its bytes

not_below : (high : ℕ) (n : ℤ) → is_between (pos 0) (pos high) n ≡ true → n ≡ pos (unsigned_abs n)
not_below high n h = grind (arith, ints, nat_tests)

not_above : (high : ℕ) (n : ℤ) → is_between (pos 0) (pos high) n ≡ true → unsigned_abs n ≤ high
not_above high n h = grind (arith, ints, nat_tests)

unsigned_read : (w : Width) (high at : ℕ) (n : ℤ) (before rest : List ℕ) → is_between (pos 0) (pos high) n ≡ true → high < 256 ^ byte_len w → length before ≡ at
    → pos (number_at at (byte_len w) (before ++ (to_le_bytes w (unsigned_abs n) ++ rest))) ≡ n
unsigned_read w high at n before rest h room is =
    let low : unsigned_abs n < 256 ^ byte_len w = (let most = not_above high n h in omega (arith, most, room)) in
    ap pos (number_read w (unsigned_abs n) at before rest low is) ∙ sym (not_below high n h)

signed_read : (w : Width) (at : ℕ) (n : ℤ) (before rest : List ℕ) → FitsSigned w n → cast_unsigned w n < 256 ^ byte_len w → length before ≡ at
    → cast_signed w (number_at at (byte_len w) (before ++ (to_le_bytes w (cast_unsigned w n) ++ rest))) ≡ n
signed_read w at n before rest fits low is =
    ap (cast_signed w) (number_read w (cast_unsigned w n) at before rest low is) ∙ to_z-of_z w n fits

fits_8 : (n : ℤ) → is_raw I8 n ≡ true → FitsSigned w8 n
fits_8 n h = grind (arith, ints, nat_tests)

fits_16 : (n : ℤ) → is_raw I16 n ≡ true → FitsSigned w16 n
fits_16 n h = grind (arith, ints, nat_tests)

fits_32 : (n : ℤ) → is_raw I32 n ≡ true → FitsSigned w32 n
fits_32 n h = grind (arith, ints, nat_tests)

fits_64 : (n : ℤ) → is_raw I64 n ≡ true → FitsSigned w64 n
fits_64 n h = grind (arith, ints, nat_tests)

low_8 : (n : ℤ) → FitsSigned w8 n → cast_unsigned w8 n < 256 ^ byte_len w8
low_8 n h = omega (arith, ints)

low_16 : (n : ℤ) → FitsSigned w16 n → cast_unsigned w16 n < 256 ^ byte_len w16
low_16 n h = omega (arith, ints)

low_32 : (n : ℤ) → FitsSigned w32 n → cast_unsigned w32 n < 256 ^ byte_len w32
low_32 n h = omega (arith, ints)

low_64 : (n : ℤ) → FitsSigned w64 n → cast_unsigned w64 n < 256 ^ byte_len w64
low_64 n h = omega (arith, ints)

raw_read : (kind : ExtraKind) (at : ℕ) (n : ℤ) (before rest : List ℕ) → is_raw kind n ≡ true → length before ≡ at
    → raw_at kind at (before ++ (raw_bytes kind n ++ rest)) ≡ n
raw_read U8 at n before rest h is = unsigned_read w8 (2 ^ 8 - 1) at n before rest h (omega arith) is
raw_read I8 at n before rest h is = signed_read w8 at n before rest (fits_8 n h) (low_8 n (fits_8 n h)) is
raw_read U16 at n before rest h is = unsigned_read w16 (2 ^ 16 - 1) at n before rest h (omega arith) is
raw_read I16 at n before rest h is = signed_read w16 at n before rest (fits_16 n h) (low_16 n (fits_16 n h)) is
raw_read U32 at n before rest h is = unsigned_read w32 (2 ^ 32 - 1) at n before rest h (omega arith) is
raw_read I32 at n before rest h is = signed_read w32 at n before rest (fits_32 n h) (low_32 n (fits_32 n h)) is
raw_read U64 at n before rest h is = unsigned_read w64 (2 ^ 64 - 1) at n before rest h (omega arith) is
raw_read I64 at n before rest h is = signed_read w64 at n before rest (fits_64 n h) (low_64 n (fits_64 n h)) is

-- ---- in a record

put_read : (kind : ExtraKind) (at : ℕ) (n : ℤ) (bytes : List ℕ) → is_raw kind n ≡ true → at ≤ length bytes
    → raw_at kind at (with_piece at (raw_bytes kind n) bytes) ≡ n
put_read kind at n bytes h room =
    let rest = drop (at + length (raw_bytes kind n)) bytes in
    ap (raw_at kind at) (append_assoc (take at bytes) (raw_bytes kind n) rest)
    ∙ raw_read kind at n (take at bytes) rest h (length-take-le at bytes room)

pub nearest_is_read : NearestIsRead
unfolding extra_written
nearest_is_read f nano before after lies e = by_raw (is_raw f.kind (raw_of f nano)) refl e
  where
    by_raw : (is : Bool) → is_raw f.kind (raw_of f nano) ≡ is
        → (if is then Some (with_piece f.at (raw_bytes f.kind (raw_of f nano)) before) else None) ≡ Some after → extra_value f after ≡ value_of f (raw_of f nano)
    by_raw true is e =
        let same = same_Some (with_piece f.at (raw_bytes f.kind (raw_of f nano)) before) after e in
        ap (extra_value f) (sym same) ∙ ap (value_of f) (put_read f.kind f.at (raw_of f nano) before is (omega (arith, lies)))
    by_raw false is e = absurd (none-some after e)

-- ---- whole numbers of steps

taken_back : (m o : ℤ) → (m +ℤ o) -ℤ o ≡ m
taken_back m o = omega (arith, ints)

its_size : (s : ℤ) → pos 1 ≤ℤ s → s ≡ pos (unsigned_abs s)
its_size s h = omega (arith, ints, h)

some_size : (s : ℤ) → pos 1 ≤ℤ s → 0 < unsigned_abs s
some_size s h = omega (arith, ints, h)

steps_found : (f : ExtraField) (steps : ℤ) → raw_of f (value_of f steps) ≡ steps
steps_found f steps =
    ap (λ z. half_away z (unsigned_abs f.scale.nano)) (taken_back (steps *ℤ f.scale.nano) f.offset ∙ ap (λ s. steps *ℤ s) (its_size f.scale.nano f.scale.low))
    ∙ steps_return steps (unsigned_abs f.scale.nano) (some_size f.scale.nano f.scale.low)

pub exact_is_read : ExactIsRead
exact_is_read f nano steps before after is lies e =
    nearest_is_read f nano before after lies e ∙ ap (value_of f) (ap (raw_of f) is ∙ steps_found f steps) ∙ sym is

-- ---- steps of a nanounit

one_step : (n : ℤ) → n *ℤ pos 1 +ℤ pos 0 ≡ n
one_step n = omega (arith, ints)

fine_value : (f : ExtraField) (nano : ℤ) → IsFine f → nano ≡ value_of f nano
fine_value f nano is = sym (ap (λ s. nano *ℤ s +ℤ f.offset) is.scale ∙ ap (λ o. nano *ℤ pos 1 +ℤ o) is.offset ∙ one_step nano)

all_raw : (n : ℤ) → FitsSigned w64 n → is_raw I64 n ≡ true
all_raw n h = grind (arith, ints, nat_tests)

fine_raw : (f : ExtraField) (nano : ℤ) → IsFine f → FitsSigned w64 nano → is_raw f.kind (raw_of f nano) ≡ true
fine_raw f nano is fits =
    ap (λ k. is_raw k (raw_of f nano)) is.kind ∙ ap (is_raw I64) (ap (raw_of f) (fine_value f nano is) ∙ steps_found f nano) ∙ all_raw nano fits

fine_written : (f : ExtraField) (nano : ℤ) (before : List ℕ) → IsFine f → FitsSigned w64 nano
    → extra_written f nano before ≡ Some (with_piece f.at (raw_bytes f.kind (raw_of f nano)) before)
unfolding extra_written
fine_written f nano before is fits =
    ap (λ b. if b then Some (with_piece f.at (raw_bytes f.kind (raw_of f nano)) before) else None) (fine_raw f nano is fits)

pub fine_takes_all : FineTakesAll
fine_takes_all f nano before is fits lies =
    let after = with_piece f.at (raw_bytes f.kind (raw_of f nano)) before in
    let written = fine_written f nano before is fits in
    record { after = after; written = written; value = exact_is_read f nano nano before after (fine_value f nano is) lies written }
