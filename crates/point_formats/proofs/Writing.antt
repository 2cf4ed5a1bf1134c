-- A point has what stands in the record that it is written as.
use Rattle.std.proofs.Common.{◌≡◌, ℕ, ◌+◌, ◌*◌, ◌/◌, ◌%◌, ◌^◌, ◌<◌, ℤ, pos, ◌*ℤ◌, List, [], ◌∷◌, ◌++◌, length, slice_index, Bool, true, false, Ok, Err, nat_lt, if◌then◌else◌, refl, ap, sym, subst, ◌∙◌, arith, append_assoc, length-append, FitsSigned}
use Rattle.std.specs.Prelude.{Result, ⊤}
use Rattle.std.specs.Int.{Width, w8, w16, w32, w64, w128, byte_len, to_le_bytes, cast_signed, cast_unsigned}
use Rattle.std.proofs.lemmas.Int.{ints, to_z-of_z}
use Rattle.std.proofs.lemmas.Nat.{shr-shr, mod-mul-add, div-mul-add, pow_pos}
use Rattle.std.proofs.Math.Nat.{lt-div-mul-add}
use Rattle.std.proofs.lemmas.Bool.Decides.{nat_tests}
use Rattle.las_header.specs.Steps.{◌>>=◌}
use Rattle.byte_numbers.specs.Bytes.{number_at}
use Rattle.cloud_points.specs.declared.dims.Dim.{Dim}
use Rattle.cloud_points.specs.declared.point.Point.{Point}
use Rattle.cloud_points.specs.Points.{get}
use Rattle.decimal_coords.specs.Grid.{nearest_step}
use Rattle.exact_numbers.specs.Rounding.{half_away}
use Rattle.point_formats.specs.declared.encoding.EncodeFault.{EncodeFault}
use Rattle.point_formats.specs.declared.encoding.EncodeFault.TheVariants.{NotHeld, ValueOutOfRange}
use Rattle.cloud_points.specs.declared.dims.Dim.TheVariants.{ScanAngleRank}
use Rattle.point_formats.specs.declared.grid.Grid.{Grid}
use Rattle.point_formats.specs.Grids.{coordinate, scale_on, offset_on, HasSteps}
use Rattle.point_formats.specs.Formats.{BitField, Item, Coordinate, Angle, Time, Number, Bits}
use Rattle.point_formats.specs.Records.{size_of}
use Rattle.point_formats.specs.Encoded.{number_of, signed_bytes, coordinate_bytes, angle_bytes, field_number, bits_number, item_bytes, items_bytes}
use Rattle.point_formats.specs.Returning.{IsOnAxis, IsWholeSteps}
use Rattle.point_formats.proofs.Counting.{raw_returns, steps_return}
use Rattle.point_formats.proofs.Appending.{joined}
use Rattle.point_formats.proofs.Sizes.{Has, item_size}
use Rattle.point_formats.proofs.Holding.{HasBits, HasItem, HasItems, in_range, whole_byte}
use Rattle.byte_numbers.proofs.Written.{number_read, byte_read}

-- the item loses nothing of the point
abbrev pub Keeps : Grid → Point → Item → Type 0
Keeps grid p (Coordinate dim axis) = IsOnAxis grid axis (get p dim)
Keeps grid p (Angle width step) = (0 < step) × IsWholeSteps step p.scan_angle_rank
Keeps grid p Time = p.gps_time < 2 ^ 64
Keeps grid p (Number dim width) = number_of p dim < 256 ^ byte_len width
Keeps grid p (Bits fields) = ⊤

abbrev pub AllKeep : Grid → Point → List Item → Type 0
AllKeep grid p [] = ⊤
AllKeep grid p (item ∷ rest) = Keeps grid p item × AllKeep grid p rest

-- the parts of two results of which the second goes behind the first
record Joined (a b : Result (List ℕ) EncodeFault) (bytes : List ℕ) : Type 0 where
  first : List ℕ
  others : List ℕ
  first_is : a ≡ Ok first
  others_is : b ≡ Ok others
  bytes_are : bytes ≡ first ++ others

parts_of : (a b : Result (List ℕ) EncodeFault) (bytes : List ℕ) → joined a b ≡ Ok bytes → Joined a b bytes
parts_of (Err e) b bytes h = absurd (cc)
parts_of (Ok first) (Err e) bytes h = absurd (cc)
parts_of (Ok first) (Ok others) bytes h = record { first = first; others = others; first_is = refl; others_is = refl; bytes_are = cc }

-- the first field of a byte, and the number of the others
record Fields (a : Result ℕ EncodeFault) (b : Result ℕ EncodeFault) (more v : ℕ) : Type 0 where
  first : ℕ
  others : ℕ
  first_is : a ≡ Ok first
  others_is : b ≡ Ok others
  sum : v ≡ first + 2 ^ more * others

fields_of : (a b : Result ℕ EncodeFault) (more v : ℕ) → (a >>= (λ n. b >>= (λ m. Ok (n + 2 ^ more * m)))) ≡ Ok v → Fields a b more v
fields_of (Err e) b more v h = absurd (cc)
fields_of (Ok n) (Err e) more v h = absurd (cc)
fields_of (Ok n) (Ok m) more v h = record { first = n; others = m; first_is = refl; others_is = refl; sum = cc }

chosen : {A : Type 0} (t : Bool) (x y : A) (e : EncodeFault) → (if t then Ok x else Err e) ≡ Ok y → (t ≡ true) × (x ≡ y)
chosen true x y e h = (refl, cc)
chosen false x y e h = absurd (cc)

field_is : (dim : Dim) (bound n m : ℕ) → field_number dim bound n ≡ Ok m → (n ≡ m) × (n < bound)
field_is dim bound n m h = let c = chosen (nat_lt n bound) n m (ValueOutOfRange dim) h in (c.1, grind (arith, nat_tests, c.0))

none_left : (byte low : ℕ) → byte / 2 ^ low ≡ 0 → byte < 2 ^ low
none_left byte low h =
    let size : byte < 0 * 2 ^ low + 2 ^ low = subst (λ (q : ℕ). byte < q * 2 ^ low + 2 ^ low) h (lt-div-mul-add (pow_pos low)) in
    omega arith

bits_read : (p : Point) (fields : List BitField) (byte low v : ℕ) → bits_number p fields ≡ Ok v → byte / 2 ^ low ≡ v → HasBits p byte low fields
unfolding bits_number
bits_read p [] byte low v h is = let none : 0 ≡ v = cc in none_left byte low (is ∙ sym none)
bits_read p (x ∷ rest) byte low v h is =
    let f = fields_of (field_number x.dim (2 ^ x.bits) (number_of p x.dim)) (bits_number p rest) x.bits v h in
    let own = field_is x.dim (2 ^ x.bits) (number_of p x.dim) f.first f.first_is in
    let low_size : f.first < 2 ^ x.bits = subst (λ (n : ℕ). n < 2 ^ x.bits) own.0 own.1 in
    let split : byte / 2 ^ low ≡ f.others * 2 ^ x.bits + f.first = omega (arith, is, f.sum) in
    let here = own.0 ∙ sym (ap (λ q. q % 2 ^ x.bits) split ∙ mod-mul-add f.others (2 ^ x.bits) f.first low_size) in
    let beyond = sym (shr-shr byte low x.bits) ∙ ap (λ q. q / 2 ^ x.bits) split ∙ div-mul-add f.others (2 ^ x.bits) f.first low_size in
    (here, bits_read p rest byte (low + x.bits) f.others f.others_is beyond)

fits_signed : (w : Width) (z : ℤ) → in_range w z ≡ true → FitsSigned w z
fits_signed w8 z h = grind (arith, ints, nat_tests)
fits_signed w16 z h = grind (arith, ints, nat_tests)
fits_signed w32 z h = grind (arith, ints, nat_tests)
fits_signed w64 z h = grind (arith, ints, nat_tests)
fits_signed w128 z h = grind (arith, ints, nat_tests)

unsigned_fits : (w : Width) (z : ℤ) → FitsSigned w z → cast_unsigned w z < 256 ^ byte_len w
unsigned_fits w8 z h = omega (arith, ints)
unsigned_fits w16 z h = omega (arith, ints)
unsigned_fits w32 z h = omega (arith, ints)
unsigned_fits w64 z h = omega (arith, ints)
unsigned_fits w128 z h = omega (arith, ints)

written_signed : (t : Bool) (w : Width) (z : ℤ) (bytes : List ℕ) (e : EncodeFault) → ((if t then Ok z else Err e) >>= (λ n. Ok (to_le_bytes w (cast_unsigned w n)))) ≡ Ok bytes
    → (t ≡ true) × (to_le_bytes w (cast_unsigned w z) ≡ bytes)
written_signed true w z bytes e h = (refl, cc)
written_signed false w z bytes e h = absurd (cc)

-- a signed number that was written is read
signed_read : (w : Width) (fault : EncodeFault) (z : ℤ) (at : ℕ) (before bytes rest : List ℕ) → signed_bytes w fault z ≡ Ok bytes → length before ≡ at
    → z ≡ cast_signed w (number_at at (byte_len w) (before ++ (bytes ++ rest)))
signed_read w fault z at before bytes rest h is =
    let t = written_signed (in_range w z) w z bytes fault h in
    let fits = fits_signed w z t.0 in
    let there = number_read w (cast_unsigned w z) at before rest (unsigned_fits w z fits) is in
    sym (ap (λ l. cast_signed w (number_at at (byte_len w) (before ++ (l ++ rest)))) (sym t.1) ∙ ap (cast_signed w) there ∙ to_z-of_z w z fits)

bits_bytes : (r : Result ℕ EncodeFault) (bytes : List ℕ) → (r >>= (λ byte. Ok (byte ∷ []))) ≡ Ok bytes → (byte : ℕ) × (r ≡ Ok byte) × (bytes ≡ byte ∷ [])
bits_bytes (Err e) bytes h = absurd (cc)
bits_bytes (Ok n) bytes h = (n, refl, cc)

number_written : (w : Width) (n at : ℕ) (before bytes rest : List ℕ) → n < 256 ^ byte_len w → ◌≡◌ {A = Result (List ℕ) EncodeFault} (Ok (to_le_bytes w n)) (Ok bytes) → length before ≡ at
    → n ≡ number_at at (byte_len w) (before ++ (bytes ++ rest))
number_written w n at before bytes rest small h is =
    let same : to_le_bytes w n ≡ bytes = cc in
    sym (ap (λ l. number_at at (byte_len w) (before ++ (l ++ rest))) (sym same) ∙ number_read w n at before rest small is)

item_read : (grid : Grid) (p : Point) (item : Item) (at : ℕ) (before bytes rest : List ℕ) → HasSteps grid → Keeps grid p item
    → item_bytes grid p item ≡ Ok bytes → length before ≡ at → HasItem grid (before ++ (bytes ++ rest)) at p item
unfolding coordinate_bytes angle_bytes
item_read grid p (Coordinate dim axis) at before bytes rest low keeps h is =
    let scale = scale_on grid axis in
    let off = offset_on grid axis in
    let step = ap (λ v. nearest_step v scale off) keeps.1 ∙ raw_returns keeps.0 scale off (low axis) in
    let written = sym (ap (signed_bytes w32 (NotHeld dim)) step) ∙ h in
    keeps.1 ∙ ap (coordinate grid axis) (signed_read w32 (NotHeld dim) keeps.0 at before bytes rest written is)
item_read grid p (Angle width step) at before bytes rest low keeps h is =
    let fault = ValueOutOfRange ScanAngleRank in
    let count = ap (λ v. half_away v step) keeps.1.1 ∙ steps_return keeps.1.0 step keeps.0 in
    let written = sym (ap (signed_bytes width fault) count) ∙ h in
    (keeps.0, keeps.1.1 ∙ ap (λ n. n *ℤ pos step) (signed_read width fault keeps.1.0 at before bytes rest written is))
item_read grid p Time at before bytes rest low keeps h is = number_written w64 p.gps_time at before bytes rest keeps h is
item_read grid p (Number dim width) at before bytes rest low keeps h is = number_written width (number_of p dim) at before bytes rest keeps h is
item_read grid p (Bits fields) at before bytes rest low keeps h is =
    let b = bits_bytes (bits_number p fields) bytes h in
    let there = ap (λ l. slice_index (before ++ (l ++ rest)) at) b.2 ∙ byte_read b.0 at before rest is in
    bits_read p fields (slice_index (before ++ (bytes ++ rest)) at) 0 b.0 b.1 (ap (λ byte. byte / 2 ^ 0) there ∙ whole_byte b.0)

size_is : (r : Result (List ℕ) EncodeFault) (bytes : List ℕ) (n : ℕ) → r ≡ Ok bytes → Has r n → length bytes ≡ n
size_is (Err e) bytes n h size = absurd (cc)
size_is (Ok found) bytes n h size = let same : bytes ≡ found = cc in ap length same ∙ size

-- a point has the items that it was written as
pub items_read : (grid : Grid) (p : Point) (list : List Item) (at : ℕ) (before bytes : List ℕ) → HasSteps grid → AllKeep grid p list
    → items_bytes grid p list ≡ Ok bytes → length before ≡ at → HasItems grid (before ++ bytes) at p list
items_read grid p [] at before bytes low keeps h is = tt
items_read grid p (item ∷ rest) at before bytes low keeps h is =
    let parts = parts_of (item_bytes grid p item) (items_bytes grid p rest) bytes h in
    let size = size_is (item_bytes grid p item) parts.first (size_of item) parts.first_is (item_size grid p item) in
    let place : length (before ++ parts.first) ≡ at + size_of item = omega (arith, length-append before parts.first, size, is) in
    let here = item_read grid p item at before parts.first parts.others low keeps.0 parts.first_is is in
    let beyond = items_read grid p rest (at + size_of item) (before ++ parts.first) parts.others low keeps.1 parts.others_is place in
    let all = ap (λ l. before ++ l) parts.bytes_are in
    subst (λ (l : List ℕ). HasItems grid l at p (item ∷ rest)) (sym all)
    (here, subst (λ (l : List ℕ). HasItems grid l (at + size_of item) p rest) (append_assoc before parts.first parts.others) beyond)
