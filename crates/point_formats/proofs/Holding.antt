-- What it is for a point to have what stands in a record, and that it is then written as that record.
use Rattle.std.proofs.Common.{◌≡◌, ℕ, ◌+◌, ◌-◌, ◌*◌, ◌/◌, ◌%◌, ◌^◌, ◌<◌, ◌≤◌, ℤ, pos, ◌*ℤ◌, List, [], ◌∷◌, ◌++◌, length, slice_index, Bool, true, Ok, Err, if◌then◌else◌, refl, ap, sym, subst, ◌∙◌, arith, add-zero}
use Rattle.std.specs.Prelude.{⊤, neg_ℤ}
use Rattle.std.proofs.Math.Nat.{add_assoc, div-eq_of_lt}
use Rattle.std.specs.Int.{Width, w8, w16, w32, w64, w128, byte_len, to_le_bytes, cast_signed, cast_unsigned}
use Rattle.std.proofs.lemmas.Int.{ints, of_z-to_z}
use Rattle.std.proofs.lemmas.Nat.{shr-shr, div-add-mod', mod_below, pow_pos}
use Rattle.std.proofs.lemmas.Bool.Decides.{nat_tests}
use mir.Val.{bits}
use Rattle.las_header.specs.Steps.{◌>>=◌}
use Rattle.byte_numbers.specs.Bytes.{number_at, piece}
use Rattle.cloud_points.specs.declared.dims.Dim.{Dim}
use Rattle.cloud_points.specs.declared.point.Point.{Point}
use Rattle.cloud_points.specs.Points.{get, is_between}
use Rattle.decimal_coords.specs.Grid.{nearest_step}
use Rattle.exact_numbers.specs.Rounding.{half_away}
use Rattle.point_formats.specs.declared.encoding.EncodeFault.{EncodeFault}
use Rattle.point_formats.specs.declared.encoding.EncodeFault.TheVariants.{NotHeld, ValueOutOfRange}
use Rattle.cloud_points.specs.declared.dims.Dim.TheVariants.{ScanAngleRank}
use Rattle.point_formats.specs.declared.grid.Grid.{Grid}
use Rattle.point_formats.specs.Grids.{coordinate, scale_on, offset_on, HasSteps}
use Rattle.point_formats.specs.Formats.{BitField, Item, Coordinate, Angle, Time, Number, Bits}
use Rattle.point_formats.specs.Records.{size_of}
use Rattle.point_formats.specs.Encoded.{number_of, signed_bytes, coordinate_bytes, angle_bytes, field_number, bits_number, item_bytes, items_bytes}
use Rattle.point_formats.proofs.Counting.{raw_returns, steps_return}
use Rattle.point_formats.proofs.Appending.{joined_ok, bits_ok}
use Rattle.point_formats.proofs.Sizes.{total}
use Rattle.byte_numbers.proofs.Pieces.{AreBytes, number_back, number_fits, piece_more, pieces_join}

-- the bit fields of a byte from a bit on, which are all that is left of it
abbrev pub HasBits : Point → ℕ → ℕ → List BitField → Type 0
HasBits p byte low [] = byte < 2 ^ low
HasBits p byte low (x ∷ rest) = (number_of p x.dim ≡ byte / 2 ^ low % 2 ^ x.bits) × HasBits p byte (low + x.bits) rest

-- an item that stands at a place
abbrev pub HasItem : Grid → List ℕ → ℕ → Point → Item → Type 0
HasItem grid bytes at p (Coordinate dim axis) = get p dim ≡ coordinate grid axis (cast_signed w32 (number_at at 4 bytes))
HasItem grid bytes at p (Angle width step) = (0 < step) × (p.scan_angle_rank ≡ cast_signed width (number_at at (byte_len width) bytes) *ℤ pos step)
HasItem grid bytes at p Time = p.gps_time ≡ number_at at 8 bytes
HasItem grid bytes at p (Number dim width) = number_of p dim ≡ number_at at (byte_len width) bytes
HasItem grid bytes at p (Bits fields) = HasBits p (slice_index bytes at) 0 fields

-- items one after another from a place
abbrev pub HasItems : Grid → List ℕ → ℕ → Point → List Item → Type 0
HasItems grid bytes at p [] = ⊤
HasItems grid bytes at p (item ∷ rest) = HasItem grid bytes at p item × HasItems grid bytes (at + size_of item) p rest

field_ok : (dim : Dim) (bound n : ℕ) → n < bound → field_number dim bound n ≡ Ok n
field_ok dim bound n h = grind (arith, nat_tests)

none_left : (byte low : ℕ) → byte < 2 ^ low → 0 ≡ byte / 2 ^ low
none_left byte low h = sym (div-eq_of_lt h)

parts : (q m : ℕ) → q % m + m * (q / m) ≡ q
parts q m = omega (arith, div-add-mod' q m)

put_together : (byte low more : ℕ) → byte / 2 ^ low % 2 ^ more + 2 ^ more * (byte / 2 ^ (low + more)) ≡ byte / 2 ^ low
put_together byte low more =
    ap (λ q. byte / 2 ^ low % 2 ^ more + 2 ^ more * q) (sym (shr-shr byte low more)) ∙ parts (byte / 2 ^ low) (2 ^ more)

bits_back : (p : Point) (byte low : ℕ) (fields : List BitField) → HasBits p byte low fields → bits_number p fields ≡ Ok (byte / 2 ^ low)
unfolding bits_number
bits_back p byte low [] h = ap Ok (none_left byte low h)
bits_back p byte low (x ∷ rest) h =
    let own = byte / 2 ^ low % 2 ^ x.bits in
    let size = mod_below (byte / 2 ^ low) (2 ^ x.bits) (pow_pos x.bits) in
    let first = ap (field_number x.dim (2 ^ x.bits)) h.0 ∙ field_ok x.dim (2 ^ x.bits) own size in
    ap (λ r. r >>= (λ n. bits_number p rest >>= (λ m. Ok (n + 2 ^ x.bits * m)))) first
    ∙ ap (λ r. r >>= (λ m. Ok (own + 2 ^ x.bits * m))) (bits_back p byte (low + x.bits) rest h.1)
    ∙ ap Ok (put_together byte low x.bits)

in_bits : (w : Width) (n : ℕ) → n < 256 ^ byte_len w → n < 2 ^ bits w
in_bits w8 n h = h
in_bits w16 n h = h
in_bits w32 n h = h
in_bits w64 n h = h
in_bits w128 n h = h

abbrev pub in_range : Width → ℤ → Bool
in_range w n = is_between (neg_ℤ (pos (2 ^ (8 * byte_len w - 1)))) (pos (2 ^ (8 * byte_len w - 1) - 1)) n

signed_in_range : (w : Width) (n : ℕ) → n < 2 ^ bits w → in_range w (cast_signed w n) ≡ true
signed_in_range w8 n h = grind (arith, ints)
signed_in_range w16 n h = grind (arith, ints)
signed_in_range w32 n h = grind (arith, ints)
signed_in_range w64 n h = grind (arith, ints)
signed_in_range w128 n h = grind (arith, ints)

signed_back : (w : Width) (fault : EncodeFault) (at : ℕ) (bytes : List ℕ) → AreBytes bytes → at + byte_len w ≤ length bytes
    → signed_bytes w fault (cast_signed w (number_at at (byte_len w) bytes)) ≡ Ok (piece at (byte_len w) bytes)
signed_back w fault at bytes small room =
    let n = number_at at (byte_len w) bytes in
    let fits = in_bits w n (number_fits (byte_len w) at bytes small) in
    ap (λ t. (if t then Ok (cast_signed w n) else Err fault) >>= (λ m. Ok (to_le_bytes w (cast_unsigned w m)))) (signed_in_range w n fits)
    ∙ ap (λ m. Ok (to_le_bytes w m)) (of_z-to_z w n fits)
    ∙ ap Ok (number_back w at bytes small room)

pub whole_byte : (byte : ℕ) → byte / 2 ^ 0 ≡ byte
whole_byte byte = omega arith

item_back : (grid : Grid) (bytes : List ℕ) (at : ℕ) (p : Point) (item : Item) → HasSteps grid → AreBytes bytes → at + size_of item ≤ length bytes
    → HasItem grid bytes at p item → item_bytes grid p item ≡ Ok (piece at (size_of item) bytes)
unfolding coordinate_bytes angle_bytes
item_back grid bytes at p (Coordinate dim axis) low small room h =
    let scale = scale_on grid axis in
    let off = offset_on grid axis in
    let raw = cast_signed w32 (number_at at 4 bytes) in
    ap (λ v. signed_bytes w32 (NotHeld dim) (nearest_step v scale off)) h
    ∙ ap (signed_bytes w32 (NotHeld dim)) (raw_returns raw scale off (low axis))
    ∙ signed_back w32 (NotHeld dim) at bytes small room
item_back grid bytes at p (Angle width step) low small room h =
    let fault = ValueOutOfRange ScanAngleRank in
    ap (λ v. signed_bytes width fault (half_away v step)) h.1
    ∙ ap (signed_bytes width fault) (steps_return (cast_signed width (number_at at (byte_len width) bytes)) step h.0)
    ∙ signed_back width fault at bytes small room
item_back grid bytes at p Time low small room h = ap (λ n. Ok (to_le_bytes w64 n)) h ∙ ap Ok (number_back w64 at bytes small room)
item_back grid bytes at p (Number dim width) low small room h = ap (λ n. Ok (to_le_bytes width n)) h ∙ ap Ok (number_back width at bytes small room)
item_back grid bytes at p (Bits fields) low small room h =
    let byte = slice_index bytes at in
    bits_ok (bits_back p byte 0 fields h ∙ ap Ok (whole_byte byte)) ∙ ap Ok (sym (piece_more at 0 bytes (omega arith)))

-- a point that has the items of a piece is written as that piece
pub items_back : (grid : Grid) (bytes : List ℕ) (at : ℕ) (p : Point) (list : List Item) → HasSteps grid → AreBytes bytes → at + total list ≤ length bytes
    → HasItems grid bytes at p list → items_bytes grid p list ≡ Ok (piece at (total list) bytes)
items_back grid bytes at p [] low small room h = refl
items_back grid bytes at p (item ∷ rest) low small room h =
    joined_ok (item_back grid bytes at p item low small (omega arith) h.0) (items_back grid bytes (at + size_of item) p rest low small (omega arith) h.1)
    ∙ ap Ok (pieces_join at (size_of item) (total rest) bytes)

-- items, and others behind them
pub has_more : (grid : Grid) (bytes : List ℕ) (at : ℕ) (p : Point) (a b : List Item) → HasItems grid bytes at p a → HasItems grid bytes (at + total a) p b → HasItems grid bytes at p (a ++ b)
has_more grid bytes at p [] b ha hb = subst (λ (j : ℕ). HasItems grid bytes j p b) (add-zero at) hb
has_more grid bytes at p (item ∷ rest) b ha hb =
    (ha.0, has_more grid bytes (at + size_of item) p rest b ha.1 (subst (λ (j : ℕ). HasItems grid bytes j p b) (sym (add_assoc at (size_of item) (total rest))) hb))
