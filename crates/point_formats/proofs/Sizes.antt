-- The sizes of items.
use Rattle.std.proofs.Common.{◌≡◌, ℕ, ℤ, ◌+◌, List, [], ◌∷◌, ◌++◌, length, Bool, true, false, Ok, Err, IfOk, refl, arith, length-append, if◌then◌else◌}
use Rattle.std.specs.Prelude.{Result}
use Rattle.std.specs.Int.{Width, w8, w16, w32, w64, w128, byte_len, to_le_bytes, cast_unsigned}
use Rattle.cloud_points.specs.declared.point.Point.{Point}
use Rattle.las_header.specs.Steps.{◌>>=◌}
use Rattle.las_header.specs.declared.form.Format.TheVariants.{F0, F1, F2, F3, F6, F7, F8}
use Rattle.point_formats.specs.declared.encoding.EncodeFault.{EncodeFault}
use Rattle.point_formats.specs.declared.grid.Grid.{Grid}
use Rattle.point_formats.specs.Formats.{Item, Coordinate, Angle, Time, Number, Bits, items}
use Rattle.point_formats.specs.Records.{size_of}
use Rattle.point_formats.specs.Encoded.{item_bytes, items_bytes, coordinate_bytes, angle_bytes, bits_number}
use Rattle.point_formats.specs.Laws.{RecordsAreWhole}

abbrev pub Has : Result (List ℕ) EncodeFault → ℕ → Type 0
Has r n = IfOk r (λ bytes. length bytes ≡ n)

number_size : (w : Width) (n : ℕ) → length (to_le_bytes w n) ≡ byte_len w
number_size w8 n = refl
number_size w16 n = refl
number_size w32 n = refl
number_size w64 n = refl
number_size w128 n = refl

chosen_size : (t : Bool) (w : Width) (n : ℤ) (e : EncodeFault) → Has ((if t then Ok n else Err e) >>= (λ m. Ok (to_le_bytes w (cast_unsigned w m)))) (byte_len w)
chosen_size true w n e = number_size w (cast_unsigned w n)
chosen_size false w n e = tt

bits_size : (r : Result ℕ EncodeFault) → Has (r >>= (λ byte. Ok (byte ∷ []))) 1
bits_size (Ok n) = refl
bits_size (Err e) = tt

joined_size : (a b : Result (List ℕ) EncodeFault) (m n : ℕ) → Has a m → Has b n → Has (a >>= (λ x. b >>= (λ y. Ok (x ++ y)))) (m + n)
joined_size (Err e) b m n ha hb = tt
joined_size (Ok x) (Err e) m n ha hb = tt
joined_size (Ok x) (Ok y) m n ha hb = omega (arith, length-append x y, ha, hb)

pub item_size : (grid : Grid) (p : Point) (item : Item) → Has (item_bytes grid p item) (size_of item)
unfolding coordinate_bytes angle_bytes
item_size grid p (Coordinate dim axis) = chosen_size _ w32 _ _
item_size grid p (Angle width step) = chosen_size _ width _ _
item_size grid p Time = refl
item_size grid p (Number dim width) = number_size width _
item_size grid p (Bits fields) = bits_size (bits_number p fields)

-- the bytes of items
abbrev pub total : List Item → ℕ
total [] = 0
total (item ∷ rest) = size_of item + total rest

items_size : (grid : Grid) (p : Point) (list : List Item) → Has (items_bytes grid p list) (total list)
items_size grid p [] = refl
items_size grid p (item ∷ rest) = joined_size (item_bytes grid p item) (items_bytes grid p rest) (size_of item) (total rest) (item_size grid p item) (items_size grid p rest)

pub whole : RecordsAreWhole
whole F0 grid p = items_size grid p (items F0)
whole F1 grid p = items_size grid p (items F1)
whole F2 grid p = items_size grid p (items F2)
whole F3 grid p = items_size grid p (items F3)
whole F6 grid p = items_size grid p (items F6)
whole F7 grid p = items_size grid p (items F7)
whole F8 grid p = items_size grid p (items F8)
