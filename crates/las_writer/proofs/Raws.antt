-- The raw numbers that stand in records.
use Rattle.std.proofs.Common.{◌≡◌, ℕ, ◌-◌, ◌^◌, ◌<◌, ℤ, pos, List, [], ◌∷◌, ◌++◌, length, drop, Bool, true, false, Result, Ok, Err, if◌then◌else◌, refl, ap, sym, subst, ◌∙◌, arith, append_assoc, length-append, FitsSigned}
use Rattle.std.specs.Prelude.{neg_ℤ}
use Rattle.std.specs.Int.{w32, to_le_bytes, cast_signed, cast_unsigned}
use Rattle.std.proofs.lemmas.Int.{ints, to_z-of_z}
use Rattle.std.proofs.lemmas.Bool.Decides.{nat_tests}
use Rattle.byte_numbers.specs.Bytes.{number_at}
use Rattle.las_header.specs.Steps.{◌>>=◌}
use Rattle.las_header.specs.declared.form.Format.{Format}
use Rattle.las_header.specs.declared.form.Format.TheVariants.{F0, F1, F2, F3, F6, F7, F8}
use Rattle.cloud_points.specs.declared.dims.Dim.{Dim}
use Rattle.cloud_points.specs.declared.dims.Dim.TheVariants.{X, Y, Z}
use Rattle.cloud_points.specs.declared.point.Point.{Point}
use Rattle.cloud_points.specs.Points.{is_between}
use Rattle.decimal_coords.specs.Grid.{nearest_step}
use Rattle.point_formats.specs.declared.encoding.EncodeFault.{EncodeFault}
use Rattle.point_formats.specs.declared.encoding.EncodeFault.TheVariants.{NotHeld}
use Rattle.point_formats.specs.declared.grid.Grid.{Grid}
use Rattle.point_formats.specs.Grids.{scale_on, offset_on}
use Rattle.point_formats.specs.Formats.{Item, Coordinate, items}
use Rattle.point_formats.specs.Encoded.{coordinate_bytes, items_bytes, encoded}
use Rattle.point_formats.proofs.Appending.{joined}
use Rattle.byte_numbers.proofs.Written.{number_read}
use Rattle.extra_bytes.specs.Fields.{fields_bytes}
use Rattle.las_writer.specs.Records.{grid_for, or_refused, raw_number}
use Rattle.las_writer.specs.Laws.{HasRaws, RawNumbersAreSteps}

chosen : (t : Bool) (z : ℤ) (f : ℤ → List ℕ) (bytes : List ℕ) (e : EncodeFault) → ((if t then Ok z else Err e) >>= (λ n. Ok (f n))) ≡ Ok bytes → (t ≡ true) × (f z ≡ bytes)
chosen true z f bytes e h = (refl, cc)
chosen false z f bytes e h = absurd (cc)

fits : (z : ℤ) → is_between (neg_ℤ (pos (2 ^ 31))) (pos (2 ^ 31 - 1)) z ≡ true → FitsSigned w32 z
fits z h = grind (arith, ints, nat_tests)

unsigned_small : (z : ℤ) → FitsSigned w32 z → cast_unsigned w32 z < 256 ^ 4
unsigned_small z h = omega (arith, ints)

-- a coordinate behind other bytes
record CoordinateRead (step : ℤ) (at : ℕ) (before bytes rest : List ℕ) : Type 0 where
  number : cast_signed w32 (number_at at 4 (before ++ (bytes ++ rest))) ≡ step
  small : FitsSigned w32 step
  four : length bytes ≡ 4

coordinate_read : (grid : Grid) (dim : Dim) (axis : ℕ) (nano : ℤ) (at : ℕ) (before bytes rest : List ℕ) → coordinate_bytes grid dim axis nano ≡ Ok bytes → length before ≡ at
    → CoordinateRead (nearest_step nano (scale_on grid axis) (offset_on grid axis)) at before bytes rest
unfolding coordinate_bytes
coordinate_read grid dim axis nano at before bytes rest h is =
    let z = nearest_step nano (scale_on grid axis) (offset_on grid axis) in
    let t = chosen (is_between (neg_ℤ (pos (2 ^ 31))) (pos (2 ^ 31 - 1)) z) z (λ n. to_le_bytes w32 (cast_unsigned w32 n)) bytes (NotHeld dim) h in
    let small = fits z t.0 in
    let there = number_read w32 (cast_unsigned w32 z) at before rest (unsigned_small z small) is in
    record {
      number = ap (λ l. cast_signed w32 (number_at at 4 (before ++ (l ++ rest)))) (sym t.1) ∙ ap (cast_signed w32) there ∙ to_z-of_z w32 z small;
      small = small;
      four = ap length (sym t.1);
    }

-- the parts of two results of which the second goes behind the first
record Joined (a b : Result (List ℕ) EncodeFault) (bytes : List ℕ) : Type 0 where
  first : List ℕ
  others : List ℕ
  first_is : a ≡ Ok first
  others_is : b ≡ Ok others
  bytes_are : bytes ≡ first ++ others

parts_of : (a b : Result (List ℕ) EncodeFault) (bytes : List ℕ) → joined a b ≡ Ok bytes → Joined a b bytes
parts_of (Err e) b bytes h = absurd (cc)
parts_of (Ok first) (Err e) bytes h = absurd (cc)
parts_of (Ok first) (Ok others) bytes h = record { first = first; others = others; first_is = refl; others_is = refl; bytes_are = cc }

three : (grid : Grid) (p : Point) (rest : List Item) (bytes more : List ℕ) → items_bytes grid p (Coordinate X 0 ∷ Coordinate Y 1 ∷ Coordinate Z 2 ∷ rest) ≡ Ok bytes → HasRaws grid p (bytes ++ more)
three grid p rest bytes more h =
    let a = parts_of (coordinate_bytes grid X 0 p.x) (items_bytes grid p (Coordinate Y 1 ∷ Coordinate Z 2 ∷ rest)) bytes h in
    let b = parts_of (coordinate_bytes grid Y 1 p.y) (items_bytes grid p (Coordinate Z 2 ∷ rest)) a.others a.others_is in
    let c = parts_of (coordinate_bytes grid Z 2 p.z) (items_bytes grid p rest) b.others b.others_is in
    let x = coordinate_read grid X 0 p.x 0 [] a.first (a.others ++ more) a.first_is refl in
    let y = coordinate_read grid Y 1 p.y 4 a.first b.first (b.others ++ more) b.first_is x.four in
    let eight : length (a.first ++ b.first) ≡ 8 = omega (arith, length-append a.first b.first, x.four, y.four) in
    let z = coordinate_read grid Z 2 p.z 8 (a.first ++ b.first) c.first (c.others ++ more) c.first_is eight in
    let one : bytes ++ more ≡ a.first ++ (a.others ++ more) = ap (λ l. l ++ more) a.bytes_are ∙ append_assoc a.first a.others more in
    let two : bytes ++ more ≡ a.first ++ (b.first ++ (b.others ++ more)) = one ∙ ap (λ l. a.first ++ l) (ap (λ l. l ++ more) b.bytes_are ∙ append_assoc b.first b.others more) in
    let all : bytes ++ more ≡ (a.first ++ b.first) ++ (c.first ++ (c.others ++ more)) =
    two ∙ ap (λ l. a.first ++ (b.first ++ l)) (ap (λ l. l ++ more) c.bytes_are ∙ append_assoc c.first c.others more) ∙ sym (append_assoc a.first b.first (c.first ++ (c.others ++ more))) in
    record {
      x = record { is = ap (raw_number 0) one ∙ x.number; small = x.small };
      y = record { is = ap (raw_number 1) two ∙ y.number; small = y.small };
      z = record { is = ap (raw_number 2) all ∙ z.number; small = z.small };
    }

raws_in : (format : Format) (grid : Grid) (p : Point) (bytes more : List ℕ) → encoded format grid p ≡ Ok bytes → HasRaws grid p (bytes ++ more)
raws_in F0 grid p bytes more h = three grid p (drop 3 (items F0)) bytes more h
raws_in F1 grid p bytes more h = three grid p (drop 3 (items F1)) bytes more h
raws_in F2 grid p bytes more h = three grid p (drop 3 (items F2)) bytes more h
raws_in F3 grid p bytes more h = three grid p (drop 3 (items F3)) bytes more h
raws_in F6 grid p bytes more h = three grid p (drop 3 (items F6)) bytes more h
raws_in F7 grid p bytes more h = three grid p (drop 3 (items F7)) bytes more h
raws_in F8 grid p bytes more h = three grid p (drop 3 (items F8)) bytes more h

pub raws_are : RawNumbersAreSteps
raws_are form p bytes h =
    let parts = parts_of (encoded form.format (grid_for form) p) (or_refused (fields_bytes form.extra p)) bytes h in
    subst (HasRaws (grid_for form) p) (sym parts.bytes_are) (raws_in form.format (grid_for form) p parts.first parts.others parts.first_is)
