-- The records of formats 0 and 6, from their parts in the order in which these are made.
use Rattle.std.proofs.Common.{◌≡◌, ℕ, ℤ, pos, List, [], ◌∷◌, ◌++◌, Ok, Err, get_or, refl, ◌∙◌}
use Rattle.std.specs.Prelude.{Result}
use Rattle.std.specs.Int.{w8, w16, w32, w64, to_le_bytes, cast_unsigned}
use Rattle.las_header.specs.Steps.{◌>>=◌}
use Rattle.las_header.specs.declared.form.Format.TheVariants.{F0, F6}
use Rattle.cloud_points.specs.declared.point.Point.{Point}
use Rattle.cloud_points.specs.declared.dims.Dim.TheVariants.{X, Y, Z}
use Rattle.point_formats.specs.declared.encoding.EncodeFault.{EncodeFault}
use Rattle.point_formats.specs.declared.grid.Grid.{Grid}
use Rattle.point_formats.specs.Formats.{old_returns, old_class, new_returns, new_flags}
use Rattle.point_formats.specs.Encoded.{encoded, raw_number, raw_numbers, coordinate_bytes, angle_bytes, angle_number, bits_number}
use Rattle.point_formats.proofs.Appending.{joined}

abbrev pub raw_bytes : ℤ → List ℕ
raw_bytes n = to_le_bytes w32 (cast_unsigned w32 n)

-- those of the raw numbers on the axes, and others behind them
abbrev pub raws_before : List ℤ → List ℕ → List ℕ
raws_before raws rest = raw_bytes (get_or raws 0 (pos 0)) ++ (raw_bytes (get_or raws 1 (pos 0)) ++ (raw_bytes (get_or raws 2 (pos 0)) ++ rest))

module _ (p : Point) where
  abbrev pub old_bytes : List ℤ → ℕ → ℕ → ℤ → List ℕ
  old_bytes raws returns class angle = raws_before raws (to_le_bytes w16 p.intensity ++ (returns ∷ class ∷ (to_le_bytes w8 (cast_unsigned w8 angle)
      ++ (to_le_bytes w8 p.user_data ++ to_le_bytes w16 p.point_source_id))))

  abbrev pub old_from : Result (List ℤ) EncodeFault → Result ℕ EncodeFault → Result ℕ EncodeFault → Result ℤ EncodeFault → Result (List ℕ) EncodeFault
  old_from raws returns class angle = raws >>= (λ n. returns >>= (λ r. class >>= (λ c. angle >>= (λ a. Ok (old_bytes n r c a)))))

  abbrev pub new_bytes : List ℤ → ℕ → ℕ → ℤ → List ℕ
  new_bytes raws returns flags angle = raws_before raws (to_le_bytes w16 p.intensity ++ (returns ∷ flags ∷ (to_le_bytes w8 p.classification
      ++ (to_le_bytes w8 p.user_data ++ (to_le_bytes w16 (cast_unsigned w16 angle) ++ (to_le_bytes w16 p.point_source_id ++ to_le_bytes w64 p.gps_time))))))

  abbrev pub new_from : Result (List ℤ) EncodeFault → Result ℕ EncodeFault → Result ℕ EncodeFault → Result ℤ EncodeFault → Result (List ℕ) EncodeFault
  new_from raws returns flags angle = raws >>= (λ n. returns >>= (λ r. flags >>= (λ f. angle >>= (λ a. Ok (new_bytes n r f a)))))

-- bytes in front of those that come of the rest
abbrev before : List ℕ → Result (List ℕ) EncodeFault → Result (List ℕ) EncodeFault
before bytes rest = joined (Ok bytes) rest

abbrev byte_of : Result ℕ EncodeFault → Result (List ℕ) EncodeFault
byte_of r = r >>= (λ byte. Ok (byte ∷ []))

abbrev bytes_of : Result ℤ EncodeFault → Result (List ℕ) EncodeFault
bytes_of r = r >>= (λ n. Ok (raw_bytes n))

abbrev three : Result ℤ EncodeFault → Result ℤ EncodeFault → Result ℤ EncodeFault → Result (List ℤ) EncodeFault
three a b c = a >>= (λ x. b >>= (λ y. c >>= (λ z. Ok (x ∷ y ∷ z ∷ []))))

module _ (p : Point) where
  old_any : (a b c : Result ℤ EncodeFault) (r s : Result ℕ EncodeFault) (t : Result ℤ EncodeFault)
      → joined (bytes_of a) (joined (bytes_of b) (joined (bytes_of c) (before (to_le_bytes w16 p.intensity) (joined (byte_of r) (joined (byte_of s) (joined (t >>= (λ n. Ok (to_le_bytes w8 (cast_unsigned w8 n))))
      (before (to_le_bytes w8 p.user_data) (before (to_le_bytes w16 p.point_source_id) (Ok [])))))))))
      ≡ old_from p (three a b c) r s t
  old_any (Err e) b c r s t = refl
  old_any (Ok x) (Err e) c r s t = refl
  old_any (Ok x) (Ok y) (Err e) r s t = refl
  old_any (Ok x) (Ok y) (Ok z) (Err e) s t = refl
  old_any (Ok x) (Ok y) (Ok z) (Ok r) (Err e) t = refl
  old_any (Ok x) (Ok y) (Ok z) (Ok r) (Ok s) (Err e) = refl
  old_any (Ok x) (Ok y) (Ok z) (Ok r) (Ok s) (Ok t) = refl

  new_any : (a b c : Result ℤ EncodeFault) (r s : Result ℕ EncodeFault) (t : Result ℤ EncodeFault)
      → joined (bytes_of a) (joined (bytes_of b) (joined (bytes_of c) (before (to_le_bytes w16 p.intensity) (joined (byte_of r) (joined (byte_of s)
      (before (to_le_bytes w8 p.classification) (before (to_le_bytes w8 p.user_data) (joined (t >>= (λ n. Ok (to_le_bytes w16 (cast_unsigned w16 n))))
      (before (to_le_bytes w16 p.point_source_id) (before (to_le_bytes w64 p.gps_time) (Ok [])))))))))))
      ≡ new_from p (three a b c) r s t
  new_any (Err e) b c r s t = refl
  new_any (Ok x) (Err e) c r s t = refl
  new_any (Ok x) (Ok y) (Err e) r s t = refl
  new_any (Ok x) (Ok y) (Ok z) (Err e) s t = refl
  new_any (Ok x) (Ok y) (Ok z) (Ok r) (Err e) t = refl
  new_any (Ok x) (Ok y) (Ok z) (Ok r) (Ok s) (Err e) = refl
  new_any (Ok x) (Ok y) (Ok z) (Ok r) (Ok s) (Ok t) = refl

module _ (grid : Grid) (p : Point) where
  old_steps : encoded F0 grid p ≡ old_from p (raw_numbers grid p) (bits_number p old_returns) (bits_number p old_class) (angle_number w8 1000000000 p.scan_angle_rank)
  unfolding coordinate_bytes raw_number angle_bytes angle_number
  old_steps = old_any p (raw_number grid X 0 p.x) (raw_number grid Y 1 p.y) (raw_number grid Z 2 p.z) (bits_number p old_returns) (bits_number p old_class)
      (angle_number w8 1000000000 p.scan_angle_rank)

  new_steps : encoded F6 grid p ≡ new_from p (raw_numbers grid p) (bits_number p new_returns) (bits_number p new_flags) (angle_number w16 6000000 p.scan_angle_rank)
  unfolding coordinate_bytes raw_number angle_bytes angle_number
  new_steps = new_any p (raw_number grid X 0 p.x) (raw_number grid Y 1 p.y) (raw_number grid Z 2 p.z) (bits_number p new_returns) (bits_number p new_flags)
      (angle_number w16 6000000 p.scan_angle_rank)

  -- a record by what its parts come to
  pub old_is : {raws : Result (List ℤ) EncodeFault} {returns class : Result ℕ EncodeFault} {angle : Result ℤ EncodeFault}
      → raw_numbers grid p ≡ raws → bits_number p old_returns ≡ returns → bits_number p old_class ≡ class → angle_number w8 1000000000 p.scan_angle_rank ≡ angle
      → encoded F0 grid p ≡ old_from p raws returns class angle
  old_is a b c d = old_steps ∙ (λ i. old_from p (a i) (b i) (c i) (d i))

  pub new_is : {raws : Result (List ℤ) EncodeFault} {returns flags : Result ℕ EncodeFault} {angle : Result ℤ EncodeFault}
      → raw_numbers grid p ≡ raws → bits_number p new_returns ≡ returns → bits_number p new_flags ≡ flags → angle_number w16 6000000 p.scan_angle_rank ≡ angle
      → encoded F6 grid p ≡ new_from p raws returns flags angle
  new_is a b c d = new_steps ∙ (λ i. new_from p (a i) (b i) (c i) (d i))
