-- Points within layouts, and within wider ones.
use Rattle.std.proofs.Common.{◌≡◌, ℕ, ℤ, pos, Bool, true, false, List, [], ◌∷◌, length, get_or, if◌then◌else◌, FitsSigned, refl, ap, sym, ◌∙◌, arith}
use Rattle.std.specs.Int.{w64, cast_signed, cast_unsigned}
use Rattle.std.proofs.lemmas.Int.{to_z-of_z}
use Rattle.std.proofs.lemmas.Bool.{false≢true}
use Rattle.cloud_points.specs.Clearing.{cleared, IsWithin}
use Rattle.cloud_points.specs.Layouts.{holds}
use Rattle.cloud_points.specs.declared.dims.Dim.{Dim}
use Rattle.cloud_points.specs.declared.dims.Dim.TheVariants.{X, Y, Z, Intensity, ReturnNumber, NumberOfReturns, ScanDirectionFlag, EdgeOfFlightLine, Classification, Synthetic, KeyPoint, Withheld, Overlap, ScanChannel, ScanAngleRank, UserData, PointSourceId, GpsTime, Red, Green, Blue, Infrared, Extra}
use Rattle.cloud_points.specs.declared.layout.Layout.{Layout}
use Rattle.cloud_points.specs.declared.point.Point.{Point}
use Rattle.packed_chunk.specs.Fitting.{FitsTypes}
use Rattle.packed_chunk.specs.Outside.{AreZero, IsWider}
use Rattle.packed_chunk.specs.Rows.{first_dims, middle_dims, late_dims, extra_dims}

number_stays : (held : Bool) (n : ℕ) → (held ≡ false → n ≡ 0) → (if held then n else 0) ≡ n
number_stays true n none = refl
number_stays false n none = sym (none refl)

signed_stays : (held : Bool) (z : ℤ) → FitsSigned w64 z → (held ≡ false → cast_unsigned w64 z ≡ 0) → (if held then z else pos 0) ≡ z
signed_stays true z fits none = refl
signed_stays false z fits none = sym (ap (cast_signed w64) (none refl)) ∙ to_z-of_z w64 z fits

eight_are : (xs : List ℤ) → length xs ≡ 8
    → (get_or xs 0 (pos 0) ∷ get_or xs 1 (pos 0) ∷ get_or xs 2 (pos 0) ∷ get_or xs 3 (pos 0) ∷ get_or xs 4 (pos 0) ∷ get_or xs 5 (pos 0) ∷ get_or xs 6 (pos 0) ∷ get_or xs 7 (pos 0) ∷ []) ≡ xs
eight_are (a ∷ b ∷ c ∷ d ∷ e ∷ f ∷ g ∷ h ∷ []) many = refl
eight_are (a ∷ b ∷ c ∷ d ∷ e ∷ f ∷ g ∷ h ∷ i ∷ rest) many = absurd (omega (arith, many))
eight_are [] many = absurd (omega (arith, many))
eight_are (a ∷ []) many = absurd (omega (arith, many))
eight_are (a ∷ b ∷ []) many = absurd (omega (arith, many))
eight_are (a ∷ b ∷ c ∷ []) many = absurd (omega (arith, many))
eight_are (a ∷ b ∷ c ∷ d ∷ []) many = absurd (omega (arith, many))
eight_are (a ∷ b ∷ c ∷ d ∷ e ∷ []) many = absurd (omega (arith, many))
eight_are (a ∷ b ∷ c ∷ d ∷ e ∷ f ∷ []) many = absurd (omega (arith, many))
eight_are (a ∷ b ∷ c ∷ d ∷ e ∷ f ∷ g ∷ []) many = absurd (omega (arith, many))

-- a point is within a layout where it has 0 in all that the layout lacks
pub zero_within : (layout : Layout) (p : Point) → FitsTypes p → length p.extra ≡ 8 → AreZero layout p first_dims → AreZero layout p middle_dims
    → AreZero layout p late_dims → AreZero layout p extra_dims → IsWithin (holds layout) p
zero_within layout p f eight first middle late extra =
    let signed = λ (dim : Dim) (z : ℤ) (fits : FitsSigned w64 z) (none : holds layout dim ≡ false → cast_unsigned w64 z ≡ 0). signed_stays (holds layout dim) z fits none in
    let number = λ (dim : Dim) (n : ℕ) (none : holds layout dim ≡ false → n ≡ 0). number_stays (holds layout dim) n none in
    let e0 = signed (Extra 0) (get_or p.extra 0 (pos 0)) f.extra0 extra.0 in
    let e1 = signed (Extra 1) (get_or p.extra 1 (pos 0)) f.extra1 extra.1.0 in
    let e2 = signed (Extra 2) (get_or p.extra 2 (pos 0)) f.extra2 extra.1.1.0 in
    let e3 = signed (Extra 3) (get_or p.extra 3 (pos 0)) f.extra3 extra.1.1.1.0 in
    let e4 = signed (Extra 4) (get_or p.extra 4 (pos 0)) f.extra4 extra.1.1.1.1.0 in
    let e5 = signed (Extra 5) (get_or p.extra 5 (pos 0)) f.extra5 extra.1.1.1.1.1.0 in
    let e6 = signed (Extra 6) (get_or p.extra 6 (pos 0)) f.extra6 extra.1.1.1.1.1.1.0 in
    let e7 = signed (Extra 7) (get_or p.extra 7 (pos 0)) f.extra7 extra.1.1.1.1.1.1.1.0 in
    let extras = (λ i. e0 i ∷ e1 i ∷ e2 i ∷ e3 i ∷ e4 i ∷ e5 i ∷ e6 i ∷ e7 i ∷ []) ∙ eight_are p.extra eight in
    λ i. record {
      x = signed X p.x f.x first.0 i;
      y = signed Y p.y f.y first.1.0 i;
      z = signed Z p.z f.z first.1.1.0 i;
      intensity = number Intensity p.intensity first.1.1.1.0 i;
      return_number = number ReturnNumber p.return_number first.1.1.1.1.0 i;
      number_of_returns = number NumberOfReturns p.number_of_returns first.1.1.1.1.1.0 i;
      scan_direction_flag = number ScanDirectionFlag p.scan_direction_flag first.1.1.1.1.1.1.0 i;
      edge_of_flight_line = number EdgeOfFlightLine p.edge_of_flight_line first.1.1.1.1.1.1.1.0 i;
      classification = number Classification p.classification first.1.1.1.1.1.1.1.1.0 i;
      synthetic = number Synthetic p.synthetic first.1.1.1.1.1.1.1.1.1.0 i;
      key_point = number KeyPoint p.key_point first.1.1.1.1.1.1.1.1.1.1.0 i;
      withheld = number Withheld p.withheld first.1.1.1.1.1.1.1.1.1.1.1.0 i;
      overlap = number Overlap p.overlap middle.0 i;
      scan_channel = number ScanChannel p.scan_channel middle.1.0 i;
      scan_angle_rank = signed ScanAngleRank p.scan_angle_rank f.scan_angle_rank middle.1.1.0 i;
      user_data = number UserData p.user_data middle.1.1.1.0 i;
      point_source_id = number PointSourceId p.point_source_id middle.1.1.1.1.0 i;
      gps_time = number GpsTime p.gps_time late.0 i;
      red = number Red p.red late.1.0 i;
      green = number Green p.green late.1.1.0 i;
      blue = number Blue p.blue late.1.1.1.0 i;
      infrared = number Infrared p.infrared late.1.1.1.1.0 i;
      extra = extras i;
    }

all_wider : (narrow wide : Layout) (p : Point) (dims : List Dim) → IsWider narrow wide → AreZero narrow p dims → AreZero wide p dims
all_wider narrow wide p [] wider none = tt
all_wider narrow wide p (dim ∷ rest) wider none = (λ lacks. none.0 (wider dim lacks), all_wider narrow wide p rest wider none.1)

-- what a point has in none of the dimensions outside a layout it has in none outside a wider one
pub zero_wider : (narrow wide : Layout) (p : Point) (dims : List Dim) → IsWider narrow wide → AreZero narrow p dims → AreZero wide p dims
zero_wider narrow wide p dims wider none = all_wider narrow wide p dims wider none

kept_wider : {V : Type 0} (narrow wide : Bool) (value none : V) → (wide ≡ false → narrow ≡ false) → (if narrow then value else none) ≡ value
    → (if wide then value else none) ≡ (if narrow then value else none)
kept_wider true true value none wider within = refl
kept_wider false true value none wider within = sym within
kept_wider false false value none wider within = refl
kept_wider true false value none wider within = absurd (false≢true (sym (wider refl)))

-- a point within a layout is within a wider one
pub wider_within : (narrow wide : Layout) (p : Point) → IsWider narrow wide → IsWithin (holds narrow) p → IsWithin (holds wide) p
wider_within narrow wide p wider within =
    let cleared_same : cleared (holds wide) p ≡ cleared (holds narrow) p = λ i. record {
      x = kept_wider (holds narrow X) (holds wide X) p.x (pos 0) (wider X) (ap (λ (q : Point). q.x) within) i;
      y = kept_wider (holds narrow Y) (holds wide Y) p.y (pos 0) (wider Y) (ap (λ (q : Point). q.y) within) i;
      z = kept_wider (holds narrow Z) (holds wide Z) p.z (pos 0) (wider Z) (ap (λ (q : Point). q.z) within) i;
      intensity = kept_wider (holds narrow Intensity) (holds wide Intensity) p.intensity 0 (wider Intensity) (ap (λ (q : Point). q.intensity) within) i;
      return_number = kept_wider (holds narrow ReturnNumber) (holds wide ReturnNumber) p.return_number 0 (wider ReturnNumber) (ap (λ (q : Point). q.return_number) within) i;
      number_of_returns = kept_wider (holds narrow NumberOfReturns) (holds wide NumberOfReturns) p.number_of_returns 0 (wider NumberOfReturns) (ap (λ (q : Point). q.number_of_returns) within) i;
      scan_direction_flag = kept_wider (holds narrow ScanDirectionFlag) (holds wide ScanDirectionFlag) p.scan_direction_flag 0 (wider ScanDirectionFlag) (ap (λ (q : Point). q.scan_direction_flag) within) i;
      edge_of_flight_line = kept_wider (holds narrow EdgeOfFlightLine) (holds wide EdgeOfFlightLine) p.edge_of_flight_line 0 (wider EdgeOfFlightLine) (ap (λ (q : Point). q.edge_of_flight_line) within) i;
      classification = kept_wider (holds narrow Classification) (holds wide Classification) p.classification 0 (wider Classification) (ap (λ (q : Point). q.classification) within) i;
      synthetic = kept_wider (holds narrow Synthetic) (holds wide Synthetic) p.synthetic 0 (wider Synthetic) (ap (λ (q : Point). q.synthetic) within) i;
      key_point = kept_wider (holds narrow KeyPoint) (holds wide KeyPoint) p.key_point 0 (wider KeyPoint) (ap (λ (q : Point). q.key_point) within) i;
      withheld = kept_wider (holds narrow Withheld) (holds wide Withheld) p.withheld 0 (wider Withheld) (ap (λ (q : Point). q.withheld) within) i;
      overlap = kept_wider (holds narrow Overlap) (holds wide Overlap) p.overlap 0 (wider Overlap) (ap (λ (q : Point). q.overlap) within) i;
      scan_channel = kept_wider (holds narrow ScanChannel) (holds wide ScanChannel) p.scan_channel 0 (wider ScanChannel) (ap (λ (q : Point). q.scan_channel) within) i;
      scan_angle_rank = kept_wider (holds narrow ScanAngleRank) (holds wide ScanAngleRank) p.scan_angle_rank (pos 0) (wider ScanAngleRank) (ap (λ (q : Point). q.scan_angle_rank) within) i;
      user_data = kept_wider (holds narrow UserData) (holds wide UserData) p.user_data 0 (wider UserData) (ap (λ (q : Point). q.user_data) within) i;
      point_source_id = kept_wider (holds narrow PointSourceId) (holds wide PointSourceId) p.point_source_id 0 (wider PointSourceId) (ap (λ (q : Point). q.point_source_id) within) i;
      gps_time = kept_wider (holds narrow GpsTime) (holds wide GpsTime) p.gps_time 0 (wider GpsTime) (ap (λ (q : Point). q.gps_time) within) i;
      red = kept_wider (holds narrow Red) (holds wide Red) p.red 0 (wider Red) (ap (λ (q : Point). q.red) within) i;
      green = kept_wider (holds narrow Green) (holds wide Green) p.green 0 (wider Green) (ap (λ (q : Point). q.green) within) i;
      blue = kept_wider (holds narrow Blue) (holds wide Blue) p.blue 0 (wider Blue) (ap (λ (q : Point). q.blue) within) i;
      infrared = kept_wider (holds narrow Infrared) (holds wide Infrared) p.infrared 0 (wider Infrared) (ap (λ (q : Point). q.infrared) within) i;
      extra = kept_wider (holds narrow (Extra 0)) (holds wide (Extra 0)) (get_or p.extra 0 (pos 0)) (pos 0) (wider (Extra 0)) (ap (λ (q : Point). get_or q.extra 0 (pos 0)) within) i ∷ kept_wider (holds narrow (Extra 1)) (holds wide (Extra 1)) (get_or p.extra 1 (pos 0)) (pos 0) (wider (Extra 1)) (ap (λ (q : Point). get_or q.extra 1 (pos 0)) within) i ∷ kept_wider (holds narrow (Extra 2)) (holds wide (Extra 2)) (get_or p.extra 2 (pos 0)) (pos 0) (wider (Extra 2)) (ap (λ (q : Point). get_or q.extra 2 (pos 0)) within) i ∷ kept_wider (holds narrow (Extra 3)) (holds wide (Extra 3)) (get_or p.extra 3 (pos 0)) (pos 0) (wider (Extra 3)) (ap (λ (q : Point). get_or q.extra 3 (pos 0)) within) i ∷ kept_wider (holds narrow (Extra 4)) (holds wide (Extra 4)) (get_or p.extra 4 (pos 0)) (pos 0) (wider (Extra 4)) (ap (λ (q : Point). get_or q.extra 4 (pos 0)) within) i ∷ kept_wider (holds narrow (Extra 5)) (holds wide (Extra 5)) (get_or p.extra 5 (pos 0)) (pos 0) (wider (Extra 5)) (ap (λ (q : Point). get_or q.extra 5 (pos 0)) within) i ∷ kept_wider (holds narrow (Extra 6)) (holds wide (Extra 6)) (get_or p.extra 6 (pos 0)) (pos 0) (wider (Extra 6)) (ap (λ (q : Point). get_or q.extra 6 (pos 0)) within) i ∷ kept_wider (holds narrow (Extra 7)) (holds wide (Extra 7)) (get_or p.extra 7 (pos 0)) (pos 0) (wider (Extra 7)) (ap (λ (q : Point). get_or q.extra 7 (pos 0)) within) i ∷ [];
    } in
    cleared_same ∙ within
