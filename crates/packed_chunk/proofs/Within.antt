-- The point of a row has 0 in every dimension outside the layout.
use Rattle.std.proofs.Common.{◌≡◌, ℕ, ◌+◌, map, ap, ℤ, pos, Bool, true, false, List, [], ◌∷◌, if◌then◌else◌, refl}
use Rattle.std.specs.Int.{w64, byte_len, cast_signed}
use Rattle.cloud_points.specs.Layouts.{holds}
use Rattle.cloud_points.specs.Clearing.{cleared, IsWithin}
use Rattle.cloud_points.specs.declared.dims.Dim.TheVariants.{X, Y, Z, Intensity, ReturnNumber, NumberOfReturns, ScanDirectionFlag, EdgeOfFlightLine, Classification, Synthetic, KeyPoint, Withheld, Overlap, ScanChannel, ScanAngleRank, UserData, PointSourceId, GpsTime, Red, Green, Blue, Infrared, Extra}
use Rattle.cloud_points.specs.declared.dims.Dim.{Dim}
use Rattle.cloud_points.specs.declared.layout.Layout.{Layout}
use Rattle.cloud_points.specs.declared.point.Point.{Point}
use Rattle.packed_chunk.specs.Rows.{width, size_in, AllAre}
use Rattle.packed_chunk.specs.Unpacked.{number_where, number_in, numbers_in, numbers, with_first, with_middle, with_late, with_extras, unpacked_at}

number_again : (held : Bool) (n : ℕ) → (if held then (if held then n else 0) else 0) ≡ (if held then n else 0)
number_again true n = refl
number_again false n = refl

signed_again : (held : Bool) (n : ℕ) → (if held then cast_signed w64 (if held then n else 0) else pos 0) ≡ cast_signed w64 (if held then n else 0)
signed_again true n = refl
signed_again false n = refl

eight : {a b c d e f g h a' b' c' d' e' f' g' h' : ℤ} → a ≡ a' → b ≡ b' → c ≡ c' → d ≡ d' → e ≡ e' → f ≡ f' → g ≡ g' → h ≡ h'
    → (a ∷ b ∷ c ∷ d ∷ e ∷ f ∷ g ∷ h ∷ []) ≡ (a' ∷ b' ∷ c' ∷ d' ∷ e' ∷ f' ∷ g' ∷ h' ∷ [])
eight ea eb ec ed ee ef eg eh = λ i. ea i ∷ eb i ∷ ec i ∷ ed i ∷ ee i ∷ ef i ∷ eg i ∷ eh i ∷ []

-- points with the same numbers are the same
same_points : (p q : Point)
    → p.x ≡ q.x
    → p.y ≡ q.y
    → p.z ≡ q.z
    → p.intensity ≡ q.intensity
    → p.return_number ≡ q.return_number
    → p.number_of_returns ≡ q.number_of_returns
    → p.scan_direction_flag ≡ q.scan_direction_flag
    → p.edge_of_flight_line ≡ q.edge_of_flight_line
    → p.classification ≡ q.classification
    → p.synthetic ≡ q.synthetic
    → p.key_point ≡ q.key_point
    → p.withheld ≡ q.withheld
    → p.overlap ≡ q.overlap
    → p.scan_channel ≡ q.scan_channel
    → p.scan_angle_rank ≡ q.scan_angle_rank
    → p.user_data ≡ q.user_data
    → p.point_source_id ≡ q.point_source_id
    → p.gps_time ≡ q.gps_time
    → p.red ≡ q.red
    → p.green ≡ q.green
    → p.blue ≡ q.blue
    → p.infrared ≡ q.infrared
    → p.extra ≡ q.extra → p ≡ q
same_points p q e0 e1 e2 e3 e4 e5 e6 e7 e8 e9 e10 e11 e12 e13 e14 e15 e16 e17 e18 e19 e20 e21 e22 = λ i. record {
  x = e0 i;
  y = e1 i;
  z = e2 i;
  intensity = e3 i;
  return_number = e4 i;
  number_of_returns = e5 i;
  scan_direction_flag = e6 i;
  edge_of_flight_line = e7 i;
  classification = e8 i;
  synthetic = e9 i;
  key_point = e10 i;
  withheld = e11 i;
  overlap = e12 i;
  scan_channel = e13 i;
  scan_angle_rank = e14 i;
  user_data = e15 i;
  point_source_id = e16 i;
  gps_time = e17 i;
  red = e18 i;
  green = e19 i;
  blue = e20 i;
  infrared = e21 i;
  extra = e22 i;
}

pub unpacked_within : (layout : Layout) (at : ℕ) (bytes : List ℕ) → IsWithin (holds layout) (unpacked_at layout at bytes)
unfolding unpacked_at with_first with_middle with_late with_extras numbers
unpacked_within layout at bytes = same_points (cleared (holds layout) (unpacked_at layout at bytes)) (unpacked_at layout at bytes)
    (signed_again (holds layout X) _)
    (signed_again (holds layout Y) _)
    (signed_again (holds layout Z) _)
    (number_again (holds layout Intensity) _)
    (number_again (holds layout ReturnNumber) _)
    (number_again (holds layout NumberOfReturns) _)
    (number_again (holds layout ScanDirectionFlag) _)
    (number_again (holds layout EdgeOfFlightLine) _)
    (number_again (holds layout Classification) _)
    (number_again (holds layout Synthetic) _)
    (number_again (holds layout KeyPoint) _)
    (number_again (holds layout Withheld) _)
    (number_again (holds layout Overlap) _)
    (number_again (holds layout ScanChannel) _)
    (signed_again (holds layout ScanAngleRank) _)
    (number_again (holds layout UserData) _)
    (number_again (holds layout PointSourceId) _)
    (number_again (holds layout GpsTime) _)
    (number_again (holds layout Red) _)
    (number_again (holds layout Green) _)
    (number_again (holds layout Blue) _)
    (number_again (holds layout Infrared) _)
    (eight (signed_again (holds layout (Extra 0)) _) (signed_again (holds layout (Extra 1)) _) (signed_again (holds layout (Extra 2)) _) (signed_again (holds layout (Extra 3)) _) (signed_again (holds layout (Extra 4)) _) (signed_again (holds layout (Extra 5)) _) (signed_again (holds layout (Extra 6)) _) (signed_again (holds layout (Extra 7)) _))

all_none : (layout : Layout) (dims : List Dim) (at : ℕ) (bytes : List ℕ) → AllAre false layout dims → numbers_in layout dims at bytes ≡ map (λ dim. 0) dims
all_none layout [] at bytes none = refl
all_none layout (dim ∷ rest) at bytes none =
    let here : number_in layout dim at bytes ≡ 0 = ap (λ held. number_where held at (byte_len (width dim)) bytes) none.0 in
    let others = all_none layout rest (at + size_in layout dim) bytes none.1 in
    λ i. here i ∷ others i

-- the numbers of dimensions that the layout has not are 0
pub none_numbers : (layout : Layout) (dims : List Dim) (at : ℕ) (bytes : List ℕ) → AllAre false layout dims → numbers layout dims at bytes ≡ map (λ dim. 0) dims
unfolding numbers
none_numbers layout dims at bytes none = all_none layout dims at bytes none
