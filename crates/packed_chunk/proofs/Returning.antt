-- A point comes back from its row.
use Rattle.std.proofs.Common.{◌≡◌, ℕ, ◌+◌, ◌^◌, ◌<◌, pos, ℤ, Bool, true, false, List, [], ◌∷◌, ◌++◌, length, map, get_or, if◌then◌else◌, FitsSigned, refl, ap, sym, ◌∙◌, append_assoc}
use Rattle.std.specs.Int.{w64, cast_signed, cast_unsigned}
use Rattle.std.proofs.lemmas.Int.{to_z-of_z}
use mir.ValLaws.{of_z_fits}
use Rattle.cloud_points.specs.Dims.{extra_place}
use Rattle.cloud_points.specs.Layouts.{holds}
use Rattle.cloud_points.specs.Clearing.{cleared, kept}
use Rattle.cloud_points.specs.Points.{zero_point}
use Rattle.cloud_points.specs.declared.dims.Dim.TheVariants.{X, Y, Z, ScanAngleRank, Extra}
use Rattle.cloud_points.specs.declared.layout.Layout.{Layout}
use Rattle.cloud_points.specs.declared.point.Point.{Point}
use Rattle.packed_chunk.specs.Fitting.{FitsTypes}
use Rattle.packed_chunk.specs.Rows.{cells, row, size_of, first_dims, middle_dims, late_dims, extra_dims}
use Rattle.packed_chunk.specs.Unpacked.{numbers, with_first, with_middle, with_late, with_extras, unpacked_at}
use Rattle.packed_chunk.proofs.Sizes.{cells_length, joined_length}
use Rattle.packed_chunk.proofs.Reading.{AllFit, kept_number, numbers_back}

bits_fit : (z : ℤ) → FitsSigned w64 z → cast_unsigned w64 z < 256 ^ 8
bits_fit z fits = (of_z_fits w64 z fits).fits

first_fit : (p : Point) → FitsTypes p → AllFit p first_dims
first_fit p f = (bits_fit p.x f.x, (bits_fit p.y f.y, (bits_fit p.z f.z, (f.intensity, (f.return_number, (f.number_of_returns, (f.scan_direction_flag, (f.edge_of_flight_line, (f.classification, (f.synthetic, (f.key_point, (f.withheld, tt))))))))))))

middle_fit : (p : Point) → FitsTypes p → AllFit p middle_dims
middle_fit p f = (f.overlap, (f.scan_channel, (bits_fit p.scan_angle_rank f.scan_angle_rank, (f.user_data, (f.point_source_id, tt)))))

late_fit : (p : Point) → FitsTypes p → AllFit p late_dims
late_fit p f = (f.gps_time, (f.red, (f.green, (f.blue, (f.infrared, tt)))))

extra_fit : (p : Point) → FitsTypes p → (k : ℕ) → FitsSigned w64 (get_or p.extra k (pos 0)) → cast_unsigned w64 (get_or p.extra k (pos 0)) < 256 ^ 8
extra_fit p f k fits = bits_fit (get_or p.extra k (pos 0)) fits

extras_fit : (p : Point) → FitsTypes p → AllFit p extra_dims
extras_fit p f = (extra_fit p f 0 f.extra0, (extra_fit p f 1 f.extra1, (extra_fit p f 2 f.extra2, (extra_fit p f 3 f.extra3, (extra_fit p f 4 f.extra4, (extra_fit p f 5 f.extra5, (extra_fit p f 6 f.extra6, (extra_fit p f 7 f.extra7, tt))))))))

-- a number with a sign comes back from its bits
signed_back : (held : Bool) (z : ℤ) → FitsSigned w64 z → cast_signed w64 (if held then cast_unsigned w64 z else 0) ≡ (if held then z else pos 0)
signed_back true z fits = to_z-of_z w64 z fits
signed_back false z fits = refl

abbrev of_numbers : Layout → Point → Point
of_numbers layout p =
    with_extras (map (kept_number layout p) extra_dims) (with_late (map (kept_number layout p) late_dims)
    (with_middle (map (kept_number layout p) middle_dims) (with_first (map (kept_number layout p) first_dims) zero_point)))

extra_back : (layout : Layout) (p : Point) (k : ℕ) → FitsSigned w64 (get_or p.extra (extra_place k) (pos 0)) → cast_signed w64 (kept_number layout p (Extra k)) ≡ kept (holds layout) (Extra k) (get_or p.extra (extra_place k) (pos 0)) (pos 0)
extra_back layout p k fits = signed_back (holds layout (Extra k)) (get_or p.extra (extra_place k) (pos 0)) fits

numbers_make : (layout : Layout) (p : Point) → FitsTypes p → of_numbers layout p ≡ cleared (holds layout) p
unfolding with_first with_middle with_late with_extras
numbers_make layout p f = λ i. record (cleared (holds layout) p) {
  x = signed_back (holds layout X) p.x f.x i;
  y = signed_back (holds layout Y) p.y f.y i;
  z = signed_back (holds layout Z) p.z f.z i;
  scan_angle_rank = signed_back (holds layout ScanAngleRank) p.scan_angle_rank f.scan_angle_rank i;
  extra = extra_back layout p 0 f.extra0 i ∷ extra_back layout p 1 f.extra1 i ∷ extra_back layout p 2 f.extra2 i ∷ extra_back layout p 3 f.extra3 i
      ∷ extra_back layout p 4 f.extra4 i ∷ extra_back layout p 5 f.extra5 i ∷ extra_back layout p 6 f.extra6 i ∷ extra_back layout p 7 f.extra7 i ∷ [];
}

-- a part of a list goes on with what stands behind it
onward : (before first more rest : List ℕ) → before ++ ((first ++ more) ++ rest) ≡ before ++ (first ++ (more ++ rest))
onward before first more rest = ap (λ l. before ++ l) (append_assoc first more rest)

past : (before first more : List ℕ) → before ++ (first ++ more) ≡ (before ++ first) ++ more
past before first more = sym (append_assoc before first more)

-- the numbers of a row that stands at a place make its point
pub row_back : (layout : Layout) (p : Point) → FitsTypes p → (at : ℕ) (before rest : List ℕ) → length before ≡ at
    → unpacked_at layout at (before ++ (row layout p ++ rest)) ≡ cleared (holds layout) p
unfolding unpacked_at
row_back layout p f at before rest is =
    let a = cells layout p first_dims in
    let b = cells layout p middle_dims in
    let c = cells layout p late_dims in
    let d = cells layout p extra_dims in
    let at_b = at + size_of layout first_dims in
    let at_c = at_b + size_of layout middle_dims in
    let at_d = at_c + size_of layout late_dims in
    let is_b = joined_length before a at _ is (cells_length layout p first_dims) in
    let is_c = joined_length (before ++ a) b at_b _ is_b (cells_length layout p middle_dims) in
    let is_d = joined_length ((before ++ a) ++ b) c at_c _ is_c (cells_length layout p late_dims) in
    let to_a = onward before a (b ++ (c ++ d)) rest in
    let to_b = to_a ∙ past before a ((b ++ (c ++ d)) ++ rest) ∙ onward (before ++ a) b (c ++ d) rest in
    let to_c = to_b ∙ past (before ++ a) b ((c ++ d) ++ rest) ∙ onward ((before ++ a) ++ b) c d rest in
    let to_d = to_c ∙ past ((before ++ a) ++ b) c (d ++ rest) in
    let in_a = ap (numbers layout first_dims at) to_a ∙ numbers_back layout p first_dims (first_fit p f) at before _ is in
    let in_b = ap (numbers layout middle_dims at_b) to_b ∙ numbers_back layout p middle_dims (middle_fit p f) at_b (before ++ a) _ is_b in
    let in_c = ap (numbers layout late_dims at_c) to_c ∙ numbers_back layout p late_dims (late_fit p f) at_c ((before ++ a) ++ b) _ is_c in
    let in_d = ap (numbers layout extra_dims at_d) to_d ∙ numbers_back layout p extra_dims (extras_fit p f) at_d (((before ++ a) ++ b) ++ c) rest is_d in
    (λ i. with_extras (in_d i) (with_late (in_c i) (with_middle (in_b i) (with_first (in_a i) zero_point))))
    ∙ numbers_make layout p f
