-- The last fields of a header, from the start of the waveform packets to the counts by return, read from its bytes.
use Rattle.std.proofs.Common.{◌≡◌, ℕ, List, [], ◌++◌, drop, replicate, refl, ap, sym, ◌∙◌, append_assoc, w32, w64}
use Rattle.std.specs.Int.{to_le_bytes}
use Rattle.std.specs.List.{flat_map}
use Rattle.las_header.specs.declared.block.Header.{Header}
use Rattle.byte_numbers.specs.Bytes.{number_at, numbers_at}
use Rattle.las_header.specs.Sizes.{HasCountSizes}
use Rattle.las_header.specs.Written.{count_part}
use Rattle.byte_numbers.proofs.Places.{behind, four_is, eight_is, eights_are}

pub record CountFields (h : Header) (bytes : List ℕ) : Type 0 where
  pub waveform : number_at 227 8 bytes ≡ h.waveform
  pub evlrs_at : number_at 235 8 bytes ≡ h.evlrs_at
  pub evlrs : number_at 243 4 bytes ≡ h.evlrs
  pub count : number_at 247 8 bytes ≡ h.count
  pub returns : numbers_at 255 15 8 bytes ≡ h.returns

flat : (a b c d e rest : List ℕ) → ((((a ++ b) ++ c) ++ d) ++ e) ++ rest ≡ a ++ (b ++ (c ++ (d ++ (e ++ rest))))
flat a b c d e rest = simp append_assoc refl

-- the part with what follows it, piece by piece
pieces : (h : Header) (rest : List ℕ) → count_part h ++ rest ≡ to_le_bytes w64 h.waveform ++ (to_le_bytes w64 h.evlrs_at ++ (to_le_bytes w32 h.evlrs
    ++ (to_le_bytes w64 h.count ++ (flat_map (to_le_bytes w64) h.returns ++ rest))))
unfolding count_part
pieces h rest = flat (to_le_bytes w64 h.waveform) (to_le_bytes w64 h.evlrs_at) (to_le_bytes w32 h.evlrs) (to_le_bytes w64 h.count) (flat_map (to_le_bytes w64) h.returns) rest

-- the part from the start of the first EVLR on
late_part : Header → List ℕ
late_part h = to_le_bytes w64 h.evlrs_at ++ (to_le_bytes w32 h.evlrs ++ (to_le_bytes w64 h.count ++ (flat_map (to_le_bytes w64) h.returns ++ [])))

-- it is so many zero bytes where these fields are 0
late_zero : (h : Header) → h.evlrs_at ≡ 0 → h.evlrs ≡ 0 → h.count ≡ 0 → h.returns ≡ replicate 15 0 → late_part h ≡ replicate 140 0
unfolding late_part
late_zero h evlrs_at evlrs count returns = λ i. to_le_bytes w64 (evlrs_at i) ++ (to_le_bytes w32 (evlrs i) ++ (to_le_bytes w64 (count i) ++ (flat_map (to_le_bytes w64) (returns i) ++ [])))

late_behind : (h : Header) (bytes : List ℕ) → drop 227 bytes ≡ count_part h ++ [] → drop 227 bytes ≡ to_le_bytes w64 h.waveform ++ late_part h
unfolding late_part
late_behind h bytes is = is ∙ pieces h []

-- what stands behind a block that ends with the bounds, and behind one that ends with the start of the waveform packets
pub behind_bounds : (h : Header) (bytes : List ℕ) → drop 227 bytes ≡ count_part h ++ [] → h.waveform ≡ 0 → h.evlrs_at ≡ 0 → h.evlrs ≡ 0 → h.count ≡ 0 → h.returns ≡ replicate 15 0 → drop 227 bytes ≡ replicate 148 0
behind_bounds h bytes is waveform evlrs_at evlrs count returns = late_behind h bytes is ∙ (λ i. to_le_bytes w64 (waveform i) ++ late_zero h evlrs_at evlrs count returns i)

pub behind_waveform : (h : Header) (bytes : List ℕ) → drop 227 bytes ≡ count_part h ++ [] → h.evlrs_at ≡ 0 → h.evlrs ≡ 0 → h.count ≡ 0 → h.returns ≡ replicate 15 0 → drop 235 bytes ≡ replicate 140 0
behind_waveform h bytes is evlrs_at evlrs count returns =
    behind 227 8 bytes (to_le_bytes w64 h.waveform) (late_part h) (late_behind h bytes is) refl ∙ late_zero h evlrs_at evlrs count returns

pub count_fields : (h : Header) (bytes rest : List ℕ) → HasCountSizes h → drop 227 bytes ≡ count_part h ++ rest → CountFields h bytes
count_fields h bytes rest sizes is =
    let x4 = flat_map (to_le_bytes w64) h.returns ++ rest in
    let x3 = to_le_bytes w64 h.count ++ x4 in
    let x2 = to_le_bytes w32 h.evlrs ++ x3 in
    let x1 = to_le_bytes w64 h.evlrs_at ++ x2 in
    let waveform : drop 227 bytes ≡ to_le_bytes w64 h.waveform ++ x1 = is ∙ pieces h rest in
    let evlrs_at : drop 235 bytes ≡ x1 = behind 227 8 bytes (to_le_bytes w64 h.waveform) x1 waveform refl in
    let evlrs : drop 243 bytes ≡ x2 = behind 235 8 bytes (to_le_bytes w64 h.evlrs_at) x2 evlrs_at refl in
    let count : drop 247 bytes ≡ x3 = behind 243 4 bytes (to_le_bytes w32 h.evlrs) x3 evlrs refl in
    let returns : drop 255 bytes ≡ x4 = behind 247 8 bytes (to_le_bytes w64 h.count) x4 count refl in
    record {
      waveform = eight_is 227 h.waveform bytes x1 waveform sizes.waveform;
      evlrs_at = eight_is 235 h.evlrs_at bytes x2 evlrs_at sizes.evlrs_at;
      evlrs = four_is 243 h.evlrs bytes x3 evlrs sizes.evlrs;
      count = eight_is 247 h.count bytes x4 count sizes.count;
      returns = ap (λ n. numbers_at 255 n 8 bytes) (sym sizes.fifteen_returns) ∙ eights_are h.returns 255 bytes rest sizes.returns returns;
    }
