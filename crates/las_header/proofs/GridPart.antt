-- The scales, the offsets and the bounds of a header, read from its bytes.
use Rattle.std.proofs.Common.{◌≡◌, ℕ, ◌*◌, ℤ, List, [], ◌∷◌, ◌++◌, length, drop, true, Ok, refl, ap, sym, ◌∙◌, arith, append_assoc, w64}
use Rattle.std.specs.Int.{to_le_bytes}
use Rattle.std.specs.List.{All, flat_map}
use Rattle.std.proofs.lemmas.Int.{ints}
use Rattle.decimal_coords.specs.declared.grid.Scale.{Scale}
use Rattle.ieee_words.specs.DecimalOfWord.{decimal_of_word}
use Rattle.ieee_words.specs.NearWord.{near_word}
use Rattle.ieee_words.proofs.NearWords.{near_word_is}
use Rattle.las_header.specs.declared.block.Header.{Header}
use Rattle.las_header.specs.declared.faults.HeaderAxis.TheVariants.{X, Y, Z}
use Rattle.byte_numbers.specs.Bytes.{number_at, numbers_at}
use Rattle.las_header.specs.Headers.{scale_on, scales_of, offset_on, offsets_of}
use Rattle.las_header.specs.ScaleWords.{scale_read}
use Rattle.las_header.specs.Sizes.{HasGridSizes}
use Rattle.las_header.specs.Steps.{◌>>=◌}
use Rattle.las_header.specs.WordOffsets.{IsWordOffset}
use Rattle.las_header.specs.Written.{scale_bytes, nano_bytes, grid_part}
use Rattle.byte_numbers.proofs.Places.{behind, eight_is, eights_are, first_of, length_all}
use Rattle.las_header.proofs.Words.{scale_is_read, offset_is_read}

pub record GridFields (h : Header) (bytes rest : List ℕ) : Type 0 where
  pub scale : scales_of bytes ≡ Ok h.scale
  pub offset : All IsWordOffset h.offset → offsets_of bytes ≡ Ok h.offset
  pub bounds : numbers_at 179 6 8 bytes ≡ h.bounds
  pub end : drop 227 bytes ≡ rest

scale_at_place : (at : ℕ) (s : Scale) (bytes rest : List ℕ) → drop at bytes ≡ scale_bytes s ++ rest → scale_read (number_at at 8 bytes) ≡ Ok s
scale_at_place at s bytes rest e =
    let fits = (near_word_is s.nano 9 (omega arith) (omega (arith, ints, s.low, s.high))).finite.0 in
    ap scale_read (eight_is at (near_word s.nano 9) bytes rest e fits) ∙ scale_is_read s

offset_at_place : (at : ℕ) (nano : ℤ) (bytes rest : List ℕ) → IsWordOffset nano → drop at bytes ≡ nano_bytes nano ++ rest → decimal_of_word (number_at at 8 bytes) ≡ Ok (record { nano = nano; exact = true })
offset_at_place at nano bytes rest word e =
    let fits = (near_word_is nano 9 (omega arith) (omega (arith, ints, word.small))).finite.0 in
    ap decimal_of_word (eight_is at (near_word nano 9) bytes rest e fits) ∙ offset_is_read nano word

scales_are : (scale : List Scale) (bytes rest : List ℕ) → length scale ≡ 3 → drop 131 bytes ≡ flat_map scale_bytes scale ++ rest → scales_of bytes ≡ Ok scale
unfolding scales_of
scales_are (x ∷ y ∷ z ∷ []) bytes rest three e =
    let first = first_of scale_bytes 131 x (y ∷ z ∷ []) bytes rest e in
    let second = first_of scale_bytes 139 y (z ∷ []) bytes rest (behind 131 8 bytes (scale_bytes x) (flat_map scale_bytes (y ∷ z ∷ []) ++ rest) first refl) in
    let third = first_of scale_bytes 147 z [] bytes rest (behind 139 8 bytes (scale_bytes y) (flat_map scale_bytes (z ∷ []) ++ rest) second refl) in
    let x_is = scale_at_place 131 x bytes (flat_map scale_bytes (y ∷ z ∷ []) ++ rest) first in
    let y_is = scale_at_place 139 y bytes (flat_map scale_bytes (z ∷ []) ++ rest) second in
    let z_is = scale_at_place 147 z bytes (flat_map scale_bytes [] ++ rest) third in
    λ i. scale_on X (x_is i) >>= (λ a. scale_on Y (y_is i) >>= (λ b. scale_on Z (z_is i) >>= (λ c. Ok (a ∷ b ∷ c ∷ []))))
scales_are [] bytes rest three e = absurd (omega arith)
scales_are (x ∷ []) bytes rest three e = absurd (omega arith)
scales_are (x ∷ y ∷ []) bytes rest three e = absurd (omega arith)
scales_are (x ∷ y ∷ z ∷ w ∷ more) bytes rest three e = absurd (omega arith)

offsets_are : (offset : List ℤ) (bytes rest : List ℕ) → length offset ≡ 3 → All IsWordOffset offset → drop 155 bytes ≡ flat_map nano_bytes offset ++ rest → offsets_of bytes ≡ Ok offset
unfolding offsets_of
offsets_are (x ∷ y ∷ z ∷ []) bytes rest three words e =
    let first = first_of nano_bytes 155 x (y ∷ z ∷ []) bytes rest e in
    let second = first_of nano_bytes 163 y (z ∷ []) bytes rest (behind 155 8 bytes (nano_bytes x) (flat_map nano_bytes (y ∷ z ∷ []) ++ rest) first refl) in
    let third = first_of nano_bytes 171 z [] bytes rest (behind 163 8 bytes (nano_bytes y) (flat_map nano_bytes (z ∷ []) ++ rest) second refl) in
    let x_is = offset_at_place 155 x bytes (flat_map nano_bytes (y ∷ z ∷ []) ++ rest) (words 0 x (omega arith)) first in
    let y_is = offset_at_place 163 y bytes (flat_map nano_bytes (z ∷ []) ++ rest) (words 1 x (omega arith)) second in
    let z_is = offset_at_place 171 z bytes (flat_map nano_bytes [] ++ rest) (words 2 x (omega arith)) third in
    λ i. offset_on X (x_is i) >>= (λ a. offset_on Y (y_is i) >>= (λ b. offset_on Z (z_is i) >>= (λ c. Ok (a ∷ b ∷ c ∷ []))))
offsets_are [] bytes rest three words e = absurd (omega arith)
offsets_are (x ∷ []) bytes rest three words e = absurd (omega arith)
offsets_are (x ∷ y ∷ []) bytes rest three words e = absurd (omega arith)
offsets_are (x ∷ y ∷ z ∷ w ∷ more) bytes rest three words e = absurd (omega arith)

flat : (a b c rest : List ℕ) → ((a ++ b) ++ c) ++ rest ≡ a ++ (b ++ (c ++ rest))
flat a b c rest = simp append_assoc refl

-- the part with what follows it, piece by piece
pieces : (h : Header) (rest : List ℕ) → grid_part h ++ rest ≡ flat_map scale_bytes h.scale ++ (flat_map nano_bytes h.offset ++ (flat_map (to_le_bytes w64) h.bounds ++ rest))
unfolding grid_part
pieces h rest = flat (flat_map scale_bytes h.scale) (flat_map nano_bytes h.offset) (flat_map (to_le_bytes w64) h.bounds) rest

pub grid_fields : (h : Header) (bytes rest : List ℕ) → HasGridSizes h → drop 131 bytes ≡ grid_part h ++ rest → GridFields h bytes rest
grid_fields h bytes rest sizes is =
    let x2 = flat_map (to_le_bytes w64) h.bounds ++ rest in
    let x1 = flat_map nano_bytes h.offset ++ x2 in
    let scale_size : length (flat_map scale_bytes h.scale) ≡ 24 = length_all scale_bytes 8 (λ s. refl) h.scale ∙ ap (λ n. 8 * n) sizes.three_scales in
    let offset_size : length (flat_map nano_bytes h.offset) ≡ 24 = length_all nano_bytes 8 (λ n. refl) h.offset ∙ ap (λ n. 8 * n) sizes.three_offsets in
    let bounds_size : length (flat_map (to_le_bytes w64) h.bounds) ≡ 48 = length_all (to_le_bytes w64) 8 (λ n. refl) h.bounds ∙ ap (λ n. 8 * n) sizes.six_bounds in
    let scale : drop 131 bytes ≡ flat_map scale_bytes h.scale ++ x1 = is ∙ pieces h rest in
    let offset : drop 155 bytes ≡ x1 = behind 131 24 bytes (flat_map scale_bytes h.scale) x1 scale scale_size in
    let bounds : drop 179 bytes ≡ x2 = behind 155 24 bytes (flat_map nano_bytes h.offset) x2 offset offset_size in
    record {
      scale = scales_are h.scale bytes x1 sizes.three_scales scale;
      offset = λ words. offsets_are h.offset bytes x2 sizes.three_offsets words offset;
      bounds = ap (λ n. numbers_at 179 n 8 bytes) (sym sizes.six_bounds) ∙ eights_are h.bounds 179 bytes rest sizes.bounds bounds;
      end = behind 179 48 bytes (flat_map (to_le_bytes w64) h.bounds) rest bounds bounds_size;
    }
