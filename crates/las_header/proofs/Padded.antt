-- Blocks that are filled with zero bytes: a field that ends behind a block is 0, so the same is read of them.
use Rattle.std.proofs.Common.{◌≡◌, ℕ, zero, suc, ◌+◌, ◌*◌, ◌≤◌, nat_lt, nat_le, List, [], ◌∷◌, ◌++◌, length, get_or, replicate, Ok, refl, arith}
use Rattle.std.proofs.lemmas.List.{take-append-le, get_or_past}
use Rattle.decimal_coords.specs.declared.grid.Scale.{Scale}
use Rattle.ieee_words.specs.DecimalOfWord.{decimal_of_word}
use Rattle.las_header.specs.declared.form.Format.{Format}
use Rattle.las_header.specs.declared.faults.HeaderAxis.TheVariants.{X, Y, Z}
use Rattle.las_header.specs.declared.faults.HeaderFault.TheVariants.{Compressed, FormatNotRead, RecordTooShort, PointsInHeader}
use Rattle.byte_numbers.specs.Bytes.{number_at, numbers_at, piece}
use Rattle.byte_numbers.proofs.Fronts.{piece_front}
use Rattle.las_header.specs.Formats.{format_of, format_size}
use Rattle.las_header.specs.Headers.{format_known, record_format, scale_on, scales_of, offset_on, offsets_of, header_with, header_in}
use Rattle.las_header.specs.ScaleWords.{scale_read}
use Rattle.las_header.specs.Steps.{◌>>=◌, wants}
use Rattle.las_header.specs.Versions.{takes_format}
use Rattle.std.specs.Prelude.{ℤ}

zero_at : (k i : ℕ) → ◌≡◌ {A = ℕ} (get_or (replicate k 0) i 0) 0
zero_at zero i = refl
zero_at (suc k) zero = refl
zero_at (suc k) (suc i) = zero_at k i

byte_padded : (xs : List ℕ) (k i : ℕ) → get_or (xs ++ replicate k 0) i 0 ≡ get_or xs i 0
byte_padded [] k i = zero_at k i
byte_padded (x ∷ xs) k zero = refl
byte_padded (x ∷ xs) k (suc i) = byte_padded xs k i

pub number_padded : (at n : ℕ) (xs : List ℕ) (k : ℕ) → number_at at n (xs ++ replicate k 0) ≡ number_at at n xs
number_padded at zero xs k = refl
number_padded at (suc n) xs k = λ i. byte_padded xs k at i + 256 * number_padded (at + 1) n xs k i

numbers_padded : (at n width : ℕ) (xs : List ℕ) (k : ℕ) → numbers_at at n width (xs ++ replicate k 0) ≡ numbers_at at n width xs
numbers_padded at zero width xs k = refl
numbers_padded at (suc n) width xs k = λ i. number_padded at width xs k i ∷ numbers_padded (at + width) n width xs k i

piece_padded : (at n : ℕ) (xs : List ℕ) (k : ℕ) → at + n ≤ length xs → piece at n (xs ++ replicate k 0) ≡ piece at n xs
piece_padded at n xs k room = piece_front at n (at + n) (xs ++ replicate k 0) xs (omega arith) (take-append-le (at + n) xs (replicate k 0) room)

pub header_padded : (format : Format) (scale : List Scale) (offset : List ℤ) (xs : List ℕ) (k : ℕ) → 90 ≤ length xs → header_with format scale offset (xs ++ replicate k 0) ≡ header_with format scale offset xs
unfolding header_with
header_padded format scale offset xs k long =
    let signature = piece_padded 0 4 xs k (omega arith) in
    let guid = piece_padded 8 16 xs k (omega arith) in
    let system = piece_padded 26 32 xs k (omega arith) in
    let software = piece_padded 58 32 xs k (omega arith) in
    λ i. record {
      signature = signature i;
      source_id = number_padded 4 2 xs k i;
      encoding = number_padded 6 2 xs k i;
      guid = guid i;
      major = number_padded 24 1 xs k i;
      minor = number_padded 25 1 xs k i;
      system = system i;
      software = software i;
      day = number_padded 90 2 xs k i;
      year = number_padded 92 2 xs k i;
      header_size = number_padded 94 2 xs k i;
      points_at = number_padded 96 4 xs k i;
      vlrs = number_padded 100 4 xs k i;
      format = format;
      record_length = number_padded 105 2 xs k i;
      legacy_count = number_padded 107 4 xs k i;
      legacy_returns = numbers_padded 111 5 4 xs k i;
      scale = scale;
      offset = offset;
      bounds = numbers_padded 179 6 8 xs k i;
      waveform = number_padded 227 8 xs k i;
      evlrs_at = number_padded 235 8 xs k i;
      evlrs = number_padded 243 4 xs k i;
      count = number_padded 247 8 xs k i;
      returns = numbers_padded 255 15 8 xs k i;
    }

pub scales_padded : (xs : List ℕ) (k : ℕ) → scales_of (xs ++ replicate k 0) ≡ scales_of xs
unfolding scales_of
scales_padded xs k = λ i. scale_on X (scale_read (number_padded 131 8 xs k i)) >>= (λ x. scale_on Y (scale_read (number_padded 139 8 xs k i)) >>= (λ y. scale_on Z (scale_read (number_padded 147 8 xs k i)) >>= (λ z. Ok (x ∷ y ∷ z ∷ []))))

pub offsets_padded : (xs : List ℕ) (k : ℕ) → offsets_of (xs ++ replicate k 0) ≡ offsets_of xs
unfolding offsets_of
offsets_padded xs k = λ i. offset_on X (decimal_of_word (number_padded 155 8 xs k i)) >>= (λ x. offset_on Y (decimal_of_word (number_padded 163 8 xs k i)) >>= (λ y. offset_on Z (decimal_of_word (number_padded 171 8 xs k i)) >>= (λ z. Ok (x ∷ y ∷ z ∷ []))))

pub format_padded : (xs : List ℕ) (k : ℕ) → record_format (xs ++ replicate k 0) ≡ record_format xs
unfolding record_format
format_padded xs k = λ i.
    wants (nat_lt (number_padded 104 1 xs k i) 128) Compressed >>= (λ _. format_known (format_of (number_padded 104 1 xs k i)) >>= (λ format.
    wants (takes_format (number_padded 25 1 xs k i) format) FormatNotRead >>= (λ _.
    wants (nat_le (format_size format) (number_padded 105 2 xs k i)) RecordTooShort >>= (λ _.
    wants (nat_le (number_padded 94 2 xs k i) (number_padded 96 4 xs k i)) PointsInHeader >>= (λ _. Ok format)))))

-- the same header is read of it
pub block_padded : (xs : List ℕ) (k : ℕ) → 90 ≤ length xs → header_in (xs ++ replicate k 0) ≡ header_in xs
unfolding header_in
block_padded xs k long =
    (λ i. format_padded xs k i >>= (λ format. scales_padded xs k i >>= (λ scale. offsets_padded xs k i >>= (λ offset. Ok (header_padded format scale offset xs k long i)))))

-- a field behind the end of a block is 0
pub number_behind : (at n : ℕ) (xs : List ℕ) → length xs ≤ at → number_at at n xs ≡ 0
number_behind at zero xs past = refl
number_behind at (suc n) xs past = λ i. get_or_past xs at 0 past i + 256 * number_behind (at + 1) n xs (omega arith) i

pub numbers_behind : (at n width : ℕ) (xs : List ℕ) → length xs ≤ at → numbers_at at n width xs ≡ replicate n 0
numbers_behind at zero width xs past = refl
numbers_behind at (suc n) width xs past = λ i. number_behind at width xs past i ∷ numbers_behind (at + width) n width xs (omega arith) i
