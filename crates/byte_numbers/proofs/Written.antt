-- What is written is read as it was.
use Rattle.std.proofs.Common.{◌≡◌, ℕ, zero, suc, ◌+◌, ◌*◌, ◌/◌, ◌%◌, ◌^◌, ◌<◌, List, [], ◌∷◌, ◌++◌, length, get_or, slice_index, refl, ap, sym, subst, ◌∙◌, arith, add-zero}
use Rattle.std.proofs.Math.Nat.{pow-suc}
use Rattle.std.proofs.lemmas.List.{get_or-append-add}
use Rattle.std.specs.Int.{Width, byte_len, byte_at, bytes_low_first, to_le_bytes}
use Rattle.byte_numbers.specs.Bytes.{number_at}
use Rattle.byte_numbers.proofs.Pieces.{byte_is, higher, over_one}

-- behind `at` bytes
pub number_past : (n k at : ℕ) (xs ys : List ℕ) → length xs ≡ at → number_at (at + k) n (xs ++ ys) ≡ number_at k n ys
number_past zero k at xs ys is = refl
number_past (suc n) k at xs ys is =
    let next : at + k + 1 ≡ at + (k + 1) = omega arith in
    let here : slice_index (xs ++ ys) (at + k) ≡ slice_index ys k = ap (λ j. get_or (xs ++ ys) (j + k) 0) (sym is) ∙ get_or-append-add xs ys k 0 in
    ap (λ x. x + 256 * number_at (at + k + 1) n (xs ++ ys)) here
    ∙ ap (λ x. slice_index ys k + 256 * x) (ap (λ j. number_at j n (xs ++ ys)) next ∙ number_past n (k + 1) at xs ys is)

whole_number : (q : ℕ) → q % 256 + 256 * (q / 256) ≡ q
whole_number q = omega arith

fits_below : (k m n : ℕ) → n / 256 ^ k < 256 ^ suc m → n / 256 ^ suc k < 256 ^ m
fits_below k m n h = let size = pow-suc 256 m in let next = higher k n in omega arith

read_first : (m k n : ℕ) (rest : List ℕ) → n / 256 ^ k < 256 ^ m → number_at 0 m (bytes_low_first k m n ++ rest) ≡ n / 256 ^ k
read_first zero k n rest h = omega arith
read_first (suc m) k n rest h =
    let others = bytes_low_first (suc k) m n ++ rest in
    let beyond = number_past m 0 1 (byte_at k n ∷ []) others refl ∙ read_first m (suc k) n rest (fits_below k m n h) ∙ higher k n in
    ap (λ b. b + 256 * number_at 1 m (byte_at k n ∷ others)) (byte_is k n)
    ∙ ap (λ x. n / 256 ^ k % 256 + 256 * x) beyond
    ∙ whole_number (n / 256 ^ k)

-- the number that was written behind `at` bytes
pub number_read : (w : Width) (n at : ℕ) (before rest : List ℕ) → n < 256 ^ byte_len w → length before ≡ at → number_at at (byte_len w) (before ++ (to_le_bytes w n ++ rest)) ≡ n
number_read w n at before rest h is =
    let there = number_past (byte_len w) 0 at before (to_le_bytes w n ++ rest) is in
    ap (λ j. number_at j (byte_len w) (before ++ (to_le_bytes w n ++ rest))) (sym (add-zero at)) ∙ there
    ∙ read_first (byte_len w) 0 n rest (subst (λ (m : ℕ). m < 256 ^ byte_len w) (sym (over_one n)) h) ∙ over_one n

-- the byte that was written behind `at` bytes
pub byte_read : (b at : ℕ) (before rest : List ℕ) → length before ≡ at → slice_index (before ++ (b ∷ rest)) at ≡ b
byte_read b at before rest is = ap (λ j. slice_index (before ++ (b ∷ rest)) j) (sym is ∙ sym (add-zero (length before))) ∙ get_or-append-add before (b ∷ rest) 0 0
