-- Numbers, and the bytes that they are written in.
use Rattle.std.proofs.Common.{◌≡◌, ℕ, zero, suc, ◌+◌, ◌*◌, ◌/◌, ◌%◌, ◌^◌, ◌<◌, ◌≤◌, List, ◌∷◌, ◌++◌, length, take, drop, get_or, slice_index, refl, ap, sym, ◌∙◌, arith, add-one, drop-cons}
use Rattle.std.proofs.Math.Nat.{div-div-eq-div-mul, pow-suc}
use Rattle.std.proofs.Math.Seq.{take-add}
use Rattle.std.proofs.lemmas.List.{drop-drop}
use Rattle.std.specs.Int.{Width, byte_len, bytes_low_first, byte_at, to_le_bytes}
use Rattle.byte_numbers.specs.Bytes.{number_at, piece}

abbrev pub AreBytes : List ℕ → Type 0
AreBytes bytes = (i : ℕ) → get_or bytes i 0 < 2 ^ 8

pub byte_is : (k n : ℕ) → byte_at k n ≡ n / 256 ^ k % 256
byte_is zero n = omega arith
byte_is (suc k) n = refl

pub higher : (k n : ℕ) → n / 256 ^ suc k ≡ n / 256 ^ k / 256
higher k n = ap (λ m. n / m) (pow-suc 256 k) ∙ sym (div-div-eq-div-mul n (256 ^ k) 256)

lowest : (b n : ℕ) → b < 2 ^ 8 → (b + 256 * n) % 256 ≡ b
lowest b n h = omega arith

others : (b n : ℕ) → b < 2 ^ 8 → (b + 256 * n) / 256 ≡ n
others b n h = omega arith

pub piece_more : (at n : ℕ) (bytes : List ℕ) → at < length bytes → piece at (suc n) bytes ≡ slice_index bytes at ∷ piece (at + 1) n bytes
piece_more at n bytes h = ap (take (suc n)) (drop-cons bytes at 0 h) ∙ ap (λ j. slice_index bytes at ∷ piece j n bytes) (sym (add-one at))

-- two pieces, the second behind the first
pub pieces_join : (at m n : ℕ) (bytes : List ℕ) → piece at m bytes ++ piece (at + m) n bytes ≡ piece at (m + n) bytes
pieces_join at m n bytes = ap (λ l. piece at m bytes ++ take n l) (sym (drop-drop m at bytes)) ∙ sym (take-add m n (drop at bytes))

bytes_back : (m k at n : ℕ) (bytes : List ℕ) → AreBytes bytes → at + m ≤ length bytes → n / 256 ^ k ≡ number_at at m bytes → bytes_low_first k m n ≡ piece at m bytes
bytes_back zero k at n bytes small room is = refl
bytes_back (suc m) k at n bytes small room is =
    let here = byte_is k n ∙ ap (λ q. q % 256) is ∙ lowest (slice_index bytes at) (number_at (at + 1) m bytes) (small at) in
    let there = higher k n ∙ ap (λ q. q / 256) is ∙ others (slice_index bytes at) (number_at (at + 1) m bytes) (small at) in
    ap (λ b. b ∷ bytes_low_first (suc k) m n) here
    ∙ ap (λ l. slice_index bytes at ∷ l) (bytes_back m (suc k) (at + 1) n bytes small (omega arith) there)
    ∙ sym (piece_more at m bytes (omega arith))

pub over_one : (n : ℕ) → n / 256 ^ 0 ≡ n
over_one n = omega arith

-- a number that is read is written in the same bytes
pub number_back : (w : Width) (at : ℕ) (bytes : List ℕ) → AreBytes bytes → at + byte_len w ≤ length bytes → to_le_bytes w (number_at at (byte_len w) bytes) ≡ piece at (byte_len w) bytes
number_back w at bytes small room = bytes_back (byte_len w) 0 at (number_at at (byte_len w) bytes) bytes small room (over_one (number_at at (byte_len w) bytes))

-- a number of n bytes fits them
pub number_fits : (n at : ℕ) (bytes : List ℕ) → AreBytes bytes → number_at at n bytes < 256 ^ n
number_fits zero at bytes small = omega arith
number_fits (suc n) at bytes small =
    let rest = number_fits n (at + 1) bytes small in
    let first = small at in
    let size = pow-suc 256 n in
    omega arith
