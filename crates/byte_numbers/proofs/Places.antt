-- What stands from a place on in a list of bytes, and what is read there.
use Rattle.std.proofs.Common.{◌≡◌, ℕ, zero, suc, ◌+◌, ◌*◌, ◌^◌, ◌<◌, List, [], ◌∷◌, ◌++◌, length, take, drop, slice_index, refl, ap, sym, ◌∙◌, arith, rules, append_assoc, w16, w32, w64, length-append}
use Rattle.std.specs.Int.{to_le_bytes, from_le_bytes}
use Rattle.std.specs.List.{All, flat_map}
use Rattle.std.proofs.Math.Seq.{drop-append_seam, take-append_seam}
use Rattle.std.proofs.lemmas.List.{drop-drop, get_or-drop}
use Rattle.std.proofs.lemmas.List.Concat.{flat_map-cons}
use Rattle.std.proofs.lemmas.List.Elements.{All-head, All-tail}
use Rattle.std.proofs.lemmas.Nat.{from_le_bytes-to_le_bytes_2, from_le_bytes-to_le_bytes_4, from_le_bytes-to_le_bytes_8}
use Rattle.byte_numbers.specs.Bytes.{number_at, numbers_at, piece}

-- a number at a place is the one at the begin of what stands from there on
number_behind : (n k at : ℕ) (bytes : List ℕ) → number_at (at + k) n bytes ≡ number_at k n (drop at bytes)
number_behind zero k at bytes = refl
number_behind (suc n) k at bytes =
    let here : slice_index bytes (at + k) ≡ slice_index (drop at bytes) k = sym (get_or-drop at bytes k 0) in
    let next : at + k + 1 ≡ at + (k + 1) = omega arith in
    ap (λ x. x + 256 * number_at (at + k + 1) n bytes) here
    ∙ ap (λ x. slice_index (drop at bytes) k + 256 * x) (ap (λ j. number_at j n bytes) next ∙ number_behind n (k + 1) at bytes)

number_from : (n at : ℕ) (bytes : List ℕ) → number_at at n bytes ≡ number_at 0 n (drop at bytes)
number_from n at bytes = ap (λ j. number_at j n bytes) (sum_zero at) ∙ number_behind n 0 at bytes
  where
    sum_zero : (at : ℕ) → at ≡ at + 0
    sum_zero at = omega arith

-- behind the piece that stands at a place stands what follows it
pub behind : (at size : ℕ) (bytes here rest : List ℕ) → drop at bytes ≡ here ++ rest → length here ≡ size → drop (at + size) bytes ≡ rest
behind at size bytes here rest e is = sym (drop-drop size at bytes) ∙ ap (drop size) e ∙ ap (λ n. drop n (here ++ rest)) (sym is) ∙ drop-append_seam here rest

pub piece_is : (at size : ℕ) (bytes here rest : List ℕ) → drop at bytes ≡ here ++ rest → length here ≡ size → piece at size bytes ≡ here
piece_is at size bytes here rest e is = ap (take size) e ∙ ap (λ n. take n (here ++ rest)) (sym is) ∙ take-append_seam here rest

pub byte_is : (at x : ℕ) (bytes rest : List ℕ) → drop at bytes ≡ x ∷ rest → number_at at 1 bytes ≡ x
byte_is at x bytes rest e =
    let alone : number_at 0 1 (x ∷ rest) ≡ x = omega arith in
    number_from 1 at bytes ∙ ap (number_at 0 1) e ∙ alone

-- the number that two bytes stand for, or four, or eight
pub two_first : (x : ℕ) (rest : List ℕ) → x < 2 ^ 16 → number_at 0 2 (to_le_bytes w16 x ++ rest) ≡ x
two_first x rest h =
    let is : number_at 0 2 (to_le_bytes w16 x ++ rest) ≡ from_le_bytes w16 (to_le_bytes w16 x) = search rules in
    is ∙ from_le_bytes-to_le_bytes_2 x h

four_first : (x : ℕ) (rest : List ℕ) → x < 2 ^ 32 → number_at 0 4 (to_le_bytes w32 x ++ rest) ≡ x
four_first x rest h =
    let is : number_at 0 4 (to_le_bytes w32 x ++ rest) ≡ from_le_bytes w32 (to_le_bytes w32 x) = search rules in
    is ∙ from_le_bytes-to_le_bytes_4 x h

pub eight_first : (x : ℕ) (rest : List ℕ) → x < 2 ^ 64 → number_at 0 8 (to_le_bytes w64 x ++ rest) ≡ x
eight_first x rest h =
    let is : number_at 0 8 (to_le_bytes w64 x ++ rest) ≡ from_le_bytes w64 (to_le_bytes w64 x) = search rules in
    is ∙ from_le_bytes-to_le_bytes_8 x h

pub two_is : (at x : ℕ) (bytes rest : List ℕ) → drop at bytes ≡ to_le_bytes w16 x ++ rest → x < 2 ^ 16 → number_at at 2 bytes ≡ x
two_is at x bytes rest e h = number_from 2 at bytes ∙ ap (number_at 0 2) e ∙ two_first x rest h

pub four_is : (at x : ℕ) (bytes rest : List ℕ) → drop at bytes ≡ to_le_bytes w32 x ++ rest → x < 2 ^ 32 → number_at at 4 bytes ≡ x
four_is at x bytes rest e h = number_from 4 at bytes ∙ ap (number_at 0 4) e ∙ four_first x rest h

pub eight_is : (at x : ℕ) (bytes rest : List ℕ) → drop at bytes ≡ to_le_bytes w64 x ++ rest → x < 2 ^ 64 → number_at at 8 bytes ≡ x
eight_is at x bytes rest e h = number_from 8 at bytes ∙ ap (number_at 0 8) e ∙ eight_first x rest h

-- of pieces that stand one after another, the first and the others
pub first_of : {X : Type 0} (f : X → List ℕ) (at : ℕ) (x : X) (xs : List X) (bytes rest : List ℕ) → drop at bytes ≡ flat_map f (x ∷ xs) ++ rest → drop at bytes ≡ f x ++ (flat_map f xs ++ rest)
first_of f at x xs bytes rest e = e ∙ ap (λ l. l ++ rest) (flat_map-cons f x xs) ∙ append_assoc (f x) (flat_map f xs) rest

pub fours_are : (xs : List ℕ) (at : ℕ) (bytes rest : List ℕ) → All (λ x. x < 2 ^ 32) xs → drop at bytes ≡ flat_map (to_le_bytes w32) xs ++ rest → numbers_at at (length xs) 4 bytes ≡ xs
fours_are [] at bytes rest small e = refl
fours_are (x ∷ xs) at bytes rest small e =
    let first = first_of (to_le_bytes w32) at x xs bytes rest e in
    let here = four_is at x bytes (flat_map (to_le_bytes w32) xs ++ rest) first (All-head (λ n. n < 2 ^ 32) x xs small) in
    let others = behind at 4 bytes (to_le_bytes w32 x) (flat_map (to_le_bytes w32) xs ++ rest) first refl in
    ap (λ n. n ∷ numbers_at (at + 4) (length xs) 4 bytes) here ∙ ap (λ ns. x ∷ ns) (fours_are xs (at + 4) bytes rest (All-tail (λ n. n < 2 ^ 32) x xs small) others)

pub eights_are : (xs : List ℕ) (at : ℕ) (bytes rest : List ℕ) → All (λ x. x < 2 ^ 64) xs → drop at bytes ≡ flat_map (to_le_bytes w64) xs ++ rest → numbers_at at (length xs) 8 bytes ≡ xs
eights_are [] at bytes rest small e = refl
eights_are (x ∷ xs) at bytes rest small e =
    let first = first_of (to_le_bytes w64) at x xs bytes rest e in
    let here = eight_is at x bytes (flat_map (to_le_bytes w64) xs ++ rest) first (All-head (λ n. n < 2 ^ 64) x xs small) in
    let others = behind at 8 bytes (to_le_bytes w64 x) (flat_map (to_le_bytes w64) xs ++ rest) first refl in
    ap (λ n. n ∷ numbers_at (at + 8) (length xs) 8 bytes) here ∙ ap (λ ns. x ∷ ns) (eights_are xs (at + 8) bytes rest (All-tail (λ n. n < 2 ^ 64) x xs small) others)

-- the bytes of pieces of one size
pub length_all : {X : Type 0} (f : X → List ℕ) (size : ℕ) → ((x : X) → length (f x) ≡ size) → (xs : List X) → length (flat_map f xs) ≡ size * length xs
length_all f size is [] = omega arith
length_all f size is (x ∷ xs) =
    let all : length (flat_map f (x ∷ xs)) ≡ length (f x) + length (flat_map f xs) = ap length (flat_map-cons f x xs) ∙ length-append (f x) (flat_map f xs) in
    let more : size * suc (length xs) ≡ size + size * length xs = grind arith in
    all ∙ omega (arith, is x, length_all f size is xs, more)
