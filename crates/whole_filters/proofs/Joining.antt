-- Words that hold a key and a place each: words in order are entries in order.
use Rattle.std.proofs.Common.{◌≡◌, ℕ, ◌+◌, ◌-◌, ◌*◌, ◌/◌, ◌%◌, ◌^◌, ◌<◌, ◌≤◌, Bool, false, List, [], ◌∷◌, ◌++◌, length, length-append, get_or, map, sym, ◌∙◌, subst, ap, ⊎_elim, arith}
use Rattle.std.specs.Prelude.{bit_and, ℤ, pos, ◌+ℤ◌, ◌-ℤ◌, IsSortedBy, slice_get, Some}
use Rattle.std.specs.Int.{leading_zeros, w64}
use Rattle.std.specs.List.{range_with_len}
use Rattle.std.specs.List.Sorted.{IsPermutation}
use Rattle.std.specs.Ordering.{is_lt, int_cmp, nat_cmp, ordering_then}
use Rattle.std.proofs.lemmas.Bool.{cases_eq}
use Rattle.std.proofs.lemmas.Bool.Decides.{nat_tests}
use Rattle.std.proofs.lemmas.Int.{ints}
use Rattle.std.proofs.lemmas.List.{get_or-map, get_or_push, get_or_append_left, length-map}
use Rattle.std.proofs.lemmas.List.Sorted.{IsNonDecreasingBy-from_sort, IsPermutation-map}
use Rattle.std.proofs.lemmas.Nat.{leading_length, shl_whole, mul-add-lt, pow-add, shr_below, shr_split, one_shl, pow_pos, and_mask, div-mul-add, mod-mul-add}
use Rattle.std.proofs.lemmas.Option.{get_or_from_slice_get}
use Rattle.std.proofs.Math.Nat.{mul-lt-mul_of_pos_right}
use Rattle.std.proofs.Math.Pow.{shr_mono}
use Rattle.cloud_points.specs.Points.{key_of}
use Rattle.cloud_points.specs.declared.dims.Dim.{Dim}
use Rattle.cloud_points.specs.declared.point.Point.{Point}
use Rattle.packed_chunk.specs.Keys.{short_key}
use Rattle.whole_filters.specs.Whole.{before, sorted_by}
use Rattle.whole_filters.specs.Places.{AreRaised, AreWords, FitWords, counted, turned}
use Rattle.whole_filters.specs.declared.places.Entry.{Entry}
use Rattle.whole_filters.proofs.Mapping.{AreMoved, each_place, map-map, places_in_order}
use Rattle.whole_filters.proofs.Placing.{entries_in_order, entry_lt, rising_from}

-- a shifted key loses no bit
pub whole_key : (a bits : ℕ) → bits < 64 → a < 2 ^ (64 - bits) → a * 2 ^ bits % 2 ^ 64 ≡ a * 2 ^ bits
whole_key a bits narrow below = shl_whole a (64 - bits) bits 64 below (omega (arith, narrow))

-- and has room for a place
pub word_below : (a bits place : ℕ) → bits < 64 → a < 2 ^ (64 - bits) → place < 2 ^ bits → a * 2 ^ bits + place < 2 ^ 64
word_below a bits place narrow below low =
    let all : bits + (64 - bits) ≡ 64 = omega (arith, narrow) in
    subst (λ z. a * 2 ^ bits + place < z) (sym (pow-add 2 bits (64 - bits)) ∙ ap (λ k. 2 ^ k) all) (mul-add-lt a (2 ^ bits) place (2 ^ (64 - bits)) below low)

-- a number stands in the bits below its leading zeros
pub bits_hold : (n : ℕ) → n < 2 ^ 64 → n < 2 ^ (64 - leading_zeros w64 n)
bits_hold n fits =
    let found = leading_length 64 n fits in
    let same : found.0 ≡ 64 - leading_zeros w64 n = omega (arith, found.1) in
    subst (λ k. n < 2 ^ k) same found.2

-- a list's length leaves a bit
pub bits_narrow : (n : ℕ) → n < 2 ^ 63 → 64 - leading_zeros w64 n < 64
bits_narrow n small =
    let found = leading_length 64 n (omega (arith, small)) in
    ⊎_elim (λ e. absurd (omega (arith, small, subst (λ k. 2 ^ k ≤ 2 * n + 1) e found.3))) (λ e. omega (arith, e, found.1)) (cases_eq found.0 64)

-- what is at most the greatest word without its low bits has so many bits less
pub room_below : (a bits : ℕ) → bits < 64 → a ≤ (2 ^ 64 - 1) / 2 ^ bits → a < 2 ^ (64 - bits)
room_below a bits narrow least =
    let all : (64 - bits) + bits ≡ 64 = omega (arith, narrow) in
    let top : (2 ^ 64 - 1) / 2 ^ bits < 2 ^ (64 - bits) = shr_below (2 ^ 64 - 1) (64 - bits) bits (subst (λ k. 2 ^ 64 - 1 < 2 ^ k) (sym all) (omega arith)) in
    omega (arith, least, top)

-- the low bits of a word, by a mask
pub low_bits : (w bits : ℕ) → bits < 64 → bit_and w (1 * 2 ^ bits % 2 ^ 64 - 1) ≡ w % 2 ^ bits
low_bits w bits narrow = ap (λ z. bit_and w (z - 1)) (one_shl bits 64 narrow) ∙ and_mask w bits

-- the key of the next point behind the others
pub raised_next : (dim : Dim) (down : Bool) (points : List Point) (n : ℕ) (keys : List ℕ) → AreRaised dim down points n keys → (p : Point) → slice_get points n ≡ Some p
    → (key : ℕ) → pos key ≡ turned down (short_key dim (key_of p dim)) +ℤ pos (2 ^ 63) → (more : List ℕ) → more ≡ keys ++ key ∷ [] → AreRaised dim down points (n + 1) more
raised_next dim down points n keys are p here key is more behind = record {
  each = omega (arith, ap length behind, length-append keys (key ∷ []), are.each);
  key = λ k d l. ⊎_elim
      (λ q. ap pos (last k q) ∙ is ∙ ap (λ z. turned down (short_key dim (key_of z dim)) +ℤ pos (2 ^ 63)) (sym (ap (λ j. get_or points j d) q ∙ get_or_from_slice_get points n p d here)))
      (λ q. ap pos (first k l q) ∙ are.key k d (omega (arith, l, q)))
      (cases_eq k n);
}
  where
    last : (k : ℕ) → k ≡ n → get_or more k 0 ≡ key
    last k q = ap (λ z. get_or z k 0) behind ∙ get_or_push keys key 0 k (are.each ∙ sym q)

    first : (k : ℕ) → k < n + 1 → (k ≡ n → ⊥) → get_or more k 0 ≡ get_or keys k 0
    first k l q = ap (λ z. get_or z k 0) behind ∙ get_or_append_left keys (key ∷ []) 0 k (omega (arith, l, q, are.each))

-- the entry that a word holds
abbrev back : ℕ → ℕ → ℕ → Entry
back zeros bits w = record { key = pos (w / 2 ^ bits * 2 ^ zeros); place = w % 2 ^ bits }

greater : (x y a b : ℕ) → y < x → is_lt (ordering_then (int_cmp (pos x) (pos y)) (nat_cmp a b)) ≡ false
greater x y a b l = grind (arith, nat_tests)

equal : (x a b : ℕ) → b ≤ a → is_lt (ordering_then (int_cmp (pos x) (pos x)) (nat_cmp a b)) ≡ false
equal x a b l = grind (arith, nat_tests)

-- of two words the greater one doesn't hold the lesser entry
back-order : (zeros bits v w : ℕ) → v ≤ w → entry_lt (back zeros bits w) (back zeros bits v) ≡ false
back-order zeros bits v w le = ⊎_elim
    (λ e. subst (λ z. is_lt (ordering_then (int_cmp (pos (w / 2 ^ bits * 2 ^ zeros)) (pos (z * 2 ^ zeros))) (nat_cmp (w % 2 ^ bits) (v % 2 ^ bits))) ≡ false) e
    (equal (w / 2 ^ bits * 2 ^ zeros) (w % 2 ^ bits) (v % 2 ^ bits) (omega (arith, le, shr_split v bits, shr_split w bits, ap (λ z. z * 2 ^ bits) e))))
    (λ e. greater (w / 2 ^ bits * 2 ^ zeros) (v / 2 ^ bits * 2 ^ zeros) (w % 2 ^ bits) (v % 2 ^ bits)
    (mul-lt-mul_of_pos_right (omega (arith, e, shr_mono bits le)) (pow_pos zeros)))
    (cases_eq (w / 2 ^ bits) (v / 2 ^ bits))

-- a key that was raised, counted from the least one
lowered : (z : ℤ) (key least m : ℕ) → pos key ≡ z +ℤ pos m → least ≤ key → pos (key - least) ≡ z +ℤ (pos m -ℤ pos least)
lowered z key least m e l = omega (arith, ints, e, l)

module _ (dim : Dim) (down : Bool) (points : List Point) (keys : List ℕ) (raised : AreRaised dim down points (length points) keys) (least zeros bits : ℕ) (fit : FitWords least zeros bits keys) (words : List ℕ) (made : AreWords least zeros bits keys words) where
  abbrev off : ℤ
  off = pos (2 ^ 63) -ℤ pos least

  abbrev held : List ℕ → List Entry
  held ws = map (back zeros bits) ws

  at : (k : ℕ) (e : Entry) → k < length points → get_or (held words) k e ≡ record { key = pos (get_or keys k 0 - least); place = k }
  at k e l =
      let in_keys : k < length keys = omega (arith, raised.each, l) in
      let low : k < 2 ^ bits = omega (arith, in_keys, fit.places) in
      let key = counted least zeros (get_or keys k 0) in
      get_or-map (back zeros bits) words k 0 e (omega (arith, made.each, in_keys)) ∙ ap (back zeros bits) (made.word k in_keys)
      ∙ ap (λ z. record { key = pos (z * 2 ^ zeros); place = (key * 2 ^ bits + k) % 2 ^ bits }) (div-mul-add key (2 ^ bits) k low)
      ∙ ap (λ z. record { key = pos z; place = (key * 2 ^ bits + k) % 2 ^ bits }) (fit.room k in_keys).whole
      ∙ ap (λ z. record { key = pos (get_or keys k 0 - least); place = z }) (mod-mul-add key (2 ^ bits) k low)

  are_moved : AreMoved dim down points off (held words)
  are_moved = record {
    each = length-map words (back zeros bits) ∙ made.each ∙ raised.each;
    key = λ k d e l. ap (λ (x : Entry). x.key) (at k e l)
        ∙ lowered (turned down (short_key dim (key_of (get_or points k d) dim))) (get_or keys k 0) least (2 ^ 63) (raised.key k d l) (fit.room k (omega (arith, raised.each, l))).above;
    place = λ k e l. ap (λ (x : Entry). x.place) (at k e l);
  }

  places_back : (ws : List ℕ) → map (λ (e : Entry). e.place) (held ws) ≡ map (λ w. w % 2 ^ bits) ws
  places_back ws = map-map (λ (e : Entry). e.place) (back zeros bits) ws

  held_sorted : (ws : List ℕ) → IsSortedBy (λ v w. is_lt (nat_cmp v w)) ws → IsSortedBy entry_lt (held ws)
  held_sorted ws up k e low l =
      let in_ws : k + 1 < length ws = omega (arith, length-map ws (back zeros bits), l) in
      let rise = IsNonDecreasingBy-from_sort (λ x. x) ws up k (k + 1) 0 (omega arith) in_ws in
      ap (λ z. entry_lt z (get_or (held ws) k e)) (get_or-map (back zeros bits) ws (k + 1) 0 e in_ws)
      ∙ ap (λ z. entry_lt (back zeros bits (get_or ws (k + 1) 0)) z) (get_or-map (back zeros bits) ws k 0 e (omega (arith, in_ws)))
      ∙ back-order zeros bits (get_or ws k 0) (get_or ws (k + 1) 0) rise

  module _ (sorted : List ℕ) (moved : IsPermutation words sorted) where
    -- the places of the same words name each place once
    pub words_once : IsPermutation (range_with_len 0 (length points)) (map (λ w. w % 2 ^ bits) sorted)
    words_once = subst (λ z. IsPermutation (range_with_len 0 (length points)) z) (places_back sorted)
        (each_place dim down points off (held words) are_moved (held sorted) (IsPermutation-map (back zeros bits) words sorted moved))

    -- and in the order of the words they name the points in their order
    pub words_in_order : IsSortedBy (λ v w. is_lt (nat_cmp v w)) sorted → (d : Point)
        → map (λ k. get_or points k d) (map (λ w. w % 2 ^ bits) sorted) ≡ sorted_by (before (λ (p : Point). key_of p dim) down) points
    words_in_order up d =
        let rise = rising_from 0 (held words) (λ k e l. omega (arith, are_moved.place k e (omega (arith, are_moved.each, l)))) in
        let only = entries_in_order (held words) (held sorted) rise (IsPermutation-map (back zeros bits) words sorted moved) (held_sorted sorted up) in
        ap (map (λ k. get_or points k d)) (sym (places_back sorted)) ∙ places_in_order dim down points off (held words) are_moved d (held sorted) only
