-- The numbers below n in any order: each stands at one place alone.
use Rattle.std.proofs.Common.{◌≡◌, ℕ, ◌+◌, ◌<◌, List, length, get_or, cond, eqb, ⊎_elim, refl, ap, sym, ◌∙◌, arith}
use Rattle.std.specs.List.{swap, range_with_len}
use Rattle.std.specs.List.Sorted.{IsPermutation}
use Rattle.std.proofs.lemmas.Bool.{cases_eq}
use Rattle.std.proofs.lemmas.Bool.Decides.{nat_tests}
use Rattle.std.proofs.lemmas.List.Edits.{Swapped, swapped_from_swap, length-swap}
use Rattle.std.proofs.lemmas.List.FromFn.{length-range_with_len, get_or-range_with_len}
use Rattle.std.proofs.lemmas.List.Sorted.{All-permutation, IsPermutation-keeps, length_permutation}
use Rattle.packed_chunk.specs.Places.{ArePlaces}

-- each number stands at one place alone
abbrev Once : List ℕ → Type 0
Once xs = (i j : ℕ) → i < length xs → j < length xs → get_or xs i 0 ≡ get_or xs j 0 → i ≡ j

abbrev other_place : ℕ → ℕ → ℕ → ℕ
other_place a b i = cond (eqb i a) b (cond (eqb i b) a i)

other_first : (a b i : ℕ) → i ≡ a → other_place a b i ≡ b
other_first a b i e = grind (arith, nat_tests)

other_second : (a b i : ℕ) → (i ≡ a → ⊥) → i ≡ b → other_place a b i ≡ a
other_second a b i n e = grind (arith, nat_tests)

other_none : (a b i : ℕ) → (i ≡ a → ⊥) → (i ≡ b → ⊥) → other_place a b i ≡ i
other_none a b i n m = grind (arith, nat_tests)

other_twice : (a b i : ℕ) → other_place a b (other_place a b i) ≡ i
other_twice a b i = grind (arith, nat_tests)

other_below : (a b i n : ℕ) → a < n → b < n → i < n → other_place a b i < n
other_below a b i n la lb li = grind (arith, nat_tests)

swap_once : (xs : List ℕ) (a b : ℕ) → a < length xs → b < length xs → Once xs → Once (swap xs a b)
swap_once xs a b la lb once i j li lj e =
    sym (other_twice a b i) ∙ ap (other_place a b) (once (other_place a b i) (other_place a b j) (inside i li) (inside j lj) (sym (value i) ∙ e ∙ value j)) ∙ other_twice a b j
  where
    moved : Swapped (λ k. get_or xs k 0) (λ k. get_or (swap xs a b) k 0) a b
    moved = swapped_from_swap xs (swap xs a b) a b 0 la lb refl

    inside : (k : ℕ) → k < length (swap xs a b) → other_place a b k < length xs
    inside k l = other_below a b k (length xs) la lb (omega (arith, length-swap xs a b, l))

    value : (k : ℕ) → get_or (swap xs a b) k 0 ≡ get_or xs (other_place a b k) 0
    value k = ⊎_elim
        (λ q. ap (λ z. get_or (swap xs a b) z 0) q ∙ moved.0 ∙ ap (λ z. get_or xs z 0) (sym (other_first a b k q)))
        (λ n. ⊎_elim
        (λ q. ap (λ z. get_or (swap xs a b) z 0) q ∙ moved.1 ∙ ap (λ z. get_or xs z 0) (sym (other_second a b k n q)))
        (λ m. moved.2 k n m ∙ ap (λ z. get_or xs z 0) (sym (other_none a b k n m)))
        (cases_eq k b))
        (cases_eq k a)

pub places_are : (n : ℕ) (xs : List ℕ) → IsPermutation (range_with_len 0 n) xs → ArePlaces n xs
places_are n xs each = record {
  each = full;
  low = λ k l. All-permutation (λ v. v < n) (range_with_len 0 n) xs each
      (λ j d m. let at : get_or (range_with_len 0 n) j d ≡ 0 + j = get_or-range_with_len 0 n j d (omega (arith, long, m)) in omega (arith, at, long, m)) k 0 (omega (arith, l, full));
  once = λ j k a b q. all j k (omega (arith, a, full)) (omega (arith, b, full)) q;
}
  where
    long : length (range_with_len 0 n) ≡ n
    long = length-range_with_len 0 n

    full : length xs ≡ n
    full = length_permutation (range_with_len 0 n) xs each ∙ long

    all : Once xs
    all = IsPermutation-keeps (range_with_len 0 n) Once
        (λ i j li lj e. let a = get_or-range_with_len 0 n i 0 (omega (arith, long, li)) in let b = get_or-range_with_len 0 n j 0 (omega (arith, long, lj)) in omega (arith, a, b, e))
        (λ l a b la lb h. swap_once l a b la lb h) xs each
