-- Lists of bytes with the same front.
use Rattle.std.proofs.Common.{◌≡◌, ℕ, zero, suc, ◌+◌, ◌-◌, ◌*◌, ◌<◌, ◌≤◌, List, take, drop, get_or, slice_index, refl, ap, sym, ◌∙◌, arith}
use Rattle.std.proofs.lemmas.List.{drop-take, take-take, get_or-take}
use Rattle.byte_numbers.specs.Bytes.{number_at, piece}

-- numbers and pieces of two lists with the same front
pub number_front : (n i m : ℕ) (a b : List ℕ) → i + n ≤ m → take m a ≡ take m b → number_at i n a ≡ number_at i n b
number_front zero i m a b h e = refl
number_front (suc n) i m a b h e =
    let inside : i < m = omega arith in
    let rest : i + 1 + n ≤ m = omega arith in
    let here : slice_index a i ≡ slice_index b i = sym (get_or-take m a i 0 inside) ∙ ap (λ l. get_or l i 0) e ∙ get_or-take m b i 0 inside in
    ap (λ x. x + 256 * number_at (i + 1) n a) here ∙ ap (λ x. slice_index b i + 256 * x) (number_front n (i + 1) m a b rest e)

piece_of_front : (i n m : ℕ) (a : List ℕ) → i + n ≤ m → piece i n (take m a) ≡ piece i n a
piece_of_front i n m a h =
    let split : m ≡ i + (m - i) = omega arith in
    let enough : n ≤ m - i = omega arith in
    ap (λ k. take n (drop i (take k a))) split ∙ ap (take n) (drop-take i (m - i) a) ∙ take-take n (m - i) (drop i a) enough

pub piece_front : (i n m : ℕ) (a b : List ℕ) → i + n ≤ m → take m a ≡ take m b → piece i n a ≡ piece i n b
piece_front i n m a b h e = sym (piece_of_front i n m a h) ∙ ap (piece i n) e ∙ piece_of_front i n m b h
