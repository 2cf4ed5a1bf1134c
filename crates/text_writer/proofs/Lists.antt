-- Lists that are written from their end, or piece by piece.
use Rattle.std.proofs.Common.{◌≡◌, ℕ, zero, suc, ◌+◌, ◌<◌, List, [], ◌∷◌, ◌++◌, length, take, drop, set, get_or, refl, sym, ap, ◌∙◌, arith, append_assoc, append-nil}
use Rattle.std.specs.List.{flat_map}

-- what stands from a byte that was set
pub drop_at_set : (xs : List ℕ) (i x : ℕ) → i < length xs → drop i (set xs i x) ≡ x ∷ drop (i + 1) xs
drop_at_set [] i x h = absurd (omega arith)
drop_at_set (y ∷ ys) zero x h = refl
drop_at_set (y ∷ ys) (suc i) x h = drop_at_set ys i x (let k : i < length ys = omega arith in k) ∙ ap (λ n. x ∷ drop n (y ∷ ys)) (let e : suc (i + 1) ≡ suc i + 1 = omega arith in e)

-- one more piece behind those before
pub more_behind : {X : Type 0} (f : X → List ℕ) (xs : List X) (i : ℕ) (d : X) → i < length xs → flat_map f (take (i + 1) xs) ≡ flat_map f (take i xs) ++ f (get_or xs i d)
more_behind f [] i d h = absurd (omega arith)
more_behind f (x ∷ xs) zero d h = append-nil (f x)
more_behind f (x ∷ xs) (suc i) d h =
    let size : suc i + 1 ≡ suc (i + 1) = omega arith in
    ap (λ n. flat_map f (take n (x ∷ xs))) size ∙ ap (λ ys. f x ++ ys) (more_behind f xs i d (let k : i < length xs = omega arith in k))
    ∙ sym (append_assoc (f x) (flat_map f (take i xs)) (f (get_or xs i d)))

-- one more piece in front of those behind
pub more_in_front : {X : Type 0} (f : X → List ℕ) (xs : List X) (i : ℕ) (d : X) → i < length xs → flat_map f (drop i xs) ≡ f (get_or xs i d) ++ flat_map f (drop (i + 1) xs)
more_in_front f [] i d h = absurd (omega arith)
more_in_front f (x ∷ xs) zero d h = refl
more_in_front f (x ∷ xs) (suc i) d h =
    more_in_front f xs i d (let k : i < length xs = omega arith in k)
    ∙ ap (λ n. f (get_or xs i d) ++ flat_map f (drop n (x ∷ xs))) (let e : suc (i + 1) ≡ suc i + 1 = omega arith in e)

-- the pieces before, one, and those behind
pub all_pieces : {X : Type 0} (f : X → List ℕ) (xs : List X) (i : ℕ) (d : X) → i < length xs → flat_map f xs ≡ flat_map f (take i xs) ++ (f (get_or xs i d) ++ flat_map f (drop (i + 1) xs))
all_pieces f [] i d h = absurd (omega arith)
all_pieces f (x ∷ xs) zero d h = refl
all_pieces f (x ∷ xs) (suc i) d h =
    let size : suc (i + 1) ≡ suc i + 1 = omega arith in
    ap (λ ys. f x ++ ys) (all_pieces f xs i d (let k : i < length xs = omega arith in k))
    ∙ sym (append_assoc (f x) (flat_map f (take i xs)) (f (get_or xs i d) ++ flat_map f (drop (i + 1) xs)))
    ∙ ap (λ n. flat_map f (take (suc i) (x ∷ xs)) ++ (f (get_or xs i d) ++ flat_map f (drop n (x ∷ xs)))) size
