-- What stands at a place of a list that was mapped.
use Rattle.std.proofs.Common.{◌≡◌, ℕ, zero, suc, List, [], ◌∷◌, map, slice_get, Some, refl, ap}

pub mapped-at : {A B : Type 0} (f : A → B) (xs : List A) (i : ℕ) (y : B) → slice_get (map f xs) i ≡ Some y → (x : A) × (slice_get xs i ≡ Some x) × (f x ≡ y)
mapped-at f [] i y e = absurd cc
mapped-at f (x ∷ xs) zero y e = (x, refl, (let same : f x ≡ y = cc in same))
mapped-at f (x ∷ xs) (suc i) y e = mapped-at f xs i y e

pub map-at : {A B : Type 0} (f : A → B) (xs : List A) (i : ℕ) (x : A) → slice_get xs i ≡ Some x → slice_get (map f xs) i ≡ Some (f x)
map-at f [] i x e = absurd cc
map-at f (y ∷ xs) zero x e = let same : y ≡ x = cc in ap (λ z. Some (f z)) same
map-at f (y ∷ xs) (suc i) x e = map-at f xs i x e
