-- The points that pass, up to a place.
use Rattle.std.proofs.Common.{◌≡◌, ◌+◌, Bool, true, false, cond, List, [], ◌∷◌, ◌++◌, length, refl, ap}
use Rattle.std.specs.Prelude.{filter}

module _ {P : Type 0} (passing : P → Bool) where
  filter-append : (xs ys : List P) → filter passing (xs ++ ys) ≡ filter passing xs ++ filter passing ys
  filter-append [] ys = refl
  filter-append (x ∷ xs) ys = go (passing x) (filter-append xs ys)
    where
      go : (b : Bool) → filter passing (xs ++ ys) ≡ filter passing xs ++ filter passing ys → cond b (x ∷ filter passing (xs ++ ys)) (filter passing (xs ++ ys)) ≡ cond b (x ∷ filter passing xs) (filter passing xs) ++ filter passing ys
      go true ih = ap (λ z. x ∷ z) ih
      go false ih = ih

  one : (b : Bool) (p : P) → length (cond b (p ∷ []) []) ≡ cond b 1 0
  one true p = refl
  one false p = refl
