-- Where a search finds an element, and that it finds none.
use Rattle.std.proofs.Common.{◌≡◌, ◌||◌, ℕ, suc, Bool, true, false, true≢false, List, [], ◌∷◌, Some, slice_get, refl, ap, sym, ◌∙◌}
use Rattle.std.specs.List.{list_any}
use Rattle.std.proofs.lemmas.Map.Keys.{any_passes_from_place}

abbrev pub Found : {X : Type 0} → (X → Bool) → List X → Type 0
Found {X} test xs = (i : ℕ) × (x : X) × (slice_get xs i ≡ Some x) × (test x ≡ true)

pub found-at : {X : Type 0} (test : X → Bool) (xs : List X) → list_any test xs ≡ true → Found test xs
found-at test [] e = absurd (true≢false (sym e))
found-at test (x ∷ xs) e = by_test (test x) refl (λ h. found-at test xs h) e
  where
    by_test : (b : Bool) → test x ≡ b → (list_any test xs ≡ true → Found test xs) → list_any test (x ∷ xs) ≡ true → Found test (x ∷ xs)
    by_test true t further e = (0, x, refl, t)
    by_test false t further e = let f = further (sym (ap (λ b. b || list_any test xs) t) ∙ e) in (suc f.0, f.1, f.2, f.3)

pub none-found : {X : Type 0} (test : X → Bool) (xs : List X) → list_any test xs ≡ false → (i : ℕ) (x : X) → slice_get xs i ≡ Some x → test x ≡ false
none-found test xs e i x at = by_test (test x) refl
  where
    by_test : (b : Bool) → test x ≡ b → test x ≡ false
    by_test true t = absurd (true≢false (sym (any_passes_from_place test xs i x at t) ∙ e))
    by_test false t = t
