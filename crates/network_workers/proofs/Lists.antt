-- Lists before and after.
use Rattle.std.proofs.Common.{◌≡◌, ◌≢◌, ℕ, zero, suc, ◌<◌, List, [], ◌∷◌, length, get_or, set, refl, subst, sym, inl, inr, arith}
use Rattle.std.specs.Prelude.{slice_index_or, slice_set}
use Rattle.std.proofs.lemmas.List.{get_or-set_same, get_or-set_other, length-set}
use Rattle.std.proofs.lemmas.Bool.Decides.{eqb_tells}
use Rattle.network_workers.specs.Lists.{Pairs, Each}

module _ {X : Type 0} where
  -- one place is set, and what holds of the others holds of them still
  pub each-one : (P : ℕ → X → Type 0) (xs : List X) (k : ℕ) (y : X) → P k y → ((j : ℕ) (d : X) → j < length xs → j ≢ k → P j (slice_index_or xs j d)) → Each P (slice_set xs k y)
  each-one P xs k y here others j d less = elim (eqb_tells j k) [
    | inl e ↦ subst (λ i. P i (get_or (set xs k y) i d)) (sym e.1) (subst (P k) (sym (get_or-set_same xs k y d (subst (λ i. i < length xs) e.1 inside))) here)
    | inr e ↦ subst (P j) (sym (get_or-set_other xs k j y d e.1)) (others j d inside e.1)
  ]
    where
      inside : j < length xs
      inside = subst (λ n. j < n) (length-set xs k y) less

  pub pairs-one : (R : ℕ → X → X → Type 0) (xs : List X) (k : ℕ) (y : X) → ((d : X) → k < length xs → R k (slice_index_or xs k d) y) → ((j : ℕ) (d : X) → j < length xs → j ≢ k → R j (slice_index_or xs j d) (slice_index_or xs j d))
      → Pairs R xs (slice_set xs k y)
  pairs-one R xs k y here others = record {
    len = length-set xs k y;
    each = λ j d less. elim (eqb_tells j k) [
      | inl e ↦ subst (λ i. R i (get_or xs i d) (get_or (set xs k y) i d)) (sym e.1)
          (subst (R k (get_or xs k d)) (sym (get_or-set_same xs k y d (subst (λ i. i < length xs) e.1 less))) (here d (subst (λ i. i < length xs) e.1 less)))
      | inr e ↦ subst (R j (get_or xs j d)) (sym (get_or-set_other xs k j y d e.1)) (others j d less e.1)
    ];
  }

  pub pairs-nothing : (R : ℕ → X → X → Type 0) → ((k : ℕ) (a : X) → R k a a) → (xs : List X) → Pairs R xs xs
  pairs-nothing R same xs = record { len = refl; each = λ k d _. same k (slice_index_or xs k d) }

  pub any_default : (xs : List X) (k : ℕ) (d e : X) → k < length xs → get_or xs k d ≡ get_or xs k e
  any_default [] k d e h = absurd (omega (arith, h))
  any_default (x ∷ xs) zero d e h = refl
  any_default (x ∷ xs) (suc k) d e h = any_default xs k d e (omega (arith, h))
