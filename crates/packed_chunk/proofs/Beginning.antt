-- Places that are free at the beginning.
use Rattle.std.proofs.Common.{◌≡◌, ℕ, zero, suc, ◌+◌, ◌≤◌, Bool, true, false, not, cond, eqb, inl, inr, List, [], ◌∷◌, ◌++◌, length, get_or, refl, ⊎_elim, subst, ap, sym, ◌∙◌, arith}
use Rattle.std.proofs.lemmas.Bool.{cases_eq}
use Rattle.std.proofs.lemmas.Bool.Decides.{nat_tests}
use Rattle.packed_chunk.specs.Places.{unsettled}
use Rattle.packed_chunk.proofs.Members.{In, Apart}
use Rattle.packed_chunk.proofs.Cycles.{Unsettled, Taken}

module _ (sources : List ℕ) where
  abbrev goes_on : ℕ → Bool
  goes_on k = not (eqb (get_or sources k 0) k)

  pub test_settled : (k : ℕ) → get_or sources k 0 ≡ k → goes_on k ≡ false
  test_settled k e = grind (arith, nat_tests)

  pub test_unsettled : (k : ℕ) → Unsettled sources k → goes_on k ≡ true
  test_unsettled k n = grind (arith, nat_tests)

  -- the first one, and those behind it
  first_settled : (start n : ℕ) → get_or sources start 0 ≡ start → unsettled sources start (suc n) ≡ unsettled sources (start + 1) n
  first_settled start n s = ap (λ b. cond b (start ∷ unsettled sources (start + 1) n) (unsettled sources (start + 1) n)) (test_settled start s)

  first_unsettled : (start n : ℕ) → Unsettled sources start → unsettled sources start (suc n) ≡ start ∷ unsettled sources (start + 1) n
  first_unsettled start n u = ap (λ b. cond b (start ∷ unsettled sources (start + 1) n) (unsettled sources (start + 1) n)) (test_unsettled start u)

  -- one more behind them
  pub last_settled : (start n k : ℕ) → start + n ≡ k → get_or sources k 0 ≡ k → unsettled sources start (suc n) ≡ unsettled sources start n
  last_settled start zero k e s =
      let q : k ≡ start = omega (arith, e) in first_settled start 0 (ap (λ z. get_or sources z 0) (sym q) ∙ s ∙ q)
  last_settled start (suc n) k e s = ap (λ z. cond (goes_on start) (start ∷ z) z) (last_settled (start + 1) n k (omega (arith, e)) s)

  pub last_unsettled : (start n k : ℕ) → start + n ≡ k → Unsettled sources k → unsettled sources start (suc n) ≡ unsettled sources start n ++ k ∷ []
  last_unsettled start zero k e u =
      let q : k ≡ start = omega (arith, e) in
      first_unsettled start 0 (λ s. u (ap (λ z. get_or sources z 0) q ∙ s ∙ sym q)) ∙ ap (λ z. z ∷ []) (sym q)
  last_unsettled start (suc n) k e u =
      ap (λ z. cond (goes_on start) (start ∷ z) z) (last_unsettled (start + 1) n k (omega (arith, e)) u) ∙ go (goes_on start)
    where
      go : (b : Bool) → cond b (start ∷ (unsettled sources (start + 1) n ++ k ∷ [])) (unsettled sources (start + 1) n ++ k ∷ [])
          ≡ cond b (start ∷ unsettled sources (start + 1) n) (unsettled sources (start + 1) n) ++ k ∷ []
      go true = refl
      go false = refl

  pub no_more : (start n : ℕ) → length (unsettled sources start n) ≤ n
  no_more start zero = omega arith
  no_more start (suc n) = ⊎_elim
      (λ s. omega (arith, ap length (first_settled start n s), no_more (start + 1) n))
      (λ u. omega (arith, ap length (first_unsettled start n u), no_more (start + 1) n))
      (cases_eq (get_or sources start 0) start)

  -- what is said of those behind the first one
  behind_first : (start n k : ℕ) → Taken (start + 1) ((start + 1) + n) k × Unsettled sources k → Taken start (start + suc n) k × Unsettled sources k
  behind_first start n k r = ((omega (arith, r.0.0), omega (arith, r.0.1)), r.1)

  pub each_unsettled : (start n k : ℕ) → In k (unsettled sources start n) → Taken start (start + n) k × Unsettled sources k
  each_unsettled start zero k i = absurd i
  each_unsettled start (suc n) k i = ⊎_elim
      (λ s. behind_first start n k (each_unsettled (start + 1) n k (subst (In k) (first_settled start n s) i)))
      (λ u. ⊎_elim
      (λ q. ((omega (arith, q), omega (arith, q)), λ s. u (ap (λ z. get_or sources z 0) (sym q) ∙ s ∙ q)))
      (λ j. behind_first start n k (each_unsettled (start + 1) n k j))
      (subst (In k) (first_unsettled start n u) i))
      (cases_eq (get_or sources start 0) start)

  pub unsettled_apart : (start n : ℕ) → Apart (unsettled sources start n)
  unsettled_apart start zero = tt
  unsettled_apart start (suc n) = ⊎_elim
      (λ s. subst Apart (sym (first_settled start n s)) (unsettled_apart (start + 1) n))
      (λ u. subst Apart (sym (first_unsettled start n u))
      (λ i. omega (arith, (each_unsettled (start + 1) n start i).0.0), unsettled_apart (start + 1) n))
      (cases_eq (get_or sources start 0) start)

  pub all_unsettled : (start n k : ℕ) → Taken start (start + n) k → Unsettled sources k → In k (unsettled sources start n)
  all_unsettled start zero k t v = absurd (omega (arith, t.0, t.1))
  all_unsettled start (suc n) k t v = ⊎_elim
      (λ q. subst (In k) (sym (first_unsettled start n (λ s. v (ap (λ z. get_or sources z 0) q ∙ s ∙ sym q)))) (inl q))
      (λ off. let i = all_unsettled (start + 1) n k (omega (arith, off, t.0), omega (arith, t.1)) v in ⊎_elim
      (λ s. subst (In k) (sym (first_settled start n s)) i)
      (λ u. subst (In k) (sym (first_unsettled start n u)) (inr i))
      (cases_eq (get_or sources start 0) start))
      (cases_eq k start)
