-- Homes from the root downwards.
use Rattle.std.proofs.Common.{◌≡◌, ◌≢◌, ℕ, ◌+◌, ◌-◌, ◌≤◌, ◌<◌, Bool, cond, inl, inr, List, length, refl, ap, subst, sym, ◌∙◌, arith}
use Rattle.std.proofs.lemmas.Bool.Decides.{eqb_tells}
use Rattle.network_theory.specs.Shape.{In, IsTree}
use Rattle.network_theory.specs.Forest.{children, IsForest}
use Rattle.network_theory.proofs.Forests.{forest-tree}
use Rattle.stage_parts.specs.Parts.{gathers_at, home_at}
use Rattle.stage_parts.proofs.Counted.{in-each}

-- the homes below the nodes from k on are there
pub record HomesFrom (k : ℕ) (gathers : List Bool) (ins : List (List ℕ)) (homes : List ℕ) : Type 0 where
  pub size : length homes ≡ length gathers
  pub root : home_at homes (length gathers - 1) ≡ length gathers
  pub below : (i j : ℕ) → k ≤ i → In j (children ins i) → home_at homes j ≡ cond (gathers_at gathers i) i (home_at homes i)

module _ (gathers : List Bool) (ins : List (List ℕ)) (forest : IsForest ins (length gathers - 1)) where
  tree : IsTree (children ins) (length gathers - 1)
  tree = forest-tree ins (length gathers - 1) forest

  child-below : (j k : ℕ) → In j (children ins k) → j < k
  child-below j k i = in-each (λ z. z < k) j (children ins k) i (forest.below k)

  not_root : (j k : ℕ) → In j (children ins k) → j ≢ length gathers - 1
  not_root j k i = in-each (λ z. z ≢ length gathers - 1) j (children ins k) i (tree.no_root k)

  one_parent : (j k i : ℕ) → In j (children ins k) → In j (children ins i) → k ≡ i
  one_parent j k i a b = sym (in-each (λ z. tree.parent z ≡ k) j (children ins k) a (tree.owned k)) ∙ in-each (λ z. tree.parent z ≡ i) j (children ins i) b (tree.owned i)

  pub homes-step : (k next home : ℕ) (before now : List ℕ) → next ≡ k + 1 → HomesFrom next gathers ins before → length now ≡ length before
      → home ≡ cond (gathers_at gathers k) k (home_at before k)
      → ((j : ℕ) → In j (children ins k) → home_at now j ≡ home)
      → ((j : ℕ) → (In j (children ins k) → ⊥) → home_at now j ≡ home_at before j)
      → HomesFrom k gathers ins now
  homes-step k next home before now one was size is led others = record {
    size = size ∙ was.size;
    root = others (length gathers - 1) (λ i. not_root (length gathers - 1) k i refl) ∙ was.root;
    below = λ i j up child. elim (eqb_tells i k) [
      | inl p ↦ subst (λ z. In j (children ins z) → home_at now j ≡ cond (gathers_at gathers z) z (home_at now z)) (sym p.1) (λ here. at_k j here) child
      | inr p ↦ above_k i j (let ne = p.1 in omega arith) child
    ];
  }
    where
      at_k : (j : ℕ) → In j (children ins k) → home_at now j ≡ cond (gathers_at gathers k) k (home_at now k)
      at_k j here = led j here ∙ is ∙ ap (cond (gathers_at gathers k) k) (sym (others k (λ i. absurd (let l = child-below k k i in omega arith))))

      above_k : (i j : ℕ) → k < i → In j (children ins i) → home_at now j ≡ cond (gathers_at gathers i) i (home_at now i)
      above_k i j up child =
          others j (λ here. absurd (let e = one_parent j k i here child in omega (arith, e)))
          ∙ was.below i j (omega arith) child
          ∙ ap (cond (gathers_at gathers i) i) (sym (others i (λ here. absurd (let l = child-below i k here in omega arith))))
