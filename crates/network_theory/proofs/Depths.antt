-- Each tree has its depths, and they are below its number of nodes.
use Rattle.std.proofs.Common.{◌≡◌, ℕ, zero, suc, ◌+◌, ◌≤◌, ◌<◌, inl, inr, List, [], ◌∷◌, refl, ap, subst, sym, ◌∙◌, arith}
use Rattle.std.proofs.lemmas.Bool.{eq-eqb}
use Rattle.std.proofs.lemmas.Bool.Decides.{eqb_tells}
use Rattle.network_theory.specs.Shape.{Each, In, IsTree}
use Rattle.network_theory.specs.Due.{IsBelow}
use Rattle.network_theory.specs.Depth.{depth}

module _ (ins : ℕ → List ℕ) (root : ℕ) (tree : IsTree ins root) where
  at_root : (steps : ℕ) → depth tree.parent root steps root ≡ 0
  at_root zero = refl
  at_root (suc steps) = rw (eq-eqb root root refl)

  -- more steps than are needed change nothing
  settled : (m n k : ℕ) → k ≤ root → root ≤ k + m → root ≤ k + n → depth tree.parent root m k ≡ depth tree.parent root n k
  settled zero n k b h g = let e : k ≡ root = omega arith in ap (depth tree.parent root zero) e ∙ at_root zero ∙ sym (at_root n) ∙ ap (depth tree.parent root n) (sym e)
  settled (suc m) zero k b h g = let e : k ≡ root = omega arith in ap (depth tree.parent root (suc m)) e ∙ at_root (suc m) ∙ sym (at_root zero) ∙ ap (depth tree.parent root zero) (sym e)
  settled (suc m) (suc n) k b h g = elim (eqb_tells k root) [
    | inl p ↦ rw p.0
    | inr p ↦ (let c = tree.child k (let q = p.1 in omega arith) in
        rw p.0 (ap (λ x. x + 1) (settled m n (tree.parent k) c.1 (let l = c.0 in omega arith) (let l = c.0 in omega arith))))
  ]

  below_child : (j k : ℕ) → k ≤ root → j < k → tree.parent j ≡ k → depth tree.parent root root j ≡ depth tree.parent root root k + 1
  below_child j k b h p = by_steps root refl
    where
      by_steps : (r : ℕ) → root ≡ r → depth tree.parent root root j ≡ depth tree.parent root root k + 1
      by_steps zero e = absurd (omega arith)
      by_steps (suc r) e = elim (eqb_tells j root) [
        | inl q ↦ absurd (let z = q.1 in omega arith)
        | inr q ↦ ap (λ s. depth tree.parent root s j) e ∙ rw q.0 (ap (λ x. depth tree.parent root r x + 1) p
            ∙ ap (λ x. x + 1) (settled r root k b (omega arith) (omega arith)))
      ]

  Each-pair : (P Q R : ℕ → Type 0) (xs : List ℕ) → ((x : ℕ) → P x → Q x → R x) → Each P xs → Each Q xs → Each R xs
  Each-pair P Q R [] f h g = tt
  Each-pair P Q R (x ∷ xs) f h g = (f x h.0 g.0, Each-pair P Q R xs f h.1 g.1)

  pub depths : IsBelow ins root (depth tree.parent root root)
  depths = record {
    top = at_root root;
    child = λ k b. Each-pair _ _ _ (ins k) (λ j h p. below_child j k b h p) (tree.below k) (tree.owned k);
  }

  each_of : (Q : ℕ → Type 0) (j : ℕ) (xs : List ℕ) → In j xs → Each Q xs → Q j
  each_of Q j [] h e = absurd h
  each_of Q j (x ∷ xs) (inl p) e = subst Q (sym p) e.0
  each_of Q j (x ∷ xs) (inr h) e = each_of Q j xs h e.1

  -- a node and those above it are at most all nodes
  pub within-depths : (below : ℕ → ℕ) → IsBelow ins root below → (d k : ℕ) → k ≤ root → root ≤ k + d → below k + k ≤ root
  within-depths below h zero k b g = let e : k ≡ root = omega arith in let t = ap below e ∙ h.top in omega (arith, t)
  within-depths below h (suc d) k b g = elim (eqb_tells k root) [
    | inl p ↦ (let t = ap below p.1 ∙ h.top in omega (arith, t))
    | inr p ↦ (let c = tree.child k (let q = p.1 in omega arith) in
        let up = within-depths below h d (tree.parent k) c.1 (let l = c.0 in omega arith) in
        let s = each_of (λ j. below j ≡ below (tree.parent k) + 1) k (ins (tree.parent k)) c.2 (h.child (tree.parent k) c.1) in
        let l = c.0 in omega (arith, up, s, l))
  ]
