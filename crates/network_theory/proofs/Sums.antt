-- A turn that works lowers what the whole net owes.
use Rattle.std.proofs.Common.{◌≡◌, ◌≢◌, ℕ, zero, suc, ◌+◌, ◌*◌, ◌≤◌, ◌<◌, false, cond, inl, inr, List, [], ◌∷◌, length, drop, refl, ap, subst, sym, ◌∙◌, arith}
use Rattle.std.specs.Prelude.{◌==◌}
use Rattle.std.proofs.lemmas.Bool.{eq-eqb}
use Rattle.std.proofs.lemmas.Bool.Decides.{eqb_tells}
use Rattle.network_theory.specs.Net.{Net, Outcome, open_ins, current_edge, with_turn, owes, cost}
use Rattle.network_theory.specs.Shape.{Each, IsTree, ins_of}
use Rattle.network_theory.specs.Due.{total, IsBelow, node_owes, edge_owes, due}

pub total-same : (f g : ℕ → ℕ) (n : ℕ) → ((k : ℕ) → k < n → f k ≡ g k) → total f n ≡ total g n
total-same f g zero h = refl
total-same f g (suc n) h = let a = total-same f g n (λ k b. h k (omega arith)) in let b = h n (omega arith) in omega (arith, a, b)

pub total-at : (f g : ℕ → ℕ) (i n : ℕ) → i < n → ((k : ℕ) → k ≢ i → f k ≡ g k) → total f n + g i ≡ total g n + f i
total-at f g i zero h s = absurd (omega arith)
total-at f g i (suc n) h s = elim (eqb_tells n i) [
  | inl p ↦ (let a = total-same f g n (λ k b. s k (λ e. let q = p.1 in omega arith)) in let b = ap f p.1 in let c = ap g p.1 in omega (arith, a, b, c))
  | inr p ↦ (let m : i < n = (let q = p.1 in omega arith) in let a = total-at f g i n m s in let b = s n p.1 in omega (arith, a, b))
]

pub total-two : (f g : ℕ → ℕ) (i c n : ℕ) → i < n → c < n → c ≢ i → ((k : ℕ) → k ≢ i → k ≢ c → f k ≡ g k) → total f n + (g i + g c) ≡ total g n + (f i + f c)
total-two f g i c n hi hc ne s =
    let h : ℕ → ℕ = λ k. cond (k == i) (g k) (f k) in
    let hi-is : h i ≡ g i = rw (eq-eqb i i refl) in
    let other : (k : ℕ) → k ≢ i → h k ≡ f k = λ k z. elim (eqb_tells k i) [ inl p ↦ absurd (z p.1) | inr p ↦ rw p.0 ] in
    let hc-is : h c ≡ f c = other c ne in
    let a = total-at f h i n hi (λ k z. sym (other k z)) in
    let b = total-at h g c n hc (λ k z. elim (eqb_tells k i) [ inl p ↦ rw p.0 | inr p ↦ other k p.1 ∙ s k p.1 z ]) in
    omega (arith, a, b, hi-is, hc-is)

pub ne-eqb : (a b : ℕ) → a ≢ b → (a == b) ≡ false
ne-eqb a b h = elim (eqb_tells a b) [ inl p ↦ absurd (h p.1) | inr p ↦ p.0 ]

pub Each-drop : {A : Type 0} (P : A → Type 0) (n : ℕ) (xs : List A) → Each P xs → Each P (drop n xs)
Each-drop P zero xs h = h
Each-drop P (suc n) [] h = h
Each-drop P (suc n) (x ∷ xs) h = Each-drop P n xs h.1

same-product : (a b l : ℕ) → a ≡ b + 1 → 2 * a * l ≡ (2 * b + 2) * l
same-product a b l h = rw h (omega arith)

module _ {S P F : Type 0} (net : Net S P F) (root : ℕ) (tree : IsTree (ins_of net) root) (below : ℕ → ℕ) (depth : IsBelow (ins_of net) root below) (count i : ℕ) (within : i < count) (inside : i ≤ root) (o : Outcome S P F)
    (falls : cost (below i) o.node o.input o.out < cost (below i) (net.node i) (current_edge net.edge (open_ins (net.node i))) (net.edge i)) where
  nodes : total (node_owes (with_turn net root i o) below) count + owes (below i) (net.node i) ≡ total (node_owes net below) count + owes (below i) o.node
  nodes =
      let t = total-at (node_owes (with_turn net root i o) below) (node_owes net below) i count within (λ k z. rw (ne-eqb k i z)) in
      let e : node_owes (with_turn net root i o) below i ≡ owes (below i) o.node = rw (eq-eqb i i refl) in
      omega (arith, t, e)

  lowered : (os : List ℕ) → open_ins (net.node i) ≡ os → due (with_turn net root i o) below count < due net below count
  lowered [] q =
      let t = total-at (edge_owes (with_turn net root i o) below) (edge_owes net below) i count within (λ k z. rw (ne-eqb k i z, q)) in
      let e : edge_owes (with_turn net root i o) below i ≡ 2 * below i * length o.out = rw (eq-eqb i i refl) in
      let f : cost (below i) o.node o.input o.out < cost (below i) (net.node i) [] (net.edge i) = rw (ap (current_edge net.edge) q) at falls in
      let n = nodes in omega (arith, t, e, f, n)
  lowered (c ∷ cs) q =
      let b : c < i = (subst (Each (λ j. j < i)) q (Each-drop _ (net.node i).machine.ended _ (tree.below i))).0 in
      let d : below c ≡ below i + 1 = (subst (Each (λ j. below j ≡ below i + 1)) q (Each-drop _ (net.node i).machine.ended _ (depth.child i inside))).0 in
      let ne : c ≢ i = (λ z. omega arith) in
      let t = total-two (edge_owes (with_turn net root i o) below) (edge_owes net below) i c count within (omega arith) ne (λ k z y. rw (ne-eqb k i z, q, ne-eqb k c y)) in
      let e : edge_owes (with_turn net root i o) below i ≡ 2 * below i * length o.out = rw (eq-eqb i i refl) in
      let g : edge_owes (with_turn net root i o) below c ≡ (2 * below i + 2) * length o.input = rw (ne-eqb c i ne, q, eq-eqb c c refl) (same-product (below c) (below i) (length o.input) d) in
      let p : edge_owes net below c ≡ (2 * below i + 2) * length (net.edge c) = same-product (below c) (below i) (length (net.edge c)) d in
      let f : cost (below i) o.node o.input o.out < cost (below i) (net.node i) (net.edge c) (net.edge i) = rw (ap (current_edge net.edge) q) at falls in
      let n = nodes in omega (arith, t, e, g, p, f, n)

  pub due-falls : due (with_turn net root i o) below count < due net below count
  due-falls = lowered (open_ins (net.node i)) refl
