-- An opening net is sound, and what it owes is bounded.
use Rattle.std.proofs.Common.{◌≡◌, ℕ, zero, suc, ◌+◌, ◌*◌, ◌≤◌, ◌<◌, Bool, true, false, cond, ◌⊎◌, inl, inr, List, [], ◌∷◌, take, drop, refl, ap, subst, sym, arith}
use Rattle.std.proofs.Math.Nat.{mul-le-mul_right}
use Rattle.std.specs.Prelude.{nat_lt}
use Rattle.std.proofs.lemmas.Bool.{ltb-true, ltb-false}
use Rattle.network_theory.specs.Net.{Net, Node, holds_end, end_owes, hand_owes}
use Rattle.network_theory.specs.Shape.{Each, ins_of}
use Rattle.network_theory.specs.Sound.{IsNode, IsEdge, IsSound}
use Rattle.network_theory.specs.Opening.{IsFresh, IsOpening}
use Rattle.network_theory.specs.Due.{total, IsBelow, node_owes, edge_owes, due}
use Rattle.network_theory.proofs.Keeps.{conflict}
use Rattle.network_theory.proofs.Depths.{within-depths}

pub inside : (k root : ℕ) → (k ≤ root) ⊎ (root < k)
inside k root = by_test (nat_lt root k) refl
  where
    by_test : (b : Bool) → nat_lt root k ≡ b → (k ≤ root) ⊎ (root < k)
    by_test true h = inr (ltb-true root k h)
    by_test false h = inl (ltb-false root k h)

fresh-node : {S P F : Type 0} (n : Node S P F) → IsFresh n → IsNode n
fresh-node n f = record {
  inputs = f.inputs;
  within = let e = f.ended in omega arith;
  leaf = f.leaf;
  reads = λ l _ _ _. let e = f.ended in let i = f.inner l in omega arith;
  read_hand = λ h. conflict (holds_end n.hand) h (ap holds_end f.hand);
  read_ending = λ h. conflict n.ending h f.ending;
  read_done = λ h. conflict n.done h f.done;
  rests = λ _. f.hand;
}

Each-map : {A : Type 0} (P Q : A → Type 0) (xs : List A) → ((x : A) → P x → Q x) → Each P xs → Each Q xs
Each-map P Q [] f h = tt
Each-map P Q (x ∷ xs) f h = (f x h.0, Each-map P Q xs f h.1)

none_dropped : (n : ℕ) (xs : List ℕ) → xs ≡ [] → drop n xs ≡ []
none_dropped zero xs h = h
none_dropped (suc n) [] h = refl
none_dropped (suc n) (x ∷ xs) h = cc

none_kept : (n : ℕ) (xs : List ℕ) → xs ≡ [] → take n xs ≡ []
none_kept zero xs h = refl
none_kept (suc n) [] h = refl
none_kept (suc n) (x ∷ xs) h = cc

module _ {S P F : Type 0} (net : Net S P F) (root : ℕ) (o : IsOpening net root) where
  abbrev Edge_ok : ℕ → Type 0
  Edge_ok j = IsEdge ((net.node j).done) (net.edge j)

  edge : (j : ℕ) → j ≤ root → Edge_ok j
  edge j b = rw (o.edges j) (record { ends = λ d. conflict ((net.node j).done) d (o.fresh j b).done; goes_on = λ _. tt })

  pub opening-sound : IsSound net
  opening-sound = record {
    nodes = λ k. elim (inside k root) [ inl b ↦ fresh-node (net.node k) (o.fresh k b) | inr b ↦ (o.beyond k b).sound ];
    edges = λ k. elim (inside k root) [
      | inl b ↦ subst (λ e. Each Edge_ok (drop e (net.node k).ins)) (sym (o.fresh k b).ended) (Each-map (λ j. j < k) Edge_ok (net.node k).ins (λ j h. edge j (omega arith)) (o.tree.below k))
      | inr b ↦ subst (Each Edge_ok) (sym (none_dropped (net.node k).machine.ended (net.node k).ins (o.beyond k b).ins)) tt
    ];
    closed = λ k. elim (inside k root) [
      | inl b ↦ subst (λ e. Each (λ j. (net.node j).done ≡ true) (take e (net.node k).ins)) (sym (o.fresh k b).ended) tt
      | inr b ↦ subst (Each (λ j. (net.node j).done ≡ true)) (sym (none_kept (net.node k).machine.ended (net.node k).ins (o.beyond k b).ins)) tt
    ];
  }

  -- a new node owes its depth for each point and view that it has left and for its end
  end-owes : (e k : ℕ) → k ≤ root → end_owes e (net.node k) ≤ 2 * e + 2
  end-owes e k b = by_leaf (net.node k).leaf refl
    where
      by_test : (t : Bool) → cond t (2 * e + 2) 0 ≤ 2 * e + 2
      by_test true = omega arith
      by_test false = omega arith

      by_leaf : (l : Bool) → (net.node k).leaf ≡ l → end_owes e (net.node k) ≤ 2 * e + 2
      by_leaf true l = rw (l, (o.fresh k b).done, (o.fresh k b).hand) (omega arith)
      by_leaf false l = rw l (by_test (nat_lt (net.node k).machine.ended (net.node k).machine.inputs))

  module _ (below : ℕ → ℕ) (depth : IsBelow (ins_of net) root below) where
    abbrev most : ℕ → ℕ
    most k = (2 * (root + 1)) * (net.node k).points_left + (2 * (root + 1)) * (net.node k).views_left + 2 * (root + 1)

    owes-most : (k : ℕ) → k ≤ root → node_owes net below k ≤ most k
    owes-most k b =
        let d = within-depths (ins_of net) root o.tree below depth root k b (omega arith) in
        let f : 2 * below k + 2 ≤ 2 * (root + 1) = omega (arith, d) in
        let p = mul-le-mul_right (net.node k).points_left f in
        let v = mul-le-mul_right (net.node k).views_left f in
        let e = end-owes (below k) k b in
        let g : cond (net.node k).ending (2 * below k + 2) 0 ≡ 0 = ap (λ t. cond t (2 * below k + 2) 0) (o.fresh k b).ending in
        let h : hand_owes (below k) (net.node k).hand ≡ 0 = ap (hand_owes (below k)) (o.fresh k b).hand in
        omega (arith, p, v, e, f, g, h)

    total-most : (n : ℕ) → n ≤ root + 1 → total (node_owes net below) n ≤ (2 * (root + 1)) * total (λ k. (net.node k).points_left) n + (2 * (root + 1)) * total (λ k. (net.node k).views_left) n + (2 * (root + 1)) * n
    total-most zero h = omega arith
    total-most (suc n) h = let i = total-most n (omega arith) in let s = owes-most n (omega arith) in omega (arith, i, s)

    no_edges : (n : ℕ) → total (edge_owes net below) n ≡ 0
    no_edges zero = refl
    no_edges (suc n) = let e : edge_owes net below n ≡ 0 = rw (o.edges n) (omega arith) in let i = no_edges n in omega (arith, e, i)

    pub opening-owes : due net below (root + 1) ≤ 2 * (root + 1) * (total (λ k. (net.node k).points_left) (root + 1) + total (λ k. (net.node k).views_left) (root + 1) + (root + 1))
    opening-owes = let t = total-most (root + 1) (omega arith) in let z = no_edges (root + 1) in omega (arith, t, z)
