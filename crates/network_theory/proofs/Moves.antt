-- Some node can move.
use Rattle.std.proofs.Common.{◌≡◌, ◌≢◌, ℕ, zero, suc, ◌+◌, ◌≤◌, ◌<◌, Bool, true, false, inl, inr, List, [], ◌∷◌, length, take, drop, Option, Some, None, refl, ap, subst, sym, ◌∙◌, arith, length-drop}
use Rattle.std.specs.Prelude.{◌==◌}
use Rattle.std.proofs.lemmas.Bool.{lt-ltb, eq-eqb}
use Rattle.std.proofs.lemmas.Bool.Decides.{eqb_tells}
use Rattle.std.proofs.Math.Seq.{take-length}
use Rattle.cloud_points.specs.Marks.{Item}
use Rattle.network_theory.specs.Net.{Node, Net, Choice, Outcome, takes, with_hand, turn_at, works, open_ins, current_edge, holds_end}
use Rattle.network_theory.specs.Shape.{Each, In, IsTree, ins_of}
use Rattle.network_theory.specs.Sound.{IsSound, IsNode, IsEdge, EndsInEnd}
use Rattle.network_theory.proofs.Turns.{either}

Each-drop : {A : Type 0} (P : A → Type 0) (n : ℕ) (xs : List A) → Each P xs → Each P (drop n xs)
Each-drop P zero xs h = h
Each-drop P (suc n) [] h = h
Each-drop P (suc n) (x ∷ xs) h = Each-drop P n xs h.1

found_in : (Q : ℕ → Type 0) (j : ℕ) (xs : List ℕ) → In j xs → Each Q xs → Q j
found_in Q j [] h e = absurd h
found_in Q j (x ∷ xs) (inl p) e = subst Q (sym p) e.0
found_in Q j (x ∷ xs) (inr h) e = found_in Q j xs h e.1

-- an inner node that reads has an open input
none_open : {S P F : Type 0} (n : Node S P F) (ok : IsNode n) (reads : n.leaf ≡ false → n.done ≡ false → n.ending ≡ false → holds_end n.hand ≡ false → n.machine.ended < n.machine.inputs) → n.leaf ≡ false → n.done ≡ false → n.ending ≡ false → n.hand ≡ None → open_ins n ≡ [] → ⊥
none_open n ok reads l d g h e =
    let r = reads l d g (ap holds_end h) in let i = ok.inputs in let k : length (drop n.machine.ended n.ins) ≡ 0 = ap length e in
    omega (arith, length-drop n.machine.ended n.ins)

module _ {S P F : Type 0} (net : Net S P F) (root cap : ℕ) (tree : IsTree (ins_of net) root) (sound : IsSound net) (room : 0 < cap) where
  -- whatever the event is, the node's turn does work
  abbrev Moves : ℕ → Type 0
  Moves k = (ch : Choice S P F) → works (turn_at net root cap k ch).turned ≡ true

  by_input : (ch : Choice S P F) (n : Node S P F) (is out : List (Item P)) → is ≢ [] → works (takes ch n is out).turned ≡ true
  by_input ch n [] out h = absurd (h refl)
  by_input ch n (i ∷ is) out h = refl

  by_hand : (ch : Choice S P F) (r : Bool) (n : Node S P F) (is out : List (Item P)) (h : Option (Item P)) → (r ≡ false → out ≡ []) → n.done ≡ false → (h ≡ None → n.ending ≡ false → n.leaf ≡ false → is ≢ []) → works (with_hand r cap ch n is out h).turned ≡ true
  by_hand ch r n is out (Some i) o d m = either (λ (x : Outcome S P F). works x.turned ≡ true) r _ _ (λ _. refl) (λ t. rw (o t, lt-ltb 0 cap room) refl)
  by_hand ch r n is out None o d m = either (λ (x : Outcome S P F). works x.turned ≡ true) n.done _ _
      (λ t. absurd (let z : true ≡ false = sym t ∙ d in cc))
      (λ _. either (λ (x : Outcome S P F). works x.turned ≡ true) n.ending _ _ (λ _. refl) (λ e. either (λ (x : Outcome S P F). works x.turned ≡ true) n.leaf _ _ (λ _. refl) (λ l. by_input ch n is out (m refl e l))))

  abbrev Found : Type 0
  Found = (j : ℕ) × (j ≤ root) × Moves j

  opens_below : (k : ℕ) → Each (λ j. j < k) (open_ins (net.node k))
  opens_below k = Each-drop _ (net.node k).machine.ended _ (tree.below k)

  -- with something on its current edge, or none to read, a node moves
  moves_here : (k : ℕ) → (net.node k).done ≡ false → ((k == root) ≡ false → net.edge k ≡ []) → (os : List ℕ) → open_ins (net.node k) ≡ os → ((net.node k).hand ≡ None → (net.node k).ending ≡ false → (net.node k).leaf ≡ false → current_edge net.edge os ≢ []) → Moves k
  moves_here k d o os e m = λ ch. by_hand ch (k == root) (net.node k) (current_edge net.edge (open_ins (net.node k))) (net.edge k) (net.node k).hand o d (λ h g l. rw e (m h g l))

  by_edge : (k c : ℕ) (cs : List ℕ) → k ≤ root → (net.node k).done ≡ false → ((k == root) ≡ false → net.edge k ≡ []) → open_ins (net.node k) ≡ c ∷ cs → (below : (net.node c).done ≡ false → ((c == root) ≡ false → net.edge c ≡ []) → Found) → (is : List (Item P)) → net.edge c ≡ is → Found
  by_edge k c cs b d o e below (i ∷ is) q = (k, b, moves_here k d o (c ∷ cs) e (λ h g l z. let x = sym q ∙ z in cc))
  by_edge k c cs b d o e below [] q = by_done (net.node c).done refl
    where
      by_done : (b : Bool) → (net.node c).done ≡ b → Found
      by_done false f = below f (λ _. q)
      by_done true f = absurd (subst EndsInEnd q ((subst (Each (λ j. IsEdge ((net.node j).done) (net.edge j))) e (sound.edges k)).0.ends f))

  by_open : (k : ℕ) → k ≤ root → (net.node k).done ≡ false → ((k == root) ≡ false → net.edge k ≡ []) → ((c : ℕ) → c < k → (net.node c).done ≡ false → ((c == root) ≡ false → net.edge c ≡ []) → Found) → (os : List ℕ) → open_ins (net.node k) ≡ os → Found
  by_open k b d o below [] e = (k, b, moves_here k d o [] e (λ h g l z. none_open (net.node k) (sound.nodes k) (sound.nodes k).reads l d g h e))
  by_open k b d o below (c ∷ cs) e = by_edge k c cs b d o e (below c (subst (Each (λ j. j < k)) e (opens_below k)).0) (net.edge c) refl

  go : (d k : ℕ) → k < d → k ≤ root → (net.node k).done ≡ false → ((k == root) ≡ false → net.edge k ≡ []) → Found
  go zero k h b f o = absurd (omega arith)
  go (suc d) k h b f o = by_open k b f o (λ c l. go d c (omega arith) (omega arith)) (open_ins (net.node k)) refl

  -- once the root is done, all are
  pub all_done : (net.node root).done ≡ true → (d k : ℕ) → k ≤ root → root < k + d → (net.node k).done ≡ true
  all_done h zero k b m = absurd (omega arith)
  all_done h (suc d) k b m = elim (eqb_tells k root) [
    | inl p ↦ ap (λ z. (net.node z).done) p.1 ∙ h
    | inr p ↦ (
        let c = tree.child k (let q = p.1 in omega arith) in
        let up = all_done h d (tree.parent k) c.1 (let l = c.0 in omega arith) in
        let read = (sound.nodes (tree.parent k)).read_done up ∙ (sound.nodes (tree.parent k)).inputs in
        let all = subst (Each (λ j. (net.node j).done ≡ true)) (ap (λ e. take e (net.node (tree.parent k)).ins) read ∙ take-length (net.node (tree.parent k)).ins) (sound.closed (tree.parent k)) in
        found_in (λ j. (net.node j).done ≡ true) k (net.node (tree.parent k)).ins c.2 all)
  ]

  -- while some node is not done, some node can move
  pub some_moves : (k : ℕ) → k ≤ root → (net.node k).done ≡ false → Found
  some_moves k b h = by_root (net.node root).done refl
    where
      by_root : (r : Bool) → (net.node root).done ≡ r → Found
      by_root false f = go (suc root) root (omega arith) (omega arith) f (λ t. absurd (let z : true ≡ false = sym (eq-eqb root root refl) ∙ t in cc))
      by_root true f = absurd (let d = all_done f (suc root) k b (omega arith) in let z : true ≡ false = sym d ∙ h in cc)
