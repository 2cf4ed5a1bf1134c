-- A turn keeps the whole net sound.
use Rattle.std.proofs.Common.{◌≡◌, ◌≢◌, ℕ, zero, suc, ◌+◌, ◌<◌, Bool, true, false, cond, inl, inr, List, [], ◌∷◌, take, drop, refl, ap, subst, sym, ◌∙◌, arith}
use Rattle.std.specs.Prelude.{◌==◌}
use Rattle.std.proofs.lemmas.Bool.{eq-eqb}
use Rattle.std.proofs.lemmas.Bool.Decides.{eqb_tells}
use Rattle.cloud_points.specs.Marks.{Item, is_end}
use Rattle.network_theory.specs.Net.{Node, Net, Choice, Outcome, open_ins, current_edge, is_current, with_turn, turn_at, step}
use Rattle.network_theory.specs.Shape.{Each, Apart, IsTree, ins_of}
use Rattle.network_theory.specs.Sound.{IsNode, IsEdge, IsSound}
use Rattle.network_theory.proofs.Turns.{either}
use Rattle.network_theory.proofs.Keeps.{Moved, turn-moved, conflict}
use Rattle.network_theory.proofs.Run.{step-same}

Each-drop : {A : Type 0} (P : A → Type 0) (n : ℕ) (xs : List A) → Each P xs → Each P (drop n xs)
Each-drop P zero xs h = h
Each-drop P (suc n) [] h = h
Each-drop P (suc n) (x ∷ xs) h = Each-drop P n xs h.1

Each-take : {A : Type 0} (P : A → Type 0) (n : ℕ) (xs : List A) → Each P xs → Each P (take n xs)
Each-take P zero xs h = tt
Each-take P (suc n) [] h = tt
Each-take P (suc n) (x ∷ xs) h = (h.0, Each-take P n xs h.1)

Apart-drop : (n : ℕ) (xs : List ℕ) → Apart xs → Apart (drop n xs)
Apart-drop zero xs h = h
Apart-drop (suc n) [] h = h
Apart-drop (suc n) (x ∷ xs) h = Apart-drop n xs h.1

Each-two : {A : Type 0} (P Q R : A → Type 0) (xs : List A) → ((x : A) → P x → Q x → R x) → Each P xs → Each Q xs → Each R xs
Each-two P Q R [] f h g = tt
Each-two P Q R (x ∷ xs) f h g = (f x h.0 g.0, Each-two P Q R xs f h.1 g.1)

ne-eqb : (a b : ℕ) → a ≢ b → (a == b) ≡ false
ne-eqb a b h = elim (eqb_tells a b) [ inl p ↦ absurd (h p.1) | inr p ↦ p.0 ]

drop-next : {A : Type 0} (n : ℕ) (xs : List A) (y : A) (ys : List A) → drop n xs ≡ y ∷ ys → drop (n + 1) xs ≡ ys
drop-next zero xs y ys h = rw h
drop-next (suc n) [] y ys h = cc
drop-next (suc n) (x ∷ xs) y ys h = let e : suc n + 1 ≡ suc (n + 1) = omega arith in rw e (drop-next n xs y ys h)

Each-next : {A : Type 0} (P : A → Type 0) (n : ℕ) (xs : List A) (y : A) (ys : List A) → drop n xs ≡ y ∷ ys → Each P (take n xs) → P y → Each P (take (n + 1) xs)
Each-next P zero xs y ys h a p = rw h (p, tt)
Each-next P (suc n) [] y ys h a p = cc
Each-next P (suc n) (x ∷ xs) y ys h a p = let e : suc n + 1 ≡ suc (n + 1) = omega arith in rw e (a.0, Each-next P n xs y ys h a.1 p)

-- an edge after an item that is no end was taken from it
rest-edge : {P : Type 0} (done : Bool) (i : Item P) (is : List (Item P)) → is_end i ≡ false → IsEdge done (i ∷ is) → IsEdge done is
rest-edge done i [] e h = record { ends = λ d. conflict (is_end i) (h.ends d) e; goes_on = λ d. tt }
rest-edge done i (j ∷ js) e h = record { ends = λ d. h.ends d; goes_on = λ d. (h.goes_on d).1 }

-- a child whose end lies first on its edge is done
done-by-end : {P : Type 0} (done : Bool) (i : Item P) (is : List (Item P)) → is_end i ≡ true → IsEdge done (i ∷ is) → done ≡ true
done-by-end true i is e h = refl
done-by-end false i is e h = conflict (is_end i) e (h.goes_on refl).0

module _ {S P F : Type 0} (net : Net S P F) (root : ℕ) (tree : IsTree (ins_of net) root) (sound : IsSound net) (i : ℕ) (o : Outcome S P F)
    (same : o.node.ins ≡ (net.node i).ins)
    (moved : Moved (i == root) (net.node i) (current_edge net.edge (open_ins (net.node i))) (net.edge i) o) where
  node-here : (with_turn net root i o).node i ≡ o.node
  node-here = rw (eq-eqb i i refl)

  node-other : (k : ℕ) → k ≢ i → (with_turn net root i o).node k ≡ net.node k
  node-other k h = rw (ne-eqb k i h)

  done-stays : (k : ℕ) → (net.node k).done ≡ true → ((with_turn net root i o).node k).done ≡ true
  done-stays k h = elim (eqb_tells k i) [
    | inl p ↦ ap (λ n. n.done) (ap (with_turn net root i o).node p.1 ∙ node-here) ∙ moved.stays (ap (λ z. (net.node z).done) (sym p.1) ∙ h)
    | inr p ↦ ap (λ n. n.done) (node-other k p.1) ∙ h
  ]

  opens_owned : (k : ℕ) → Each (λ j. tree.parent j ≡ k) (open_ins (net.node k))
  opens_owned k = Each-drop _ (net.node k).machine.ended _ (tree.owned k)

  opens_inner : (k : ℕ) → Each (λ j. j ≢ root) (open_ins (net.node k))
  opens_inner k = Each-drop _ (net.node k).machine.ended _ (tree.no_root k)

  -- the edge above a node that is not the current child
  edge-other : (j : ℕ) → (os : List ℕ) → open_ins (net.node i) ≡ os → (j == i) ≡ false → is_current j os ≡ false → (with_turn net root i o).edge j ≡ net.edge j
  edge-other j os e h c = rw (h, e, c)

  not_current : (k j : ℕ) → k ≢ i → tree.parent j ≡ k → (os : List ℕ) → Each (λ c. tree.parent c ≡ i) os → is_current j os ≡ false
  not_current k j ne p [] h = refl
  not_current k j ne p (c ∷ cs) h = ne-eqb j c (λ e. ne (sym p ∙ ap tree.parent e ∙ h.0))

  abbrev Sound_edge : ℕ → Type 0
  Sound_edge j = IsEdge (((with_turn net root i o).node j).done) ((with_turn net root i o).edge j)

  -- at the children of another node
  edge-away : (k j : ℕ) → k ≢ i → IsEdge ((net.node j).done) (net.edge j) → (tree.parent j ≡ k) × (j ≢ root) → Sound_edge j
  edge-away k j ne h p = elim (eqb_tells j i) [
    | inl q ↦ subst Sound_edge (sym q.1) (rw (eq-eqb i i refl) (moved.edge (ne-eqb i root (λ e. p.1 (q.1 ∙ e))) (subst (λ z. IsEdge ((net.node z).done) (net.edge z)) q.1 h)))
    | inr q ↦ rw (node-other j q.1, edge-other j (open_ins (net.node i)) refl q.0 (not_current k j ne p.0 (open_ins (net.node i)) (opens_owned i))) h
  ]

  -- at the children of the node itself
  edge-mine : (j c : ℕ) (cs : List ℕ) → open_ins (net.node i) ≡ c ∷ cs → j < i → j ≢ c → IsEdge ((net.node j).done) (net.edge j) → Sound_edge j
  edge-mine j c cs e b ne h =
      let d : j ≢ i = (λ z. omega arith) in
      rw (node-other j d, edge-other j (c ∷ cs) e (ne-eqb j i d) (ne-eqb j c ne)) h

  -- the children that the node has still to read, and those that it has read, after its turn
  abbrev Reads : List ℕ → List ℕ → Type 0
  Reads opens closed = Each Sound_edge opens × Each (λ j. ((with_turn net root i o).node j).done ≡ true) closed

  opens_below : Each (λ j. j < i) (open_ins (net.node i))
  opens_below = Each-drop _ (net.node i).machine.ended _ (tree.below i)

  closed-stays : (k : ℕ) → Each (λ j. ((with_turn net root i o).node j).done ≡ true) (take (net.node k).machine.ended (net.node k).ins)
  closed-stays k = Each-two _ _ _ _ (λ j h g. done-stays j h) (sound.closed k) (sound.closed k)

  -- nothing was taken
  left_alone : o.input ≡ current_edge net.edge (open_ins (net.node i)) → (os : List ℕ) → open_ins (net.node i) ≡ os → Each Sound_edge os
  left_alone h [] e = tt
  left_alone h (c ∷ cs) e =
      let edges = subst (Each (λ j. IsEdge ((net.node j).done) (net.edge j))) e (sound.edges i) in
      let below = subst (Each (λ j. j < i)) e opens_below in
      let apart = subst Apart e (Apart-drop (net.node i).machine.ended _ (tree.apart i)) in
      let d : c ≢ i = (λ z. let b = below.0 in omega arith) in
      let edge-c : (with_turn net root i o).edge c ≡ net.edge c = rw (ne-eqb c i d, e, eq-eqb c c refl) (h ∙ ap (current_edge net.edge) e) in (
        rw (node-other c d, edge-c) edges.0,
        Each-two _ _ _ cs (λ j p q. edge-mine j c cs e p.0 q p.1) (Each-two _ _ (λ j. (j < i) × IsEdge ((net.node j).done) (net.edge j)) cs (λ j b x. (b, x)) below.1 edges.1) apart.0,
      )

  -- an item was taken from the current child's edge
  was_taken : (it : Item P) → current_edge net.edge (open_ins (net.node i)) ≡ it ∷ o.input → (os : List ℕ) → open_ins (net.node i) ≡ os → (b : Bool) → is_end it ≡ b →
      Reads (drop (cond b ((net.node i).machine.ended + 1) (net.node i).machine.ended) (net.node i).ins) (take (cond b ((net.node i).machine.ended + 1) (net.node i).machine.ended) (net.node i).ins)
  was_taken it h [] e b q = absurd (let z : [] ≡ it ∷ o.input = sym (ap (current_edge net.edge) e) ∙ h in cc)
  was_taken it h (c ∷ cs) e false q =
      let edges = subst (Each (λ j. IsEdge ((net.node j).done) (net.edge j))) e (sound.edges i) in
      let below = subst (Each (λ j. j < i)) e opens_below in
      let apart = subst Apart e (Apart-drop (net.node i).machine.ended _ (tree.apart i)) in
      let d : c ≢ i = (λ z. let b = below.0 in omega arith) in
      let first : net.edge c ≡ it ∷ o.input = sym (ap (current_edge net.edge) e) ∙ h in
      let edge-c : (with_turn net root i o).edge c ≡ o.input = rw (ne-eqb c i d, e, eq-eqb c c refl) refl in (
        subst (Each Sound_edge) (sym e) (
          rw (node-other c d, edge-c) (rest-edge ((net.node c).done) it o.input q (subst (IsEdge ((net.node c).done)) first edges.0)),
          Each-two _ _ _ cs (λ j p r. edge-mine j c cs e p.0 r p.1) (Each-two _ _ (λ j. (j < i) × IsEdge ((net.node j).done) (net.edge j)) cs (λ j b x. (b, x)) below.1 edges.1) apart.0,
        ),
        closed-stays i,
      )
  was_taken it h (c ∷ cs) e true q =
      let edges = subst (Each (λ j. IsEdge ((net.node j).done) (net.edge j))) e (sound.edges i) in
      let below = subst (Each (λ j. j < i)) e opens_below in
      let apart = subst Apart e (Apart-drop (net.node i).machine.ended _ (tree.apart i)) in
      let first : net.edge c ≡ it ∷ o.input = sym (ap (current_edge net.edge) e) ∙ h in (
        subst (Each Sound_edge) (sym (drop-next (net.node i).machine.ended (net.node i).ins c cs e))
            (Each-two _ _ _ cs (λ j p r. edge-mine j c cs e p.0 r p.1) (Each-two _ _ (λ j. (j < i) × IsEdge ((net.node j).done) (net.edge j)) cs (λ j b x. (b, x)) below.1 edges.1) apart.0),
        Each-next _ (net.node i).machine.ended (net.node i).ins c cs e (closed-stays i) (done-stays c (done-by-end ((net.node c).done) it o.input q (subst (IsEdge ((net.node c).done)) first edges.0))),
      )

  by_ended : (e : ℕ) → o.node.machine.ended ≡ e → Reads (drop e (net.node i).ins) (take e (net.node i).ins) → Reads (open_ins o.node) (take o.node.machine.ended o.node.ins)
  by_ended e h r = subst (λ xs. Reads (drop o.node.machine.ended xs) (take o.node.machine.ended xs)) (sym same) (subst (λ z. Reads (drop z (net.node i).ins) (take z (net.node i).ins)) (sym h) r)

  reads-here : Reads (open_ins o.node) (take o.node.machine.ended o.node.ins)
  reads-here = elim moved.taken [
    | inl p ↦ by_ended (net.node i).machine.ended p.1 (left_alone p.0 (open_ins (net.node i)) refl, closed-stays i)
    | inr p ↦ by_ended _ p.2 (was_taken p.0 p.1 (open_ins (net.node i)) refl (is_end p.0) refl)
  ]

  pub sound-turn : IsSound (with_turn net root i o)
  sound-turn = record {
    nodes = λ k. either IsNode (k == i) _ _ (λ _. moved.node) (λ _. sound.nodes k);
    edges = λ k. elim (eqb_tells k i) [
      | inl p ↦ subst (λ z. Each Sound_edge (open_ins ((with_turn net root i o).node z))) (sym p.1) (subst (λ n. Each Sound_edge (open_ins n)) (sym node-here) reads-here.0)
      | inr p ↦ subst (λ n. Each Sound_edge (open_ins n)) (sym (node-other k p.1)) (Each-two _ _ _ _ (λ j h q. edge-away k j p.1 h q) (sound.edges k) (Each-two _ _ (λ j. (tree.parent j ≡ k) × (j ≢ root)) _ (λ j a b. (a, b)) (opens_owned k) (opens_inner k)))
    ];
    closed = λ k. elim (eqb_tells k i) [
      | inl p ↦ subst (λ z. Each (λ j. ((with_turn net root i o).node j).done ≡ true) (take ((with_turn net root i o).node z).machine.ended ((with_turn net root i o).node z).ins)) (sym p.1) (subst (λ n. Each (λ j. ((with_turn net root i o).node j).done ≡ true) (take n.machine.ended n.ins)) (sym node-here) reads-here.1)
      | inr p ↦ subst (λ n. Each (λ j. ((with_turn net root i o).node j).done ≡ true) (take n.machine.ended n.ins)) (sym (node-other k p.1)) (closed-stays k)
    ];
  }

here : {A : Type 0} (i : ℕ) (x y : A) → x ≡ cond (i == i) x y
here i x y = rw (eq-eqb i i refl)

-- every turn, with or without an event, keeps a sound net sound
pub sound-step : {S P F : Type 0} (net : Net S P F) (root : ℕ) (tree : IsTree (ins_of net) root) (sound : IsSound net) (i cap : ℕ) (ch : Choice S P F) → IsSound (step net root cap i ch)
sound-step {S} {P} {F} net root tree sound i cap ch =
    sound-turn net root tree sound i (turn_at net root cap i ch)
    (ap (λ (n : Node S P F). n.ins) (here i (turn_at net root cap i ch).node (net.node i)) ∙ (step-same net root cap i ch i).ins)
    (turn-moved (i == root) (net.node i) (sound.nodes i) _ _ cap ch)
