-- A turn without an event keeps how all nodes end.
use Rattle.std.proofs.Common.{◌≡◌, ◌≢◌, ℕ, zero, suc, ◌+◌, ◌<◌, true, false, cond, ◌⊎◌, inl, inr, List, [], ◌∷◌, ◌++◌, map, drop, Some, None, is_some, refl, ap, sym, ◌∙◌, subst, append_assoc, arith}
use Rattle.std.proofs.lemmas.Bool.{eqb-true, eq-eqb}
use Rattle.std.proofs.lemmas.Bool.Decides.{eqb_tells}
use Rattle.std.specs.Prelude.{◌==◌}
use Rattle.cloud_points.specs.Meaning.{KeepsCutting}
use Rattle.cloud_points.specs.Marks.{Mark, At, View_end, End, Item, Points, End_view, End_all, marks, all_marks, to_end, is_end}
use Rattle.network_theory.specs.Machine.{after_all, output}
use Rattle.network_theory.proofs.MachineLaws.{after_all-append, output-append}
use Rattle.network_theory.specs.Net.{Node, Net, Choice, Quiet, Outcome, Took, taken, in_hand, still_end, remains, last_of, open_ins, IsQuiet, inputs_of, flow, rest, current_edge, is_current, with_turn, turn_at, step}
use Rattle.network_theory.specs.Shape.{Each, Apart, IsTree, ins_of}
use Rattle.network_theory.specs.History.{brings}
use Rattle.network_theory.proofs.Turns.{either, TakenAs, took}
use Rattle.network_theory.proofs.Rows.{Stands, Takes, turn-keeps, same_last}

Each-drop : {A : Type 0} (P : A → Type 0) (n : ℕ) (xs : List A) → Each P xs → Each P (drop n xs)
Each-drop P zero xs h = h
Each-drop P (suc n) [] h = h
Each-drop P (suc n) (x ∷ xs) h = Each-drop P n xs h.1

Apart-drop : (n : ℕ) (xs : List ℕ) → Apart xs → Apart (drop n xs)
Apart-drop zero xs h = h
Apart-drop (suc n) [] h = h
Apart-drop (suc n) (x ∷ xs) h = Apart-drop n xs h.1

Each-map : {A : Type 0} (P Q : A → Type 0) (xs : List A) → ((x : A) → P x → Q x) → Each P xs → Each Q xs
Each-map P Q [] f h = tt
Each-map P Q (x ∷ xs) f h = (f x h.0, Each-map P Q xs f h.1)

Each-both : {A : Type 0} (P Q : A → Type 0) (xs : List A) → Each P xs → Each Q xs → Each (λ x. P x × Q x) xs
Each-both P Q [] h g = tt
Each-both P Q (x ∷ xs) h g = ((h.0, g.0), Each-both P Q xs h.1 g.1)

pub inputs-same : {P : Type 0} (f g : ℕ → List (Mark P)) (js : List ℕ) → Each (λ j. f j ≡ g j) js → inputs_of f js ≡ inputs_of g js
inputs-same f g [] h = refl
inputs-same f g (j ∷ js) h = ap (λ x. to_end x ++ inputs_of f js) h.0 ∙ ap (λ x. to_end (g j) ++ x) (inputs-same f g js h.1)

drop-next : {A : Type 0} (n : ℕ) (xs : List A) (y : A) (ys : List A) → drop n xs ≡ y ∷ ys → drop (n + 1) xs ≡ ys
drop-next zero xs y ys h = rw h
drop-next (suc n) [] y ys h = cc
drop-next (suc n) (x ∷ xs) y ys h = let e : suc n + 1 ≡ suc (n + 1) = omega arith in rw e (drop-next n xs y ys h)

ne-eqb : (a b : ℕ) → a ≢ b → (a == b) ≡ false
ne-eqb a b h = elim (eqb_tells a b) [ inl p ↦ absurd (h p.1) | inr p ↦ p.0 ]

-- a node that took an item still gives what it gave for the item's marks and what comes after them
module _ {S P F : Type 0} (n n' : Node S P F) (it : Item P) (t : TakenAs n it n') (empty : n.hand ≡ None) (no_end : n.ending ≡ false) (inner : n.leaf ≡ false) where
  pub remains-taken : (x : List (Mark P)) → remains n (marks it ++ x) ≡ remains n' x
  remains-taken x = sym (
      rw (t.leaf, inner) (sym (append_assoc (in_hand n'.hand) (still_end n') (output n'.work n'.machine x)))
      ∙ ap (λ r. r ++ output n'.work n'.machine x) t.given
      ∙ ap (λ w. output n.work n.machine (marks it) ++ output w n'.machine x) t.work
      ∙ ap (λ m. output n.work n.machine (marks it) ++ output n.work m x) t.machine
      ∙ sym (output-append n.work n.machine (marks it) x)
      ∙ rw (empty, no_end, inner))

  after-taken : (x : List (Mark P)) → after_all n.work n.machine (marks it ++ x) ≡ after_all n'.work n'.machine x
  after-taken x = after_all-append n.work n.machine (marks it) x ∙ ap (λ m. after_all n.work m x) (sym t.machine) ∙ ap (λ w. after_all w n'.machine x) (sym t.work)

  pub last-taken : (x : List (Mark P)) → last_of n (marks it ++ x) ≡ last_of n' x
  last-taken x = same_last _ _ _ _ _ _ _ _
      (rw (t.leaf, inner) (ap Some (after-taken x)))
      (rw (t.leaf, inner) (ap (λ m. m.fault) (after-taken x)))
      (rw (remains-taken x, t.views))
      (rw (remains-taken x, t.points))

pub to_end-points : {P : Type 0} (ps : List P) (y : List (Mark P)) → to_end (map At ps ++ y) ≡ map At ps ++ to_end y
to_end-points [] y = refl
to_end-points (p ∷ ps) y = ap (λ r. At p ∷ r) (to_end-points ps y)

pub ended-taken : {S P F : Type 0} (n : Node S P F) (it : Item P) → (taken Quiet n it).machine.ended ≡ cond (is_end it) (n.machine.ended + 1) n.machine.ended
ended-taken n (Points ps) = either (λ (m : Node _ _ _). m.machine.ended ≡ n.machine.ended) (is_some n.machine.fault) _ _ (λ _. refl) (λ _. refl)
ended-taken n End_view = either (λ (m : Node _ _ _). m.machine.ended ≡ n.machine.ended) (is_some n.machine.fault) _ _ (λ _. refl) (λ _. refl)
ended-taken n (End_all cut) = either (λ (m : Node _ _ _). m.machine.ended ≡ n.machine.ended + 1) (n.machine.ended + 1 == n.machine.inputs) _ _ (λ _. refl) (λ _. refl)

-- what the inputs still bring, by the item that is taken from the first of them
inputs-taken : {P : Type 0} (f g : ℕ → List (Mark P)) (it : Item P) (ended : ℕ) (ins : List ℕ) (c : ℕ) (cs : List ℕ) → drop ended ins ≡ c ∷ cs → f c ≡ marks it ++ g c → Each (λ j. f j ≡ g j) cs → inputs_of f (c ∷ cs) ≡ marks it ++ inputs_of g (drop (cond (is_end it) (ended + 1) ended) ins)
inputs-taken f g (Points ps) ended ins c cs e h others = rw e (ap (λ x. to_end x ++ inputs_of f cs) h ∙ ap (λ x. x ++ inputs_of f cs) (to_end-points ps (g c)) ∙ append_assoc (map At ps) (to_end (g c)) _ ∙ ap (λ x. map At ps ++ (to_end (g c) ++ x)) (inputs-same f g cs others))
inputs-taken f g End_view ended ins c cs e h others = rw e (ap (λ x. to_end x ++ inputs_of f cs) h ∙ ap (λ x. View_end ∷ (to_end (g c) ++ x)) (inputs-same f g cs others))
inputs-taken f g (End_all cut) ended ins c cs e h others = rw (drop-next ended ins c cs e) (ap (λ x. to_end x ++ inputs_of f cs) h ∙ ap (λ x. End cut ∷ x) (inputs-same f g cs others))

-- how the flow above a node was and is, where an item was taken from the edge above c
abbrev pub Compares : {P : Type 0} → ℕ → Item P → (ℕ → List (Mark P)) → (ℕ → List (Mark P)) → ℕ → Type 0
Compares c it f g k = (k ≢ c → f k ≡ g k) × (k ≡ c → f k ≡ marks it ++ g k)

-- one level of a flow
abbrev pub level : {S P F : Type 0} → List (Item P) → Node S P F → (ℕ → List (Mark P)) → List (Mark P)
level edge n f = all_marks edge ++ remains n (inputs_of f (open_ins n))

module _ {S P F : Type 0} (net : Net S P F) (root : ℕ) (tree : IsTree (ins_of net) root) (i : ℕ) (o : Outcome S P F) where
  node-here : (with_turn net root i o).node i ≡ o.node
  node-here = rw (eq-eqb i i refl)

  edge-here : (with_turn net root i o).edge i ≡ o.out
  edge-here = rw (eq-eqb i i refl)

  node-other : (k : ℕ) → (k == i) ≡ false → (with_turn net root i o).node k ≡ net.node k
  node-other k h = rw h

  edge-other : (k : ℕ) → (k == i) ≡ false → is_current k (open_ins (net.node i)) ≡ false → (with_turn net root i o).edge k ≡ net.edge k
  edge-other k h c = rw (h, c)

  opens_below : (k : ℕ) → Each (λ j. j < k) (open_ins (net.node k))
  opens_below k = Each-drop _ (net.node k).machine.ended _ (tree.below k)

  opens_owned : (k : ℕ) → Each (λ j. tree.parent j ≡ k) (open_ins (net.node k))
  opens_owned k = Each-drop _ (net.node k).machine.ended _ (tree.owned k)

  opens_apart : (k : ℕ) → Apart (open_ins (net.node k))
  opens_apart k = Apart-drop (net.node k).machine.ended _ (tree.apart k)

  -- a turn that takes nothing
  module _ (stands : Stands (i == root) (net.node i) (current_edge net.edge (open_ins (net.node i))) (net.edge i) o) where
    edge-stands : (k : ℕ) (os : List ℕ) → open_ins (net.node i) ≡ os → (k == i) ≡ false → (with_turn net root i o).edge k ≡ net.edge k
    edge-stands k [] e h = rw (h, e)
    edge-stands k (j ∷ js) e h = rw (h, e) (either (λ z. z ≡ net.edge k) (k == j) _ _
        (λ t. stands.input_stays ∙ ap (current_edge net.edge) e ∙ ap net.edge (sym (eqb-true k j t)))
        (λ t. refl))

    level-here : (f g : ℕ → List (Mark P)) → i ≢ root → inputs_of f (open_ins (net.node i)) ≡ inputs_of g (open_ins (net.node i)) → level ((with_turn net root i o).edge i) ((with_turn net root i o).node i) f ≡ level (net.edge i) (net.node i) g
    level-here f g r h =
        ap (λ e. level e ((with_turn net root i o).node i) f) edge-here ∙ ap (λ n. level o.out n f) node-here
        ∙ ap (λ os. all_marks o.out ++ remains o.node (inputs_of f os)) stands.ins
        ∙ ap (λ x. all_marks o.out ++ remains o.node x) h
        ∙ stands.flows (ne-eqb i root r) (inputs_of g (open_ins (net.node i)))

    level-other : (k : ℕ) (f g : ℕ → List (Mark P)) → (k == i) ≡ false → inputs_of f (open_ins (net.node k)) ≡ inputs_of g (open_ins (net.node k)) → level ((with_turn net root i o).edge k) ((with_turn net root i o).node k) f ≡ level (net.edge k) (net.node k) g
    level-other k f g t h =
        ap (λ e. level e ((with_turn net root i o).node k) f) (edge-stands k (open_ins (net.node i)) refl t) ∙ ap (λ n. level (net.edge k) n f) (node-other k t)
        ∙ ap (λ x. all_marks (net.edge k) ++ remains (net.node k) x) h

    level-stands : (k : ℕ) (f g : ℕ → List (Mark P)) → k ≢ root → inputs_of f (open_ins (net.node k)) ≡ inputs_of g (open_ins (net.node k)) → level ((with_turn net root i o).edge k) ((with_turn net root i o).node k) f ≡ level (net.edge k) (net.node k) g
    level-stands k f g = elim (eqb_tells k i) [
      | inl p ↦ subst (λ z. z ≢ root → inputs_of f (open_ins (net.node z)) ≡ inputs_of g (open_ins (net.node z)) → level ((with_turn net root i o).edge z) ((with_turn net root i o).node z) f ≡ level (net.edge z) (net.node z) g) (sym p.1) (level-here f g)
      | inr p ↦ λ r h. level-other k f g p.0 h
    ]

    flow-stands : (d k : ℕ) → k ≢ root → flow (with_turn net root i o) d k ≡ flow net d k
    flow-stands zero k r = refl
    flow-stands (suc d) k r = level-stands k (flow (with_turn net root i o) d) (flow net d) r
        (inputs-same _ _ _ (Each-map _ _ _ (λ j h. flow-stands d j h) (Each-drop _ (net.node k).machine.ended _ (tree.no_root k))))

    last-level : (k : ℕ) (f g : ℕ → List (Mark P)) → inputs_of f (open_ins (net.node k)) ≡ inputs_of g (open_ins (net.node k)) → last_of ((with_turn net root i o).node k) (inputs_of f (open_ins ((with_turn net root i o).node k))) ≡ last_of (net.node k) (inputs_of g (open_ins (net.node k)))
    last-level k f g = elim (eqb_tells k i) [
      | inl p ↦ subst (λ z. inputs_of f (open_ins (net.node z)) ≡ inputs_of g (open_ins (net.node z)) → last_of ((with_turn net root i o).node z) (inputs_of f (open_ins ((with_turn net root i o).node z))) ≡ last_of (net.node z) (inputs_of g (open_ins (net.node z)))) (sym p.1)
          (λ h. ap (λ n. last_of n (inputs_of f (open_ins n))) node-here ∙ ap (λ os. last_of o.node (inputs_of f os)) stands.ins ∙ ap (λ x. last_of o.node x) h ∙ stands.ends (inputs_of g (open_ins (net.node i))))
      | inr p ↦ λ h. ap (λ n. last_of n (inputs_of f (open_ins n))) (node-other k p.0) ∙ ap (λ x. last_of (net.node k) x) h
    ]

    inputs-level : (k : ℕ) (f g : ℕ → List (Mark P)) → inputs_of f (open_ins (net.node k)) ≡ inputs_of g (open_ins (net.node k)) → inputs_of f (open_ins ((with_turn net root i o).node k)) ≡ inputs_of g (open_ins (net.node k))
    inputs-level k f g = elim (eqb_tells k i) [
      | inl p ↦ subst (λ z. inputs_of f (open_ins (net.node z)) ≡ inputs_of g (open_ins (net.node z)) → inputs_of f (open_ins ((with_turn net root i o).node z)) ≡ inputs_of g (open_ins (net.node z))) (sym p.1)
          (λ h. ap (λ n. inputs_of f (open_ins n)) node-here ∙ ap (inputs_of f) stands.ins ∙ h)
      | inr p ↦ λ h. ap (λ n. inputs_of f (open_ins n)) (node-other k p.0) ∙ h
    ]

    pub brings-stands : (k : ℕ) → brings (with_turn net root i o) k ≡ brings net k
    brings-stands k = inputs-level k (flow (with_turn net root i o) k) (flow net k)
        (inputs-same _ _ _ (Each-map _ _ _ (λ j h. flow-stands k j h) (Each-drop _ (net.node k).machine.ended _ (tree.no_root k))))

    last-stands : (k : ℕ) → rest (with_turn net root i o) k ≡ rest net k
    last-stands k = last-level k (flow (with_turn net root i o) k) (flow net k)
        (inputs-same _ _ _ (Each-map _ _ _ (λ j h. flow-stands k j h) (Each-drop _ (net.node k).machine.ended _ (tree.no_root k))))

  -- a turn that takes an item from the edge above c
  module _ (law : KeepsCutting (net.node i).work) (c : ℕ) (cs : List ℕ) (current : open_ins (net.node i) ≡ c ∷ cs) (it : Item P) (left : List (Item P)) (first : net.edge c ≡ it ∷ left) (outcome : o ≡ record { node = taken Quiet (net.node i) it; input = left; out = net.edge i; turned = Took }) (empty : (net.node i).hand ≡ None) (no_end : (net.node i).ending ≡ false) (inner : (net.node i).leaf ≡ false) where
    t : TakenAs (net.node i) it (taken Quiet (net.node i) it)
    t = took (net.node i) law empty no_end it

    c_below : c < i
    c_below = (subst (Each (λ j. j < i)) current (opens_below i)).0

    c_owned : tree.parent c ≡ i
    c_owned = (subst (Each (λ j. tree.parent j ≡ i)) current (opens_owned i)).0

    cs_apart : Each (λ j. j ≢ c) cs
    cs_apart = (subst Apart current (opens_apart i)).0

    not_i : (c == i) ≡ false
    not_i = ne-eqb c i (λ e. let h = c_below in omega arith)

    edge-c : (with_turn net root i o).edge c ≡ left
    edge-c = rw (not_i, current, eq-eqb c c refl, outcome)

    edge-i : (with_turn net root i o).edge i ≡ net.edge i
    edge-i = edge-here ∙ ap (λ p. p.out) outcome

    edge-k : (k : ℕ) → (k == i) ≡ false → k ≢ c → (with_turn net root i o).edge k ≡ net.edge k
    edge-k k h g = rw (h, current, ne-eqb k c g)

    node-i : (with_turn net root i o).node i ≡ taken Quiet (net.node i) it
    node-i = node-here ∙ ap (λ p. p.node) outcome

    -- at the node itself
    inputs-here : (f g : ℕ → List (Mark P)) → Each (Compares c it f g) (open_ins (net.node i)) → inputs_of f (open_ins (net.node i)) ≡ marks it ++ inputs_of g (open_ins (taken Quiet (net.node i) it))
    inputs-here f g h =
        let known = subst (Each (Compares c it f g)) current h in
        ap (inputs_of f) current
        ∙ inputs-taken f g it (net.node i).machine.ended (net.node i).ins c cs current (known.0.1 refl)
        (Each-map _ _ cs (λ j p. p.0.0 p.1) (Each-both (Compares c it f g) (λ j. j ≢ c) cs known.1 cs_apart))
        ∙ ap (λ e. marks it ++ inputs_of g (drop e (net.node i).ins)) (sym (ended-taken (net.node i) it))
        ∙ ap (λ xs. marks it ++ inputs_of g (drop (taken Quiet (net.node i) it).machine.ended xs)) (sym t.ins)

    -- at any other node
    inputs-other : (k : ℕ) (f g : ℕ → List (Mark P)) → k ≢ i → Each (Compares c it f g) (open_ins (net.node k)) → inputs_of f (open_ins (net.node k)) ≡ inputs_of g (open_ins (net.node k))
    inputs-other k f g ne h = inputs-same f g _ (Each-map _ _ _ (λ j p. p.0.0 (λ e. ne (sym p.1 ∙ ap tree.parent e ∙ c_owned))) (Each-both (Compares c it f g) (λ j. tree.parent j ≡ k) _ h (opens_owned k)))

    level-mine : (f g : ℕ → List (Mark P)) → Each (Compares c it f g) (open_ins (net.node i)) → level (net.edge i) (net.node i) f ≡ level ((with_turn net root i o).edge i) ((with_turn net root i o).node i) g
    level-mine f g h =
        ap (λ x. all_marks (net.edge i) ++ remains (net.node i) x) (inputs-here f g h)
        ∙ ap (λ r. all_marks (net.edge i) ++ r) (remains-taken (net.node i) (taken Quiet (net.node i) it) it t empty no_end inner _)
        ∙ ap (λ n. level (net.edge i) n g) (sym node-i) ∙ ap (λ es. level es ((with_turn net root i o).node i) g) (sym edge-i)

    level-taken : (k : ℕ) (f g : ℕ → List (Mark P)) → Each (Compares c it f g) (open_ins (net.node k)) → ((k == i) ≡ true) × (k ≡ i) ⊎ ((k == i) ≡ false) × (k ≢ i) →
        (k ≢ c → level (net.edge k) (net.node k) f ≡ level ((with_turn net root i o).edge k) ((with_turn net root i o).node k) g) × (k ≡ c → level (net.edge k) (net.node k) f ≡ marks it ++ level ((with_turn net root i o).edge k) ((with_turn net root i o).node k) g)
    level-taken k f g h (inl p) = (
      (λ ne. subst (λ z. Each (Compares c it f g) (open_ins (net.node z)) → level (net.edge z) (net.node z) f ≡ level ((with_turn net root i o).edge z) ((with_turn net root i o).node z) g) (sym p.1) (level-mine f g) h),
      (λ e. absurd (let b = c_below in let d : c ≡ i = sym e ∙ p.1 in omega arith)),
    )
    level-taken k f g h (inr p) = (
      (λ ne. ap (λ x. all_marks (net.edge k) ++ remains (net.node k) x) (inputs-other k f g p.1 h)
          ∙ ap (λ n. level (net.edge k) n g) (sym (node-other k p.0)) ∙ ap (λ e. level e ((with_turn net root i o).node k) g) (sym (edge-k k p.0 ne))),
      (λ e. ap (λ x. all_marks (net.edge k) ++ remains (net.node k) x) (inputs-other k f g p.1 h)
          ∙ ap (λ es. all_marks es ++ remains (net.node k) (inputs_of g (open_ins (net.node k)))) (ap net.edge e ∙ first)
          ∙ append_assoc (marks it) (all_marks left) _
          ∙ ap (λ n. marks it ++ level left n g) (sym (node-other k p.0)) ∙ ap (λ es. marks it ++ level es ((with_turn net root i o).node k) g) (sym (ap (with_turn net root i o).edge e ∙ edge-c))),
    )

    flow-compares : (d k : ℕ) → k < d → Compares c it (flow net d) (flow (with_turn net root i o) d) k
    flow-compares zero k h = absurd (omega arith)
    flow-compares (suc d) k h = level-taken k (flow net d) (flow (with_turn net root i o) d) (Each-map _ _ _ (λ j b. flow-compares d j (omega arith)) (opens_below k)) (eqb_tells k i)

    pub brings-taken : (k : ℕ) → brings net k ≡ cond (k == i) (marks it) [] ++ brings (with_turn net root i o) k
    brings-taken k =
        let below : Each (Compares c it (flow net k) (flow (with_turn net root i o) k)) (open_ins (net.node k)) = Each-map _ _ _ (λ j b. flow-compares k j b) (opens_below k) in
        elim (eqb_tells k i) [
          | inl p ↦ subst (λ z. Each (Compares c it (flow net k) (flow (with_turn net root i o) k)) (open_ins (net.node z)) → inputs_of (flow net k) (open_ins (net.node z)) ≡ marks it ++ inputs_of (flow (with_turn net root i o) k) (open_ins ((with_turn net root i o).node z))) (sym p.1)
              (λ b. inputs-here _ _ b ∙ ap (λ n. marks it ++ inputs_of (flow (with_turn net root i o) k) (open_ins n)) (sym node-i)) below ∙ ap (λ b. cond {A = List (Mark P)} b (marks it) [] ++ brings (with_turn net root i o) k) (sym p.0)
          | inr p ↦ inputs-other k (flow net k) (flow (with_turn net root i o) k) p.1 below ∙ ap (λ n. inputs_of (flow (with_turn net root i o) k) (open_ins n)) (sym (node-other k p.0)) ∙ ap (λ b. cond {A = List (Mark P)} b (marks it) [] ++ brings (with_turn net root i o) k) (sym p.0)
        ]

    last-taken-at : (k : ℕ) → rest (with_turn net root i o) k ≡ rest net k
    last-taken-at k =
        let below : Each (Compares c it (flow net k) (flow (with_turn net root i o) k)) (open_ins (net.node k)) = Each-map _ _ _ (λ j b. flow-compares k j b) (opens_below k) in
        elim (eqb_tells k i) [
          | inl p ↦ subst (λ z. Each (Compares c it (flow net k) (flow (with_turn net root i o) k)) (open_ins (net.node z)) → last_of ((with_turn net root i o).node z) (inputs_of (flow (with_turn net root i o) k) (open_ins ((with_turn net root i o).node z))) ≡ last_of (net.node z) (inputs_of (flow net k) (open_ins (net.node z)))) (sym p.1)
              (λ b. ap (λ n. last_of n (inputs_of (flow (with_turn net root i o) k) (open_ins n))) node-i
              ∙ sym (last-taken (net.node i) (taken Quiet (net.node i) it) it t empty no_end inner _)
              ∙ ap (last_of (net.node i)) (sym (inputs-here _ _ b))) below
          | inr p ↦ ap (λ n. last_of n (inputs_of (flow (with_turn net root i o) k) (open_ins n))) (node-other k p.0)
              ∙ ap (last_of (net.node k)) (sym (inputs-other k (flow net k) (flow (with_turn net root i o) k) p.1 below))
        ]

-- a turn without an event keeps how each node ends
module _ {S P F : Type 0} (net : Net S P F) (root : ℕ) (tree : IsTree (ins_of net) root) (i cap : ℕ) (ch : Choice S P F) (law : KeepsCutting (net.node i).work) (quiet : IsQuiet ch (net.node i)) where
  by_row : (k : ℕ) (os : List ℕ) → open_ins (net.node i) ≡ os → Takes (net.node i) (current_edge net.edge os) (net.edge i) (turn_at net root cap i ch) → rest (step net root cap i ch) k ≡ rest net k
  by_row k [] e t = absurd (let f = t.first in cc)
  by_row k (c ∷ cs) e t = last-taken-at net root tree i (turn_at net root cap i ch) law c cs e t.item t.rest t.first t.outcome t.hand t.ending t.leaf k

  pub last-step : (k : ℕ) → rest (step net root cap i ch) k ≡ rest net k
  last-step k = elim (turn-keeps (i == root) (net.node i) (current_edge net.edge (open_ins (net.node i))) (net.edge i) cap ch quiet) [
    | inl s ↦ last-stands net root tree i (turn_at net root cap i ch) s k
    | inr t ↦ by_row k (open_ins (net.node i)) refl t
  ]
