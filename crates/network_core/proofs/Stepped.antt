-- A turn among the queues of a net is a step of the net.
use Rattle.std.proofs.Common.{◌≡◌, ◌≢◌, ℕ, zero, suc, ◌≤◌, ◌<◌, Bool, true, cond, List, [], ◌∷◌, length, drop, Option, Some, None, refl, ap, subst, sym, ◌∙◌, inl, inr, arith, length-set, take, ◌++◌}
use Rattle.std.proofs.Math.Path.{fun_ext}
use Rattle.std.proofs.Math.Seq.{drop-cons}
use Rattle.std.specs.Prelude.{slice_set, slice_get, ◌==◌}
use Rattle.std.proofs.lemmas.Bool.{eq-eqb}
use Rattle.std.proofs.lemmas.Bool.Decides.{eqb_tells}
use Rattle.circular_buffer.specs.Buffer.{Buffer}
use Rattle.circular_buffer.proofs.Places.{slice_get-set_same, slice_get-set_other}
use Rattle.cloud_points.specs.declared.point.Point.{Point}
use Rattle.cloud_points.specs.declared.item.Item as code
use Rattle.cloud_points.specs.declared.faults.StageFault.{StageFault}
use Rattle.cloud_points.specs.declared.work.Work.{Ghosts}
use Rattle.cloud_points.specs.Marks.{Item}
use Rattle.cloud_points.specs.Bodies.{bodies, numbers}
use Rattle.network_theory.specs.Net as net
use Rattle.network_theory.specs.Forest.{children}
use Rattle.network_theory.specs.History.{points_taken, points_in_step}
use Rattle.network_core.specs.declared.node.Node.{Node}
use Rattle.network_core.specs.declared.turned.Turned.{Turned}
use Rattle.network_core.specs.Shown.{shown, choice, left, turned}
use Rattle.network_core.specs.Wires.{queue_at, queue_of, IsChild, IsWired}
use Rattle.network_core.specs.Calm.{Obeys}
use Rattle.network_core.specs.Holding.{HoldsMore}
use Rattle.network_core.proofs.Edges.{refilled}
use Rattle.network_core.specs.Nets.{shown_or, net_with, choice_of}

same_net : {S P F : Type 0} (n n' : ℕ → net.Node S P F) (e e' : ℕ → List (Item P)) (s s' : ℕ → List ℕ) → n ≡ n' → e ≡ e' → s ≡ s' → ◌≡◌ {A = net.Net S P F} (record { node = n; edge = e; numbers = s }) (record { node = n'; edge = e'; numbers = s' })
same_net n n' e e' s s' a b c = cc

none_left : (n : ℕ) (xs : List ℕ) → length xs ≤ n → drop n xs ≡ []
none_left zero [] h = refl
none_left zero (x ∷ xs) h = absurd (omega arith)
none_left (suc n) [] h = refl
none_left (suc n) (x ∷ xs) h = none_left n xs (omega arith)

-- the room of a queue is of no matter to the root
any_cap : {S P F : Type 0} (b : Bool) (x y : ℕ) (ch : net.Choice S P F) (n : net.Node S P F) (input out : List (Item P)) (hand : Option (Item P)) → b ≡ true → net.with_hand b x ch n input out hand ≡ net.with_hand b y ch n input out hand
any_cap b x y ch n input out None h = refl
any_cap b x y ch n input out (Some i) h = rw h refl

module _ {W S : Type 0} (g : Ghosts W S) (beyond : net.Node S Point StageFault) (ns : List (Node W)) (ins : List (List ℕ)) (es es' : List (Buffer code.Item)) (cap i : ℕ) (n m : Node W) (child : Option ℕ) (t : Turned)
    (inside : i < length ns) (there : slice_get ns i ≡ Some n) (is_child : IsChild ns ins i child) (inputs : n.inputs ≡ length (children ins i)) (up_to : i ≤ length es)
    (rooms : (k : ℕ) → k < length es → (queue_at es k).capacity ≡ cap)
    (row : left (shown g (children ins i) m) (bodies (queue_of es' child).items) (bodies (queue_at es' i).items) t ≡ net.turn (i == length es) (queue_at es i).capacity (choice g n m) (shown g (children ins i) n) (bodies (queue_of es child).items) (bodies (queue_at es i).items))
    (above : numbers (queue_at es' i).items ≡ net.numbers_above (i == length es) (turned t) (numbers (queue_at es i).items) n.given)
    (took : numbers (queue_of es' child).items ≡ net.numbers_left (turned t) (numbers (queue_of es child).items))
    (others : (k : ℕ) → k ≢ i → child ≢ Some k → queue_at es' k ≡ queue_at es k) where
  abbrev old : net.Net S Point StageFault
  old = net_with g beyond ns ins es

  abbrev new : net.Net S Point StageFault
  new = net_with g beyond (slice_set ns i m) ins es'

  abbrev ch : net.Choice S Point StageFault
  ch = choice_of g (slice_get ns i) (slice_get (slice_set ns i m) i)

  ch-is : ch ≡ choice g n m
  ch-is = ap (λ x. choice_of g x (slice_get (slice_set ns i m) i)) there ∙ ap (choice_of g (Some n)) (slice_get-set_same ns i m inside)

  node-i : old.node i ≡ shown g (children ins i) n
  node-i = ap (shown_or g beyond (children ins i)) there

  -- what the node's open inputs are
  abbrev Opens : Option ℕ → List ℕ → Type 0
  Opens None os = os ≡ []
  Opens (Some c) os = (cs : List ℕ) × (os ≡ c ∷ cs)

  opens : (ch : Option ℕ) → IsChild ns ins i ch → Opens ch (drop n.ended (children ins i))
  opens None h = none_left n.ended (children ins i) (let a = h n there in omega (arith, a))
  opens (Some c) h =
      let a = h.1 n there in
      let lt : n.ended < length (children ins i) = (let b = a.0 in omega (arith, b)) in
      (drop (suc n.ended) (children ins i), drop-cons (children ins i) n.ended 0 lt ∙ ap (λ x. x ∷ drop (suc n.ended) (children ins i)) (sym a.1))

  abbrev os : List ℕ
  os = net.open_ins (old.node i)

  os-is : Opens child os
  os-is = subst (Opens child) (sym (ap net.open_ins node-i)) (opens child is_child)

  current-is : (c : Option ℕ) (xs : List ℕ) → Opens c xs → net.current_edge old.edge xs ≡ bodies (queue_of es c).items
  current-is None xs h = ap (net.current_edge old.edge) h
  current-is (Some c) xs h = ap (net.current_edge old.edge) h.1

  room-is : net.turn (i == length es) (queue_at es i).capacity (choice g n m) (shown g (children ins i) n) (bodies (queue_of es child).items) (bodies (queue_at es i).items)
      ≡ net.turn (i == length es) cap (choice g n m) (shown g (children ins i) n) (bodies (queue_of es child).items) (bodies (queue_at es i).items)
  room-is = elim (eqb_tells i (length es)) [
    | inl p ↦ any_cap (i == length es) (queue_at es i).capacity cap (choice g n m) (shown g (children ins i) n) (bodies (queue_of es child).items) (bodies (queue_at es i).items) (shown g (children ins i) n).hand p.0
    | inr p ↦ ap (λ x. net.turn (i == length es) x (choice g n m) (shown g (children ins i) n) (bodies (queue_of es child).items) (bodies (queue_at es i).items)) (rooms i (let q = p.1 in omega (arith, q, up_to)))
  ]

  abbrev o : net.Outcome S Point StageFault
  o = left (shown g (children ins i) m) (bodies (queue_of es' child).items) (bodies (queue_at es' i).items) t

  pub outcome : o ≡ net.turn_at old (length es) cap i ch
  outcome = row ∙ room-is
      ∙ ap (λ x. net.turn (i == length es) cap (choice g n m) (shown g (children ins i) n) x (bodies (queue_at es i).items)) (sym (current-is child os os-is))
      ∙ ap (λ x. net.turn (i == length es) cap (choice g n m) x (net.current_edge old.edge os) (bodies (queue_at es i).items)) (sym node-i)
      ∙ ap (λ x. net.turn (i == length es) cap x (old.node i) (net.current_edge old.edge os) (bodies (queue_at es i).items)) (sym ch-is)

  -- what the turn took from the current child's queue
  pub taken-is : points_taken (turned t) (bodies (queue_of es child).items) ≡ points_in_step old (length es) cap i ch i
  taken-is = ap (λ (x : net.Outcome S Point StageFault). points_taken x.turned (bodies (queue_of es child).items)) outcome
      ∙ ap (points_taken (net.turn_at old (length es) cap i ch).turned) (sym (current-is child os os-is))
      ∙ sym (ap (λ b. cond b (points_taken (net.turn_at old (length es) cap i ch).turned (net.current_edge old.edge os)) []) (eq-eqb i i refl))

  -- at a place that is the node's own, its current child's, or another's
  at_place : {A : Type 0} (f : Buffer code.Item → A) (here now : A) → here ≡ f (queue_at es' i) → now ≡ f (queue_of es' child) → (k : ℕ) → cond (k == i) here (cond (net.is_current k os) now (f (queue_at es k))) ≡ f (queue_at es' k)
  at_place {A} f here now h w k = elim (eqb_tells k i) [
    | inl p ↦ rw p.0 (h ∙ ap (λ z. f (queue_at es' z)) (sym p.1))
    | inr p ↦ rw p.0 (by_child child os os-is w others p.1)
  ]
    where
      by_child : (c : Option ℕ) (xs : List ℕ) → Opens c xs → now ≡ f (queue_of es' c) → ((k : ℕ) → k ≢ i → c ≢ Some k → queue_at es' k ≡ queue_at es k) → k ≢ i → cond (net.is_current k xs) now (f (queue_at es k)) ≡ f (queue_at es' k)
      by_child None xs q v r ne = rw q (ap f (sym (r k ne (λ e. cc))))
      by_child (Some c) xs q v r ne = ap (λ z. cond (net.is_current k z) now (f (queue_at es k))) q.1 ∙ elim (eqb_tells k c) [
        | inl p ↦ rw p.0 (v ∙ ap (λ z. f (queue_at es' z)) (sym p.1))
        | inr p ↦ rw p.0 (ap f (sym (r k ne (λ e. p.1 (let z : c ≡ k = cc in sym z)))))
      ]

  numbers_at : (k : ℕ) → cond (k == i) (net.numbers_above (i == length es) (turned t) (numbers (queue_at es k).items) (old.node i).sent) (cond (net.is_current k os) (net.numbers_left (turned t) (numbers (queue_at es k).items)) (numbers (queue_at es k).items)) ≡ numbers (queue_at es' k).items
  numbers_at k = elim (eqb_tells k i) [
    | inl p ↦ rw p.0 (ap (λ z. net.numbers_above (i == length es) (turned t) (numbers (queue_at es z).items) (old.node i).sent) p.1
        ∙ ap (λ (x : net.Node S Point StageFault). net.numbers_above (i == length es) (turned t) (numbers (queue_at es i).items) x.sent) node-i
        ∙ sym above ∙ ap (λ z. numbers (queue_at es' z).items) (sym p.1))
    | inr p ↦ rw p.0 (by_child child os os-is took others p.1)
  ]
    where
      by_child : (c : Option ℕ) (xs : List ℕ) → Opens c xs → numbers (queue_of es' c).items ≡ net.numbers_left (turned t) (numbers (queue_of es c).items) → ((k : ℕ) → k ≢ i → c ≢ Some k → queue_at es' k ≡ queue_at es k) → k ≢ i →
          cond (net.is_current k xs) (net.numbers_left (turned t) (numbers (queue_at es k).items)) (numbers (queue_at es k).items) ≡ numbers (queue_at es' k).items
      by_child None xs q v r ne = rw q (ap (λ (x : Buffer code.Item). numbers x.items) (sym (r k ne (λ e. cc))))
      by_child (Some c) xs q v r ne = ap (λ z. cond (net.is_current k z) (net.numbers_left (turned t) (numbers (queue_at es k).items)) (numbers (queue_at es k).items)) q.1 ∙ elim (eqb_tells k c) [
        | inl p ↦ rw p.0 (ap (λ z. net.numbers_left (turned t) (numbers (queue_at es z).items)) p.1 ∙ sym v ∙ ap (λ z. numbers (queue_at es' z).items) (sym p.1))
        | inr p ↦ rw p.0 (ap (λ (x : Buffer code.Item). numbers x.items) (sym (r k ne (λ e. p.1 (let z : c ≡ k = cc in sym z)))))
      ]

  with-o : net.with_turn old (length es) i o ≡ new
  with-o = same_net _ _ _ _ _ _
      (fun_ext (λ k. elim (eqb_tells k i) [
        | inl p ↦ rw p.0 (ap (shown_or g beyond (children ins i)) (sym (slice_get-set_same ns i m inside)) ∙ ap (λ z. shown_or g beyond (children ins z) (slice_get (slice_set ns i m) z)) (sym p.1))
        | inr p ↦ rw p.0 (ap (shown_or g beyond (children ins k)) (sym (slice_get-set_other ns i k m p.1)))
      ]))
      (fun_ext (at_place (λ (x : Buffer code.Item). bodies x.items) (bodies (queue_at es' i).items) (bodies (queue_of es' child).items) refl refl))
      (fun_ext numbers_at)

  pub stepped : new ≡ net.step old (length es) cap i ch
  stepped = sym with-o ∙ ap (net.with_turn old (length es) i) outcome

same_some : {A : Type 0} (x y : A) → Some x ≡ Some y → x ≡ y
same_some x y e = cc

-- a turn keeps how the nodes are joined
pub wired-after : {W : Type 0} (ns : List (Node W)) (ins : List (List ℕ)) (es es' : List (Buffer code.Item)) (cap i : ℕ) (n m : Node W) → IsWired ns ins es cap → i < length ns → slice_get ns i ≡ Some n → m.inputs ≡ n.inputs → length es' ≡ length es → ((k : ℕ) → (queue_at es' k).capacity ≡ (queue_at es k).capacity) → IsWired (slice_set ns i m) ins es' cap
wired-after ns ins es es' cap i n m w inside there same l rooms = record {
  lists = w.lists ∙ sym (length-set ns i m);
  edges = let a = w.edges in let b = length-set ns i m in omega (arith, a, b, l);
  most = let a = w.most in let b = length-set ns i m in omega (arith, a, b);
  inputs = λ k x e. elim (eqb_tells k i) [
    | inl p ↦ (let m_is : m ≡ x = same_some m x (sym (slice_get-set_same ns i m inside) ∙ ap (slice_get (slice_set ns i m)) (sym p.1) ∙ e) in
        ap (λ (z : Node _). z.inputs) (sym m_is) ∙ same ∙ w.inputs i n there ∙ ap (λ z. length (children ins z)) (sym p.1))
    | inr p ↦ w.inputs k x (sym (slice_get-set_other ns i k m p.1) ∙ e)
  ];
  below = w.below;
  rooms = λ k h. rooms k ∙ w.rooms k (omega (arith, l, h));
}

pub obeys-at : {W S : Type 0} (g : Ghosts W S) (ns : List (Node W)) (i : ℕ) (n m x y : Node W) → i < length ns → slice_get ns i ≡ Some n → Obeys g n m → slice_get ns i ≡ Some x → slice_get (slice_set ns i m) i ≡ Some y → Obeys g x y
obeys-at g ns i n m x y inside there ok e f =
    let a : n ≡ x = same_some n x (sym there ∙ e) in
    let b : m ≡ y = same_some m y (sym (slice_get-set_same ns i m inside) ∙ f) in
    subst (λ z. Obeys g z y) a (subst (λ z. Obeys g n z) b ok)

pub holds-at : {W S : Type 0} (g : Ghosts W S) (ns : List (Node W)) (i : ℕ) (n m x y : Node W) (taken : List Point) → i < length ns → slice_get ns i ≡ Some n → HoldsMore g n m taken → slice_get ns i ≡ Some x → slice_get (slice_set ns i m) i ≡ Some y → HoldsMore g x y taken
holds-at g ns i n m x y taken inside there more e f =
    let a : n ≡ x = same_some n x (sym there ∙ e) in
    let b : m ≡ y = same_some m y (sym (slice_get-set_same ns i m inside) ∙ f) in
    subst (λ z. HoldsMore g z y taken) a (subst (λ z. HoldsMore g n z taken) b more)

-- a list that was written over through its slice
pub written : {A : Type 0} (n : ℕ) (xs ys : List A) → n ≡ length xs → length ys ≡ length xs → take n (ys ++ drop (length ys) xs) ≡ ys
written n xs ys e l = ap (λ z. take z (ys ++ drop (length ys) xs)) e ∙ refilled xs ys l

pub child-reads : {W : Type 0} (ns : List (Node W)) (ins : List (List ℕ)) (i : ℕ) (n : Node W) (child : Option ℕ) (c : ℕ) → IsChild ns ins i child → slice_get ns i ≡ Some n → child ≡ Some c → n.ended < n.inputs
child-reads ns ins i n None c h there e = cc
child-reads ns ins i n (Some d) c h there e = (h.1 n there).0
