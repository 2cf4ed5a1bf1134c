-- A new node is fresh, and a new net is one at its start.
use Rattle.std.proofs.Common.{◌≡◌, ℕ, zero, suc, ◌-◌, ◌^◌, ◌≤◌, ◌<◌, true, false, List, [], ◌∷◌, length, Some, refl, ap, subst, sym, ◌∙◌, inl, inr, arith, replicate, true≢false}
use Rattle.std.proofs.Math.Path.{fun_ext}
use Rattle.std.specs.Prelude.{◌↔◌, slice_index_or, slice_get}
use Rattle.std.proofs.lemmas.Option.{slice_get_past}
use Rattle.circular_buffer.specs.Buffer.{Buffer, buffer}
use Rattle.cloud_points.specs.declared.point.Point.{Point}
use Rattle.cloud_points.specs.declared.item.Item as code
use Rattle.cloud_points.specs.declared.faults.StageFault.{StageFault}
use Rattle.cloud_points.specs.declared.work.Work.{Ghosts}
use Rattle.cloud_points.specs.Bodies.{bodies, numbers}
use Rattle.network_theory.specs.Net as net
use Rattle.network_theory.specs.Shape.{Each, IsTree}
use Rattle.network_theory.specs.Forest.{children, IsForest}
use Rattle.network_theory.specs.Opening.{IsFresh, IsSpent, IsOpening}
use Rattle.network_theory.proofs.Openings.{inside}
use Rattle.network_theory.proofs.Forests.{forest-tree}
use Rattle.network_core.specs.declared.node.Node.{Node}
use Rattle.network_core.specs.Shown.{shown, new_node}
use Rattle.network_core.specs.Wires.{queue_at, IsWired}
use Rattle.network_core.specs.Nets.{shown_or, net_with}

no_ins : (xs : List ℕ) → length xs ≡ 0 → xs ≡ []
no_ins [] h = refl
no_ins (x ∷ xs) h = absurd (omega arith)

-- a node as `Node::new` makes it
pub new-fresh : {W S : Type 0} (g : Ghosts W S) (ins : List ℕ) (work : W) (inputs chunk : ℕ) → (g.leaf work ≡ true) ↔ (inputs ≡ 0) → length ins ≡ inputs → IsFresh (new_node g ins work inputs chunk)
new-fresh {W} {S} g ins work inputs chunk leaf same = record {
  inputs = sym same;
  leaf = λ h. no_ins ins (same ∙ leaf.0 h);
  inner = λ h. by_inputs inputs refl h;
  ended = refl;
  cut = refl;
  fault = refl;
  hand = refl;
  ending = refl;
  done = refl;
  sent = refl;
  views = refl;
  points = refl;
}
  where
    by_inputs : (n : ℕ) → inputs ≡ n → g.leaf work ≡ false → 0 < inputs
    by_inputs zero e h = absurd (true≢false (sym (leaf.1 e) ∙ h))
    by_inputs (suc n) e h = omega arith

pub some_at : {A : Type 0} (xs : List A) (k : ℕ) → k < length xs → (x : A) × (slice_get xs k ≡ Some x)
some_at [] k h = absurd (omega arith)
some_at (x ∷ xs) zero h = (x, refl)
some_at (x ∷ xs) (suc k) h = some_at xs k (omega arith)

pub none-beyond : (xss : List (List ℕ)) (k : ℕ) → length xss ≤ k → children xss k ≡ []
none-beyond [] k h = refl
none-beyond (xs ∷ xss) zero h = absurd (omega arith)
none-beyond (xs ∷ xss) (suc k) h = none-beyond xss k (omega arith)

each-at : (k : ℕ) (xs : List ℕ) → Each (λ j. j < k) xs → (i : ℕ) → i < length xs → slice_index_or xs i 0 < k
each-at k [] h i l = absurd (omega arith)
each-at k (x ∷ xs) h zero l = h.0
each-at k (x ∷ xs) h (suc i) l = each-at k xs h.1 i (omega arith)

replicated : {A : Type 0} (n : ℕ) (x : A) → length (replicate n x) ≡ n
replicated zero x = refl
replicated (suc n) x = let r = replicated n x in omega (arith, r)

same-room : (n cap k : ℕ) → k < n → (queue_at (replicate n (buffer [] cap)) k).capacity ≡ cap
same-room zero cap k h = absurd (omega arith)
same-room (suc n) cap zero h = refl
same-room (suc n) cap (suc k) h = same-room n cap k (omega arith)

nothing-on : (n cap k : ℕ) → (queue_at (replicate n (buffer [] cap)) k).items ≡ []
nothing-on zero cap k = refl
nothing-on (suc n) cap zero = refl
nothing-on (suc n) cap (suc k) = nothing-on n cap k

module _ {W S : Type 0} (g : Ghosts W S) (ns : List (Node W)) (ins : List (List ℕ)) (es : List (Buffer code.Item)) (cap : ℕ) (some : 0 < length ns) (most : length ns < 2 ^ 32)
    (fresh : (k : ℕ) (n : Node W) → slice_get ns k ≡ Some n → IsFresh (shown g (children ins k) n)) (forest : IsForest ins (length ns - 1)) (edges : es ≡ replicate (length ns - 1) (buffer [] cap)) where
  pub wired-new : IsWired ns ins es cap
  wired-new = record {
    lists = let n = forest.nodes in omega (arith, n);
    edges = let l = ap length edges in let r = replicated (length ns - 1) (buffer {X = code.Item} [] cap) in omega (arith, l, r);
    most = most;
    inputs = λ k n e. (fresh k n e).inputs;
    below = λ k j h. each-at k (children ins k) (forest.below k) j h;
    rooms = λ k h. ap (λ q. (queue_at q k).capacity) edges ∙ same-room (length ns - 1) cap k (let l = ap length edges in let r = replicated (length ns - 1) (buffer {X = code.Item} [] cap) in omega (arith, l, r));
  }

  module _ (beyond : net.Node S Point StageFault) (spent : IsSpent beyond) where
    ins-is : (k : ℕ) → (shown_or g beyond (children ins k) (slice_get ns k)).ins ≡ children ins k
    ins-is k = elim (inside k (length ns - 1)) [
      | inl b ↦ (let s = some_at ns k (omega arith) in ap (λ x. (shown_or g beyond (children ins k) x).ins) s.1)
      | inr b ↦ ap (λ x. (shown_or g beyond (children ins k) x).ins) (slice_get_past ns k (omega arith)) ∙ spent.ins ∙ sym (none-beyond ins k (let n = forest.nodes in omega (arith, n)))
    ]

    pub opening-new : IsOpening (net_with g beyond ns ins es) (length ns - 1)
    opening-new = record {
      tree = subst (λ f. IsTree f (length ns - 1)) (sym (fun_ext ins-is)) (forest-tree ins (length ns - 1) forest);
      fresh = λ k b. (let s = some_at ns k (omega arith) in subst (λ x. IsFresh (shown_or g beyond (children ins k) x)) (sym s.1) (fresh k s.0 s.1));
      beyond = λ k b. subst (λ x. IsSpent (shown_or g beyond (children ins k) x)) (sym (slice_get_past ns k (omega arith))) spent;
      edges = λ k. ap (λ q. bodies (queue_at q k).items) edges ∙ ap bodies (nothing-on (length ns - 1) cap k);
      numbers = λ k. ap (λ q. numbers (queue_at q k).items) edges ∙ ap numbers (nothing-on (length ns - 1) cap k);
    }
