-- What the nodes of a tree give and take.
use Rattle.std.proofs.Common.{◌≡◌, ℕ, zero, suc, ◌<◌, ◌≤◌, Bool, true, false, cond, List, [], ◌∷◌, ◌++◌, length, map, drop, refl, ap, sym, ◌∙◌, arith, Some, None}
use Rattle.cloud_points.specs.Flows.{Flow}
use Rattle.cloud_points.specs.Marks.{Mark, End, all_marks, to_end, flow_marks}
use Rattle.cloud_points.specs.Events.{first_fault}
use Rattle.cloud_points.specs.Queue.{up_to_limit}
use Rattle.network_theory.specs.Machine.{output, after_all, is_cut, at_start, fault_on, state_after}
use Rattle.network_theory.specs.Net.{Node, Net, remains, in_hand, still_end, open_ins, inputs_of, flow, rest, count_views, count_points}
use Rattle.network_theory.specs.Opening.{IsFresh, IsOpening}
use Rattle.network_theory.specs.Shape.{Each}
use Rattle.network_theory.specs.History.{brings, mark_points}
use Rattle.network_theory.specs.Streaming.{input_of, IsStreaming, fault_over, state_in, state_over, StreamsAt}
use Rattle.network_theory.proofs.Tapes.{tape, tape-points, output-tape, fault-tape, state-tape}
use Rattle.network_theory.proofs.WholeFlows.{to_end-flow, count_views-flow, count_points-flow}

-- a new node still gives all
remains-fresh : {S P F : Type 0} (n : Node S P F) (x : List (Mark P)) → IsFresh n → remains n x ≡ cond n.leaf n.told (output n.work n.machine x)
remains-fresh n x f = ap (λ h. in_hand h ++ (still_end n ++ cond n.leaf n.told (output n.work n.machine x))) f.hand
    ∙ ap (λ e. cond {A = List (Mark _)} e (End (is_cut n.machine) ∷ []) [] ++ cond n.leaf n.told (output n.work n.machine x)) f.ending

open-fresh : {S P F : Type 0} (n : Node S P F) → IsFresh n → open_ins n ≡ n.ins
open-fresh n f = ap (λ e. drop e n.ins) f.ended

-- its machine is one at its start
start-is : {S P F : Type 0} (n : Node S P F) → IsFresh n → n.machine ≡ at_start (length n.ins) n.machine.state
start-is {S} {P} {F} n f =
    ap (λ e. record n.machine { ended = e }) f.ended
    ∙ ap (λ i. record n.machine { inputs = i; ended = 0 }) f.inputs
    ∙ ap (λ c. record n.machine { cut = c; inputs = length n.ins; ended = 0 }) f.cut
    ∙ ap (λ x. record n.machine { fault = x; cut = false; inputs = length n.ins; ended = 0 }) f.fault

mapped : {A B : Type 0} (f : A → B) (xs : List A) → length (map f xs) ≡ length xs
mapped f [] = refl
mapped f (x ∷ xs) = let r = mapped f xs in omega (arith, r)

module _ {S P F : Type 0} (net : Net S P F) (root : ℕ) (value : ℕ → Flow P) (opening : IsOpening net root) (streaming : IsStreaming net root value) where
  -- the flows of a node's children, one behind the other
  abbrev tape_at : ℕ → List (Mark P)
  tape_at k = tape (map value (net.node k).ins)

  tape-is : (d : ℕ) (js : List ℕ) → Each (λ j. flow net d j ≡ flow_marks (value j)) js → inputs_of (flow net d) js ≡ tape (map value js)
  tape-is d [] h = refl
  tape-is d (j ∷ js) h =
      ap (λ x. to_end x ++ inputs_of (flow net d) js) h.0
      ∙ ap (λ x. x ++ inputs_of (flow net d) js) (to_end-flow (value j))
      ∙ ap (λ x. flow_marks (value j) ++ x) (tape-is d js h.1)

  brought : (d k : ℕ) → k ≤ root → Each (λ j. flow net d j ≡ flow_marks (value j)) (net.node k).ins → inputs_of (flow net d) (open_ins (net.node k)) ≡ tape_at k
  brought d k b h = ap (inputs_of (flow net d)) (open-fresh (net.node k) (opening.fresh k b)) ∙ tape-is d (net.node k).ins h

  some-inputs : (k : ℕ) → k ≤ root → (net.node k).leaf ≡ false → 0 < length (map value (net.node k).ins)
  some-inputs k b l =
      let f = opening.fresh k b in let some = f.inner l in let same = f.inputs in let m = mapped value (net.node k).ins in omega (arith, some, same, m)

  start-over : (k : ℕ) → k ≤ root → (net.node k).machine ≡ at_start (length (map value (net.node k).ins)) (net.node k).machine.state
  start-over k b = start-is (net.node k) (opening.fresh k b) ∙ ap (λ i. at_start i (net.node k).machine.state) (sym (mapped value (net.node k).ins))

  inner-gives : (k : ℕ) → k ≤ root → (net.node k).leaf ≡ false → output (net.node k).work (net.node k).machine (tape_at k) ≡ flow_marks (value k)
  inner-gives k b l =
      ap (λ c. output (net.node k).work c (tape_at k)) (start-over k b)
      ∙ output-tape (net.node k).work (map value (net.node k).ins) (net.node k).machine.state (some-inputs k b l)
      ∙ streaming.inner k b l

  gives : (k : ℕ) → k ≤ root → (x : List (Mark P)) → x ≡ tape_at k → remains (net.node k) x ≡ flow_marks (value k)
  gives k b x e = remains-fresh (net.node k) x (opening.fresh k b) ∙ by_leaf (net.node k).leaf refl
    where
      by_leaf : (l : Bool) → (net.node k).leaf ≡ l → cond l (net.node k).told (output (net.node k).work (net.node k).machine x) ≡ flow_marks (value k)
      by_leaf true l = streaming.leaf k b l
      by_leaf false l = ap (output (net.node k).work (net.node k).machine) e ∙ inner-gives k b l

  children : (d k : ℕ) → ((j : ℕ) → j < d → j ≤ root → flow net d j ≡ flow_marks (value j)) → k ≤ d → k ≤ root → (js : List ℕ) → Each (λ j. j < k) js → Each (λ j. flow net d j ≡ flow_marks (value j)) js
  children d k ih h b [] low = tt
  children d k ih h b (j ∷ js) low = (ih j (omega (arith, low.0, h)) (omega (arith, low.0, b)), children d k ih h b js low.1)

  flow-is : (d k : ℕ) → k < d → k ≤ root → flow net d k ≡ flow_marks (value k)
  flow-is zero k h b = absurd (omega (arith, h))
  flow-is (suc d) k h b =
      ap (λ e. all_marks e ++ remains (net.node k) (inputs_of (flow net d) (open_ins (net.node k)))) (opening.edges k)
      ∙ gives k b _ (brought d k b (children d k (flow-is d) (omega (arith, h)) b (net.node k).ins (opening.tree.below k)))

  brings-is : (k : ℕ) → k ≤ root → brings net k ≡ tape_at k
  brings-is k b = brought k k b (children k k (flow-is k) (omega arith) b (net.node k).ins (opening.tree.below k))

  fault-is : (k : ℕ) → k ≤ root → (rest net k).fault ≡ fault_over (net.node k) (input_of value (net.node k).ins)
  fault-is k b = by_leaf (net.node k).leaf refl
    where
      by_leaf : (l : Bool) → (net.node k).leaf ≡ l → cond l (first_fault (net.node k).machine.fault (net.node k).told_fault) (after_all (net.node k).work (net.node k).machine (brings net k)).fault
          ≡ cond l (net.node k).told_fault (fault_on (net.node k).work (net.node k).machine.state (input_of value (net.node k).ins))
      by_leaf true l = ap (λ f. first_fault f (net.node k).told_fault) (opening.fresh k b).fault
      by_leaf false l =
          ap (λ x. (after_all (net.node k).work (net.node k).machine x).fault) (brings-is k b)
          ∙ ap (λ c. (after_all (net.node k).work c (tape_at k)).fault) (start-over k b)
          ∙ fault-tape (net.node k).work (map value (net.node k).ins) (net.node k).machine.state (some-inputs k b l)

  state-is : (k : ℕ) → k ≤ root → state_in (rest net k).machine ≡ state_over (net.node k) (input_of value (net.node k).ins)
  state-is k b = by_leaf (net.node k).leaf refl
    where
      by_leaf : (l : Bool) → (net.node k).leaf ≡ l → state_in (cond l None (Some (after_all (net.node k).work (net.node k).machine (brings net k))))
          ≡ cond l None (Some (state_after (net.node k).work (net.node k).machine.state (input_of value (net.node k).ins)))
      by_leaf true l = refl
      by_leaf false l =
          ap (λ x. Some (after_all (net.node k).work (net.node k).machine x).state) (brings-is k b)
          ∙ ap (λ c. Some (after_all (net.node k).work c (tape_at k)).state) (start-over k b)
          ∙ ap (λ x. Some x) (state-tape (net.node k).work (map value (net.node k).ins) (net.node k).machine.state (some-inputs k b l))

  -- what each node takes and gives, and how it ends
  pub streams-at : (k : ℕ) → k ≤ root → StreamsAt net value k
  streams-at k b = record {
    takes = ap mark_points (brings-is k b) ∙ tape-points (map value (net.node k).ins);
    views = (let none = (opening.fresh k b).views in let all = ap count_views (gives k b (brings net k) (brings-is k b)) ∙ count_views-flow (value k) in ap up_to_limit (omega (arith, none, all)));
    points = (let none = (opening.fresh k b).points in let all = ap count_points (gives k b (brings net k) (brings-is k b)) ∙ count_points-flow (value k) in ap up_to_limit (omega (arith, none, all)));
    fault = fault-is k b;
    state = state-is k b;
  }
