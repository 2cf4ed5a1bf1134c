-- The nodes of a tree end over the flows that its leaves tell, where each ends as the net of its start says.
use Rattle.std.proofs.Common.{◌≡◌, ℕ, ◌+◌, ◌≤◌, Bool, true, false, cond, List, [], length, Some, None, refl, ap, subst, sym, ◌∙◌, arith}
use Rattle.std.specs.Prelude.{slice_get}
use Rattle.cloud_points.specs.declared.point.Point.{Point}
use Rattle.cloud_points.specs.declared.faults.StageFault.{StageFault}
use Rattle.cloud_points.specs.declared.work.Work.{Ghosts}
use Rattle.cloud_points.specs.Flows.{Flow, points}
use Rattle.network_theory.specs.Forest.{children}
use Rattle.network_theory.specs.History.{brings, mark_points}
use Rattle.network_theory.specs.Machine.{made_of, fault_on}
use Rattle.network_theory.specs.Net as net
use Rattle.network_theory.specs.Opening.{IsOpening}
use Rattle.network_theory.specs.Schedule.{end_of}
use Rattle.network_theory.specs.Streaming.{input_of, IsStreaming, state_in, state_over, StreamsAt}
use Rattle.network_theory.proofs.Streaming.{streams-at}
use Rattle.network_core.specs.declared.node.Node.{Node}
use Rattle.network_core.specs.Holding.{HoldsBesides}
use Rattle.network_core.specs.Shown.{shown, work_of}
use Rattle.network_core.proofs.Holds.{whole-of}
use Rattle.network_core.proofs.Opened.{some_at}
use Rattle.network_solo.specs.Stopping.{fault_to_come}
use Rattle.network_solo.specs.Trees.{input_at, fault_of, state_left, Streams, Gave, Took, EndsOver}

one_state : {S : Type 0} {a b : S} → Some a ≡ Some b → a ≡ b
one_state e = cc

-- what is to come at the start
module _ {W S : Type 0} (g : Ghosts W S) (ins : List (List ℕ)) (old : List (Node W)) (start : net.Net S Point StageFault) (root : ℕ) (opening : IsOpening start root) (count : length old ≡ root + 1)
    (node-is : (k : ℕ) (n : Node W) → slice_get old k ≡ Some n → start.node k ≡ shown g (children ins k) n) (value : ℕ → Flow Point) (streams : Streams g ins old value) where
  streaming : IsStreaming start root value
  streaming = record {
    leaf = λ k b l. (let n = some_at old k (omega (arith, b, count)) in
        ap (λ x. x.told) (node-is k n.0 n.1)
        ∙ ap (λ t. cond t (g.told (work_of n.0)) []) (leaf-is k n.0 n.1 true l) ∙ streams.leaf k n.0 n.1 (leaf-is k n.0 n.1 true l));
    inner = λ k b l. (let n = some_at old k (omega (arith, b, count)) in
        ap (λ x. made_of x.work x.machine.state (input_of value x.ins)) (node-is k n.0 n.1) ∙ streams.inner k n.0 n.1 (leaf-is k n.0 n.1 false l));
  }
    where
      leaf-is : (k : ℕ) (n : Node W) → slice_get old k ≡ Some n → (b : _) → (start.node k).leaf ≡ b → g.leaf (work_of n) ≡ b
      leaf-is k n e b l = ap (λ x. x.leaf) (sym (node-is k n e)) ∙ l

  pub streams-to : (k : ℕ) → k ≤ root → StreamsAt start value k
  streams-to k b = streams-at start root value opening streaming k b

  -- the fault of a node, by the node at the start
  pub fault-comes : (k : ℕ) (n : Node W) → k ≤ root → slice_get old k ≡ Some n → (net.rest start k).fault ≡ fault_to_come g ins value k n
  fault-comes k n b e =
      (streams-to k b).fault ∙ ap (λ x. cond x.leaf x.told_fault (fault_on x.work x.machine.state (input_of value x.ins))) (node-is k n e) ∙ once (g.leaf n.work)
    where
      once : (b : Bool) → cond b (cond b (g.told_fault n.work) None) (fault_of g n.work (input_at ins value k)) ≡ cond b (g.told_fault n.work) (fault_of g n.work (input_at ins value k))
      once true = refl
      once false = refl

module _ {W S : Type 0} (g : Ghosts W S) (ins : List (List ℕ)) (old new : List (Node W)) (start : net.Net S Point StageFault) (root : ℕ) (opening : IsOpening start root) (count : length old ≡ root + 1)
    (node-is : (k : ℕ) (n : Node W) → slice_get old k ≡ Some n → start.node k ≡ shown g (children ins k) n) (within : (k : ℕ) (m : Node W) → slice_get new k ≡ Some m → k ≤ root)
    (end-is : (k : ℕ) (m : Node W) → slice_get new k ≡ Some m → end_of (shown g [] m) ≡ net.rest start k)
    (leaf-stays : (k : ℕ) (n m : Node W) → slice_get old k ≡ Some n → slice_get new k ≡ Some m → g.leaf (work_of m) ≡ g.leaf (work_of n))
    (holds : (k : ℕ) (n m : Node W) → slice_get old k ≡ Some n → slice_get new k ≡ Some m → g.holds (work_of n) [] ≡ true → HoldsBesides g n.fault m.fault m.work [] (mark_points (brings start k)))
    (value : ℕ → Flow Point) (streams : Streams g ins old value) where
  streamed : (k : ℕ) → k ≤ root → StreamsAt start value k
  streamed = streams-to g ins old start root opening count node-is value streams

  gave : (k : ℕ) (m : Node W) → slice_get new k ≡ Some m → Gave g (value k) m
  gave k m f = record {
    views = ap (λ x. x.views) (end-is k m f) ∙ (streamed k (within k m f)).views;
    points = ap (λ x. x.points) (end-is k m f) ∙ (streamed k (within k m f)).points;
  }

  fault-by : (k : ℕ) (n m : Node W) → slice_get old k ≡ Some n → slice_get new k ≡ Some m → m.fault ≡ fault_to_come g ins value k n
  fault-by k n m e f = ap (λ x. x.fault) (end-is k m f) ∙ fault-comes g ins old start root opening count node-is value streams k n (within k m f) e

  told : (k : ℕ) (n m : Node W) → slice_get old k ≡ Some n → slice_get new k ≡ Some m → g.leaf (work_of n) ≡ true → m.fault ≡ g.told_fault (work_of n)
  told k n m e f l = fault-by k n m e f ∙ ap (λ t. cond t (g.told_fault n.work) (fault_of g n.work (input_at ins value k))) l

  -- the last state of a node, by the node at the start
  state-by : (k : ℕ) (n m : Node W) → slice_get old k ≡ Some n → slice_get new k ≡ Some m → g.leaf (work_of n) ≡ false → g.state m.work ≡ state_left g n.work (input_at ins value k)
  state-by k n m e f l =
      let still = leaf-stays k n m e f ∙ l in
      let all = ap (λ x. state_in x.machine) (end-is k m f) ∙ (streamed k (within k m f)).state ∙ ap (λ x. state_over x (input_of value x.ins)) (node-is k n e) in
      one_state (sym (ap (λ t. state_in (cond t None (Some (shown g [] m).machine))) still)
      ∙ all ∙ ap (λ t. cond t None (Some (state_left g n.work (input_at ins value k)))) l)

  holds-input : (k : ℕ) (n m : Node W) → slice_get old k ≡ Some n → slice_get new k ≡ Some m → g.holds (work_of n) [] ≡ true → HoldsBesides g n.fault m.fault m.work [] (points (input_at ins value k))
  holds-input k n m e f empty =
      subst (HoldsBesides g n.fault m.fault m.work []) ((streamed k (within k m f)).takes ∙ ap (λ x. points (input_of value x.ins)) (node-is k n e)) (holds k n m e f empty)

  took : (k : ℕ) (n m : Node W) → slice_get old k ≡ Some n → slice_get new k ≡ Some m → g.leaf (work_of n) ≡ false → Took g (input_at ins value k) n m
  took k n m e f l = record {
    fault = fault-by k n m e f ∙ ap (λ t. cond t (g.told_fault n.work) (fault_of g n.work (input_at ins value k))) l;
    state = state-by k n m e f l;
    holds = λ sound empty. subst (λ ps. g.holds m.work ps ≡ true) (whole-of g n.fault m.fault m.work _ (holds-input k n m e f empty) sound) (holds-input k n m e f empty).holds;
  }

  pub ends-over : EndsOver g ins old new value
  ends-over = record { gave = gave; told = told; took = took }
