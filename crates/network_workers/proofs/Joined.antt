-- What all nodes of a tree carried, joined over the tree: each that is done ends as on one thread, and each fault of a node is one that
-- was to come.
use Rattle.std.proofs.Common.{◌≡◌, ℕ, ◌+◌, ◌-◌, ◌^◌, ◌<◌, ◌≤◌, ◌⊎◌, inl, inr, ⊎_elim, true, false, List, [], ◌++◌, length, Option, Some, None, ◌||◌, refl, ap, subst, sym, ◌∙◌, append-nil, arith, replicate, true≢false}
use Rattle.std.specs.Prelude.{◌==◌, slice_get, is_some}
use Rattle.std.proofs.lemmas.Option.{slice_get_within}
use Rattle.circular_buffer.specs.Buffer.{buffer}
use Rattle.cloud_points.specs.declared.point.Point.{Point}
use Rattle.cloud_points.specs.declared.item.Item as code
use Rattle.cloud_points.specs.declared.faults.StageFault.{StageFault}
use Rattle.cloud_points.specs.declared.work.Work.{Ghosts}
use Rattle.cloud_points.specs.Flows.{Flow}
use Rattle.cloud_points.specs.Marks.{Mark}
use Rattle.network_theory.specs.Between.{IsClosing}
use Rattle.network_theory.specs.Carried.{Carried, from_input, rest_of, joined}
use Rattle.network_theory.specs.Forest.{IsForest, children}
use Rattle.network_theory.specs.History.{brings, mark_points}
use Rattle.network_theory.specs.Net as net
use Rattle.network_theory.specs.Opening.{IsFresh, IsSpent, IsOpening}
use Rattle.network_theory.specs.Schedule.{end_of}
use Rattle.network_theory.specs.Shape.{IsTree}
use Rattle.network_theory.specs.Sound.{IsNode}
use Rattle.network_theory.proofs.Finals.{ends-so}
use Rattle.network_core.specs.declared.node.Node.{Node}
use Rattle.network_core.specs.Calm.{Told}
use Rattle.network_core.specs.Holding.{HoldsBesides}
use Rattle.network_core.specs.Nets.{shown_or, net_with}
use Rattle.network_core.specs.Shown.{shown}
use Rattle.network_core.proofs.Opened.{some_at, opening-new}
use Rattle.network_core.specs.declared.stop.Stop.{Stop}
use Rattle.network_core.specs.declared.stop.Stop.TheVariants.{Last, First}
use Rattle.network_solo.specs.Stopping.{AllDone, CameToEnd, SomeFault, IsStoppedTree, fault_to_come}
use Rattle.network_solo.specs.Trees.{Streams, EndsOver, NoneCame, LeavesTell, IsRanTree}
use Rattle.network_solo.proofs.Endings.{ends-over, fault-comes}
use Rattle.network_solo.proofs.Stopping.{seen-stays}
use Rattle.network_workers.specs.Crews.{HasRun}
use Rattle.network_workers.specs.Gathered.{AreCarried}
use Rattle.network_workers.proofs.EndsOf.{ne-eqb}
use Rattle.network_workers.proofs.JoinPart.{Begun, child-in, beyond, still, brought-all, ends-alike}
use Rattle.network_workers.proofs.OverBack.{not-both}

-- what stands beyond the nodes
abbrev pub nothing_of : {S P F : Type 0} → net.Node S P F → net.Node S P F
nothing_of n = record n { machine = record n.machine { inputs = 0; ended = 0 }; leaf = true; told = []; told_fault = None; hand = None; ending = false; done = true; ins = [] }

is-spent : {S P F : Type 0} (n : net.Node S P F) → IsSpent (nothing_of n)
is-spent n = record {
  sound = record { inputs = refl; within = omega arith; leaf = λ _. refl; reads = λ l d e h. absurd (true≢false l); read_hand = λ h. absurd (true≢false (sym h)); read_ending = λ h. absurd (true≢false (sym h)); read_done = λ _. refl; rests = λ _. refl };
  ins = refl;
  done = refl;
}

-- one node, or what stands beyond, at the start and later
pub record At {S : Type 0} (took : ℕ → List (Mark Point)) (n m : net.Node S Point StageFault) (b : List (Mark Point)) : Type 0 where
  pub carried : Carried n m took b
  pub closing : IsClosing m
  pub sound : IsNode m

-- turns that came to the end left all nodes done
came-done : {W S : Type 0} (g : Ghosts W S) (stop : Stop) (nodes : List (Node W)) → AllDone g nodes ⊎ ((stop ≡ First) × SomeFault g nodes) → CameToEnd g stop nodes → AllDone g nodes
came-done g stop nodes (inl done) came = done
came-done g Last nodes (inr (first, fault)) came = cc
came-done g First nodes (inr (first, (k, x, e, fault))) came = absurd (true≢false (sym fault ∙ ap (λ (o : Option StageFault). is_some o) (came k x e)))

module _ {W S : Type 0} (g : Ghosts W S) (ins : List (List ℕ)) (old new : List (Node W)) (some : 0 < length old) (most : length old < 2 ^ 32)
    (fresh : (k : ℕ) (n : Node W) → slice_get old k ≡ Some n → IsFresh (shown g (children ins k) n)) (forest : IsForest ins (length old - 1)) (h : AreCarried g ins old new) where
  abbrev root : ℕ
  root = length old - 1

  not-root : (k : ℕ) → k < root → (k + 1 == length old) ≡ false
  not-root k l = ne-eqb (k + 1) (length old) (λ e. absurd (omega (arith, l, e)))

  module _ (quiet : NoneCame g old new) (tells : LeavesTell g old) where
    first : (n : Node W) × (slice_get old 0 ≡ Some n)
    first = some_at old 0 some

    abbrev none_there : net.Node S Point StageFault
    none_there = nothing_of (shown g [] first.0)

    abbrev start : net.Net S Point StageFault
    start = net_with g none_there old ins (replicate root (buffer {X = code.Item} [] 1))

    opening : IsOpening start root
    opening = opening-new g old ins (replicate root (buffer {X = code.Item} [] 1)) 1 some most fresh forest refl none_there (is-spent (shown g [] first.0))

    node-is : (k : ℕ) (n : Node W) → slice_get old k ≡ Some n → start.node k ≡ shown g (children ins k) n
    node-is k n e = ap (shown_or g none_there (children ins k)) e

    told-at : (k : ℕ) (n : Node W) → slice_get old k ≡ Some n → Told g n
    told-at k n e = λ l d z. (tells k n e l, (fresh k n e).fault)

    -- what each node gave
    abbrev gave_by : (k : ℕ) (x y : Option (Node W)) → slice_get old k ≡ x → slice_get new k ≡ y → List (Mark Point)
    gave_by k (Some n) (Some m) e f = (h.nodes k n m e f).gave (quiet k n m e f) (told-at k n e)
    gave_by k None y e f = []
    gave_by k (Some n) None e f = []

    abbrev given : ℕ → List (Mark Point)
    given k = gave_by k (slice_get old k) (slice_get new k) refl refl

    abbrev later : ℕ → net.Node S Point StageFault
    later k = shown_or g none_there (children ins k) (slice_get new k)

    given-sent : (k : ℕ) → k < root → given k ≡ h.carriage.sent k
    given-sent k b = by_nodes (slice_get old k) (slice_get new k) refl refl
      where
        by_nodes : (x y : Option (Node W)) (e : slice_get old k ≡ x) (f : slice_get new k ≡ y) → gave_by k x y e f ≡ h.carriage.sent k
        by_nodes (Some n) (Some m) e f = (h.nodes k n m e f).same (quiet k n m e f) (told-at k n e) (not-root k b)
        by_nodes None y e f = let s = some_at old k (omega (arith, b)) in not-both (slice_get old k) s.0 e s.1
        by_nodes (Some n) None e f = let c = h.count in let s = some_at new k (omega (arith, b, c)) in not-both (slice_get new k) s.0 f s.1

    tree : IsTree (λ k. (start.node k).ins) root
    tree = opening.tree

    within : (k : ℕ) (n : Node W) → slice_get old k ≡ Some n → k ≤ root
    within k n e = let l = slice_get_within old k n e in omega (arith, l)

    inside : (k : ℕ) (m : Node W) → slice_get new k ≡ Some m → k ≤ root
    inside k m f = let l = slice_get_within new k m f in let c = h.count in omega (arith, l, c)

    -- what a node took: beyond the nodes it is nothing
    abbrev took_by : (k : ℕ) → Option (Node W) → ℕ → List (Mark Point)
    took_by k (Some n) = h.carriage.took k
    took_by k None = λ input. []

    abbrev took : ℕ → ℕ → List (Mark Point)
    took k = took_by k (slice_get old k)

    at-node : (k : ℕ) (n m : Node W) (e : slice_get old k ≡ Some n) (f : slice_get new k ≡ Some m)
        → At (h.carriage.took k) (shown g (children ins k) n) (shown g (replicate m.inputs 0) m) ((h.nodes k n m e f).gave (quiet k n m e f) (told-at k n e))
    at-node k n m e f =
        let c = h.nodes k n m e f in
        let q = c.quiet (quiet k n m e f) (told-at k n e) in
        let fr = fresh k n e in
        let closing : IsClosing (shown g [] m) = q.closing (record {
          hand = λ _. fr.ending;
          done = λ _. fr.ending;
          leaf = λ _. fr.ending;
          told = λ _ z. absurd (true≢false (sym z ∙ ap (λ d. d || net.holds_end (shown g [] n).hand) fr.done ∙ ap net.holds_end fr.hand));
        }) in
        record {
          carried = record { flow = q.carried.flow; last = q.carried.last };
          closing = record { hand = closing.hand; done = closing.done; leaf = closing.leaf; told = closing.told };
          sound = c.sound;
        }

    carried-all : (k : ℕ) (x y : Option (Node W)) (e : slice_get old k ≡ x) (f : slice_get new k ≡ y)
        → Carried (shown_or g none_there (children ins k) x) (shown_or g none_there (children ins k) y) (took_by k x) (gave_by k x y e f)
    carried-all k (Some n) (Some m) e f = let a = at-node k n m e f in record { flow = a.carried.flow; last = a.carried.last }
    carried-all k None None e f = record { flow = λ r. refl; last = λ r. refl }
    carried-all k None (Some m) e f = let l = slice_get_within new k m f in let c = h.count in let s = some_at old k (omega (arith, l, c)) in not-both (slice_get old k) s.0 e s.1
    carried-all k (Some n) None e f = let l = slice_get_within old k n e in let c = h.count in let s = some_at new k (omega (arith, l, c)) in not-both (slice_get new k) s.0 f s.1

    open-inputs : (k : ℕ) (x : Option (Node W)) → slice_get old k ≡ x
        → ((shown_or g none_there (children ins k) x).machine.ended ≡ 0) × ((shown_or g none_there (children ins k) x).machine.inputs ≡ length (shown_or g none_there (children ins k) x).ins)
    open-inputs k (Some n) e = ((fresh k n e).ended, (fresh k n e).inputs)
    open-inputs k None e = (refl, refl)

    parts : (k input child : ℕ) (x : Option (Node W)) → slice_get old k ≡ x → slice_get (shown_or g none_there (children ins k) x).ins input ≡ Some child
        → took_by k x input ++ h.carriage.left k input ≡ given child
    parts k input child (Some n) e f =
        let l = slice_get_within old k n e in
        let below = child-in (λ j. j < k) (children ins k) (forest.below k) input child f in
        h.parts k input child l f ∙ sym (given-sent child (omega (arith, below, l)))
    parts k input child None e f = cc

    begun : Begun start later given took h.carriage.left
    begun = record {
      empty = opening.edges;
      fresh = λ k. open-inputs k (slice_get old k) refl;
      carried = λ k. carried-all k (slice_get old k) (slice_get new k) refl refl;
      part = λ k input child f. parts k input child (slice_get old k) refl f;
    }

    -- what is still to come to a node
    abbrev to_come : ℕ → ℕ → List (Mark Point)
    to_come k = beyond start later given took h.carriage.left root tree begun (still start later given took h.carriage.left root tree begun k) k

    ends-at : (k : ℕ) (m : Node W) → slice_get new k ≡ Some m → net.last_of (shown g (replicate m.inputs 0) m) (rest_of (shown g (replicate m.inputs 0) m) (to_come k)) ≡ net.rest start k
    ends-at k m f = ap (λ x. net.last_of (shown_or g none_there (children ins k) x) (rest_of (shown_or g none_there (children ins k) x) (to_come k))) (sym f)
        ∙ ends-alike start later given took h.carriage.left root tree begun k

    -- ---- where all are done

    module _ (done : AllDone g new) (value : ℕ → Flow Point) (streams : Streams g ins old value) where
      nothing-left : (k : ℕ) (m : Node W) (r : ℕ → List (Mark Point)) → slice_get new k ≡ Some m → IsNode (shown g (replicate m.inputs 0) m) → rest_of (shown g (replicate m.inputs 0) m) r ≡ []
      nothing-left k m r f ok = let read = ok.read_done (done k m f) in ap (from_input r m.ended) {x = m.inputs - m.ended} {y = 0} (omega (arith, read))

      old-at : (k : ℕ) (m : Node W) → slice_get new k ≡ Some m → (n : Node W) × (slice_get old k ≡ Some n)
      old-at k m f = let l = slice_get_within new k m f in let c = h.count in some_at old k (omega (arith, l, c))

      end-is : (k : ℕ) (m : Node W) → slice_get new k ≡ Some m → end_of (shown g [] m) ≡ net.rest start k
      end-is k m f =
          let n = old-at k m f in
          let a = at-node k n.0 m n.1 f in
          sym (ends-so (shown g (replicate m.inputs 0) m) a.closing a.sound (done k m f))
          ∙ ap (net.last_of (shown g (replicate m.inputs 0) m)) (sym (nothing-left k m (to_come k) f a.sound)) ∙ ends-at k m f

      -- what a node took is what its inputs bring
      took-all : (k : ℕ) (n m : Node W) (e : slice_get old k ≡ Some n) (f : slice_get new k ≡ Some m) → mark_points (h.nodes k n m e f).between.took ≡ mark_points (brings start k)
      took-all k n m e f =
          let c = h.nodes k n m e f in
          let a = at-node k n m e f in
          ap mark_points (
          sym (append-nil c.between.took) ∙ ap (λ x. c.between.took ++ x) (sym (nothing-left k m (to_come k) f a.sound))
          ∙ sym (c.between.reads (to_come k))
          ∙ ap (λ z. rest_of (shown_or g none_there (children ins k) z) (joined (took_by k z) (to_come k))) (sym e)
          ∙ brought-all start later given took h.carriage.left root tree begun k)

      joined-ends : EndsOver g ins old new value
      joined-ends = ends-over g ins old new start root opening (omega (arith, some)) node-is inside end-is (λ k n m e f. (h.nodes k n m e f).calm.leaf)
          (λ k n m e f empty. subst (HoldsBesides g n.fault m.fault m.work []) (took-all k n m e f) ((h.nodes k n m e f).holds (quiet k n m e f) [] empty)) value streams

    -- ---- a fault that stands at a node

    fault-is : (value : ℕ → Flow Point) → Streams g ins old value → (k : ℕ) (n m : Node W) (f : StageFault) → slice_get old k ≡ Some n → slice_get new k ≡ Some m
        → m.fault ≡ Some f → fault_to_come g ins value k n ≡ Some f
    fault-is value streams k n m f e z fault =
        sym (fault-comes g ins old start root opening (omega (arith, some)) node-is value streams k n (within k n e) e)
        ∙ ap (λ l. l.fault) (sym (ends-at k m z))
        ∙ seen-stays (shown g (replicate m.inputs 0) m) (rest_of (shown g (replicate m.inputs 0) m) (to_come k)) f fault

  carried-ran : AllDone g new → IsRanTree g ins old new
  carried-ran done = record {
    count = h.count;
    work = λ k n m e f. (h.nodes k n m e f).between.work;
    calm = λ k n m e f. (h.nodes k n m e f).calm;
    ends = λ quiet tells value streams. joined-ends quiet tells done value streams;
  }

  carried-stopped : AllDone g new ⊎ SomeFault g new → IsStoppedTree g ins old new
  carried-stopped over = record {
    count = h.count;
    work = λ k n m e f. (h.nodes k n m e f).between.work;
    calm = λ k n m e f. (h.nodes k n m e f).calm;
    over = over;
    faults = λ quiet tells value streams k n m f e z fault. fault-is quiet tells value streams k n m f e z fault;
  }

  pub carried-run : (stop : Stop) → AllDone g new ⊎ ((stop ≡ First) × SomeFault g new) → HasRun g stop old ins new
  carried-run stop over = record {
    carried = h;
    ran = λ came. carried-ran (came-done g stop new over came);
    settled = λ came. record { carried = h; done = came-done g stop new over came };
    stopped = λ first. carried-stopped (⊎_elim inl (λ p. inr p.1) over);
  }
