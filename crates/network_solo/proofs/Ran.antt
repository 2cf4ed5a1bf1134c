-- A tree that was run to its end.
use Rattle.std.proofs.Common.{◌≡◌, ℕ, ◌≤◌, ◌<◌, true, [], ◌++◌, length, Option, Some, None, ap, subst, sym, ◌∙◌, append-nil, arith}
use Rattle.std.specs.Prelude.{slice_get}
use Rattle.std.proofs.lemmas.Option.{slice_get_within}
use Rattle.cloud_points.specs.declared.point.Point.{Point}
use Rattle.cloud_points.specs.declared.faults.StageFault.{StageFault}
use Rattle.cloud_points.specs.declared.work.Work.{Ghosts}
use Rattle.cloud_points.specs.Meaning.{KeepsCutting}
use Rattle.cloud_points.specs.Flows.{Flow}
use Rattle.network_theory.specs.Net as net
use Rattle.network_theory.specs.Forest.{children}
use Rattle.network_theory.specs.History.{brings, mark_points, points_taken_by}
use Rattle.network_theory.specs.Schedule.{run_schedule, end_of, KeepsLaws}
use Rattle.network_theory.proofs.Brought.{points-run}
use Rattle.network_theory.proofs.Falls.{sound-run}
use Rattle.network_theory.proofs.Finals.{all_dropped}
use Rattle.network_theory.proofs.Openings.{opening-sound}
use Rattle.network_core.specs.declared.node.Node.{Node}
use Rattle.network_core.specs.declared.net.Net.{Net}
use Rattle.network_core.specs.Holding.{HoldsBesides}
use Rattle.network_core.specs.Shown.{shown}
use Rattle.network_core.specs.Nets.{net_of, root_of, capacity_of, shown_or, IsNewNet}
use Rattle.network_core.proofs.Opened.{some_at}
use Rattle.network_solo.specs.Runs.{AllTold, HadTurns, IsRunToEnd, EndsInRest}
use Rattle.network_solo.specs.Trees.{Streams, EndsOver, NoneCame, LeavesTell, IsRanTree}
use Rattle.network_solo.proofs.Endings.{ends-over}
use Rattle.network_solo.proofs.Turning.{spent_of, is-spent, had-work}

module _ {W S : Type 0} (g : Ghosts W S) (made : Net W) (new : IsNewNet g made) (some : 0 < length made.nodes.items) where
  pub node-is : (beyond : net.Node S Point StageFault) (k : ℕ) (n : Node W) → slice_get made.nodes.items k ≡ Some n → (net_of g beyond made).node k ≡ shown g (children made.ins k) n
  node-is beyond k n e = ap (shown_or g beyond (children made.ins k)) e

  pub no_fault : (beyond : net.Node S Point StageFault) (k : ℕ) (n : Node W) → slice_get made.nodes.items k ≡ Some n → n.fault ≡ None
  no_fault beyond k n e =
      let o = new.opening (spent_of (shown g [] n)) (is-spent (shown g [] n)) in
      let within = slice_get_within made.nodes.items k n e in
      ap (λ x. x.machine.fault) (sym (node-is (spent_of (shown g [] n)) k n e)) ∙ (o.fresh k (omega (arith, within))).fault

  pub all-told : LeavesTell g made.nodes.items → AllTold g made
  all-told tells k x e = λ l d h. (tells k x e l, no_fault (shown g [] x) k x e)

  module _ (law : (w : W) → KeepsCutting (g.meaning w)) (now : Net W) (had : HadTurns g (root_of made) made now) (done : IsRunToEnd g now) (ends : EndsInRest g made now) where
    laws : (beyond : net.Node S Point StageFault) → KeepsCutting beyond.work → KeepsLaws (net_of g beyond made)
    laws beyond cuts k = by_node (slice_get made.nodes.items k)
      where
        by_node : (x : Option (Node W)) → KeepsCutting (shown_or g beyond (children made.ins k) x).work
        by_node None = cuts
        by_node (Some y) = law y.work

    within : (k : ℕ) (m : Node W) → slice_get now.nodes.items k ≡ Some m → k ≤ root_of made
    within k m e = let a = slice_get_within now.nodes.items k m e in let b = had.same.count in omega (arith, a, b)

    module _ (quiet : NoneCame g made.nodes.items now.nodes.items) (tells : LeavesTell g made.nodes.items) (value : ℕ → Flow Point) (streams : Streams g made.ins made.nodes.items value) where
      pub first : (n : Node W) × (slice_get made.nodes.items 0 ≡ Some n)
      first = some_at made.nodes.items 0 some

      abbrev pub beyond : net.Node S Point StageFault
      beyond = spent_of (shown g [] first.0)

      abbrev pub start : net.Net S Point StageFault
      start = net_of g beyond made

      abbrev pub last : net.Net S Point StageFault
      last = run_schedule start (root_of made) (capacity_of made) had.schedule

      end-is : (k : ℕ) (m : Node W) → slice_get now.nodes.items k ≡ Some m → end_of (shown g [] m) ≡ net.rest start k
      end-is k m e =
          ap (λ x. end_of (shown_or g beyond (children now.ins k) x)) (sym e)
          ∙ ends quiet (all-told tells) beyond (is-spent (shown g [] first.0)) (law first.0.work) k (within k m e)

      -- what stands at the end brings nothing more
      nothing-more : (k : ℕ) (m : Node W) → slice_get now.nodes.items k ≡ Some m → brings last k ≡ []
      nothing-more k m e =
          let o = new.opening beyond (is-spent (shown g [] first.0)) in
          let sound = (sound-run start (root_of made) (capacity_of made) had.schedule o.tree (opening-sound start (root_of made) o)).nodes k in
          let over : (last.node k).done ≡ true =
          ap (λ x. (x.node k).done) (sym (had.run beyond)) ∙ ap (λ (x : Option (Node W)). (shown_or g beyond (children now.ins k) x).done) e ∙ done k m e in
          ap (net.inputs_of (net.flow last k)) (all_dropped _ _ (sound.read_done over ∙ sound.inputs))

      taken-all : (k : ℕ) (n m : Node W) → slice_get made.nodes.items k ≡ Some n → slice_get now.nodes.items k ≡ Some m
          → points_taken_by start (root_of made) (capacity_of made) had.schedule k ≡ mark_points (brings start k)
      taken-all k n m e f =
          let o = new.opening beyond (is-spent (shown g [] first.0)) in
          sym (
          points-run start (root_of made) (capacity_of made) had.schedule o.tree (laws beyond (law first.0.work)) (had.quiet quiet (all-told tells) beyond) k
          ∙ ap (λ x. points_taken_by start (root_of made) (capacity_of made) had.schedule k ++ mark_points x) (nothing-more k m f)
          ∙ append-nil (points_taken_by start (root_of made) (capacity_of made) had.schedule k))

      pub made-ends : EndsOver g made.ins made.nodes.items now.nodes.items value
      made-ends = ends-over g made.ins made.nodes.items now.nodes.items start (root_of made) (new.opening beyond (is-spent (shown g [] first.0))) (omega (arith, some))
          (node-is beyond) within end-is (λ k n m e f. (had.calm k n m e f).leaf)
          (λ k n m e f empty. subst (HoldsBesides g n.fault m.fault m.work []) (taken-all k n m e f) (had.holds quiet beyond k n m e f [] empty)) value streams

    pub ran-tree : IsRanTree g made.ins made.nodes.items now.nodes.items
    ran-tree = record {
      count = had.same.count;
      work = λ k n m e f. had-work g (root_of made) made now had k n m e f;
      calm = λ k n m e f. had.calm k n m e f;
      ends = λ quiet tells value streams. made-ends quiet tells value streams;
    }
