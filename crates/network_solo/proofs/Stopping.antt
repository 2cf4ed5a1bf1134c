-- Turns that end at a fault: none came after one, and each fault is one that was to come.
use Rattle.std.proofs.Common.{◌≡◌, ℕ, ◌+◌, ◌<◌, Bool, true, false, cond, List, [], ◌∷◌, ◌++◌, length, Option, Some, None, refl, ap, subst, sym, ◌∙◌, arith, inl, inr, true≢false}
use Rattle.std.specs.Prelude.{slice_get, ◌==◌, is_some}
use Rattle.std.proofs.lemmas.Bool.Decides.{nat_tests}
use Rattle.std.proofs.lemmas.Option.{slice_get_within}
use Rattle.cloud_points.specs.declared.point.Point.{Point}
use Rattle.cloud_points.specs.declared.faults.StageFault.{StageFault}
use Rattle.cloud_points.specs.declared.work.Work.{Ghosts}
use Rattle.cloud_points.specs.Events.{first_fault}
use Rattle.cloud_points.specs.Marks.{Mark, At, View_end, End}
use Rattle.cloud_points.specs.Meaning.{Meaning, KeepsCutting}
use Rattle.network_theory.specs.Net as net
use Rattle.network_theory.specs.Ahead.{IsClean, AreClean}
use Rattle.network_theory.specs.Forest.{children}
use Rattle.network_theory.specs.Machine.{Machine, next, after_all, at_last, one_end}
use Rattle.network_theory.specs.Opening.{IsSpent, IsOpening}
use Rattle.network_theory.specs.Schedule.{run_schedule, KeepsLaws}
use Rattle.network_theory.proofs.Run.{last-run}
use Rattle.network_core.specs.declared.node.Node.{Node}
use Rattle.network_core.specs.declared.net.Net.{Net}
use Rattle.network_core.specs.declared.stop.Stop.{Stop}
use Rattle.network_core.specs.declared.stop.Stop.TheVariants.{Last, First}
use Rattle.network_core.specs.declared.turned.Turned.{Turned}
use Rattle.network_core.specs.Shown.{shown, turned}
use Rattle.network_core.specs.Nets.{net_of, root_of, capacity_of, choice_at, ObeysAt, SameShape, shown_or, IsNewNet}
use Rattle.network_core.proofs.Opened.{some_at}
use Rattle.network_solo.specs.Runs.{HadTurns, IsRunToEnd}
use Rattle.network_solo.specs.Stopping.{stops_at, CameToEnd, NoneFaulty, IsOver, CameInTime, HadInTime, FaultsToCome, IsStoppedTree}
use Rattle.network_solo.proofs.Endings.{fault-comes}
use Rattle.network_solo.proofs.Ran.{node-is, all-told}
use Rattle.network_solo.proofs.Turning.{no-turns, no-schedule, one-more, more-schedule, spent_of, is-spent, had-work}

-- ---- none came too late

clean-last : {S : Type 0} (root cap : ℕ) (t : ℕ × net.Choice S Point StageFault) (n : net.Net S Point StageFault) (ts : List (ℕ × net.Choice S Point StageFault))
    → AreClean n root cap ts → IsClean (run_schedule n root cap ts) root → AreClean n root cap (ts ++ t ∷ [])
clean-last root cap t n [] a c = (c, tt)
clean-last root cap t n (u ∷ ts) a c = (a.0, clean-last root cap t (net.step n root cap u.0 u.1) ts a.1 c)

-- none of these nodes has a fault at which turns end
abbrev pub NoneStops : {W S : Type 0} (g : Ghosts W S) → Stop → Net W → Type 0
NoneStops {W} g stop n = (k : ℕ) (x : Node W) → slice_get n.nodes.items k ≡ Some x → stops_at stop (shown g [] x).machine.fault ≡ false

-- the turns so far, and that they go on
pub record InTime {W S : Type 0} (g : Ghosts W S) (stop : Stop) (old now : Net W) : Type 0 where
  pub had : HadInTime g stop old now
  pub goes_on : NoneStops g stop now

pub time-starts : {W S : Type 0} (g : Ghosts W S) (stop : Stop) (n : Net W) → ((k : ℕ) (x : Node W) → slice_get n.nodes.items k ≡ Some x → (shown g [] x).machine.fault ≡ None) → InTime g stop n n
time-starts {W} g stop n none = record {
  had = record { turns = no-turns g (root_of n) n; in_time = by stop };
  goes_on = λ k x e. ap (stops_at stop) (none k x e) ∙ never stop;
}
  where
    by : (s : Stop) → CameInTime g s n n (no-turns g (root_of n) n)
    by Last = tt
    by First = λ beyond spent. subst (λ ts. AreClean (net_of g beyond n) (root_of n) (capacity_of n) ts) (sym (no-schedule g (root_of n) n)) tt

    never : (s : Stop) → stops_at s None ≡ false
    never Last = refl
    never First = refl

module _ {W S : Type 0} (g : Ghosts W S) (stop : Stop) (below : ℕ → ℕ) (old now next : Net W) (it : InTime g stop old now) (some : 0 < length old.nodes.items) (i : ℕ) (t : Turned) (inside : i < length now.nodes.items)
    (stepped : (beyond : net.Node S Point StageFault) → net_of g beyond next ≡ net.step (net_of g beyond now) (root_of now) (capacity_of now) i (choice_at g now next i))
    (turned_is : (beyond : net.Node S Point StageFault) → turned t ≡ (net.turn_at (net_of g beyond now) (root_of now) (capacity_of now) i (choice_at g now next i)).turned)
    (obeys : ObeysAt g now next i) (same : SameShape now next) (is_root : root_of now ≡ root_of old) where
  abbrev had : HadTurns g (root_of old) old now
  had = it.had.turns

  -- one more turn
  pub time-more : HadInTime g stop old next
  time-more = record {
    turns = one-more g (root_of old) below old now next had i t inside stepped turned_is obeys same is_root;
    in_time = by stop it.had.in_time it.goes_on;
  }
    where
      by : (s : Stop) → CameInTime g s old now had → NoneStops g s now → CameInTime g s old next (one-more g (root_of old) below old now next had i t inside stepped turned_is obeys same is_root)
      by Last so clean = tt
      by First so clean = λ beyond spent. subst (λ ts. AreClean (net_of g beyond old) (root_of old) (capacity_of old) ts)
          (sym (more-schedule g (root_of old) below old now next had i t inside stepped turned_is obeys same is_root)) (clean-last (root_of old) (capacity_of old) (i, choice_at g now next i) (net_of g beyond old) had.schedule (so beyond spent)
          (subst (λ n. IsClean n (root_of old)) (had.run beyond) (λ k b.
          let x = some_at now.nodes.items k (let c = had.same.count in omega (arith, c, b, some)) in
          ap (λ (z : Option (Node W)). is_some (shown_or g beyond (children now.ins k) z).machine.fault) x.1 ∙ clean k x.0 x.1)))

  -- and the turns go on where its node has no fault at which they end
  pub time-goes : ((x : Node W) → slice_get next.nodes.items i ≡ Some x → stops_at stop (shown g [] x).machine.fault ≡ false) → InTime g stop old next
  time-goes mine = record { had = time-more; goes_on = λ k x e. by k x e (k == i) refl }
    where
      by : (k : ℕ) (x : Node W) → slice_get next.nodes.items k ≡ Some x → (b : Bool) → (k == i) ≡ b → stops_at stop (shown g [] x).machine.fault ≡ false
      by k x e true h = mine x (subst (λ j. slice_get next.nodes.items j ≡ Some x) (grind (arith, h, nat_tests)) e)
      by k x e false h =
          let y = some_at now.nodes.items k (let a = slice_get_within next.nodes.items k x e in let c = same.count in omega (arith, a, c)) in
          let beyond = shown g [] x in
          let there : (shown g [] x).machine.fault ≡ (shown g [] y.0).machine.fault =
          ap (λ (z : Option (Node W)). (shown_or g beyond (children next.ins k) z).machine.fault) (sym e)
          ∙ ap (λ n. (n.node k).machine.fault) (stepped beyond)
          ∙ ap (λ c. (cond c (net.turn_at (net_of g beyond now) (root_of now) (capacity_of now) i (choice_at g now next i)).node ((net_of g beyond now).node k)).machine.fault) h
          ∙ ap (λ (z : Option (Node W)). (shown_or g beyond (children now.ins k) z).machine.fault) y.1 in
          ap (stops_at stop) there ∙ it.goes_on k y.0 y.1

-- ---- faults that were to come

next-keeps : {S P F : Type 0} (m : Meaning S P F) (c : Machine S F) (t : Mark P) (f : F) → c.fault ≡ Some f → (next m c t).fault ≡ Some f
next-keeps m c (At p) f e = ap (λ (o : Option _). (cond (is_some o) c (record c { state = m.after c.state (p ∷ []); fault = m.fault c.state (p ∷ []) })).fault) e ∙ e
next-keeps m c View_end f e = ap (λ (o : Option _). (cond (is_some o) c (record c { state = (m.at_view c.state).0 })).fault) e ∙ e
next-keeps m c (End cut) f e = go (c.ended + 1 == c.inputs)
  where
    go : (b : Bool) → (cond b (at_last m (one_end c cut)) (one_end c cut)).fault ≡ Some f
    go true = e
    go false = e

after-keeps : {S P F : Type 0} (m : Meaning S P F) (c : Machine S F) (ts : List (Mark P)) (f : F) → c.fault ≡ Some f → (after_all m c ts).fault ≡ Some f
after-keeps m c [] f e = e
after-keeps m c (t ∷ ts) f e = after-keeps m (next m c t) ts f (next-keeps m c t f e)

-- a node that has a fault ends with it
pub seen-stays : {S P F : Type 0} (n : net.Node S P F) (input : List (Mark P)) (f : F) → n.machine.fault ≡ Some f → (net.last_of n input).fault ≡ Some f
seen-stays n input f e = go n.leaf
  where
    go : (b : Bool) → cond b (first_fault n.machine.fault n.told_fault) (after_all n.work n.machine input).fault ≡ Some f
    go true = ap (λ o. first_fault o n.told_fault) e
    go false = after-keeps n.work n.machine input f e

pub faults-to-come : {W S : Type 0} (g : Ghosts W S) (law : (w : W) → KeepsCutting (g.meaning w)) (old now : Net W) → ((beyond : net.Node S Point StageFault) → IsSpent beyond → IsOpening (net_of g beyond old) (root_of old)) →
    HadTurns g (root_of old) old now → FaultsToCome g old now
faults-to-come {W} {S} g law old now opening had none told beyond spent cuts k x f e fault =
    let o = opening beyond spent in
    sym (ap (λ l. l.fault) (ap (λ n. net.rest n k) (had.run beyond) ∙ last-run (net_of g beyond old) (root_of old) (capacity_of old) had.schedule o.tree laws (had.quiet none told beyond) k))
    ∙ seen-stays ((net_of g beyond now).node k) (net.inputs_of (net.flow (net_of g beyond now) k) (net.open_ins ((net_of g beyond now).node k))) f (ap (λ (z : Option (Node W)). (shown_or g beyond (children now.ins k) z).machine.fault) e ∙ fault)
  where
    by_node : (j : ℕ) (x : Option (Node W)) → KeepsCutting (shown_or g beyond (children old.ins j) x).work
    by_node j None = cuts
    by_node j (Some y) = law y.work

    laws : KeepsLaws (net_of g beyond old)
    laws j = by_node j (slice_get old.nodes.items j)

-- ---- where turns end

pub over-at : {W S : Type 0} (g : Ghosts W S) (stop : Stop) (n : Net W) (i : ℕ) (x : Node W) → slice_get n.nodes.items i ≡ Some x → stops_at stop (shown g [] x).machine.fault ≡ true → IsOver g stop n
over-at g Last n i x e h = absurd cc
over-at g First n i x e h = inr (i, x, e, h)

pub not-last : (stop : Stop) (fault : Option StageFault) → stops_at stop fault ≡ true → stop ≡ Last → ⊥
not-last stop fault h e = let b : stops_at Last fault ≡ true = ap (λ s. stops_at s fault) (sym e) ∙ h in absurd cc

-- turns that ended at a fault didn't come to the end of all
pub not-come : {W S : Type 0} (g : Ghosts W S) (stop : Stop) (nodes : List (Node W)) (i : ℕ) (x : Node W) → slice_get nodes i ≡ Some x → stops_at stop (shown g [] x).machine.fault ≡ true → CameToEnd g stop nodes → ⊥
not-come g Last nodes i x e h came = absurd cc
not-come g First nodes i x e h came = true≢false (sym h ∙ ap (λ (o : Option StageFault). is_some o) (came i x e))

-- and those after which no node has a fault did
pub runs-to-end : {W S : Type 0} (g : Ghosts W S) (n : Net W) → IsOver g First n → NoneFaulty g n.nodes.items → IsRunToEnd g n
runs-to-end g n (inl ended) none = ended
runs-to-end g n (inr (k, x, e, fault)) none = absurd (true≢false (sym fault ∙ ap (λ (o : Option StageFault). is_some o) (none k x e)))

-- ---- the tree that is left

pub stopped-tree : {W S : Type 0} (g : Ghosts W S) (made now : Net W) → IsNewNet g made → ((w : W) → KeepsCutting (g.meaning w)) → HadTurns g (root_of made) made now → IsOver g First now → FaultsToCome g made now
    → IsStoppedTree g made.ins made.nodes.items now.nodes.items
stopped-tree {W} g made now new law had over faults = record {
  count = had.same.count;
  work = λ k n m e h. had-work g (root_of made) made now had k n m e h;
  calm = λ k n m e h. had.calm k n m e h;
  over = over;
  faults = λ quiet tells value streams k n m f e h fault.
      let within = slice_get_within made.nodes.items k n e in
      let some : 0 < length made.nodes.items = omega (arith, within) in
      let first = some_at made.nodes.items 0 some in
      let beyond = spent_of (shown g [] first.0) in
      let spent = is-spent (shown g [] first.0) in
      sym (fault-comes g made.ins made.nodes.items (net_of g beyond made) (root_of made) (new.opening beyond spent) (omega (arith, some)) (node-is g made new some beyond) value streams k n (omega (arith, within)) e)
      ∙ faults quiet (all-told g made new some tells) beyond spent (law first.0.work) k m f h fault;
}
