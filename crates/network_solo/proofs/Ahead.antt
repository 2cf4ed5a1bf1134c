-- How far the leaves of a tree were read whose turns ended at the first fault.
use Rattle.std.proofs.Common.{◌≡◌, ℕ, ◌+◌, ◌-◌, ◌*◌, ◌<◌, ◌≤◌, Bool, true, false, cond, List, [], length, Option, Some, None, inl, inr, refl, ap, subst, sym, ◌∙◌, arith}
use Rattle.std.specs.Prelude.{slice_get}
use Rattle.std.proofs.lemmas.Option.{slice_get_within, slice_get_past}
use Rattle.cloud_points.specs.declared.point.Point.{Point}
use Rattle.cloud_points.specs.declared.faults.StageFault.{StageFault}
use Rattle.cloud_points.specs.declared.work.Work.{Ghosts}
use Rattle.cloud_points.specs.Marks.{Mark}
use Rattle.cloud_points.specs.Meaning.{KeepsCutting}
use Rattle.network_theory.specs.Net as net
use Rattle.network_theory.specs.Ahead.{CountsPoints, EndedAt, KeepsCount, told_at, sum_under}
use Rattle.network_theory.specs.Due.{total}
use Rattle.network_theory.specs.Flight.{hand_points}
use Rattle.network_theory.specs.Forest.{children}
use Rattle.network_theory.specs.Shape.{Each, ins_of}
use Rattle.network_theory.specs.Schedule.{run_schedule, KeepsLaws}
use Rattle.network_theory.proofs.Counting.{leaves-ahead}
use Rattle.network_theory.proofs.Flights.{fit-run, opening-fit}
use Rattle.network_theory.proofs.Openings.{inside}
use Rattle.network_theory.proofs.Sums.{total-same}
use Rattle.network_core.specs.declared.node.Node.{Node}
use Rattle.network_core.specs.declared.net.Net.{Net}
use Rattle.network_core.specs.declared.stop.Stop.TheVariants.{First}
use Rattle.network_core.specs.Hands.{seen_hand}
use Rattle.network_core.specs.Shown.{shown, work_of}
use Rattle.network_core.specs.Nets.{net_of, root_of, capacity_of, shown_or, IsNewNet}
use Rattle.network_core.proofs.Opened.{none-beyond, some_at}
use Rattle.network_solo.specs.Trees.{NoneCame, LeavesTell}
use Rattle.network_solo.specs.Stopping.{HadInTime}
use Rattle.network_solo.specs.Ahead.{at_node, sum_at, told_by, read_beyond, BeginsNear, EndedAtNode, IsReadAhead}
use Rattle.network_solo.proofs.Ran.{all-told}
use Rattle.network_solo.proofs.Turning.{spent_of, is-spent}

-- ---- what the nodes of a net come to

shown-told : {W S : Type 0} (g : Ghosts W S) (ins : List ℕ) (n : Node W) → cond (shown g ins n).leaf (net.count_points (shown g ins n).told) 0 ≡ told_by g n
shown-told g ins n = go (g.leaf (work_of n)) (g.told (work_of n))
  where
    go : (b : Bool) (told : List (Mark Point)) → cond b (net.count_points (cond b told [])) 0 ≡ cond b (net.count_points told) 0
    go true told = refl
    go false told = refl

-- a sum over a net is that over its nodes
net-sum : {W : Type 0} (nodes : List (Node W)) (under : ℕ → Bool) (count : ℕ) (f : ℕ → ℕ) (h : Node W → ℕ) → count ≡ length nodes → ((k : ℕ) (n : Node W) → slice_get nodes k ≡ Some n → f k ≡ h n) → sum_under under f count ≡ sum_at under h nodes
net-sum nodes under count f h e same =
    total-same _ _ count (λ k b. let s = some_at nodes k (omega (arith, e, b)) in ap (λ x. cond (under k) x 0) (same k s.0 s.1 ∙ ap (at_node h) (sym s.1)))
    ∙ ap (sum_under under (λ k. at_node h (slice_get nodes k))) e

-- ---- a net whose turns ended at the first fault

module _ {W S : Type 0} (g : Ghosts W S) (made now : Net W) (new : IsNewNet g made) (law : (w : W) → KeepsCutting (g.meaning w)) (had : HadInTime g First made now) (quiet : NoneCame g made.nodes.items now.nodes.items) (tells : LeavesTell g made.nodes.items) (near : BeginsNear g made.nodes.items)
    (chunk : ℕ) (most : (k : ℕ) (n : Node W) → slice_get made.nodes.items k ≡ Some n → (shown g [] n).chunk ≤ chunk)
    (i : ℕ) (under : ℕ → Bool) (seen : S → ℕ) (number : StageFault → ℕ) (f : StageFault) (e : EndedAtNode g made.ins made.nodes.items now.nodes.items i under seen number f) where
  some : i < length made.nodes.items
  some = slice_get_within made.nodes.items i e.first e.at

  abbrev beyond : net.Node S Point StageFault
  beyond = spent_of (shown g [] e.first)

  abbrev start : net.Net S Point StageFault
  start = net_of g beyond made

  abbrev last : net.Net S Point StageFault
  last = run_schedule start (root_of made) (capacity_of made) had.turns.schedule

  ins-is : (k : ℕ) → ins_of start k ≡ children made.ins k
  ins-is k = elim (inside k (root_of made)) [
    | inl b ↦ (let s = some_at made.nodes.items k (omega (arith, b, some)) in ap (λ x. (shown_or g beyond (children made.ins k) x).ins) s.1)
    | inr b ↦ ap (λ x. (shown_or g beyond (children made.ins k) x).ins) (slice_get_past made.nodes.items k (omega (arith, b, some)))
        ∙ (is-spent (shown g [] e.first)).ins ∙ sym (none-beyond made.ins k (let n = new.forest.nodes in omega (arith, n, b)))
  ]

  node-of : (P : net.Node S Point StageFault → Type 0) (k : ℕ) (n : Node W) → slice_get made.nodes.items k ≡ Some n → P (shown g (children made.ins k) n) → P (start.node k)
  node-of P k n at h = subst (λ x. P (shown_or g beyond (children made.ins k) x)) (sym at) h

  last-of : (P : net.Node S Point StageFault → Type 0) (k : ℕ) (m : Node W) → slice_get now.nodes.items k ≡ Some m → P (shown g (children now.ins k) m) → P (last.node k)
  last-of P k m at h = subst (λ n. P (n.node k)) (had.turns.run beyond) (subst (λ x. P (shown_or g beyond (children now.ins k) x)) (sym at) h)

  of_all : (P : net.Node S Point StageFault → Type 0) → P beyond → ((k : ℕ) (n : Node W) → slice_get made.nodes.items k ≡ Some n → P (shown g (children made.ins k) n)) → (k : ℕ) → P (start.node k)
  of_all P b h k = go (slice_get made.nodes.items k) refl
    where
      go : (x : Option (Node W)) → slice_get made.nodes.items k ≡ x → P (shown_or g beyond (children made.ins k) x)
      go None at = b
      go (Some n) at = h k n at

  ended : EndedAt start (root_of made) (capacity_of made) i under had.turns.schedule seen number f
  ended = record {
    under_it = record {
      self = e.under_it.self;
      top = e.under_it.top;
      within = e.under_it.within;
      child = λ k h. subst (Each (λ j. under j ≡ true)) (sym (ins-is k)) (e.under_it.child k h);
      other = λ k u z. subst (Each (λ j. under j ≡ false)) (sym (ins-is k)) (e.under_it.other k u z);
    };
    keeps = λ k u. let s = some_at made.nodes.items k (let w = e.under_it.within k u in omega (arith, w, some)) in node-of (λ n. n.leaf ≡ false → KeepsCount n.work) k s.0 s.1 (e.keeps k s.0 s.1 u);
    inside = omega (arith, some);
    inner = node-of (λ n. n.leaf ≡ false) i e.first e.at e.inner;
    counts = node-of (λ n. CountsPoints n.work seen number) i e.first e.at e.counts;
    none = node-of (λ n. seen n.machine.state ≡ 0) i e.first e.at e.none;
    clean = had.in_time beyond (is-spent (shown g [] e.first));
    sound = λ k u.
        let s = some_at now.nodes.items k (let w = e.under_it.within k u in let c = had.turns.same.count in omega (arith, w, some, c)) in
        last-of (λ n. n.machine.fault ≡ None) k s.0 s.1 (e.sound k s.0 s.1 u);
    faulty = last-of (λ n. n.machine.fault ≡ Some f) i e.last e.there e.faulty;
    told = e.told;
  }

  law-of : KeepsLaws start
  law-of = of_all (λ n. KeepsCutting n.work) (law (work_of e.first)) (λ k n at. law (work_of n))

  chunks : (k : ℕ) → (start.node k).chunk ≤ chunk
  chunks = of_all (λ n. n.chunk ≤ chunk) (most i e.first e.at) most

  hand-most : (k : ℕ) (m : Node W) → slice_get now.nodes.items k ≡ Some m → hand_points (shown g [] m).hand ≤ chunk
  hand-most k m at =
      let fit = fit-run chunk (capacity_of made) start (root_of made) had.turns.schedule law-of (opening-fit chunk (capacity_of made) start (root_of made) (new.opening beyond (is-spent (shown g [] e.first))) chunks) (had.turns.allowed beyond) in
      subst (λ x. hand_points (shown_or g beyond (children now.ins k) x).hand ≤ chunk) at
      (subst (λ (n : net.Net S Point StageFault). hand_points (n.node k).hand ≤ chunk) (sym (had.turns.run beyond)) (fit.nodes k).hand)

  hand-none : (k : ℕ) (n : Node W) → slice_get made.nodes.items k ≡ Some n → seen_hand n.hand n.spread.items ≡ None
  hand-none k n at =
      let within = slice_get_within made.nodes.items k n at in
      subst (λ x. (shown_or g beyond (children made.ins k) x).hand ≡ None) at ((new.opening beyond (is-spent (shown g [] e.first))).fresh k (omega (arith, within))).hand

  -- what is in a hand and what was read beyond fit a chunk
  room : (k : ℕ) (m : Node W) → slice_get now.nodes.items k ≡ Some m → hand_points (shown g [] m).hand + read_beyond g m ≤ chunk
  room k m at = by_leaf (g.leaf m.work) refl
    where
      by_leaf : (b : Bool) → g.leaf m.work ≡ b → hand_points (seen_hand m.hand m.spread.items) + cond b (g.ahead m.work) 0 ≤ chunk
      by_leaf false is = let h = hand-most k m at in omega arith
      by_leaf true is =
          let within = slice_get_within now.nodes.items k m at in
          let n = some_at made.nodes.items k (let c = had.turns.same.count in omega (arith, within, c)) in
          let calm = had.turns.calm k n.0 m n.1 at in
          let none : hand_points (seen_hand n.0.hand n.0.spread.items) ≡ 0 = ap hand_points (hand-none k n.0 n.1) in
          let spare = calm.spare (λ leaf. let b = near k n.0 n.1 leaf in omega (arith, none, b)) is in
          let same = calm.chunk in
          let most-of = most k n.0 n.1 in
          omega (arith, spare, same, most-of)

  abbrev spare : ℕ → ℕ
  spare k = at_node (read_beyond g) (slice_get now.nodes.items k)

  fits : (k : ℕ) → hand_points (last.node k).hand + spare k ≤ chunk
  fits k = subst (λ (n : net.Net S Point StageFault). hand_points (n.node k).hand + spare k ≤ chunk) (had.turns.run beyond) (go (slice_get now.nodes.items k) refl)
    where
      go : (x : Option (Node W)) → slice_get now.nodes.items k ≡ x → hand_points (shown_or g beyond (children now.ins k) x).hand + at_node (read_beyond g) x ≤ chunk
      go None at = omega arith
      go (Some m) at = room k m at

  within-bound : sum_at under (told_by g) made.nodes.items + sum_at under (read_beyond g) now.nodes.items ≤ sum_at under (told_by g) now.nodes.items + number f + (root_of made * capacity_of made + (root_of made + 2)) * chunk
  within-bound =
      let h = leaves-ahead S Point StageFault start (root_of made) (capacity_of made) chunk i under had.turns.schedule seen number f spare (new.opening beyond (is-spent (shown g [] e.first))) had.turns.nodes law-of chunks (had.turns.allowed beyond)
      (had.turns.quiet quiet (all-told g made new (omega (arith, some)) tells) beyond) ended fits in
      let all : root_of made + 1 ≡ length made.nodes.items = omega (arith, some) in
      let left : root_of made + 1 ≡ length now.nodes.items = (let c = had.turns.same.count in omega (arith, some, c)) in
      let a = net-sum made.nodes.items under (root_of made + 1) (told_at start) (told_by g) all (λ k n at. ap (λ x. cond (shown_or g beyond (children made.ins k) x).leaf (net.count_points (shown_or g beyond (children made.ins k) x).told) 0) at ∙ shown-told g (children made.ins k) n) in
      let b = ap (λ n. sum_under under (told_at n) (root_of made + 1)) (sym (had.turns.run beyond))
      ∙ net-sum now.nodes.items under (root_of made + 1) (told_at (net_of g beyond now)) (told_by g) left (λ k n at. ap (λ x. cond (shown_or g beyond (children now.ins k) x).leaf (net.count_points (shown_or g beyond (children now.ins k) x).told) 0) at ∙ shown-told g (children now.ins k) n) in
      let c = net-sum now.nodes.items under (root_of made + 1) spare (read_beyond g) left (λ k n at. ap (at_node (read_beyond g)) at) in
      omega (arith, h, a, b, c)

pub read-ahead : {W S : Type 0} (g : Ghosts W S) (made now : Net W) → IsNewNet g made → ((w : W) → KeepsCutting (g.meaning w)) → HadInTime g First made now → IsReadAhead g made.ins (capacity_of made) made.nodes.items now.nodes.items
read-ahead g made now new law had = λ quiet tells near chunk most i under seen number f e. within-bound g made now new law had quiet tells near chunk most i under seen number f e
