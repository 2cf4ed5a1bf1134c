-- What leaves gave up to a node, it took, or it waits between.
use Rattle.std.proofs.Common.{◌≡◌, ◌≢◌, inl, inr, ℕ, zero, suc, ◌+◌, ◌*◌, ◌<◌, ◌≤◌, Bool, true, false, cond, List, [], ◌∷◌, ◌++◌, length, Option, Some, None, is_some, refl, ap, subst, sym, ◌∙◌, arith, length-append, true≢false}
use Rattle.std.specs.Prelude.{◌==◌, nat_lt}
use Rattle.std.proofs.Math.Nat.{mul-le-mul_right}
use Rattle.std.proofs.lemmas.Bool.{eq-eqb}
use Rattle.std.proofs.lemmas.Bool.Decides.{eqb_tells}
use Rattle.cloud_points.specs.Marks.{Item, Points, End_view, End_all, marks, points_in}
use Rattle.network_theory.specs.Machine.{is_cut, one_end}
use Rattle.network_theory.specs.Net.{Node, Net, Choice, Quiet, Failed, Short, Makes, Outcome, Turned, Gave, Made, Idle, Done, Full, given, taken, makes, end_made, takes, with_hand, turn, turn_at, step, open_ins, current_edge, IsQuiet, IsPart, count_points}
use Rattle.network_theory.specs.Shape.{Each, IsTree, ins_of}
use Rattle.network_theory.specs.Due.{total}
use Rattle.network_theory.specs.Flight.{hand_points, points_on}
use Rattle.network_theory.specs.History.{took, item_points, all_item_points, points_taken, points_in_step, points_taken_by}
use Rattle.network_theory.specs.Schedule.{run_schedule, IsSchedule, IsQuietRun}
use Rattle.network_theory.specs.Ahead.{AreUnder, KeepsCount, told_at, waits_at, sum_under, AreSoundUnder, StaySoundUnder, AreClean}
use Rattle.network_theory.proofs.Turns.{either}
use Rattle.network_theory.proofs.Rows.{count_points-append, count_points-marks}
use Rattle.network_theory.proofs.Brought.{from_input}
use Rattle.network_theory.proofs.Flights.{hand_of-points, hand_of-view, hand_of-end, points-most, IsNetFit}
use Rattle.network_theory.proofs.Sums.{total-same, total-at, total-two, ne-eqb, Each-drop}
use Rattle.network_theory.proofs.Run.{tree-step, step-same}

points_on-append : {P : Type 0} (xs ys : List (Item P)) → points_on (xs ++ ys) ≡ points_on xs + points_on ys
points_on-append [] ys = omega arith
points_on-append (i ∷ xs) ys = let h = points_on-append xs ys in omega (arith, h)

pub item_points-length : {P : Type 0} (i : Item P) → length (item_points i) ≡ points_in i
item_points-length (Points ps) = refl
item_points-length End_view = refl
item_points-length (End_all cut) = refl

all_item_points-length : {P : Type 0} (xs : List (Item P)) → length (all_item_points xs) ≡ points_on xs
all_item_points-length [] = refl
all_item_points-length (i ∷ xs) = let a = length-append (item_points i) (all_item_points xs) in let h = all_item_points-length xs in let e = item_points-length i in omega (arith, a, h, e)

-- ---- one turn

-- what a leaf still tells, and what is in the hand
abbrev own : {S P F : Type 0} → Node S P F → ℕ
own n = cond n.leaf (count_points n.told) 0 + hand_points n.hand

abbrev worth : {S P F : Type 0} → Node S P F → List (Item P) → List (Item P) → ℕ
worth n input out = own n + points_on input + points_on out

module _ {S P F : Type 0} (cap : ℕ) (ch : Choice S P F) (n : Node S P F) (input out : List (Item P)) (keeps : n.leaf ≡ false → KeepsCount n.work) (quiet : IsQuiet ch n) (sound : n.machine.fault ≡ None) where
  -- where no fault came, nothing is lost
  abbrev Keeps : Outcome S P F → Type 0
  Keeps o = o.node.machine.fault ≡ None → worth o.node o.input o.out ≡ worth n input out

  stays : (t : Turned) → Keeps (record { node = n; input = input; out = out; turned = t })
  stays t f = refl

  gives : (i : Item P) → n.hand ≡ Some i → Keeps (record { node = given n i; input = input; out = out ++ i ∷ []; turned = Gave })
  gives i h f =
      let a = points_on-append out (i ∷ []) in
      let e : hand_points n.hand ≡ points_in i = ap hand_points h in
      let o : points_on (i ∷ []) ≡ points_in i = omega arith in
      omega (arith, a, e, o)

  ends : n.hand ≡ None → Keeps (record { node = end_made n; input = input; out = out; turned = Made })
  ends h f = let e : hand_points n.hand ≡ 0 = ap hand_points h in omega (arith, e)

  made : (e : Choice S P F) → IsPart e n → n.leaf ≡ true → n.hand ≡ None → own (makes e n) ≡ own n
  made (Makes i f s told tf pl vl) part l h =
      let c : count_points n.told ≡ points_in i + count_points told = ap count_points part.part ∙ count_points-append (marks i) told ∙ ap (λ x. x + count_points told) (count_points-marks i) in
      let e : hand_points n.hand ≡ 0 = ap hand_points h in
      rw l (omega (arith, c, e))
  made Quiet part l h = absurd part
  made (Failed f s) part l h = absurd part
  made (Short s) part l h = absurd part

  took-all : (it : Item P) → ch ≡ Quiet → n.leaf ≡ false → n.hand ≡ None → (taken ch n it).machine.fault ≡ None → own (taken ch n it) ≡ own n + points_in it
  took-all (Points ps) q l h = rw (q, sound) (λ f.
      let e : hand_points n.hand ≡ 0 = ap hand_points h in
      let k = keeps l n.machine.state ps f in
      let p = hand_of-points (n.work.emit n.machine.state ps) in
      rw l (omega (arith, e, k, p)))
  took-all End_view q l h = rw (q, sound) (λ f.
      let e : hand_points n.hand ≡ 0 = ap hand_points h in
      let v = hand_of-view P ((n.work.at_view n.machine.state).1) in
      omega (arith, e, v))
  took-all (End_all cut) q l h = λ f. let e : hand_points n.hand ≡ 0 = ap hand_points h in
      either (λ (m : Node S P F). own m ≡ own n + 0) (n.machine.ended + 1 == n.machine.inputs) _ _
      (λ _. let c = one_end n.machine cut in let v = hand_of-end P ((n.work.at_end c.state (is_cut c)).1) (is_cut c) in omega (arith, e, v)) (λ _. omega (arith, e))

  takes-all : (is : List (Item P)) → input ≡ is → n.leaf ≡ false → n.hand ≡ None → Keeps (takes ch n is out)
  takes-all [] e l h f = rw e refl
  takes-all (i ∷ is) e l h f = let t = took-all i (quiet.inner l) l h f in rw e (omega (arith, t))

  by_hand : (h : Option (Item P)) → n.hand ≡ h → Keeps (with_hand false cap ch n input out h)
  by_hand (Some i) h = either Keeps (nat_lt (length out) cap) _ _ (λ _. gives i h) (λ _. stays (Idle Full))
  by_hand None h = either Keeps n.done _ _
      (λ _. stays Done)
      (λ d. either Keeps n.ending _ _
      (λ _. ends h)
      (λ e. either Keeps n.leaf _ _
      (λ l f. let m = made ch (quiet.leaf l h d e) l h in omega (arith, m))
      (λ l. takes-all input refl l h)))

-- what a turn took is no longer on the current edge
took-away : {S P F : Type 0} (root : Bool) (cap : ℕ) (ch : Choice S P F) (n : Node S P F) (input out : List (Item P)) →
    points_on input ≡ length (points_taken (turn root cap ch n input out).turned input) + points_on (turn root cap ch n input out).input
took-away root cap ch n input out =
    let o = turn root cap ch n input out in
    ap points_on (sym (from_input root cap ch n input out)) ∙ points_on-append (took o.turned input) o.input
    ∙ ap (λ x. x + points_on o.input) (sym (all_item_points-length (took o.turned input)))

-- ---- a turn of a net

-- what is told and what waits, under a node
abbrev both : {S P F : Type 0} → (ℕ → Bool) → Net S P F → ℕ → ℕ
both under net k = cond (under k) (told_at net k + waits_at net k) 0

both-sums : {S P F : Type 0} (under : ℕ → Bool) (net : Net S P F) (n : ℕ) → sum_under under (told_at net) n + sum_under under (waits_at net) n ≡ total (both under net) n
both-sums under net zero = refl
both-sums under net (suc n) =
    let h = both-sums under net n in
    let e : cond (under n) (told_at net n) 0 + cond (under n) (waits_at net n) 0 ≡ both under net n = either (λ x. cond (under n) (told_at net n) 0 + cond (under n) (waits_at net n) 0 ≡ x) (under n) _ _ (λ u. rw u refl) (λ u. rw u refl) in
    omega (arith, h, e)

module _ {S P F : Type 0} (net : Net S P F) (root : ℕ) (tree : IsTree (ins_of net) root) (i : ℕ) (under : ℕ → Bool) (are : AreUnder (ins_of net) root i under) (j cap : ℕ) (inside : j ≤ root) (ch : Choice S P F)
    (keeps : (k : ℕ) → under k ≡ true → (net.node k).leaf ≡ false → KeepsCount (net.node k).work) (quiet : IsQuiet ch (net.node j)) (sound : AreSoundUnder under net) (still : AreSoundUnder under (step net root cap j ch)) where
  abbrev o : Outcome S P F
  o = turn_at net root cap j ch

  abbrev after : Net S P F
  after = step net root cap j ch

  abbrev input_of : List ℕ → List (Item P)
  input_of os = current_edge net.edge os

  abbrev at_node : ℕ
  at_node = cond o.node.leaf (count_points o.node.told) 0 + (hand_points o.node.hand + points_on o.out)

  -- all but the node and its current child stay
  alone : open_ins (net.node j) ≡ [] → (k : ℕ) → k ≢ j → both under after k ≡ both under net k
  alone q k z = rw (ne-eqb k j z, q)

  elsewhere : (c : ℕ) (cs : List ℕ) → open_ins (net.node j) ≡ c ∷ cs → (k : ℕ) → k ≢ j → k ≢ c → both under after k ≡ both under net k
  elsewhere c cs q k z y = rw (ne-eqb k j z, q, ne-eqb k c y)

  here : both under after j ≡ cond (under j) at_node 0
  here = rw (eq-eqb j j refl)

  below-child : (c : ℕ) (cs : List ℕ) → open_ins (net.node j) ≡ c ∷ cs → c < j
  below-child c cs q = (subst (Each (λ x. x < j)) q (Each-drop _ (net.node j).machine.ended _ (tree.below j))).0

  child : (c : ℕ) (cs : List ℕ) → open_ins (net.node j) ≡ c ∷ cs → both under after c ≡ cond (under c) (told_at net c + (hand_points (net.node c).hand + points_on o.input)) 0
  child c cs q = let l = below-child c cs q in rw (ne-eqb c j (λ z. omega (arith, l, z)), q, eq-eqb c c refl)

  away : (os : List ℕ) → open_ins (net.node j) ≡ os → points_on (input_of os) ≡ length (points_taken o.turned (input_of (open_ins (net.node j)))) + points_on o.input
  away os q = rw (sym q) (took-away (j == root) cap ch (net.node j) (input_of (open_ins (net.node j))) (net.edge j))

  abbrev Counts : Type 0
  Counts = total (both under net) (root + 1) ≡ total (both under after) (root + 1) + length (points_in_step net root cap j ch i)

  -- a node under it
  below-it : under j ≡ true → Counts
  below-it u = by_children (open_ins (net.node j)) refl
    where
      apart : i ≢ j
      apart e = true≢false (sym u ∙ (ap under (sym e) ∙ are.self))

      no-root : (j == root) ≡ false
      no-root = ne-eqb j root (λ e. true≢false (sym u ∙ (ap under e ∙ are.top)))

      same : worth o.node o.input o.out ≡ worth (net.node j) (input_of (open_ins (net.node j))) (net.edge j)
      same = rw no-root (by_hand cap ch (net.node j) (input_of (open_ins (net.node j))) (net.edge j) (keeps j u) quiet (sound j u) (net.node j).hand refl (rw (eq-eqb j j refl, no-root) at (still j u)))

      none-here : length (points_in_step net root cap j ch i) ≡ 0
      none-here = rw (ne-eqb i j apart) refl

      by_children : (os : List ℕ) → open_ins (net.node j) ≡ os → Counts
      by_children [] q =
          let t = total-at (both under after) (both under net) j (root + 1) (omega (arith, inside)) (alone q) in
          let h : both under after j ≡ at_node = here ∙ ap (λ b. cond b at_node 0) u in
          let n : both under net j ≡ told_at net j + waits_at net j = ap (λ b. cond b (told_at net j + waits_at net j) 0) u in
          let a = away [] q in
          let s : worth o.node o.input o.out ≡ worth (net.node j) [] (net.edge j) = same ∙ ap (λ x. worth (net.node j) (input_of x) (net.edge j)) q in
          omega (arith, t, h, n, a, s, none-here)
      by_children (c ∷ cs) q =
          let l = below-child c cs q in
          let v : under c ≡ true = (subst (Each (λ x. under x ≡ true)) q (Each-drop _ (net.node j).machine.ended _ (are.child j (inl u)))).0 in
          let t = total-two (both under after) (both under net) j c (root + 1) (omega (arith, inside)) (omega (arith, inside, l)) (λ z. omega (arith, l, z)) (elsewhere c cs q) in
          let h : both under after j ≡ at_node = here ∙ ap (λ b. cond b at_node 0) u in
          let n : both under net j ≡ told_at net j + waits_at net j = ap (λ b. cond b (told_at net j + waits_at net j) 0) u in
          let g = child c cs q ∙ ap (λ b. cond b (told_at net c + (hand_points (net.node c).hand + points_on o.input)) 0) v in
          let m : both under net c ≡ told_at net c + waits_at net c = ap (λ b. cond b (told_at net c + waits_at net c) 0) v in
          let s : worth o.node o.input o.out ≡ worth (net.node j) (net.edge c) (net.edge j) = same ∙ ap (λ x. worth (net.node j) (input_of x) (net.edge j)) q in
          omega (arith, t, h, n, g, m, s, none-here)

  -- the node itself
  it : j ≡ i → Counts
  it e = by_children (open_ins (net.node j)) refl
    where
      u : under j ≡ false
      u = ap under e ∙ are.self

      taken-here : length (points_in_step net root cap j ch i) ≡ length (points_taken o.turned (input_of (open_ins (net.node j))))
      taken-here = rw (eq-eqb i j (sym e)) refl

      no-part : both under after j ≡ both under net j
      no-part = here ∙ rw u refl

      by_children : (os : List ℕ) → open_ins (net.node j) ≡ os → Counts
      by_children [] q =
          let t = total-same (both under after) (both under net) (root + 1) (λ k b. elim (eqb_tells k j) [ inl p ↦ subst (λ x. both under after x ≡ both under net x) (sym p.1) no-part | inr p ↦ alone q k p.1 ]) in
          let a = away [] q in
          omega (arith, t, a, taken-here)
      by_children (c ∷ cs) q =
          let l = below-child c cs q in
          let v : under c ≡ true = (subst (Each (λ x. under x ≡ true)) q (Each-drop _ (net.node j).machine.ended _ (are.child j (inr e)))).0 in
          let t = total-two (both under after) (both under net) j c (root + 1) (omega (arith, inside)) (omega (arith, inside, l)) (λ z. omega (arith, l, z)) (elsewhere c cs q) in
          let g = child c cs q ∙ ap (λ b. cond b (told_at net c + (hand_points (net.node c).hand + points_on o.input)) 0) v in
          let m : both under net c ≡ told_at net c + waits_at net c = ap (λ b. cond b (told_at net c + waits_at net c) 0) v in
          let a = away (c ∷ cs) q in
          omega (arith, t, no-part, g, m, a, taken-here)

  -- another one
  beside : under j ≡ false → j ≢ i → Counts
  beside u z = by_children (open_ins (net.node j)) refl
    where
      none-here : length (points_in_step net root cap j ch i) ≡ 0
      none-here = rw (ne-eqb i j (λ e. z (sym e))) refl

      no-part : both under after j ≡ both under net j
      no-part = here ∙ rw u refl

      by_children : (os : List ℕ) → open_ins (net.node j) ≡ os → Counts
      by_children [] q =
          let t = total-same (both under after) (both under net) (root + 1) (λ k b. elim (eqb_tells k j) [ inl p ↦ subst (λ x. both under after x ≡ both under net x) (sym p.1) no-part | inr p ↦ alone q k p.1 ]) in
          omega (arith, t, none-here)
      by_children (c ∷ cs) q =
          let v : under c ≡ false = (subst (Each (λ x. under x ≡ false)) q (Each-drop _ (net.node j).machine.ended _ (are.other j u z))).0 in
          let g : both under after c ≡ both under net c = child c cs q ∙ rw v refl in
          let t = total-same (both under after) (both under net) (root + 1) (λ k b. elim (eqb_tells k j) [
            | inl p ↦ subst (λ x. both under after x ≡ both under net x) (sym p.1) no-part
            | inr p ↦ elim (eqb_tells k c) [ inl r ↦ subst (λ x. both under after x ≡ both under net x) (sym r.1) g | inr r ↦ elsewhere c cs q k p.1 r.1 ]
          ]) in
          omega (arith, t, none-here)

  pub counts-step : Counts
  counts-step = by_under (under j) refl
    where
      by_under : (b : Bool) → under j ≡ b → Counts
      by_under true u = below-it u
      by_under false u = elim (eqb_tells j i) [ inl p ↦ it p.1 | inr p ↦ beside u p.1 ]

-- ---- a whole schedule

under-step : {S P F : Type 0} (net : Net S P F) (root cap j : ℕ) (ch : Choice S P F) (i : ℕ) (under : ℕ → Bool) → AreUnder (ins_of net) root i under → AreUnder (ins_of (step net root cap j ch)) root i under
under-step net root cap j ch i under are = record {
  self = are.self;
  top = are.top;
  within = are.within;
  child = λ k h. subst (Each (λ x. under x ≡ true)) (sym (step-same net root cap j ch k).ins) (are.child k h);
  other = λ k u z. subst (Each (λ x. under x ≡ false)) (sym (step-same net root cap j ch k).ins) (are.other k u z);
}

pub is-none : {A : Type 0} (o : Option A) → is_some o ≡ false → o ≡ None
is-none None h = refl
is-none (Some x) h = cc

first-sound : {S P F : Type 0} (under : ℕ → Bool) (net : Net S P F) (root cap : ℕ) (ts : List (ℕ × Choice S P F)) → StaySoundUnder under net root cap ts → AreSoundUnder under net
first-sound under net root cap [] h = h
first-sound under net root cap (t ∷ ts) h = h.0

counts-run : {S P F : Type 0} (net : Net S P F) (root cap i : ℕ) (under : ℕ → Bool) (ts : List (ℕ × Choice S P F)) → IsTree (ins_of net) root → AreUnder (ins_of net) root i under → IsSchedule root ts
    → ((k : ℕ) → under k ≡ true → (net.node k).leaf ≡ false → KeepsCount (net.node k).work) → IsQuietRun net root cap ts → StaySoundUnder under net root cap ts
    → total (both under net) (root + 1) ≡ total (both under (run_schedule net root cap ts)) (root + 1) + length (points_taken_by net root cap ts i)
counts-run net root cap i under [] tree are inside keeps quiet sound = omega arith
counts-run net root cap i under (t ∷ ts) tree are inside keeps quiet sound =
    let s = counts-step net root tree i under are t.0 cap inside.0 t.1 keeps quiet.0 sound.0 (first-sound under _ root cap ts sound.1) in
    let r = counts-run (step net root cap t.0 t.1) root cap i under ts (tree-step net root cap t.0 t.1 tree) (under-step net root cap t.0 t.1 i under are) inside.1
    (λ k u l. let same = step-same net root cap t.0 t.1 k in subst KeepsCount (sym same.work) (keeps k u (sym same.leaf ∙ l))) quiet.1 sound.1 in
    let l = length-append (points_in_step net root cap t.0 t.1 i) (points_taken_by (step net root cap t.0 t.1) root cap ts i) in
    omega (arith, s, r, l)

pub reads-ahead : {S P F : Type 0} (net : Net S P F) (root cap i : ℕ) (under : ℕ → Bool) (ts : List (ℕ × Choice S P F)) → IsTree (ins_of net) root → AreUnder (ins_of net) root i under → IsSchedule root ts
    → ((k : ℕ) → under k ≡ true → (net.node k).leaf ≡ false → KeepsCount (net.node k).work) → IsQuietRun net root cap ts → StaySoundUnder under net root cap ts
    → sum_under under (told_at net) (root + 1) + sum_under under (waits_at net) (root + 1)
    ≡ sum_under under (told_at (run_schedule net root cap ts)) (root + 1) + sum_under under (waits_at (run_schedule net root cap ts)) (root + 1) + length (points_taken_by net root cap ts i)
reads-ahead net root cap i under ts tree are inside keeps quiet sound =
    let r = counts-run net root cap i under ts tree are inside keeps quiet sound in
    let a = both-sums under net (root + 1) in
    let b = both-sums under (run_schedule net root cap ts) (root + 1) in
    omega (arith, r, a, b)

-- what waits under a node, with what its leaves read beyond, fills no more than the queues and a chunk for each node
pub waits-most : {S P F : Type 0} (c cap : ℕ) (net : Net S P F) (root : ℕ) (under : ℕ → Bool) (spare : ℕ → ℕ) → IsNetFit c cap net → ((k : ℕ) → hand_points (net.node k).hand + spare k ≤ c) → under root ≡ false
    → sum_under under (waits_at net) (root + 1) + sum_under under spare (root + 1) ≤ root * (cap * c + c)
waits-most c cap net root under spare fit room top =
    let b = before root in
    let w : cond (under root) (waits_at net root) 0 ≡ 0 = ap (λ x. cond x (waits_at net root) 0) top in
    let x : cond (under root) (spare root) 0 ≡ 0 = ap (λ x. cond x (spare root) 0) top in
    let s = total-next (λ k. cond (under k) (waits_at net k) 0) root in
    let h = total-next (λ k. cond (under k) (spare k) 0) root in
    omega (arith, b, w, x, s, h)
  where
    total-next : (f : ℕ → ℕ) (n : ℕ) → total f (n + 1) ≡ total f n + f n
    total-next f n = ap (total f) {x = n + 1} {y = suc n} (omega arith)

    at : (k : ℕ) → cond (under k) (waits_at net k) 0 + cond (under k) (spare k) 0 ≤ cap * c + c
    at k = by (under k)
      where
        by : (u : Bool) → cond u (waits_at net k) 0 + cond u (spare k) 0 ≤ cap * c + c
        by true = let r = room k in let p = points-most c (net.edge k) (fit.edges k) in let m = mul-le-mul_right c (fit.room k) in omega (arith, r, p, m)
        by false = omega arith

    before : (n : ℕ) → sum_under under (waits_at net) n + sum_under under spare n ≤ n * (cap * c + c)
    before zero = omega arith
    before (suc n) = let h = before n in let a = at n in omega (arith, h, a)

-- where no node had a fault before a turn, and none under the node has one then, none had
pub sound-before : {S P F : Type 0} (under : ℕ → Bool) (net : Net S P F) (root cap : ℕ) (ts : List (ℕ × Choice S P F)) → ((k : ℕ) → under k ≡ true → k ≤ root) → AreClean net root cap ts → AreSoundUnder under (run_schedule net root cap ts) → StaySoundUnder under net root cap ts
sound-before under net root cap [] within clean sound = sound
sound-before under net root cap (t ∷ ts) within clean sound = (
  (λ k u. is-none (net.node k).machine.fault (clean.0 k (within k u))),
  sound-before under (step net root cap t.0 t.1) root cap ts within clean.1 sound,
)
