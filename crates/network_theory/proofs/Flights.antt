-- The points in flight stay within the queues and one chunk for each node.
use Rattle.std.proofs.Common.{◌≡◌, ℕ, zero, suc, ◌+◌, ◌*◌, ◌≤◌, ◌<◌, Bool, true, false, cond, List, [], ◌∷◌, ◌++◌, length, Option, Some, None, is_some, refl, ap, subst, sym, arith, length-append, inl, inr}
use Rattle.std.proofs.Math.Nat.{mul-le-mul_right}
use Rattle.std.specs.Prelude.{◌==◌, nat_lt}
use Rattle.std.proofs.lemmas.Bool.{eqb-true, ltb-true}
use Rattle.cloud_points.specs.Meaning.{KeepsCutting}
use Rattle.cloud_points.specs.Marks.{Item, Points, End_view, End_all, points_in}
use Rattle.network_theory.specs.Net.{Node, Net, Choice, Quiet, Failed, Short, Makes, Outcome, Turned, Gave, Made, Idle, Done, Full, item_of, given, taken, taken_points, taken_view, makes, takes, with_hand, turn_at, with_turn, step, open_ins, current_edge, is_current, IsAllowed, IsWithin}
use Rattle.network_theory.specs.Shape.{Each}
use Rattle.network_theory.specs.Due.{total}
use Rattle.network_theory.specs.Flight.{hand_points, points_on, in_flight}
use Rattle.network_theory.specs.Schedule.{run_schedule, IsAllowedRun, KeepsLaws}
use Rattle.network_theory.specs.Opening.{IsOpening}
use Rattle.network_theory.proofs.Turns.{either}
use Rattle.network_theory.proofs.Run.{laws-step}
use Rattle.network_theory.proofs.Openings.{inside}

-- an item of at most so many points
abbrev pub Fits : {P : Type 0} → ℕ → Item P → Type 0
Fits c i = points_in i ≤ c

pub record IsFit {S P F : Type 0} (c : ℕ) (n : Node S P F) : Type 0 where
  pub hand : hand_points n.hand ≤ c
  pub chunk : n.chunk ≤ c

pub record StaysFit {S P F : Type 0} (c cap : ℕ) (before after : List (Item P)) (o : Outcome S P F) : Type 0 where
  pub node : IsFit c o.node
  pub input : Each (Fits c) before → Each (Fits c) o.input
  pub fewer : length o.input ≤ length before
  pub out : Each (Fits c) after → Each (Fits c) o.out
  pub room : length after ≤ cap → length o.out ≤ cap

pub hand_of-points : {P : Type 0} (ps : List P) → hand_points (item_of ps) ≡ length ps
hand_of-points [] = refl
hand_of-points (p ∷ ps) = refl

pub hand_of-view : (P : Type 0) (b : Bool) → hand_points (cond {A = Option (Item P)} b (Some End_view) None) ≡ 0
hand_of-view P true = refl
hand_of-view P false = refl

pub hand_of-end : (P : Type 0) (b c : Bool) → hand_points (cond {A = Option (Item P)} b (Some End_view) (Some (End_all c))) ≡ 0
hand_of-end P true c = refl
hand_of-end P false c = refl

each-last : {A : Type 0} (Q : A → Type 0) (xs : List A) (x : A) → Each Q xs → Q x → Each Q (xs ++ x ∷ [])
each-last Q [] x h q = (q, tt)
each-last Q (y ∷ xs) x h q = (h.0, each-last Q xs x h.1 q)

module _ {S P F : Type 0} (c cap : ℕ) (n : Node S P F) (law : KeepsCutting n.work) (fit : IsFit c n) where
  -- a node whose hand has no points
  light : (m : Node S P F) → m.chunk ≡ n.chunk → hand_points m.hand ≡ 0 → IsFit c m
  light m k h = record { hand = omega arith; chunk = let f = fit.chunk in omega arith }

  taken-fit : (ch : Choice S P F) (it : Item P) → Fits c it → IsFit c (taken ch n it)
  taken-fit ch (Points ps) f = either (IsFit c) (is_some n.machine.fault) _ _ (λ _. fit) (λ _. by_choice ch)
    where
      by_choice : (e : Choice S P F) → IsFit c (taken_points e n ps)
      by_choice Quiet = record { hand = let l = law.no_longer n.machine.state ps in let h = hand_of-points (n.work.emit n.machine.state ps) in omega (arith, h, l, f); chunk = fit.chunk }
      by_choice (Failed g s) = light _ refl refl
      by_choice (Short s) = light _ refl refl
      by_choice (Makes i g s told tf pl vl) = fit
  taken-fit ch End_view f = either (IsFit c) (is_some n.machine.fault) _ _ (λ _. fit) (λ _. by_choice ch)
    where
      by_choice : (e : Choice S P F) → IsFit c (taken_view e n)
      by_choice Quiet = light (taken_view Quiet n) refl (hand_of-view P ((n.work.at_view n.machine.state).1))
      by_choice (Short s) = light (taken_view (Short s) n) refl (hand_of-view P ((n.work.at_view n.machine.state).1))
      by_choice (Failed g s) = fit
      by_choice (Makes i g s told tf pl vl) = fit
  taken-fit ch (End_all cut) f = either (IsFit c) (n.machine.ended + 1 == n.machine.inputs) _ _ (λ _. light _ refl (hand_of-end P _ _)) (λ _. light _ refl refl)

  made-fit : (ch : Choice S P F) → IsWithin ch n → IsFit c (makes ch n)
  made-fit (Makes i f s told tf pl vl) w = record { hand = let m = w.most in let k = fit.chunk in omega arith; chunk = fit.chunk }
  made-fit Quiet w = fit
  made-fit (Failed f s) w = fit
  made-fit (Short s) w = fit

  module _ (input out : List (Item P)) (fits : Each (Fits c) input) where
    leaves : (m : Node S P F) (t : Turned) → IsFit c m → StaysFit c cap input out (record { node = m; input = input; out = out; turned = t })
    leaves m t f = record { node = f; input = λ h. h; fewer = omega arith; out = λ h. h; room = λ h. h }

    given-fit : (i : Item P) → IsFit c (given n i)
    given-fit i = light (given n i) refl refl

    puts : (i : Item P) → n.hand ≡ Some i → length out < cap → StaysFit c cap input out (record { node = given n i; input = input; out = out ++ i ∷ []; turned = Gave })
    puts i h r = record {
      node = given-fit i;
      input = λ x. x;
      fewer = omega arith;
      out = λ x. each-last (Fits c) out i x (let f = fit.hand in let e : hand_points n.hand ≡ points_in i = ap hand_points h in omega (arith, e));
      room = λ _. let l = length-append out (i ∷ []) in let o : length (i ∷ []) ≡ 1 = refl in omega (arith, l, o);
    }

    takes-fit : (ch : Choice S P F) (is : List (Item P)) → input ≡ is → StaysFit c cap input out (takes ch n is out)
    takes-fit ch [] e = rw e (record { node = fit; input = λ h. h; fewer = omega arith; out = λ h. h; room = λ h. h })
    takes-fit ch (i ∷ is) e = rw e (record {
      node = taken-fit ch i (subst (Each (Fits c)) e fits).0;
      input = λ h. h.1;
      fewer = omega arith;
      out = λ h. h;
      room = λ h. h;
    })

    by_hand : (root : Bool) (ch : Choice S P F) → IsAllowed ch n → (h : Option (Item P)) → n.hand ≡ h → StaysFit c cap input out (with_hand root cap ch n input out h)
    by_hand root ch a (Some i) h = either (StaysFit c cap input out) root _ _
        (λ _. leaves (given n i) Gave (given-fit i))
        (λ _. either (StaysFit c cap input out) (nat_lt (length out) cap) _ _ (λ r. puts i h (ltb-true (length out) cap r)) (λ _. leaves n (Idle Full) fit))
    by_hand root ch a None h = either (StaysFit c cap input out) n.done _ _
        (λ _. leaves n Done fit)
        (λ d. either (StaysFit c cap input out) n.ending _ _
        (λ _. leaves _ Made (light _ refl refl))
        (λ e. either (StaysFit c cap input out) n.leaf _ _
        (λ l. leaves _ Made (made-fit ch (a.leaf l h d e)))
        (λ _. takes-fit ch input refl)))

-- every node and every edge of a net
pub record IsNetFit {S P F : Type 0} (c cap : ℕ) (net : Net S P F) : Type 0 where
  pub nodes : (k : ℕ) → IsFit c (net.node k)
  pub edges : (k : ℕ) → Each (Fits c) (net.edge k)
  pub room : (k : ℕ) → length (net.edge k) ≤ cap

module _ {S P F : Type 0} (c cap : ℕ) (net : Net S P F) (laws : KeepsLaws net) (fit : IsNetFit c cap net) (root i : ℕ) where
  abbrev input : List (Item P)
  input = current_edge net.edge (open_ins (net.node i))

  input-fits : (os : List ℕ) → Each (Fits c) (current_edge net.edge os)
  input-fits [] = tt
  input-fits (k ∷ ks) = fit.edges k

  -- an edge beside the turn: the one above node i, its current edge, or another
  at_edge : (Q : List (Item P) → Type 0) (k : ℕ) (o : Outcome S P F) (os : List ℕ) → Q o.out → (Q (current_edge net.edge os) → Q o.input) → Q (net.edge k) → Q (cond (k == i) o.out (cond (is_current k os) o.input (net.edge k)))
  at_edge Q k o [] a b h = either Q (k == i) _ _ (λ _. a) (λ _. h)
  at_edge Q k o (j ∷ js) a b h = either Q (k == i) _ _ (λ _. a) (λ _. either Q (k == j) _ _ (λ e. b (subst (λ z. Q (net.edge z)) (eqb-true k j e) h)) (λ _. h))

  fit-turn : (o : Outcome S P F) → StaysFit c cap input (net.edge i) o → IsNetFit c cap (with_turn net root i o)
  fit-turn o s = record {
    nodes = λ k. either (IsFit c) (k == i) _ _ (λ _. s.node) (λ _. fit.nodes k);
    edges = λ k. at_edge (Each (Fits c)) k o (open_ins (net.node i)) (s.out (fit.edges i)) (λ h. s.input h) (fit.edges k);
    room = λ k. at_edge (λ es. length es ≤ cap) k o (open_ins (net.node i)) (s.room (fit.room i)) (λ h. let f = s.fewer in omega arith) (fit.room k);
  }

  pub fit-step : (ch : Choice S P F) → IsAllowed ch (net.node i) → IsNetFit c cap (step net root cap i ch)
  fit-step ch a = fit-turn (turn_at net root cap i ch) (by_hand c cap (net.node i) (laws i) (fit.nodes i) input (net.edge i) (input-fits (open_ins (net.node i))) (i == root) ch a (net.node i).hand refl)

pub fit-run : {S P F : Type 0} (c cap : ℕ) (net : Net S P F) (root : ℕ) (ts : List (ℕ × Choice S P F)) → KeepsLaws net → IsNetFit c cap net → IsAllowedRun net root cap ts → IsNetFit c cap (run_schedule net root cap ts)
fit-run c cap net root [] laws fit a = fit
fit-run c cap net root (t ∷ ts) laws fit a = fit-run c cap (step net root cap t.0 t.1) root ts (laws-step net root cap t.0 t.1 laws) (fit-step c cap net laws fit root t.0 t.1 a.0) a.1

total-most : (f : ℕ → ℕ) (c n : ℕ) → ((k : ℕ) → f k ≤ c) → total f n ≤ n * c
total-most f c zero h = omega arith
total-most f c (suc n) h = let i = total-most f c n h in let s = h n in omega (arith, i, s)

pub points-most : {P : Type 0} (c : ℕ) (es : List (Item P)) → Each (Fits c) es → points_on es ≤ length es * c
points-most c [] h = omega arith
points-most c (i ∷ is) h = let t = points-most c is h.1 in let f = h.0 in omega (arith, t, f)

pub flight-most : {S P F : Type 0} (c cap : ℕ) (net : Net S P F) (root : ℕ) → IsNetFit c cap net → in_flight net root ≤ (root * cap + (root + 1)) * c
flight-most c cap net root fit =
    let hands = total-most (λ k. hand_points (net.node k).hand) c (root + 1) (λ k. (fit.nodes k).hand) in
    let edges = total-most (λ k. points_on (net.edge k)) (cap * c) root (λ k. let p = points-most c (net.edge k) (fit.edges k) in let m = mul-le-mul_right c (fit.room k) in omega (arith, p, m)) in
    let same : root * (cap * c) ≡ root * cap * c = omega arith in
    omega (arith, hands, edges, same)

-- from the start
pub opening-fit : {S P F : Type 0} (c cap : ℕ) (net : Net S P F) (root : ℕ) → IsOpening net root → ((k : ℕ) → (net.node k).chunk ≤ c) → IsNetFit c cap net
opening-fit c cap net root o most = record {
  nodes = λ k. record { hand = let h : hand_points (net.node k).hand ≡ 0 = ap hand_points (hand k) in omega (arith, h); chunk = most k };
  edges = λ k. subst (Each (Fits c)) (sym (o.edges k)) tt;
  room = λ k. let l : length (net.edge k) ≡ 0 = ap length (o.edges k) in omega (arith, l);
}
  where
    hand : (k : ℕ) → (net.node k).hand ≡ None
    hand k = elim (inside k root) [ inl b ↦ (o.fresh k b).hand | inr b ↦ (o.beyond k b).sound.rests (o.beyond k b).done ]
