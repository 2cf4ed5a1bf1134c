-- What a node takes is what its inputs bring, in their order.
use Rattle.std.proofs.Common.{◌≡◌, ℕ, Bool, true, false, cond, inl, inr, List, [], ◌∷◌, ◌++◌, length, map, take, Option, Some, None, refl, ap, sym, ◌∙◌, append_assoc, append-nil, arith, length-append}
use Rattle.std.specs.Prelude.{◌==◌, nat_lt}
use Rattle.cloud_points.specs.Meaning.{KeepsCutting}
use Rattle.cloud_points.specs.Marks.{Mark, At, View_end, End, Item, Points, End_view, End_all, marks}
use Rattle.network_theory.specs.Net.{Node, Net, Choice, Outcome, takes, with_hand, turn, turn_at, step, open_ins, current_edge, IsQuiet}
use Rattle.network_theory.specs.Shape.{IsTree, ins_of}
use Rattle.network_theory.specs.Schedule.{run_schedule, IsQuietRun, KeepsLaws}
use Rattle.network_theory.specs.History.{took, item_points, all_item_points, mark_points, points_taken, points_in_step, points_taken_by, brings}
use Rattle.network_theory.proofs.Turns.{either}
use Rattle.network_theory.proofs.Rows.{Stands, Takes, turn-keeps}
use Rattle.network_theory.proofs.Rest.{brings-stands, brings-taken}
use Rattle.network_theory.proofs.Run.{tree-step, laws-step}

pub mark_points-append : {P : Type 0} (xs ys : List (Mark P)) → mark_points (xs ++ ys) ≡ mark_points xs ++ mark_points ys
mark_points-append [] ys = refl
mark_points-append (At p ∷ xs) ys = ap (λ r. p ∷ r) (mark_points-append xs ys)
mark_points-append (View_end ∷ xs) ys = mark_points-append xs ys
mark_points-append (End c ∷ xs) ys = mark_points-append xs ys

pub points-of_points : {P : Type 0} (ps : List P) → mark_points (map At ps) ≡ ps
points-of_points [] = refl
points-of_points (p ∷ ps) = ap (λ r. p ∷ r) (points-of_points ps)

pub points-of_item : {P : Type 0} (i : Item P) → mark_points (marks i) ≡ item_points i
points-of_item (Points ps) = points-of_points ps
points-of_item End_view = refl
points-of_item (End_all c) = refl

-- what a turn took stood first on the current edge
module _ {S P F : Type 0} (root : Bool) (cap : ℕ) (ch : Choice S P F) (n : Node S P F) (input out : List (Item P)) where
  abbrev pub FromInput : Outcome S P F → Type 0
  FromInput o = took o.turned input ++ o.input ≡ input

  takes-input : (is : List (Item P)) → input ≡ is → FromInput (takes ch n is out)
  takes-input [] e = sym e
  takes-input (i ∷ is) e = rw e refl

  by_hand : (h : Option (Item P)) → FromInput (with_hand root cap ch n input out h)
  by_hand (Some i) = either FromInput root _ _ (λ _. refl) (λ _. either FromInput (nat_lt (length out) cap) _ _ (λ _. refl) (λ _. refl))
  by_hand None = either FromInput n.done _ _ (λ _. refl) (λ _. either FromInput n.ending _ _ (λ _. refl) (λ _. either FromInput n.leaf _ _ (λ _. refl) (λ _. takes-input input refl)))

  pub from_input : FromInput (turn root cap ch n input out)
  from_input = by_hand n.hand

none_before : {A : Type 0} (xs ys : List A) → xs ++ ys ≡ ys → xs ≡ []
none_before [] ys e = refl
none_before (x ∷ xs) ys e = absurd (let l = ap length e in omega (arith, l, length-append xs ys))

module _ {S P F : Type 0} (net : Net S P F) (root : ℕ) (tree : IsTree (ins_of net) root) (i cap : ℕ) (ch : Choice S P F) (law : KeepsCutting (net.node i).work) (quiet : IsQuiet ch (net.node i)) where
  abbrev pub o : Outcome S P F
  o = turn_at net root cap i ch

  abbrev pub taken_now : List (Item P)
  taken_now = took o.turned (current_edge net.edge (open_ins (net.node i)))

  nothing : (xs : List P) (b : Bool) → xs ≡ [] → cond b xs [] ≡ []
  nothing xs true e = e
  nothing xs false e = refl

  stands : Stands (i == root) (net.node i) (current_edge net.edge (open_ins (net.node i))) (net.edge i) o → (k : ℕ) → mark_points (brings net k) ≡ points_in_step net root cap i ch k ++ mark_points (brings (step net root cap i ch) k)
  stands s k =
      let none : taken_now ≡ [] = none_before taken_now _ (ap (λ x. taken_now ++ x) (sym s.input_stays) ∙ from_input (i == root) cap ch (net.node i) (current_edge net.edge (open_ins (net.node i))) (net.edge i)) in
      rw (nothing (points_taken o.turned (current_edge net.edge (open_ins (net.node i)))) (k == i) (ap all_item_points none)) (ap mark_points (sym (brings-stands net root tree i o s k)))

  one_item : (it : Item P) (b : Bool) → mark_points (cond {A = List (Mark P)} b (marks it) []) ≡ cond b (item_points it ++ []) []
  one_item it true = points-of_item it ∙ sym (append-nil (item_points it))
  one_item it false = refl

  takes-one : (k : ℕ) (os : List ℕ) → open_ins (net.node i) ≡ os → Takes (net.node i) (current_edge net.edge os) (net.edge i) o → mark_points (brings net k) ≡ points_in_step net root cap i ch k ++ mark_points (brings (step net root cap i ch) k)
  takes-one k [] e t = absurd (let f = t.first in cc)
  takes-one k (c ∷ cs) e t =
      let what : points_in_step net root cap i ch k ≡ cond (k == i) (item_points t.item ++ []) [] =
      ap (λ x. cond (k == i) (points_taken x.turned (current_edge net.edge (open_ins (net.node i)))) []) t.outcome ∙ ap (λ x. cond (k == i) (all_item_points (take 1 (current_edge net.edge x))) []) e ∙ ap (λ x. cond (k == i) (all_item_points (take 1 x)) []) t.first in
      ap mark_points (brings-taken net root tree i o law c cs e t.item t.rest t.first t.outcome t.hand t.ending t.leaf k)
      ∙ mark_points-append (cond {A = List (Mark P)} (k == i) (marks t.item) []) _
      ∙ ap (λ x. x ++ mark_points (brings (step net root cap i ch) k)) (one_item t.item (k == i) ∙ sym what)

  pub points-step : (k : ℕ) → mark_points (brings net k) ≡ points_in_step net root cap i ch k ++ mark_points (brings (step net root cap i ch) k)
  points-step k = elim (turn-keeps (i == root) (net.node i) (current_edge net.edge (open_ins (net.node i))) (net.edge i) cap ch quiet) [
    | inl s ↦ stands s k
    | inr t ↦ takes-one k (open_ins (net.node i)) refl t
  ]

-- over a whole schedule
pub points-run : {S P F : Type 0} (net : Net S P F) (root cap : ℕ) (ts : List (ℕ × Choice S P F)) → IsTree (ins_of net) root → KeepsLaws net → IsQuietRun net root cap ts → (k : ℕ) →
    mark_points (brings net k) ≡ points_taken_by net root cap ts k ++ mark_points (brings (run_schedule net root cap ts) k)
points-run net root cap [] tree laws quiet k = refl
points-run net root cap (t ∷ ts) tree laws quiet k =
    points-step net root tree t.0 cap t.1 (laws t.0) quiet.0 k
    ∙ ap (λ x. points_in_step net root cap t.0 t.1 k ++ x) (points-run (step net root cap t.0 t.1) root cap ts (tree-step net root cap t.0 t.1 tree) (laws-step net root cap t.0 t.1 laws) quiet.1 k)
    ∙ sym (append_assoc (points_in_step net root cap t.0 t.1 k) _ _)
