-- A schedule without events keeps how each node ends.
use Rattle.std.proofs.Common.{◌≡◌, ◌≢◌, ℕ, ◌<◌, Bool, List, [], ◌∷◌, Option, Some, None, is_some, refl, subst, sym, ◌∙◌}
use Rattle.std.specs.Prelude.{◌==◌, nat_lt, ◌+◌, length}
use Rattle.std.proofs.lemmas.Bool.{eqb-true}
use Rattle.cloud_points.specs.Meaning.{KeepsCutting}
use Rattle.cloud_points.specs.Marks.{Item, Points, End_view, End_all}
use Rattle.network_theory.specs.Net.{Node, Net, Choice, Quiet, Failed, Short, Makes, Outcome, taken, taken_points, taken_view, makes, takes, with_hand, turn, turn_at, step, rest}
use Rattle.network_theory.specs.Shape.{Each, Apart, In, IsTree, ins_of}
use Rattle.network_theory.specs.Schedule.{run_schedule, IsQuietRun, KeepsLaws}
use Rattle.network_theory.proofs.Turns.{either}
use Rattle.network_theory.proofs.Rest.{last-step}

-- what no turn changes
pub record Same {S P F : Type 0} (n m : Node S P F) : Type 0 where
  pub ins : m.ins ≡ n.ins
  pub work : m.work ≡ n.work
  pub leaf : m.leaf ≡ n.leaf

module _ {S P F : Type 0} (n : Node S P F) where
  same : Same n n
  same = record { ins = refl; work = refl; leaf = refl }

  taken-same : (ch : Choice S P F) (it : Item P) → Same n (taken ch n it)
  taken-same ch (Points ps) = either (Same n) (is_some n.machine.fault) _ _ (λ _. same) (λ _. by_choice ch)
    where
      by_choice : (c : Choice S P F) → Same n (taken_points c n ps)
      by_choice Quiet = record { ins = refl; work = refl; leaf = refl }
      by_choice (Failed f s) = record { ins = refl; work = refl; leaf = refl }
      by_choice (Short s) = record { ins = refl; work = refl; leaf = refl }
      by_choice (Makes i f s told tf pl vl) = same
  taken-same ch End_view = either (Same n) (is_some n.machine.fault) _ _ (λ _. same) (λ _. by_choice ch)
    where
      by_choice : (c : Choice S P F) → Same n (taken_view c n)
      by_choice Quiet = record { ins = refl; work = refl; leaf = refl }
      by_choice (Short s) = record { ins = refl; work = refl; leaf = refl }
      by_choice (Failed f s) = same
      by_choice (Makes i f s told tf pl vl) = same
  taken-same ch (End_all cut) = either (Same n) (n.machine.ended + 1 == n.machine.inputs) _ _ (λ _. record { ins = refl; work = refl; leaf = refl }) (λ _. record { ins = refl; work = refl; leaf = refl })

  makes-same : (ch : Choice S P F) → Same n (makes ch n)
  makes-same (Makes i f s told tf pl vl) = record { ins = refl; work = refl; leaf = refl }
  makes-same Quiet = same
  makes-same (Failed f s) = same
  makes-same (Short s) = same

  takes-same : (ch : Choice S P F) (is out : List (Item P)) → Same n (takes ch n is out).node
  takes-same ch [] out = same
  takes-same ch (i ∷ is) out = taken-same ch i

  by_hand : (root : Bool) (cap : ℕ) (ch : Choice S P F) (is out : List (Item P)) (h : Option (Item P)) → Same n (with_hand root cap ch n is out h).node
  by_hand root cap ch is out (Some i) = either (λ (o : Outcome S P F). Same n o.node) root _ _ (λ _. record { ins = refl; work = refl; leaf = refl }) (λ _. either (λ (o : Outcome S P F). Same n o.node) (nat_lt (length out) cap) _ _ (λ _. record { ins = refl; work = refl; leaf = refl }) (λ _. same))
  by_hand root cap ch is out None = either (λ (o : Outcome S P F). Same n o.node) n.done _ _ (λ _. same) (λ _. either (λ (o : Outcome S P F). Same n o.node) n.ending _ _ (λ _. record { ins = refl; work = refl; leaf = refl }) (λ _. either (λ (o : Outcome S P F). Same n o.node) n.leaf _ _ (λ _. makes-same ch) (λ _. takes-same ch is out)))

  pub turn-same : (root : Bool) (cap : ℕ) (ch : Choice S P F) (is out : List (Item P)) → Same n (turn root cap ch n is out).node
  turn-same root cap ch is out = by_hand root cap ch is out n.hand

module _ {S P F : Type 0} (net : Net S P F) (root cap i : ℕ) (ch : Choice S P F) where
  pub step-same : (k : ℕ) → Same (net.node k) ((step net root cap i ch).node k)
  step-same k = either (Same (net.node k)) (k == i) _ _
      (λ t. subst (λ z. Same (net.node z) (turn_at net root cap i ch).node) (sym (eqb-true k i t)) (by_hand (net.node i) (i == root) cap ch _ _ (net.node i).hand))
      (λ _. same (net.node k))

  pub tree-step : IsTree (ins_of net) root → IsTree (ins_of (step net root cap i ch)) root
  tree-step t = record {
    below = λ k. subst (Each (λ j. j < k)) (sym (step-same k).ins) (t.below k);
    apart = λ k. subst Apart (sym (step-same k).ins) (t.apart k);
    parent = t.parent;
    owned = λ k. subst (Each (λ j. t.parent j ≡ k)) (sym (step-same k).ins) (t.owned k);
    child = λ k h. ((t.child k h).0, (t.child k h).1, subst (In k) (sym (step-same (t.parent k)).ins) (t.child k h).2);
    no_root = λ k. subst (Each (λ j. j ≢ root)) (sym (step-same k).ins) (t.no_root k);
  }

  pub laws-step : KeepsLaws net → KeepsLaws (step net root cap i ch)
  laws-step l k = subst KeepsCutting (sym (step-same k).work) (l k)

pub last-run : {S P F : Type 0} (net : Net S P F) (root cap : ℕ) (ts : List (ℕ × Choice S P F)) → IsTree (ins_of net) root → KeepsLaws net → IsQuietRun net root cap ts → (k : ℕ) → rest (run_schedule net root cap ts) k ≡ rest net k
last-run net root cap [] tree laws quiet k = refl
last-run net root cap (t ∷ ts) tree laws quiet k =
    last-run (step net root cap t.0 t.1) root cap ts (tree-step net root cap t.0 t.1 tree) (laws-step net root cap t.0 t.1 laws) quiet.1 k
    ∙ last-step net root tree t.0 cap t.1 (laws t.0) quiet.0 k
