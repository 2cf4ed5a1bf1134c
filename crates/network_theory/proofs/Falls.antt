-- Whole schedules keep the shape and soundness of a net, and its due falls.
use Rattle.std.proofs.Common.{◌≡◌, ℕ, ◌+◌, ◌≤◌, List, [], ◌∷◌, ap, subst, sym, ◌∙◌, arith}
use Rattle.std.specs.Prelude.{◌==◌}
use Rattle.network_theory.specs.Net.{Net, Choice, turn_at, with_turn, step, open_ins, current_edge, holds_end, IsAllowed}
use Rattle.network_theory.specs.Shape.{Each, IsTree, ins_of}
use Rattle.network_theory.specs.Sound.{IsSound}
use Rattle.network_theory.specs.Due.{IsBelow}
use Rattle.network_theory.specs.Schedule.{run_schedule}
use Rattle.network_theory.specs.Laws.{LowersDue}
use Rattle.network_theory.proofs.Run.{step-same, tree-step}
use Rattle.network_theory.proofs.Safe.{sound-step}
use Rattle.network_theory.proofs.Due.{turn-lowers}
use Rattle.network_theory.proofs.Sums.{due-falls}
use Rattle.network_theory.proofs.Stays.{still-same}

pub below-step : {S P F : Type 0} (net : Net S P F) (root cap i : ℕ) (ch : Choice S P F) (below : ℕ → ℕ) → IsBelow (ins_of net) root below → IsBelow (ins_of (step net root cap i ch)) root below
below-step net root cap i ch below h = record {
  top = h.top;
  child = λ k b. subst (Each (λ j. below j ≡ below k + 1)) (sym (step-same net root cap i ch k).ins) (h.child k b);
}

pub tree-run : {S P F : Type 0} (net : Net S P F) (root cap : ℕ) (ts : List (ℕ × Choice S P F)) → IsTree (ins_of net) root → IsTree (ins_of (run_schedule net root cap ts)) root
tree-run net root cap [] t = t
tree-run net root cap (c ∷ ts) t = tree-run (step net root cap c.0 c.1) root cap ts (tree-step net root cap c.0 c.1 t)

pub sound-run : {S P F : Type 0} (net : Net S P F) (root cap : ℕ) (ts : List (ℕ × Choice S P F)) → IsTree (ins_of net) root → IsSound net → IsSound (run_schedule net root cap ts)
sound-run net root cap [] t s = s
sound-run net root cap (c ∷ ts) t s = sound-run (step net root cap c.0 c.1) root cap ts (tree-step net root cap c.0 c.1 t) (sound-step net root t s c.0 cap c.1)

pub below-run : {S P F : Type 0} (net : Net S P F) (root cap : ℕ) (ts : List (ℕ × Choice S P F)) (below : ℕ → ℕ) → IsBelow (ins_of net) root below → IsBelow (ins_of (run_schedule net root cap ts)) root below
below-run net root cap [] below h = h
below-run net root cap (c ∷ ts) below h = below-run (step net root cap c.0 c.1) root cap ts below (below-step net root cap c.0 c.1 below h)

pub lowers-due : {S P F : Type 0} (net : Net S P F) (root cap : ℕ) (below : ℕ → ℕ) (i : ℕ) (ch : Choice S P F) → IsTree (ins_of net) root → IsSound net → IsBelow (ins_of net) root below → i ≤ root → IsAllowed ch (net.node i) → LowersDue net root cap below i ch
lowers-due {S} {P} {F} net root cap below i ch tree sound depth inside allowed =
    let low = turn-lowers (below i) (net.node i) (current_edge net.edge (open_ins (net.node i))) (net.edge i) (i == root) cap ch allowed.leaf
    (λ l d e h. (sound.nodes i).reads l d e (ap holds_end h)) in
    record {
      falls = λ w. due-falls net root tree below depth (root + 1) i (omega arith) inside (turn_at net root cap i ch) (low.falls w);
      stays = λ w. ap (with_turn net root i) (low.stays w) ∙ still-same net root i (turn_at net root cap i ch).turned w;
    }
