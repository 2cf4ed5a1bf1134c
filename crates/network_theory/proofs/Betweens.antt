-- One node between two of its states, turn by turn.
use Rattle.std.proofs.Common.{◌≡◌, ℕ, ◌+◌, ◌-◌, ◌*◌, ◌<◌, ◌≤◌, Bool, true, false, cond, ◌⊎◌, inl, inr, List, [], ◌∷◌, ◌++◌, length, refl, ap, subst, sym, ◌∙◌, append-nil, arith, Option, None}
use Rattle.std.specs.Prelude.{◌==◌}
use Rattle.cloud_points.specs.Meaning.{KeepsCutting}
use Rattle.cloud_points.specs.Marks.{Mark, Item, marks, all_marks, is_end}
use Rattle.network_theory.specs.Net.{Node, Choice, Quiet, Outcome, turn, taken, IsQuiet, IsWithin, holds_end, owes, works}
use Rattle.network_theory.specs.Sound.{IsNode}
use Rattle.network_theory.specs.History.{mark_points, item_points, all_item_points}
use Rattle.network_theory.specs.Carried.{from_input, rest_of, joined, only_input}
use Rattle.network_theory.specs.Between.{QuietBetween}
use Rattle.network_theory.proofs.Carries.{carried-nothing, carried-on, at_input, from-same, inputs-stay, tape-took}
use Rattle.network_theory.proofs.CarriedTurn.{carried-same, none-taken, Carries, turn-carries}
use Rattle.network_theory.proofs.Keeps.{turn-moved}
use Rattle.network_theory.proofs.Finals.{closing-turn}
use Rattle.network_theory.proofs.Rest.{ended-taken}
use Rattle.network_theory.proofs.Run.{turn-same}
use Rattle.network_theory.proofs.Brought.{mark_points-append, points-of_item}
use Rattle.network_theory.proofs.Due.{Lowers, turn-lowers}

module _ {S P F : Type 0} where
  pub quiet-nothing : (n : Node S P F) → QuietBetween n n (λ _. []) []
  quiet-nothing n = record { carried = carried-nothing n; closing = λ ok. ok }

  pub quiet-on : (l m n : Node S P F) (a c : ℕ → List (Mark P)) (b d : List (Mark P)) → QuietBetween l m a b → QuietBetween m n c d → QuietBetween l n (λ k. a k ++ c k) (b ++ d)
  quiet-on l m n a c b d h g = record { carried = carried-on l m n a c b d h.carried g.carried; closing = λ ok. g.closing (h.closing ok) }

  pub quiet-same : (old new : Node S P F) (a a' : ℕ → List (Mark P)) (b b' : List (Mark P)) → a ≡ a' → b ≡ b' → QuietBetween old new a b → QuietBetween old new a' b'
  quiet-same old new a a' b b' e f h = subst (λ (p : (ℕ → List (Mark P)) × List (Mark P)). QuietBetween old new p.0 p.1) (λ i. (e i, f i)) h

rest-same : {S P F : Type 0} (m n : Node S P F) (r : ℕ → List (Mark P)) → m.machine.ended ≡ n.machine.ended → m.machine.inputs ≡ n.machine.inputs → rest_of m r ≡ rest_of n r
rest-same m n r a b = ap (λ x. from_input r x (m.machine.inputs - x)) a ∙ ap (λ i. from_input r n.machine.ended (i - n.machine.ended)) b

no_end : {P : Type 0} (h : Option (Item P)) → h ≡ None → holds_end h ≡ false
no_end h e = ap holds_end e

-- a turn that took all of these items of the current input
module _ {S P F : Type 0} (root : Bool) (cap : ℕ) (ch : Choice S P F) (n : Node S P F) (items : List (Item P)) (ok : IsNode n) (all : (turn root cap ch n items []).input ≡ [])
    (more : (it : Item P) → items ≡ it ∷ [] → n.machine.ended < n.machine.inputs) where
  abbrev pub after : Outcome S P F
  after = turn root cap ch n items []

  one-input : (k : ℕ) (b : Bool) (it : Item P) → cond b (marks it ++ []) [] ≡ cond b (marks it) []
  one-input k true it = append-nil (marks it)
  one-input k false it = refl

  by_taken : after.node.machine.inputs ≡ n.machine.inputs → ((after.input ≡ items) × (after.node.machine.ended ≡ n.machine.ended)) ⊎ ((it : Item P) × (items ≡ it ∷ after.input) × (after.node.machine.ended ≡ cond (is_end it) (n.machine.ended + 1) n.machine.ended))
      → (r : ℕ → List (Mark P)) → rest_of n (joined (only_input n.machine.ended items) r) ≡ all_marks items ++ rest_of after.node r
  by_taken inputs (inl p) r =
      let none : items ≡ [] = sym p.0 ∙ all in
      ap (λ is. rest_of n (joined (only_input n.machine.ended is) r)) none
      ∙ from-same (joined (only_input n.machine.ended []) r) r _ _ (λ k. ap (λ x. x ++ r k) (none-taken n.machine.ended k))
      ∙ rest-same n after.node r (sym p.1) (sym inputs)
      ∙ ap (λ is. all_marks is ++ rest_of after.node r) (sym none)
  by_taken inputs (inr p) r =
      let one : items ≡ p.0 ∷ [] = p.1 ∙ ap (λ is. p.0 ∷ is) all in
      ap (λ is. rest_of n (joined (only_input n.machine.ended is) r)) one
      ∙ from-same (joined (only_input n.machine.ended (p.0 ∷ [])) r) (joined (at_input n.machine.ended p.0) r) _ _ (λ k. ap (λ x. x ++ r k) (one-input k (k == n.machine.ended) p.0))
      ∙ tape-took n p.0 r (more p.0 one)
      ∙ ap (λ x. marks p.0 ++ x) (rest-same (taken Quiet n p.0) after.node r (ended-taken n p.0 ∙ sym p.2) (inputs-stay n p.0 ∙ sym inputs))
      ∙ ap (λ x. x ++ rest_of after.node r) (sym (append-nil (marks p.0)) ∙ ap all_marks (sym one))

  -- what it took is what it read
  pub turn-reads : after.node.machine.inputs ≡ n.machine.inputs → (r : ℕ → List (Mark P)) → rest_of n (joined (only_input n.machine.ended items) r) ≡ all_marks items ++ rest_of after.node r
  turn-reads inputs r = by_taken inputs (turn-moved root n ok items [] cap ch).taken r

  pub turn-works : after.node.work ≡ n.work
  turn-works = (turn-same n root cap ch items []).work

  -- without an event what it took is carried to what it gave, which is what came on the edge above it but at the root
  pub turn-quietly : KeepsCutting n.work → IsQuiet ch n → (b : List (Mark P)) × (root ≡ false → b ≡ all_marks after.out) × QuietBetween n after.node (only_input n.machine.ended items) b
  turn-quietly law quiet =
      let c : Carries root n items [] after = turn-carries root n items [] cap ch law (λ l d e h. ok.reads l d e (no_end n.hand h)) quiet in
      let these : c.a ≡ items = sym (append-nil c.a) ∙ ap (λ x. c.a ++ x) (sym all) ∙ sym c.took in (
        all_marks c.b,
        (λ r. ap all_marks (sym (c.gave r))),
        record {
          carried = carried-same n after.node (only_input n.machine.ended c.a) (only_input n.machine.ended items) (all_marks c.b) (all_marks c.b) (ap (only_input n.machine.ended) these) refl c.carried;
          closing = λ closing. closing-turn n closing root cap ch items [] quiet;
        },
      )

  -- a turn that does work pays for what it took
  pub turn-pays : (e : ℕ) → (n.leaf ≡ true → n.hand ≡ None → n.done ≡ false → n.ending ≡ false → IsWithin ch n) →
      cond (works after.turned) 1 0 + owes e after.node + 2 * e * length after.out ≤ owes e n + (2 * e + 2) * length items
  turn-pays e within =
      let l : Lowers e n items [] after = turn-lowers e n items [] root cap ch within (λ i d g h. ok.reads i d g (no_end n.hand h)) in
      by_work l (works after.turned) refl
    where
      by_work : Lowers e n items [] after → (b : Bool) → works after.turned ≡ b → cond (works after.turned) 1 0 + owes e after.node + 2 * e * length after.out ≤ owes e n + (2 * e + 2) * length items
      by_work l true w = let f = l.falls w in let i = ap (λ (x : List (Item P)). length x) all in rw w (omega (arith, f, i))
      by_work l false w = let s = l.stays w in let o = ap (λ (x : Outcome S P F). owes e x.node) s in let g = ap (λ (x : Outcome S P F). 2 * e * length x.out) s in rw w (omega (arith, o, g))

-- the points of items, as marks and as they are
pub points-of_items : {P : Type 0} (items : List (Item P)) → mark_points (all_marks items) ≡ all_item_points items
points-of_items [] = refl
points-of_items (i ∷ is) = mark_points-append (marks i) (all_marks is) ∙ ap (λ x. x ++ mark_points (all_marks is)) (points-of_item i) ∙ ap (λ x. item_points i ++ x) (points-of_items is)
