-- What was carried is carried on.
use Rattle.std.proofs.Common.{◌≡◌, ◌≢◌, ℕ, zero, suc, ◌+◌, ◌-◌, ◌<◌, Bool, true, false, cond, inl, inr, List, [], ◌∷◌, ◌++◌, map, Some, None, refl, ap, sym, ◌∙◌, append_assoc, arith}
use Rattle.std.specs.Prelude.{◌==◌, is_some}
use Rattle.std.proofs.lemmas.Bool.{eq-eqb}
use Rattle.std.proofs.lemmas.Bool.Decides.{eqb_tells}
use Rattle.cloud_points.specs.Meaning.{KeepsCutting}
use Rattle.cloud_points.specs.Marks.{Mark, At, View_end, End, Item, Points, End_view, End_all, marks, to_end, is_end}
use Rattle.network_theory.specs.Net.{Node, Quiet, remains, last_of, given, taken}
use Rattle.network_theory.proofs.Turns.{took, either}
use Rattle.network_theory.proofs.Rows.{gone, given-last}
use Rattle.network_theory.proofs.Rest.{remains-taken, last-taken, to_end-points, ended-taken}
use Rattle.network_theory.specs.Carried.{Carried, from_input, rest_of, joined}

pub from-same : {P : Type 0} (f g : ℕ → List (Mark P)) (at left : ℕ) → ((k : ℕ) → f k ≡ g k) → from_input f at left ≡ from_input g at left
from-same f g at zero h = refl
from-same f g at (suc left) h = ap (λ x. to_end x ++ from_input f (at + 1) left) (h at) ∙ ap (λ x. to_end (g at) ++ x) (from-same f g (at + 1) left h)

pub carried-nothing : {S P F : Type 0} (n : Node S P F) → Carried n n (λ _. []) []
carried-nothing n = record { flow = λ r. refl; last = λ r. refl }

pub carried-on : {S P F : Type 0} (l m n : Node S P F) (a c : ℕ → List (Mark P)) (b d : List (Mark P)) → Carried l m a b → Carried m n c d → Carried l n (λ k. a k ++ c k) (b ++ d)
carried-on l m n a c b d h g = record {
  flow = λ r. ap (remains l) (from-same (joined (λ k. a k ++ c k) r) (joined a (joined c r)) _ _ (λ k. append_assoc (a k) (c k) (r k)))
      ∙ h.flow (joined c r) ∙ ap (λ x. b ++ x) (g.flow r) ∙ sym (append_assoc b d _);
  last = λ r. ap (last_of l) (from-same (joined (λ k. a k ++ c k) r) (joined a (joined c r)) _ _ (λ k. append_assoc (a k) (c k) (r k)))
      ∙ h.last (joined c r) ∙ g.last r;
}

ne-eqb : (a b : ℕ) → a ≢ b → (a == b) ≡ false
ne-eqb a b h = elim (eqb_tells a b) [ inl p ↦ absurd (h p.1) | inr p ↦ p.0 ]

-- an item at one input, nothing at the others
abbrev pub at_input : {P : Type 0} → ℕ → Item P → ℕ → List (Mark P)
at_input e it k = cond (k == e) (marks it) []

from-later : {P : Type 0} (e : ℕ) (it : Item P) (r : ℕ → List (Mark P)) (at left : ℕ) → e < at → from_input (joined (at_input e it) r) at left ≡ from_input r at left
from-later e it r at zero h = refl
from-later e it r at (suc left) h =
    let n : at ≢ e = (λ z. omega arith) in
    rw (ne-eqb at e n) (ap (λ x. to_end (r at) ++ x) (from-later e it r (at + 1) left (omega arith)))

-- the tape before and after an item was taken from the first of the open inputs
tape-taken : {P : Type 0} (e : ℕ) (it : Item P) (r : ℕ → List (Mark P)) (left : ℕ) → from_input (joined (at_input e it) r) e (suc left) ≡ marks it ++ cond (is_end it) (from_input r (e + 1) left) (from_input r e (suc left))
tape-taken e (Points ps) r left = rw (eq-eqb e e refl) (ap (λ x. x ++ from_input (joined (at_input e (Points ps)) r) (e + 1) left) (to_end-points ps (r e)) ∙ append_assoc (map At ps) (to_end (r e)) _ ∙ ap (λ x. map At ps ++ (to_end (r e) ++ x)) (from-later e (Points ps) r (e + 1) left (omega arith)))
tape-taken e End_view r left = rw (eq-eqb e e refl) (ap (λ x. View_end ∷ (to_end (r e) ++ x)) (from-later e End_view r (e + 1) left (omega arith)))
tape-taken e (End_all c) r left = rw (eq-eqb e e refl) (ap (λ x. End c ∷ x) (from-later e (End_all c) r (e + 1) left (omega arith)))

module _ {S P F : Type 0} (n : Node S P F) where
  -- the root or another node gives what it holds
  pub carried-gave : (i : Item P) → n.hand ≡ Some i → Carried n (given n i) (λ _. []) (marks i)
  carried-gave i h = record {
    flow = λ r. sym (gone false n [] [] i _ h);
    last = λ r. sym (given-last false n [] [] i _ h);
  }

  pub inputs-stay : (it : Item P) → (taken Quiet n it).machine.inputs ≡ n.machine.inputs
  inputs-stay (Points ps) = either (λ (m : Node S P F). m.machine.inputs ≡ n.machine.inputs) (is_some n.machine.fault) _ _ (λ _. refl) (λ _. refl)
  inputs-stay End_view = either (λ (m : Node S P F). m.machine.inputs ≡ n.machine.inputs) (is_some n.machine.fault) _ _ (λ _. refl) (λ _. refl)
  inputs-stay (End_all cut) = either (λ (m : Node S P F). m.machine.inputs ≡ n.machine.inputs) (n.machine.ended + 1 == n.machine.inputs) _ _ (λ _. refl) (λ _. refl)

  rest-after : (it : Item P) (r : ℕ → List (Mark P)) (left : ℕ) → n.machine.inputs - n.machine.ended ≡ suc left → n.machine.inputs - (n.machine.ended + 1) ≡ left →
      cond (is_end it) (from_input r (n.machine.ended + 1) left) (from_input r n.machine.ended (suc left)) ≡ rest_of (taken Quiet n it) r
  rest-after it r left p q =
      by_end (is_end it)
      ∙ ap (λ e. from_input r e (n.machine.inputs - e)) (sym (ended-taken n it))
      ∙ ap (λ i. from_input r (taken Quiet n it).machine.ended (i - (taken Quiet n it).machine.ended)) (sym (inputs-stay it))
    where
      by_end : (b : Bool) → cond b (from_input r (n.machine.ended + 1) left) (from_input r n.machine.ended (suc left)) ≡ from_input r (cond b (n.machine.ended + 1) n.machine.ended) (n.machine.inputs - cond b (n.machine.ended + 1) n.machine.ended)
      by_end true = ap (from_input r (n.machine.ended + 1)) (sym q)
      by_end false = ap (from_input r n.machine.ended) (sym p)

  pub tape-took : (it : Item P) (r : ℕ → List (Mark P)) → n.machine.ended < n.machine.inputs → rest_of n (joined (at_input n.machine.ended it) r) ≡ marks it ++ rest_of (taken Quiet n it) r
  tape-took it r m =
      let left = n.machine.inputs - (n.machine.ended + 1) in
      let p : n.machine.inputs - n.machine.ended ≡ suc (n.machine.inputs - (n.machine.ended + 1)) = omega arith in
      ap (from_input (joined (at_input n.machine.ended it) r) n.machine.ended) p
      ∙ tape-taken n.machine.ended it r (n.machine.inputs - (n.machine.ended + 1))
      ∙ ap (λ x. marks it ++ x) (rest-after it r (n.machine.inputs - (n.machine.ended + 1)) p refl)

  -- an inner node takes an item from its current input
  pub carried-took : (law : KeepsCutting n.work) (it : Item P) → n.hand ≡ None → n.ending ≡ false → n.leaf ≡ false → n.machine.ended < n.machine.inputs → Carried n (taken Quiet n it) (at_input n.machine.ended it) []
  carried-took law it h g l m =
      let t = took n law h g it in
      record {
        flow = λ r. ap (remains n) (tape-took it r m) ∙ remains-taken n (taken Quiet n it) it t h g l (rest_of (taken Quiet n it) r);
        last = λ r. ap (last_of n) (tape-took it r m) ∙ last-taken n (taken Quiet n it) it t h g l (rest_of (taken Quiet n it) r);
      }
