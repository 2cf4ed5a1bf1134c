-- Each turn without an event carries what it took and gave.
use Rattle.std.proofs.Common.{◌≡◌, ℕ, ◌<◌, Bool, true, false, cond, List, [], ◌∷◌, ◌++◌, length, Option, Some, None, refl, subst, sym, ◌∙◌, append-nil}
use Rattle.std.specs.Prelude.{◌==◌, nat_lt}
use Rattle.cloud_points.specs.Meaning.{KeepsCutting}
use Rattle.cloud_points.specs.Marks.{Mark, Item, marks, all_marks}
use Rattle.network_theory.specs.Machine.{is_cut}
use Rattle.cloud_points.specs.Marks.{End_all}
use Rattle.network_theory.specs.Net.{Node, Choice, Quiet, Failed, Short, Makes, Outcome, Turned, Gave, Made, Idle, Done, Full, given, taken, makes, of_machine, takes, with_hand, turn, IsQuiet, IsPart}
use Rattle.network_theory.proofs.Turns.{either, took}
use Rattle.network_theory.proofs.Rows.{same_last, fault_first}
use Rattle.network_theory.specs.Carried.{Carried, only_input}
use Rattle.network_theory.proofs.Carries.{carried-nothing, carried-gave, carried-took, at_input}

-- an outcome took the items a of the current input and gave the items b
pub record Carries {S P F : Type 0} (root : Bool) (n : Node S P F) (input out : List (Item P)) (o : Outcome S P F) : Type 0 where
  pub a : List (Item P)
  pub b : List (Item P)
  pub took : input ≡ a ++ o.input
  pub gave : root ≡ false → o.out ≡ out ++ b
  pub carried : Carried n o.node (only_input n.machine.ended a) (all_marks b)
  pub work : o.node.work ≡ n.work

pub none-taken : {P : Type 0} (e k : ℕ) → only_input {P = P} e [] k ≡ []
none-taken {P = P} e k = either (λ (x : List (Mark P)). x ≡ []) (k == e) [] [] (λ _. refl) (λ _. refl)

-- the same with equal flows
pub carried-same : {S P F : Type 0} (old new : Node S P F) (a a' : ℕ → List (Mark P)) (b b' : List (Mark P)) → a ≡ a' → b ≡ b' → Carried old new a b → Carried old new a' b'
carried-same {P = P} old new a a' b b' e f h = subst (λ (p : (ℕ → List (Mark P)) × List (Mark P)). Carried old new p.0 p.1) (λ i. (e i, f i)) h

module _ {S P F : Type 0} (root : Bool) (n : Node S P F) (input out : List (Item P)) where
  quietly : (n' : Node S P F) (t : Turned) → n'.work ≡ n.work → Carried n n' (λ _. []) [] → Carries root n input out (record { node = n'; input = input; out = out; turned = t })
  quietly n' t w h = record {
    a = [];
    b = [];
    took = refl;
    gave = λ _. sym (append-nil out);
    carried = carried-same n n' (λ _. []) (only_input n.machine.ended []) [] [] (λ i k. sym (none-taken n.machine.ended k) i) refl h;
    work = w;
  }

  gives_one : (o : List (Item P)) (i : Item P) (t : Turned) → n.hand ≡ Some i → (root ≡ false → o ≡ out ++ i ∷ []) → Carries root n input out (record { node = given n i; input = input; out = o; turned = t })
  gives_one o i t h g = record {
    a = [];
    b = i ∷ [];
    took = refl;
    gave = g;
    carried = carried-same n (given n i) (λ _. []) (only_input n.machine.ended []) (marks i) (marks i ++ []) (λ j k. sym (none-taken n.machine.ended k) j) (sym (append-nil (marks i))) (carried-gave n i h);
    work = refl;
  }

  ends : (t : Turned) → n.hand ≡ None → n.ending ≡ true → Carries root n input out (record { node = of_machine n n.machine (Some (End_all (is_cut n.machine))) false; input = input; out = out; turned = t })
  ends t h e = quietly _ t refl (record {
    flow = λ r. rw (h, e);
    last = λ r. same_last _ _ _ _ _ _ _ _ refl refl (rw (h, e)) (rw (h, e));
  })

  makes_one : (ch : Choice S P F) (t : Turned) → n.hand ≡ None → n.ending ≡ false → n.leaf ≡ true → IsPart ch n → Carries root n input out (record { node = makes ch n; input = input; out = out; turned = t })
  makes_one (Makes i f s told tf pl vl) t h e l p = quietly _ t refl (record {
    flow = λ r. rw (h, e, l, p.part);
    last = λ r. same_last _ _ _ _ _ _ _ _ (rw l) (rw (l, p.fault_part) (sym (fault_first n.machine.fault f tf))) (rw (h, e, l, p.part)) (rw (h, e, l, p.part));
  })
  makes_one Quiet t h e l p = absurd p
  makes_one (Failed f s) t h e l p = absurd p
  makes_one (Short s) t h e l p = absurd p

  takes_one : (ch : Choice S P F) → KeepsCutting n.work → n.hand ≡ None → n.ending ≡ false → n.leaf ≡ false → n.machine.ended < n.machine.inputs → ch ≡ Quiet → (input' : List (Item P)) → input ≡ input' → Carries root n input out (takes ch n input' out)
  takes_one ch law h e l m q [] i = record {
    a = [];
    b = [];
    took = i;
    gave = λ _. sym (append-nil out);
    carried = carried-same n n (λ _. []) (only_input n.machine.ended []) [] [] (λ j k. sym (none-taken n.machine.ended k) j) refl (carried-nothing n);
    work = refl;
  }
  takes_one ch law h e l m q (x ∷ xs) i = subst (λ (c : Choice S P F). Carries root n input out (takes c n (x ∷ xs) out)) (sym q) (record {
    a = x ∷ [];
    b = [];
    took = i;
    gave = λ _. sym (append-nil out);
    carried = carried-same n (taken Quiet n x) (at_input n.machine.ended x) (only_input n.machine.ended (x ∷ [])) [] [] (λ j k. cond (k == n.machine.ended) (sym (append-nil (marks x)) j) []) refl (carried-took n law x h e l m);
    work = (took n law h e x).work;
  })

  by_hand : (cap : ℕ) (ch : Choice S P F) → KeepsCutting n.work → (n.leaf ≡ false → n.done ≡ false → n.ending ≡ false → n.hand ≡ None → n.machine.ended < n.machine.inputs) → IsQuiet ch n → (h : Option (Item P)) → n.hand ≡ h → Carries root n input out (with_hand root cap ch n input out h)
  by_hand cap ch law m q (Some i) h = either (Carries root n input out) root _ _
      (λ r. gives_one out i Gave h (λ f. absurd (let z : true ≡ false = sym r ∙ f in cc)))
      (λ r. either (Carries root n input out) (nat_lt (length out) cap) _ _ (λ _. gives_one (out ++ i ∷ []) i Gave h (λ _. refl)) (λ _. quietly n (Idle Full) refl (carried-nothing n)))
  by_hand cap ch law m q None h = either (Carries root n input out) n.done _ _
      (λ _. quietly n Done refl (carried-nothing n))
      (λ d. either (Carries root n input out) n.ending _ _
      (λ e. ends Made h e)
      (λ e. either (Carries root n input out) n.leaf _ _
      (λ l. makes_one ch Made h e l (q.leaf l h d e))
      (λ l. takes_one ch law h e l (m l d e h) (q.inner l) input refl)))

  pub turn-carries : (cap : ℕ) (ch : Choice S P F) → KeepsCutting n.work → (n.leaf ≡ false → n.done ≡ false → n.ending ≡ false → n.hand ≡ None → n.machine.ended < n.machine.inputs) → IsQuiet ch n → Carries root n input out (turn root cap ch n input out)
  turn-carries cap ch law m q = by_hand cap ch law m q n.hand refl
