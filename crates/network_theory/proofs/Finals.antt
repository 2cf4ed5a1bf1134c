-- A net whose nodes are all done ends as what was to come says.
use Rattle.std.proofs.Common.{◌≡◌, ℕ, zero, suc, ◌+◌, ◌≤◌, Bool, true, false, cond, ◌⊎◌, inl, inr, List, [], ◌∷◌, ◌++◌, length, drop, Option, Some, None, is_some, refl, ap, subst, sym, ◌∙◌, arith}
use Rattle.std.specs.Prelude.{◌==◌, nat_lt, ◌||◌}
use Rattle.std.proofs.lemmas.Bool.{eqb-true}
use Rattle.cloud_points.specs.Marks.{Item, Mark, End, Points, End_view, End_all, is_end}
use Rattle.cloud_points.specs.Events.{first_fault}
use Rattle.network_theory.specs.Machine.{is_cut, after_all, output}
use Rattle.network_theory.specs.Net.{Node, Net, Choice, Quiet, Failed, Short, Makes, Outcome, given, taken, makes, of_machine, takes, with_hand, turn, step, open_ins, holds_end, IsQuiet, IsPart, remains, last_of, rest, inputs_of, flow, in_hand, still_end, count_views, count_points}
use Rattle.network_theory.specs.Sound.{IsNode}
use Rattle.network_theory.specs.Between.{IsClosing}
use Rattle.network_theory.specs.Opening.{IsOpening}
use Rattle.network_theory.specs.Schedule.{run_schedule, IsQuietRun, end_of}
use Rattle.network_theory.proofs.Turns.{either}
use Rattle.network_theory.proofs.Rows.{same_last}
use Rattle.network_theory.proofs.Keeps.{conflict}

or_cases : (a b : Bool) → a || b ≡ true → (a ≡ true) ⊎ (b ≡ true)
or_cases true b h = inl refl
or_cases false b h = inr h

or_none : (a b c : Bool) → (a || b) || false ≡ true → c ≡ b → a || c ≡ true
or_none true b c h e = refl
or_none false true c h e = e
or_none false false c h e = cc

module _ {S P F : Type 0} (n : Node S P F) (ok : IsClosing n) where
  gave : (i : Item P) → n.hand ≡ Some i → IsClosing (given n i)
  gave i h = record {
    hand = λ z. conflict false z refl;
    done = λ d. elim (or_cases n.done (is_end i) d) [ inl t ↦ ok.done t | inr t ↦ ok.hand (ap holds_end h ∙ t) ];
    leaf = ok.leaf;
    told = λ l d. ok.told l (or_none n.done (is_end i) (holds_end n.hand) d (ap holds_end h));
  }

  ends : (c : Bool) → n.ending ≡ true → IsClosing (of_machine n n.machine (Some (End_all c)) false)
  ends c e = record {
    hand = λ _. refl;
    done = λ _. refl;
    leaf = λ _. refl;
    told = λ l _. conflict n.ending e (ok.leaf l);
  }

  made : (ch : Choice S P F) → n.done ≡ false → n.ending ≡ false → n.leaf ≡ true → IsPart ch n → IsClosing (makes ch n)
  made (Makes i f s told tf pl vl) d e l p = record {
    hand = λ _. e;
    done = λ _. e;
    leaf = λ _. e;
    told = λ _ z. (let q : is_end i ≡ true = sym (ap (λ b. b || is_end i) d) ∙ z in (p.last q, p.last_fault q));
  }
  made Quiet d e l p = absurd p
  made (Failed f s) d e l p = absurd p
  made (Short s) d e l p = absurd p

  -- an inner node whose end is not to come apart from its hand
  inner : (m : Node S P F) → m.leaf ≡ false → m.ending ≡ false → IsClosing m
  inner m l e = record { hand = λ _. e; done = λ _. e; leaf = λ _. e; told = λ z _. conflict m.leaf z l }

  last_end : (m : Node S P F) (b c : Bool) → m.leaf ≡ false → m.done ≡ false → m.hand ≡ cond b (Some End_view) (Some (End_all c)) → m.ending ≡ b → IsClosing m
  last_end m true c l d h e = record { hand = λ z. conflict (holds_end m.hand) z (ap holds_end h); done = λ z. conflict m.done z d; leaf = λ z. conflict m.leaf z l; told = λ z _. conflict m.leaf z l }
  last_end m false c l d h e = inner m l e

  took : (it : Item P) → n.done ≡ false → n.leaf ≡ false → IsClosing (taken Quiet n it)
  took (Points ps) d l = either IsClosing (is_some n.machine.fault) _ _ (λ _. ok) (λ _. inner _ l refl)
  took End_view d l = either IsClosing (is_some n.machine.fault) _ _ (λ _. ok) (λ _. inner _ l refl)
  took (End_all cut) d l = either IsClosing (n.machine.ended + 1 == n.machine.inputs) _ _ (λ _. last_end _ _ _ l d refl refl) (λ _. inner _ l refl)

  takes-one : (ch : Choice S P F) (is out : List (Item P)) → ch ≡ Quiet → n.done ≡ false → n.leaf ≡ false → IsClosing (takes ch n is out).node
  takes-one ch [] out q d l = ok
  takes-one ch (i ∷ is) out q d l = subst (λ (c : Choice S P F). IsClosing (taken c n i)) (sym q) (took i d l)

  by_hand : (root : Bool) (cap : ℕ) (ch : Choice S P F) (input out : List (Item P)) → IsQuiet ch n → (h : Option (Item P)) → n.hand ≡ h → IsClosing (with_hand root cap ch n input out h).node
  by_hand root cap ch input out q (Some i) h = either (λ (o : Outcome S P F). IsClosing o.node) root _ _ (λ _. gave i h)
      (λ _. either (λ (o : Outcome S P F). IsClosing o.node) (nat_lt (length out) cap) _ _ (λ _. gave i h) (λ _. ok))
  by_hand root cap ch input out q None h = either (λ (o : Outcome S P F). IsClosing o.node) n.done _ _
      (λ _. ok)
      (λ d. either (λ (o : Outcome S P F). IsClosing o.node) n.ending _ _
      (λ e. ends _ e)
      (λ e. either (λ (o : Outcome S P F). IsClosing o.node) n.leaf _ _
      (λ l. made ch d e l (q.leaf l h d e))
      (λ l. takes-one ch input out (q.inner l) d l)))

  pub closing-turn : (root : Bool) (cap : ℕ) (ch : Choice S P F) (input out : List (Item P)) → IsQuiet ch n → IsClosing (turn root cap ch n input out).node
  closing-turn root cap ch input out q = by_hand root cap ch input out q n.hand refl

pub closing-step : {S P F : Type 0} (net : Net S P F) (root cap i : ℕ) (ch : Choice S P F) → IsQuiet ch (net.node i) → (k : ℕ) → IsClosing (net.node k) → IsClosing ((step net root cap i ch).node k)
closing-step net root cap i ch q k ok = either IsClosing (k == i) _ _
    (λ t. by_hand (net.node i) (subst (λ z. IsClosing (net.node z)) (eqb-true k i t) ok) (i == root) cap ch _ _ q (net.node i).hand refl)
    (λ _. ok)

pub closing-run : {S P F : Type 0} (net : Net S P F) (root cap : ℕ) (ts : List (ℕ × Choice S P F)) → IsQuietRun net root cap ts → (k : ℕ) → IsClosing (net.node k) → IsClosing ((run_schedule net root cap ts).node k)
closing-run net root cap [] q k ok = ok
closing-run net root cap (t ∷ ts) q k ok = closing-run (step net root cap t.0 t.1) root cap ts q.1 k (closing-step net root cap t.0 t.1 q.0 k ok)

pub opening-closing : {S P F : Type 0} (net : Net S P F) (root : ℕ) → IsOpening net root → (k : ℕ) → k ≤ root → IsClosing (net.node k)
opening-closing net root o k b = let f = o.fresh k b in record {
  hand = λ _. f.ending;
  done = λ _. f.ending;
  leaf = λ _. f.ending;
  told = λ _ z. conflict ((net.node k).done || holds_end (net.node k).hand) z (ap (λ d. d || holds_end (net.node k).hand) f.done ∙ ap holds_end f.hand);
}

pub all_dropped : (n : ℕ) (xs : List ℕ) → n ≡ length xs → drop n xs ≡ []
all_dropped zero [] h = refl
all_dropped zero (x ∷ xs) h = absurd (omega arith)
all_dropped (suc n) [] h = refl
all_dropped (suc n) (x ∷ xs) h = all_dropped n xs (omega arith)

no_fault : {F : Type 0} (a b : Option F) → b ≡ None → first_fault a b ≡ a
no_fault None b h = h
no_fault (Some f) b h = refl

-- a done node has read all and has nothing to come
module _ {S P F : Type 0} (n : Node S P F) (ok : IsClosing n) (sound : IsNode n) (done : n.done ≡ true) where
  by_leaf : (l : Bool) → n.leaf ≡ l → cond n.leaf n.told (output n.work n.machine []) ≡ []
  by_leaf true l = rw l (ok.told l (ap (λ d. d || holds_end n.hand) done)).0
  by_leaf false l = rw l refl

  fault-of : (l : Bool) → n.leaf ≡ l → cond n.leaf (first_fault n.machine.fault n.told_fault) (after_all n.work n.machine []).fault ≡ n.machine.fault
  fault-of true l = rw l (no_fault n.machine.fault n.told_fault (ok.told l (ap (λ d. d || holds_end n.hand) done)).1)
  fault-of false l = rw l refl

  pub nothing_remains : remains n [] ≡ []
  nothing_remains = ap (λ h. in_hand h ++ (still_end n ++ cond n.leaf n.told (output n.work n.machine []))) (sound.rests done)
      ∙ ap (λ e. cond {A = List (Mark P)} e (End (is_cut n.machine) ∷ []) [] ++ cond n.leaf n.told (output n.work n.machine [])) (ok.done done)
      ∙ by_leaf n.leaf refl

  all_read : open_ins n ≡ []
  all_read = all_dropped n.machine.ended n.ins (sound.read_done done ∙ sound.inputs)

  pub ends-so : last_of n [] ≡ end_of n
  ends-so = same_last _ _ _ _ _ _ _ _ refl (fault-of n.leaf refl)
      (let e : count_views (remains n []) ≡ 0 = ap count_views nothing_remains in omega (arith, e))
      (let e : count_points (remains n []) ≡ 0 = ap count_points nothing_remains in omega (arith, e))

-- a done node ends as what was to come says
pub done-in_rest : {S P F : Type 0} (net : Net S P F) (k : ℕ) → IsClosing (net.node k) → IsNode (net.node k) → (net.node k).done ≡ true → end_of (net.node k) ≡ rest net k
done-in_rest net k ok sound done = sym (ends-so (net.node k) ok sound done) ∙ ap (λ os. last_of (net.node k) (inputs_of (flow net k) os)) (sym (all_read (net.node k) ok sound done))
