-- A turn keeps a node and the edge above it sound.
use Rattle.std.proofs.Common.{◌≡◌, ◌≢◌, ℕ, ◌+◌, ◌<◌, Bool, true, false, cond, ◌⊎◌, inl, inr, List, [], ◌∷◌, ◌++◌, length, Option, Some, None, is_some, refl, ap, sym, ◌∙◌, arith}
use Rattle.std.specs.Prelude.{◌==◌, nat_lt, ◌||◌}
use Rattle.std.proofs.lemmas.Bool.{eqb-true, eqb-false}
use Rattle.cloud_points.specs.Marks.{Item, Points, End_view, End_all, is_end}
use Rattle.network_theory.specs.Machine.{Machine, one_end, at_last}
use Rattle.network_theory.specs.Net.{item_of, Node, Choice, Quiet, Failed, Short, Makes, Outcome, Turned, Made, Idle, Done, Full, holds_end, taken, taken_points, taken_view, view_hand, given, makes, of_machine, takes, with_hand, turn}
use Rattle.network_theory.specs.Sound.{IsNode, IsEdge, EndsInEnd, HasNoEnd}
use Rattle.network_theory.proofs.Turns.{either}

pub conflict : {A : Type 0} (b : Bool) → b ≡ true → b ≡ false → A
conflict b t f = absurd (let z : true ≡ false = sym t ∙ f in cc)

or_cases : (a b : Bool) → a || b ≡ true → (a ≡ true) ⊎ (b ≡ true)
or_cases true b h = inl refl
or_cases false b h = inr h

or_left : (a b : Bool) → a || b ≡ false → a ≡ false
or_left true b h = h
or_left false b h = refl

or_right : (a b : Bool) → a || b ≡ false → b ≡ false
or_right true b h = absurd (let z : true ≡ false = h in cc)
or_right false b h = h

no_end-last : {P : Type 0} (xs : List (Item P)) (i : Item P) → HasNoEnd xs → is_end i ≡ false → HasNoEnd (xs ++ i ∷ [])
no_end-last [] i h e = (e, tt)
no_end-last (x ∷ xs) i h e = (h.0, no_end-last xs i h.1 e)

ends-last : {P : Type 0} (xs : List (Item P)) (i : Item P) → is_end i ≡ true → EndsInEnd (xs ++ i ∷ [])
ends-last [] i e = e
ends-last (x ∷ []) i e = e
ends-last (x ∷ y ∷ ys) i e = ends-last (y ∷ ys) i e

module _ {S P F : Type 0} (n : Node S P F) (ok : IsNode n) where
  gave : (i : Item P) → n.hand ≡ Some i → IsNode (given n i)
  gave i h = record {
    inputs = ok.inputs;
    within = ok.within;
    leaf = ok.leaf;
    reads = λ l d g _. ok.reads l (or_left n.done (is_end i) d) g (ap holds_end h ∙ or_right n.done (is_end i) d);
    read_hand = λ z. conflict false z refl;
    read_ending = ok.read_ending;
    read_done = λ d. elim (or_cases n.done (is_end i) d) [ inl t ↦ ok.read_done t | inr t ↦ ok.read_hand (ap holds_end h ∙ t) ];
    rests = λ _. refl;
  }

  gave-edge : (i : Item P) (out : List (Item P)) → n.hand ≡ Some i → IsEdge n.done out → IsEdge (n.done || is_end i) (out ++ i ∷ [])
  gave-edge i out h edge = by_done n.done refl
    where
      by_done : (b : Bool) → n.done ≡ b → IsEdge (n.done || is_end i) (out ++ i ∷ [])
      by_done true d = absurd (let z : Some i ≡ None = sym h ∙ ok.rests d in cc)
      by_done false d = rw d (record {
        ends = λ e. ends-last out i e;
        goes_on = λ e. no_end-last out i (edge.goes_on d) e;
      })

  made-end : n.done ≡ false → n.ending ≡ true → (c : Bool) → IsNode (of_machine n n.machine (Some (End_all c)) false)
  made-end d g c = record {
    inputs = ok.inputs;
    within = ok.within;
    leaf = ok.leaf;
    reads = λ _ _ _ z. conflict true refl z;
    read_hand = λ _. ok.read_ending g;
    read_ending = λ z. conflict false z refl;
    read_done = ok.read_done;
    rests = λ t. conflict n.done t d;
  }

  made : (ch : Choice S P F) → n.done ≡ false → n.leaf ≡ true → IsNode (makes ch n)
  made (Makes i f s told tf pl vl) d l =
      let all : n.machine.ended ≡ n.machine.inputs = let e : n.machine.inputs ≡ 0 = ok.inputs ∙ ap length (ok.leaf l) in let w = ok.within in omega arith in
      record {
        inputs = ok.inputs;
        within = ok.within;
        leaf = ok.leaf;
        reads = λ z _ _ _. conflict n.leaf l z;
        read_hand = λ _. all;
        read_ending = λ _. all;
        read_done = λ _. all;
        rests = λ t. conflict n.done t d;
      }
  made Quiet d l = ok
  made (Failed f s) d l = ok
  made (Short s) d l = ok

  -- the machine moved, with no end in the hand
  moved : (c : Machine S F) (hand : Option (Item P)) → n.done ≡ false → n.leaf ≡ false → c.inputs ≡ n.machine.inputs → c.ended < c.inputs → holds_end hand ≡ false → IsNode (of_machine n c hand false)
  moved c hand d l i m h = record {
    inputs = i ∙ ok.inputs;
    within = omega arith;
    leaf = λ z. conflict n.leaf z l;
    reads = λ _ _ _ _. m;
    read_hand = λ z. conflict (holds_end hand) z h;
    read_ending = λ z. conflict false z refl;
    read_done = λ t. conflict n.done t d;
    rests = λ t. conflict n.done t d;
  }

  no_end_in-chunk : (ps : List P) → holds_end (item_of ps) ≡ false
  no_end_in-chunk [] = refl
  no_end_in-chunk (p ∷ ps) = refl

  no_end_in-view : (b : Bool) → holds_end (cond {A = Option (Item P)} b (Some End_view) None) ≡ false
  no_end_in-view true = refl
  no_end_in-view false = refl

  ended-all : (c : Machine S F) (cut : Bool) (b : Bool) → n.done ≡ false → n.leaf ≡ false → c.inputs ≡ n.machine.inputs → c.ended ≡ c.inputs → IsNode (of_machine n c (cond b (Some End_view) (Some (End_all cut))) b)
  ended-all c cut true d l i m = record {
    inputs = i ∙ ok.inputs;
    within = omega arith;
    leaf = λ z. conflict n.leaf z l;
    reads = λ _ _ z _. conflict true refl z;
    read_hand = λ _. m;
    read_ending = λ _. m;
    read_done = λ _. m;
    rests = λ t. conflict n.done t d;
  }
  ended-all c cut false d l i m = record {
    inputs = i ∙ ok.inputs;
    within = omega arith;
    leaf = λ z. conflict n.leaf z l;
    reads = λ _ _ _ z. conflict true refl z;
    read_hand = λ _. m;
    read_ending = λ _. m;
    read_done = λ _. m;
    rests = λ t. conflict n.done t d;
  }

  pub took-node : (ch : Choice S P F) (it : Item P) → n.done ≡ false → n.leaf ≡ false → n.machine.ended < n.machine.inputs → IsNode (taken ch n it)
  took-node ch (Points ps) d l m = either IsNode (is_some n.machine.fault) _ _ (λ _. ok) (λ _. by_choice ch)
    where
      by_choice : (c : Choice S P F) → IsNode (taken_points c n ps)
      by_choice Quiet = moved _ (item_of (n.work.emit n.machine.state ps)) d l refl m (no_end_in-chunk (n.work.emit n.machine.state ps))
      by_choice (Failed f s) = moved _ None d l refl m refl
      by_choice (Short s) = moved _ None d l refl m refl
      by_choice (Makes i f s told tf pl vl) = ok
  took-node ch End_view d l m = either IsNode (is_some n.machine.fault) _ _ (λ _. ok) (λ _. by_choice ch)
    where
      by_choice : (c : Choice S P F) → IsNode (taken_view c n)
      by_choice Quiet = moved _ (view_hand n) d l refl m (no_end_in-view ((n.work.at_view n.machine.state).1))
      by_choice (Short s) = moved _ (view_hand n) d l refl m (no_end_in-view ((n.work.at_view n.machine.state).1))
      by_choice (Failed f s) = ok
      by_choice (Makes i f s told tf pl vl) = ok
  took-node ch (End_all cut) d l m = either IsNode (n.machine.ended + 1 == n.machine.inputs) _ _
      (λ t. ended-all (at_last n.work (one_end n.machine cut)) _ _ d l refl (eqb-true (n.machine.ended + 1) n.machine.inputs t))
      (λ t. moved (one_end n.machine cut) None d l refl (let z : n.machine.ended + 1 ≢ n.machine.inputs = eqb-false _ _ t in omega arith) refl)

-- what a turn keeps of a node and of the edges beside it
pub record Moved {S P F : Type 0} (root : Bool) (n : Node S P F) (input out : List (Item P)) (o : Outcome S P F) : Type 0 where
  pub node : IsNode o.node
  pub stays : n.done ≡ true → o.node.done ≡ true
  pub edge : root ≡ false → IsEdge n.done out → IsEdge o.node.done o.out
  pub taken : ((o.input ≡ input) × (o.node.machine.ended ≡ n.machine.ended)) ⊎ ((it : Item P) × (input ≡ it ∷ o.input) × (o.node.machine.ended ≡ cond (is_end it) (n.machine.ended + 1) n.machine.ended))

ended-taken : {S P F : Type 0} (ch : Choice S P F) (n : Node S P F) (it : Item P) → (taken ch n it).machine.ended ≡ cond (is_end it) (n.machine.ended + 1) n.machine.ended
ended-taken ch n (Points ps) = either (λ (m : Node _ _ _). m.machine.ended ≡ n.machine.ended) (is_some n.machine.fault) _ _ (λ _. refl) (λ _. by_choice ch)
  where
    by_choice : (c : Choice _ _ _) → (taken_points c n ps).machine.ended ≡ n.machine.ended
    by_choice Quiet = refl
    by_choice (Failed f s) = refl
    by_choice (Short s) = refl
    by_choice (Makes i f s told tf pl vl) = refl
ended-taken ch n End_view = either (λ (m : Node _ _ _). m.machine.ended ≡ n.machine.ended) (is_some n.machine.fault) _ _ (λ _. refl) (λ _. by_choice ch)
  where
    by_choice : (c : Choice _ _ _) → (taken_view c n).machine.ended ≡ n.machine.ended
    by_choice Quiet = refl
    by_choice (Failed f s) = refl
    by_choice (Short s) = refl
    by_choice (Makes i f s told tf pl vl) = refl
ended-taken ch n (End_all cut) = either (λ (m : Node _ _ _). m.machine.ended ≡ n.machine.ended + 1) (n.machine.ended + 1 == n.machine.inputs) _ _ (λ _. refl) (λ _. refl)

pub done-taken : {S P F : Type 0} (ch : Choice S P F) (n : Node S P F) (it : Item P) → (taken ch n it).done ≡ n.done
done-taken ch n (Points ps) = either (λ (m : Node _ _ _). m.done ≡ n.done) (is_some n.machine.fault) _ _ (λ _. refl) (λ _. by_choice ch)
  where
    by_choice : (c : Choice _ _ _) → (taken_points c n ps).done ≡ n.done
    by_choice Quiet = refl
    by_choice (Failed f s) = refl
    by_choice (Short s) = refl
    by_choice (Makes i f s told tf pl vl) = refl
done-taken ch n End_view = either (λ (m : Node _ _ _). m.done ≡ n.done) (is_some n.machine.fault) _ _ (λ _. refl) (λ _. by_choice ch)
  where
    by_choice : (c : Choice _ _ _) → (taken_view c n).done ≡ n.done
    by_choice Quiet = refl
    by_choice (Failed f s) = refl
    by_choice (Short s) = refl
    by_choice (Makes i f s told tf pl vl) = refl
done-taken ch n (End_all cut) = either (λ (m : Node _ _ _). m.done ≡ n.done) (n.machine.ended + 1 == n.machine.inputs) _ _ (λ _. refl) (λ _. refl)

pub made-done : {S P F : Type 0} (ch : Choice S P F) (n : Node S P F) → ((makes ch n).done ≡ n.done) × ((makes ch n).machine.ended ≡ n.machine.ended)
made-done (Makes i f s told tf pl vl) n = (refl, refl)
made-done Quiet n = (refl, refl)
made-done (Failed f s) n = (refl, refl)
made-done (Short s) n = (refl, refl)

or-left : (a b : Bool) → a ≡ true → a || b ≡ true
or-left true b h = refl
or-left false b h = cc

module _ {S P F : Type 0} (root : Bool) (n : Node S P F) (ok : IsNode n) (input out : List (Item P)) where
  kept : (n' : Node S P F) (t : Turned) → IsNode n' → n'.done ≡ n.done → n'.machine.ended ≡ n.machine.ended → Moved root n input out (record { node = n'; input = input; out = out; turned = t })
  kept n' t k d e = record { node = k; stays = λ h. d ∙ h; edge = λ _ x. rw d x; taken = inl (refl, e) }

  takes-moved : (ch : Choice S P F) → n.done ≡ false → n.leaf ≡ false → n.machine.ended < n.machine.inputs → (is : List (Item P)) → input ≡ is → Moved root n input out (takes ch n is out)
  takes-moved ch d l m [] q = record { node = ok; stays = λ h. h; edge = λ _ x. x; taken = inl (sym q, refl) }
  takes-moved ch d l m (i ∷ is) q = record {
    node = took-node n ok ch i d l m;
    stays = λ h. done-taken ch n i ∙ h;
    edge = λ _ x. rw (done-taken ch n i) x;
    taken = inr (i, q, ended-taken ch n i);
  }

  by_hand : (cap : ℕ) (ch : Choice S P F) (h : Option (Item P)) → n.hand ≡ h → Moved root n input out (with_hand root cap ch n input out h)
  by_hand cap ch (Some i) h = either (Moved root n input out) root _ _
      (λ r. record { node = gave n ok i h; stays = or-left n.done (is_end i); edge = λ z. conflict root r z; taken = inl (refl, refl) })
      (λ r. either (Moved root n input out) (nat_lt (length out) cap) _ _
      (λ _. record { node = gave n ok i h; stays = or-left n.done (is_end i); edge = λ _ x. gave-edge n ok i out h x; taken = inl (refl, refl) })
      (λ _. kept n (Idle Full) ok refl refl))
  by_hand cap ch None h = either (Moved root n input out) n.done _ _
      (λ _. kept n Done ok refl refl)
      (λ d. either (Moved root n input out) n.ending _ _
      (λ g. kept _ Made (made-end n ok d g _) refl refl)
      (λ g. either (Moved root n input out) n.leaf _ _
      (λ l. kept (makes ch n) Made (made n ok ch d l) (made-done ch n).0 (made-done ch n).1)
      (λ l. takes-moved ch d l (ok.reads l d g (ap holds_end h)) input refl)))

  pub turn-moved : (cap : ℕ) (ch : Choice S P F) → Moved root n input out (turn root cap ch n input out)
  turn-moved cap ch = by_hand cap ch n.hand refl
