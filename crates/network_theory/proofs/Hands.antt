-- What a turn hands over an edge.
use Rattle.std.proofs.Common.{◌≡◌, ℕ, ◌+◌, ◌<◌, Bool, true, false, ◌⊎◌, inl, inr, List, [], ◌∷◌, ◌++◌, length, Option, Some, None, is_some, refl}
use Rattle.std.specs.Prelude.{◌==◌, nat_lt, ◌||◌}
use Rattle.std.proofs.lemmas.Bool.{ltb-true}
use Rattle.cloud_points.specs.Marks.{Item, Points, End_view, End_all, is_end}
use Rattle.cloud_points.specs.Queue.{up_to_limit}
use Rattle.network_theory.specs.Net.{Node, Choice, Quiet, Failed, Short, Makes, Outcome, taken_points, taken_view, Turned, Took, Gave, Made, Idle, Done, Full, given, taken, makes, takes, with_hand, turn, numbers_above, numbers_left}
use Rattle.network_theory.specs.History.{gave, took}
use Rattle.network_theory.proofs.Turns.{either}
use Rattle.network_theory.proofs.Keeps.{conflict, done-taken, made-done}

-- a turn gives one item or none
pub record GivesNone {S P F : Type 0} (root : Bool) (n : Node S P F) (after : List (Item P)) (o : Outcome S P F) : Type 0 where
  pub nothing : gave o.turned n.hand n.sent ≡ []
  pub sent : o.node.sent ≡ n.sent
  pub done : o.node.done ≡ n.done
  pub out : o.out ≡ after
  pub numbers : (ns : List ℕ) (number : ℕ) → numbers_above root o.turned ns number ≡ ns

pub record GivesOne {S P F : Type 0} (root : Bool) (cap : ℕ) (n : Node S P F) (after : List (Item P)) (o : Outcome S P F) : Type 0 where
  pub item : Item P
  pub hand : n.hand ≡ Some item
  pub turned : o.turned ≡ Gave
  pub sent : o.node.sent ≡ up_to_limit (n.sent + 1)
  pub done : o.node.done ≡ n.done || is_end item
  pub laid : root ≡ true → o.out ≡ after
  pub out : root ≡ false → o.out ≡ after ++ item ∷ []
  pub room : root ≡ false → length after < cap

-- a turn takes the first item or none
pub record TakesNone {S P F : Type 0} (before : List (Item P)) (o : Outcome S P F) : Type 0 where
  pub input : o.input ≡ before
  pub nothing : (xs : List (ℕ × Item P)) → took o.turned xs ≡ []
  pub numbers : (ns : List ℕ) → numbers_left o.turned ns ≡ ns

pub record TakesOne {S P F : Type 0} (before : List (Item P)) (o : Outcome S P F) : Type 0 where
  pub item : Item P
  pub first : before ≡ item ∷ o.input
  pub turned : o.turned ≡ Took

pub record Hands {S P F : Type 0} (root : Bool) (cap : ℕ) (n : Node S P F) (before after : List (Item P)) (o : Outcome S P F) : Type 0 where
  pub gives : GivesNone root n after o ⊎ GivesOne root cap n after o
  pub takes : TakesNone before o ⊎ TakesOne before o

sent-taken : {S P F : Type 0} (ch : Choice S P F) (n : Node S P F) (it : Item P) → (taken ch n it).sent ≡ n.sent
sent-taken ch n (Points ps) = either (λ (m : Node _ _ _). m.sent ≡ n.sent) (is_some n.machine.fault) _ _ (λ _. refl) (λ _. by_choice ch)
  where
    by_choice : (c : Choice _ _ _) → (taken_points c n ps).sent ≡ n.sent
    by_choice Quiet = refl
    by_choice (Failed f s) = refl
    by_choice (Short s) = refl
    by_choice (Makes i f s told tf pl vl) = refl
sent-taken ch n End_view = either (λ (m : Node _ _ _). m.sent ≡ n.sent) (is_some n.machine.fault) _ _ (λ _. refl) (λ _. by_choice ch)
  where
    by_choice : (c : Choice _ _ _) → (taken_view c n).sent ≡ n.sent
    by_choice Quiet = refl
    by_choice (Failed f s) = refl
    by_choice (Short s) = refl
    by_choice (Makes i f s told tf pl vl) = refl
sent-taken ch n (End_all cut) = either (λ (m : Node _ _ _). m.sent ≡ n.sent) (n.machine.ended + 1 == n.machine.inputs) _ _ (λ _. refl) (λ _. refl)

sent-made : {S P F : Type 0} (ch : Choice S P F) (n : Node S P F) → (makes ch n).sent ≡ n.sent
sent-made (Makes i f s told tf pl vl) n = refl
sent-made Quiet n = refl
sent-made (Failed f s) n = refl
sent-made (Short s) n = refl

module _ {S P F : Type 0} (root : Bool) (cap : ℕ) (n : Node S P F) (before after : List (Item P)) where
  -- a turn that neither gives nor takes
  rests : (m : Node S P F) (t : Turned) → m.sent ≡ n.sent → m.done ≡ n.done → gave t n.hand n.sent ≡ [] → ((ns : List ℕ) (number : ℕ) → numbers_above root t ns number ≡ ns) → ((xs : List (ℕ × Item P)) → took t xs ≡ []) → ((ns : List ℕ) → numbers_left t ns ≡ ns) → Hands root cap n before after (record { node = m; input = before; out = after; turned = t })
  rests m t s d g a x l = record {
    gives = inl (record { nothing = g; sent = s; done = d; out = refl; numbers = a });
    takes = inl (record { input = refl; nothing = x; numbers = l });
  }

  full : Hands root cap n before after (record { node = n; input = before; out = after; turned = Idle Full })
  full = rests n (Idle Full) refl refl refl (λ ns k. refl) (λ xs. refl) (λ ns. refl)

  puts : (i : Item P) → n.hand ≡ Some i → root ≡ false → length after < cap → Hands root cap n before after (record { node = given n i; input = before; out = after ++ i ∷ []; turned = Gave })
  puts i h r m = record {
    gives = inr (record { item = i; hand = h; turned = refl; sent = refl; done = refl; laid = λ t. conflict root t r; out = λ _. refl; room = λ _. m });
    takes = inl (record { input = refl; nothing = λ xs. refl; numbers = λ ns. refl });
  }

  lays : (i : Item P) → n.hand ≡ Some i → root ≡ true → Hands root cap n before after (record { node = given n i; input = before; out = after; turned = Gave })
  lays i h r = record {
    gives = inr (record { item = i; hand = h; turned = refl; sent = refl; done = refl; laid = λ _. refl; out = λ f. conflict root r f; room = λ f. conflict root r f });
    takes = inl (record { input = refl; nothing = λ xs. refl; numbers = λ ns. refl });
  }

  takes-one : (ch : Choice S P F) (is : List (Item P)) → before ≡ is → Hands root cap n before after (takes ch n is after)
  takes-one ch [] e = rw e (record {
    gives = inl (record { nothing = refl; sent = refl; done = refl; out = refl; numbers = λ ns k. refl });
    takes = inl (record { input = refl; nothing = λ xs. refl; numbers = λ ns. refl });
  })
  takes-one ch (i ∷ is) e = rw e (record {
    gives = inl (record { nothing = refl; sent = sent-taken ch n i; done = done-taken ch n i; out = refl; numbers = λ ns k. refl });
    takes = inr (record { item = i; first = refl; turned = refl });
  })

  by_hand : (ch : Choice S P F) (h : Option (Item P)) → n.hand ≡ h → Hands root cap n before after (with_hand root cap ch n before after h)
  by_hand ch (Some i) h = either (Hands root cap n before after) root _ _
      (λ r. lays i h r)
      (λ r. either (Hands root cap n before after) (nat_lt (length after) cap) _ _ (λ m. puts i h r (ltb-true (length after) cap m)) (λ _. full))
  by_hand ch None h = either (Hands root cap n before after) n.done _ _
      (λ _. rests n Done refl refl refl (λ ns k. refl) (λ xs. refl) (λ ns. refl))
      (λ d. either (Hands root cap n before after) n.ending _ _
      (λ _. rests _ Made refl refl refl (λ ns k. refl) (λ xs. refl) (λ ns. refl))
      (λ e. either (Hands root cap n before after) n.leaf _ _
      (λ l. rests (makes ch n) Made (sent-made ch n) (made-done ch n).0 refl (λ ns k. refl) (λ xs. refl) (λ ns. refl))
      (λ _. takes-one ch before refl)))

  pub turn-hands : (ch : Choice S P F) → Hands root cap n before after (turn root cap ch n before after)
  turn-hands ch = by_hand ch n.hand refl
