-- What a work means: five functions of its state, the law of cutting, and the nature of a work that a caller hands in.
use Rattle.std.specs.Prelude.{◌≡◌, ◌≢◌, ◌≤◌, ℕ, ℤ, Bool, List, [], ◌∷◌, ◌++◌, length, Option, None}

-- what a caller hands in at a place under a name: the numbers that it remembers where a view opens, what it remembers behind a point
-- and makes of it, and the text of what it remembers
pub record Nature (P : Type 0) : Type 0 where
  pub place : ℕ
  pub called : List ℕ
  pub opening : List ℤ
  pub step : List ℤ → P → List ℤ × Option P
  pub text : List ℤ → List ℕ

pub record Meaning (S P F : Type 0) : Type 0 where
  -- what the work gives for points, its state then, and its fault on them
  pub emit : S → List P → List P
  pub after : S → List P → S
  pub fault : S → List P → Option F
  -- the state that an end of a view leaves, and whether it goes on
  pub at_view : S → S × Bool
  -- the state that the end leaves, and whether an end of a view goes before it
  pub at_end : S → Bool → S × Bool
  -- whose it is, of which no law speaks; none where no caller handed it in
  pub nature : Option (Nature P)

-- points may be cut anywhere: up to a fault the parts do what the whole does, and nothing counts after it
pub record KeepsCutting {S P F : Type 0} (m : Meaning S P F) : Type 0 where
  pub emits : (s : S) (a b : List P) → m.fault s a ≡ None → m.emit s (a ++ b) ≡ m.emit s a ++ m.emit (m.after s a) b
  pub goes_on : (s : S) (a b : List P) → m.fault s a ≡ None → m.after s (a ++ b) ≡ m.after (m.after s a) b
  pub finds : (s : S) (a b : List P) → m.fault s a ≡ None → m.fault s (a ++ b) ≡ m.fault (m.after s a) b
  pub stops_emit : (s : S) (a b : List P) → m.fault s a ≢ None → m.emit s (a ++ b) ≡ m.emit s a
  pub stops_after : (s : S) (a b : List P) → m.fault s a ≢ None → m.after s (a ++ b) ≡ m.after s a
  pub stops_fault : (s : S) (a b : List P) → m.fault s a ≢ None → m.fault s (a ++ b) ≡ m.fault s a
  -- a point at which it has a fault does not go on
  pub holds_back : (s : S) (p : P) → m.fault s (p ∷ []) ≢ None → m.emit s (p ∷ []) ≡ []
  -- no points change nothing
  pub rests : (s : S) → m.after s [] ≡ s
  pub is_sound : (s : S) → m.fault s [] ≡ None
  -- no more points go on than came
  pub no_longer : (s : S) (a : List P) → length (m.emit s a) ≤ length a
