-- A work that judges one point after the other, up to its first fault.
use Rattle.std.specs.Prelude.{true, false, List, [], ◌∷◌, Option, Some, None}
use Rattle.std.specs.List.{cons_option}
use Rattle.cloud_points.specs.Events.{first_fault}
use Rattle.cloud_points.specs.Meaning.{Meaning}

pub record Steps (S P F : Type 0) : Type 0 where
  -- the fault at a point, where it can't be judged
  pub fault : S → P → Option F
  -- what a point becomes, where it goes on, and the state then
  pub becomes : S → P → Option P
  pub next : S → P → S
  -- the state at the beginning of the next view
  pub anew : S → S

abbrev pub unless : {A F : Type 0} → Option F → A → A → A
unless (Some f) stopped x = stopped
unless None stopped x = x

module _ {S P F : Type 0} where
  -- what goes on of the points before the first fault, the state there, and that fault
  abbrev pub given : Steps S P F → S → List P → List P
  given st s [] = []
  given st s (p ∷ ps) = unless (st.fault s p) [] (cons_option (st.becomes s p) (given st (st.next s p) ps))

  abbrev pub reached : Steps S P F → S → List P → S
  reached st s [] = s
  reached st s (p ∷ ps) = unless (st.fault s p) s (reached st (st.next s p) ps)

  abbrev pub stopped : Steps S P F → S → List P → Option F
  stopped st s [] = None
  stopped st s (p ∷ ps) = first_fault (st.fault s p) (stopped st (st.next s p) ps)

  -- ends of views go on, and each begins a view
  abbrev pub steps_meaning : Steps S P F → Meaning S P F
  steps_meaning st = record {
    emit = given st;
    after = reached st;
    fault = stopped st;
    at_view = λ s. (st.anew s, true);
    at_end = λ s cut. (s, false);
    nature = None;
  }
