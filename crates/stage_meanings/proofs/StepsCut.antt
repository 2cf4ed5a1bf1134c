-- A work by steps keeps the law of cutting.
use Rattle.std.proofs.Common.{◌≡◌, ◌≢◌, ◌≤◌, suc, List, [], ◌∷◌, ◌++◌, length, Option, Some, None, refl, ap, ◌∙◌, zero-le, arith}
use Rattle.std.specs.List.{cons_option}
use Rattle.cloud_points.specs.Events.{first_fault}
use Rattle.cloud_points.specs.Meaning.{KeepsCutting}
use Rattle.stage_meanings.specs.Steps.{Steps, unless, given, reached, stopped, steps_meaning}

cons-append : {P : Type 0} (o : Option P) (xs ys : List P) → cons_option o (xs ++ ys) ≡ cons_option o xs ++ ys
cons-append None xs ys = refl
cons-append (Some p) xs ys = refl

cons-longer : {P : Type 0} (o : Option P) (xs : List P) → length (cons_option o xs) ≤ suc (length xs)
cons-longer None xs = omega arith
cons-longer (Some p) xs = omega arith

module _ {S P F : Type 0} (st : Steps S P F) where
  emits : (s : S) (a b : List P) → stopped st s a ≡ None → given st s (a ++ b) ≡ given st s a ++ given st (reached st s a) b
  emits s [] b h = refl
  emits s (p ∷ a) b h = go (st.fault s p) h (emits (st.next s p) a b)
    where
      go : (o : Option F) → first_fault o (stopped st (st.next s p) a) ≡ None
          → (stopped st (st.next s p) a ≡ None → given st (st.next s p) (a ++ b) ≡ given st (st.next s p) a ++ given st (reached st (st.next s p) a) b)
          → unless o [] (cons_option (st.becomes s p) (given st (st.next s p) (a ++ b))) ≡ unless o [] (cons_option (st.becomes s p) (given st (st.next s p) a)) ++ given st (unless o s (reached st (st.next s p) a)) b
      go (Some f) h ih = absurd cc
      go None h ih = ap (cons_option (st.becomes s p)) (ih h) ∙ cons-append (st.becomes s p) _ _

  goes_on : (s : S) (a b : List P) → stopped st s a ≡ None → reached st s (a ++ b) ≡ reached st (reached st s a) b
  goes_on s [] b h = refl
  goes_on s (p ∷ a) b h = go (st.fault s p) h (goes_on (st.next s p) a b)
    where
      go : (o : Option F) → first_fault o (stopped st (st.next s p) a) ≡ None
          → (stopped st (st.next s p) a ≡ None → reached st (st.next s p) (a ++ b) ≡ reached st (reached st (st.next s p) a) b)
          → unless o s (reached st (st.next s p) (a ++ b)) ≡ reached st (unless o s (reached st (st.next s p) a)) b
      go (Some f) h ih = absurd cc
      go None h ih = ih h

  finds : (s : S) (a b : List P) → stopped st s a ≡ None → stopped st s (a ++ b) ≡ stopped st (reached st s a) b
  finds s [] b h = refl
  finds s (p ∷ a) b h = go (st.fault s p) h (finds (st.next s p) a b)
    where
      go : (o : Option F) → first_fault o (stopped st (st.next s p) a) ≡ None
          → (stopped st (st.next s p) a ≡ None → stopped st (st.next s p) (a ++ b) ≡ stopped st (reached st (st.next s p) a) b)
          → first_fault o (stopped st (st.next s p) (a ++ b)) ≡ stopped st (unless o s (reached st (st.next s p) a)) b
      go (Some f) h ih = absurd cc
      go None h ih = ih h

  stops_emit : (s : S) (a b : List P) → stopped st s a ≢ None → given st s (a ++ b) ≡ given st s a
  stops_emit s [] b h = absurd (h refl)
  stops_emit s (p ∷ a) b h = go (st.fault s p) h (stops_emit (st.next s p) a b)
    where
      go : (o : Option F) → first_fault o (stopped st (st.next s p) a) ≢ None
          → (stopped st (st.next s p) a ≢ None → given st (st.next s p) (a ++ b) ≡ given st (st.next s p) a)
          → unless o [] (cons_option (st.becomes s p) (given st (st.next s p) (a ++ b))) ≡ unless o [] (cons_option (st.becomes s p) (given st (st.next s p) a))
      go (Some f) h ih = refl
      go None h ih = ap (cons_option (st.becomes s p)) (ih h)

  stops_after : (s : S) (a b : List P) → stopped st s a ≢ None → reached st s (a ++ b) ≡ reached st s a
  stops_after s [] b h = absurd (h refl)
  stops_after s (p ∷ a) b h = go (st.fault s p) h (stops_after (st.next s p) a b)
    where
      go : (o : Option F) → first_fault o (stopped st (st.next s p) a) ≢ None
          → (stopped st (st.next s p) a ≢ None → reached st (st.next s p) (a ++ b) ≡ reached st (st.next s p) a)
          → unless o s (reached st (st.next s p) (a ++ b)) ≡ unless o s (reached st (st.next s p) a)
      go (Some f) h ih = refl
      go None h ih = ih h

  stops_fault : (s : S) (a b : List P) → stopped st s a ≢ None → stopped st s (a ++ b) ≡ stopped st s a
  stops_fault s [] b h = absurd (h refl)
  stops_fault s (p ∷ a) b h = go (st.fault s p) h (stops_fault (st.next s p) a b)
    where
      go : (o : Option F) → first_fault o (stopped st (st.next s p) a) ≢ None
          → (stopped st (st.next s p) a ≢ None → stopped st (st.next s p) (a ++ b) ≡ stopped st (st.next s p) a)
          → first_fault o (stopped st (st.next s p) (a ++ b)) ≡ first_fault o (stopped st (st.next s p) a)
      go (Some f) h ih = refl
      go None h ih = ih h

  holds_back : (s : S) (p : P) → stopped st s (p ∷ []) ≢ None → given st s (p ∷ []) ≡ []
  holds_back s p h = go (st.fault s p) h
    where
      go : (o : Option F) → first_fault o None ≢ None → unless o [] (cons_option (st.becomes s p) []) ≡ []
      go (Some f) h = refl
      go None h = absurd (h refl)

  no_longer : (s : S) (a : List P) → length (given st s a) ≤ length a
  no_longer s [] = zero-le
  no_longer s (p ∷ a) = go (st.fault s p) (no_longer (st.next s p) a)
    where
      go : (o : Option F) → length (given st (st.next s p) a) ≤ length a → length (unless o [] (cons_option (st.becomes s p) (given st (st.next s p) a))) ≤ length (p ∷ a)
      go (Some f) ih = zero-le
      go None ih = let more = cons-longer (st.becomes s p) (given st (st.next s p) a) in omega (arith, ih, more)

  pub steps_keep : KeepsCutting (steps_meaning st)
  steps_keep = record {
    emits = emits;
    goes_on = goes_on;
    finds = finds;
    stops_emit = stops_emit;
    stops_after = stops_after;
    stops_fault = stops_fault;
    holds_back = holds_back;
    rests = λ s. refl;
    is_sound = λ s. refl;
    no_longer = no_longer;
  }
