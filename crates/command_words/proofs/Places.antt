-- The command of words, and the place where they are none.
use Rattle.std.proofs.Common.{◌≡◌, ◌∙◌, ◌<◌, ◌≤◌, ◌+◌, ◌⊎◌, inl, inr, ℕ, suc, List, [], ◌∷◌, ◌++◌, length, take, drop, Option, Some, None, option_and_then, Result, Ok, Err, ok_or, ap, subst, refl, sym, arith}
use Rattle.std.proofs.lemmas.List.{append-nil, append_assoc, take-append-drop, take_all, take-take}
use Rattle.command_words.specs.Commands.{Command, IsCommand, CanGoOn}
use Rattle.command_words.specs.Machine.{State, start, step, ended, command_from, command_of}
use Rattle.text_bytes.specs.Steps.{and_then}
use Rattle.command_words.specs.Laws.{IsPlace}
use Rattle.command_words.proofs.Runs.{state_after, after_both, leads}
use Rattle.command_words.proofs.Fronts.{at_start, front_after, is_ended, goes_on}

led_to : (s : State) (place : ℕ) (words : List (List ℕ)) (c : Command) → option_and_then ended (state_after s words) ≡ Some c → command_from s place words ≡ Ok c
led_to s place [] c e = rw e refl
led_to s place (word ∷ words) c e = go (step s word) refl e (λ t e. led_to t (place + 1) words c e)
  where
    go : (o : Option State) → step s word ≡ o → option_and_then ended (option_and_then (λ t. state_after t words) o) ≡ Some c → ((t : State) → option_and_then ended (state_after t words) ≡ Some c → command_from t (place + 1) words ≡ Ok c) → command_from s place (word ∷ words) ≡ Ok c
    go (Some t) is e on = rw is (on t e)
    go None is e on = cc

-- how the words are read
pub record Reads (s : State) (words : List (List ℕ)) (c : Command) : Type 0 where
  pub last : State
  pub reached : state_after s words ≡ Some last
  pub over : ended last ≡ Some c

reads : (s : State) (place : ℕ) (words : List (List ℕ)) (c : Command) → command_from s place words ≡ Ok c → Reads s words c
reads s place [] c e = go (ended s) refl e
  where
    go : (o : Option Command) → ended s ≡ o → ok_or o place ≡ Ok c → Reads s [] c
    go (Some d) is e = let same : d ≡ c = cc in record { last = s; reached = refl; over = is ∙ ap Some same }
    go None is e = cc
reads s place (word ∷ words) c e = go (step s word) refl e (λ t e. reads t (place + 1) words c e)
  where
    go : (o : Option State) → step s word ≡ o → and_then (ok_or o place) (λ t. command_from t (place + 1) words) ≡ Ok c → ((t : State) → command_from t (place + 1) words ≡ Ok c → Reads t words c) → Reads s (word ∷ words) c
    go (Some t) is e on = let r = on t e in record { last = r.last; reached = ap (option_and_then (λ t. state_after t words)) is ∙ r.reached; over = r.over }
    go None is e on = cc

pub told : (words : List (List ℕ)) (c : Command) → IsCommand words c → command_of words ≡ Ok c
unfolding command_of
told words c h = led_to start 0 words c (leads h)

pub only : (words : List (List ℕ)) (c : Command) → command_of words ≡ Ok c → IsCommand words c
unfolding command_of
only words c e = let r = reads start 0 words c e in is_ended c (front_after start r.last [] words at_start r.reached) r.over

-- ---- words that are no command

-- where the reading stops, and why
record Stops (s : State) (place : ℕ) (words : List (List ℕ)) (k : ℕ) : Type 0 where
  far : ℕ
  here : k ≡ place + far
  last : State
  reached : state_after s (take far words) ≡ Some last
  over : ((far < length words) × (state_after s (take (suc far) words) ≡ None)) ⊎ ((far ≡ length words) × (ended last ≡ None))

stops : (s : State) (place : ℕ) (words : List (List ℕ)) (k : ℕ) → command_from s place words ≡ Err k → Stops s place words k
stops s place [] k e = go (ended s) refl e
  where
    go : (o : Option Command) → ended s ≡ o → ok_or o place ≡ Err k → Stops s place [] k
    go (Some d) is e = cc
    go None is e = let same : place ≡ k = cc in record { far = 0; here = omega (arith, same); last = s; reached = refl; over = inr (refl, is) }
stops s place (word ∷ words) k e = go (step s word) refl e (λ t e. stops t (place + 1) words k e)
  where
    longer : (t : State) (far : ℕ) (last : State) → step s word ≡ Some t → ((far < length words) × (state_after t (take (suc far) words) ≡ None)) ⊎ ((far ≡ length words) × (ended last ≡ None))
        → ((suc far < length (word ∷ words)) × (state_after s (take (suc (suc far)) (word ∷ words)) ≡ None)) ⊎ ((suc far ≡ length (word ∷ words)) × (ended last ≡ None))
    longer t far last is (inl h) = inl (omega (arith, h.0), ap (option_and_then (λ u. state_after u (take (suc far) words))) is ∙ h.1)
    longer t far last is (inr h) = inr (omega (arith, h.0), h.1)

    go : (o : Option State) → step s word ≡ o → and_then (ok_or o place) (λ t. command_from t (place + 1) words) ≡ Err k → ((t : State) → command_from t (place + 1) words ≡ Err k → Stops t (place + 1) words k) → Stops s place (word ∷ words) k
    go (Some t) is e on =
        let r = on t e in
        record { far = suc r.far; here = omega (arith, r.here); last = r.last; reached = ap (option_and_then (λ u. state_after u (take r.far words))) is ∙ r.reached; over = longer t r.far r.last is r.over }
    go None is e on = let same : place ≡ k = cc in record { far = 0; here = omega (arith, same); last = s; reached = refl; over = inl (omega arith, ap (option_and_then (λ u. state_after u [])) is) }

-- words that lead nowhere can't go on
gone : (words : List (List ℕ)) → state_after start words ≡ None → CanGoOn words → ⊥
gone words e h =
    let none : state_after start (words ++ h.0) ≡ None = after_both start words h.0 ∙ ap (option_and_then (λ t. state_after t h.0)) e in
    let no : None ≡ Some h.1 = sym (ap (option_and_then ended) none) ∙ leads h.2 in
    cc

not_over : (words : List (List ℕ)) (last : State) (c : Command) → state_after start words ≡ Some last → ended last ≡ None → IsCommand words c → ⊥
not_over words last c e over h = let no : None ≡ Some c = sym (ap (option_and_then ended) e ∙ over) ∙ leads h in cc

stops_there : (words : List (List ℕ)) (far : ℕ) (last : State) → state_after start (take far words) ≡ Some last → ((far < length words) × (state_after start (take (suc far) words) ≡ None)) ⊎ ((far ≡ length words) × (ended last ≡ None))
    → ((far < length words) × (CanGoOn (take (far + 1) words) → ⊥)) ⊎ ((far ≡ length words) × ((c : Command) → IsCommand words c → ⊥))
stops_there words far last e (inl h) = let on : suc far ≡ far + 1 = omega arith in inl (h.0, gone (take (far + 1) words) (ap (λ i. state_after start (take i words)) (sym on) ∙ h.1))
stops_there words far last e (inr h) = let all : take far words ≡ words = take_all far words (omega (arith, h.0)) in inr (h.0, λ c. not_over words last c (ap (state_after start) (sym all) ∙ e) h.1)

pub place_only : (words : List (List ℕ)) (k : ℕ) → command_of words ≡ Err k → IsPlace words k
unfolding command_of
place_only words k e =
    let r = stops start 0 words k e in
    let at : r.far ≡ k = omega (arith, r.here) in
    subst (IsPlace words) at (record { before = goes_on (front_after start r.last [] (take r.far words) at_start r.reached); here = stops_there words r.far r.last r.reached r.over })

-- ---- there is one place

-- what can go on could do so before
shorter : (words : List (List ℕ)) (i : ℕ) → CanGoOn words → CanGoOn (take i words)
shorter words i h = (drop i words ++ h.0, h.1, subst (λ l. IsCommand l h.1) (ap (λ l. l ++ h.0) (sym (take-append-drop i words)) ∙ append_assoc (take i words) (drop i words) h.0) h.2)

no_command : (words : List (List ℕ)) (k : ℕ) (c : Command) → IsPlace words k → IsCommand words c → ⊥
no_command words k c p h = elim p.here [ inl q ↦ q.1 (shorter words (k + 1) ([], c, subst (λ l. IsCommand l c) (sym (append-nil words)) h)) | inr q ↦ q.1 c h ]

up_to_end : (words : List (List ℕ)) (k : ℕ) → IsPlace words k → k ≤ length words
up_to_end words k p = elim p.here [ inl q ↦ omega (arith, q.0) | inr q ↦ omega (arith, q.0) ]

not_before : (words : List (List ℕ)) (j k : ℕ) → IsPlace words j → IsPlace words k → j < k → ⊥
not_before words j k p q lt = elim p.here [ inl r ↦ r.1 (subst CanGoOn (take-take (j + 1) k words (omega (arith, lt))) (shorter (take k words) (j + 1) q.before)) | inr r ↦ absurd (omega (arith, r.0, lt, up_to_end words k q)) ]

one_place : (words : List (List ℕ)) (j k : ℕ) → IsPlace words j → IsPlace words k → j ≡ k
one_place words j k p q = omega (arith, not_before words j k p q, not_before words k j q p)

pub place_told : (words : List (List ℕ)) (k : ℕ) → IsPlace words k → command_of words ≡ Err k
place_told words k p = go (command_of words) refl
  where
    go : (r : Result Command ℕ) → command_of words ≡ r → command_of words ≡ Err k
    go (Ok c) e = absurd (no_command words k c p (only words c e))
    go (Err j) e = e ∙ ap Err (one_place words j k (place_only words j e) p)
