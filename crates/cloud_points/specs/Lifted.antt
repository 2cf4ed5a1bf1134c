-- A meaning over one variant of a larger state. Over any other variant the points go on as they are, and nothing changes.
use Rattle.std.proofs.Common.{◌≡◌, ◌≢◌, ◌≤◌, Bool, false, List, [], ◌∷◌, ◌++◌, length, Option, Some, None, refl, ap, ◌∙◌, arith}
use Rattle.cloud_points.specs.Meaning.{Meaning, KeepsCutting}

abbrev pub emit_at : {S P F : Type 0} → Meaning S P F → Option S → List P → List P
emit_at m None a = a
emit_at m (Some s) a = m.emit s a

abbrev pub after_at : {S T P F : Type 0} → Meaning S P F → (S → T) → T → Option S → List P → T
after_at m inject t None a = t
after_at m inject t (Some s) a = inject (m.after s a)

abbrev pub fault_at : {S P F : Type 0} → Meaning S P F → Option S → List P → Option F
fault_at m None a = None
fault_at m (Some s) a = m.fault s a

abbrev pub view_at : {S T P F : Type 0} → Meaning S P F → (S → T) → T → Option S → T × Bool
view_at m inject t None = (t, false)
view_at m inject t (Some s) = (inject ((m.at_view s).0), (m.at_view s).1)

abbrev pub end_at : {S T P F : Type 0} → Meaning S P F → (S → T) → T → Option S → Bool → T × Bool
end_at m inject t None cut = (t, false)
end_at m inject t (Some s) cut = (inject ((m.at_end s cut).0), (m.at_end s cut).1)

abbrev pub lifted : {S T P F : Type 0} → Meaning S P F → (T → Option S) → (S → T) → Meaning T P F
lifted m project inject = record {
  emit = λ t a. emit_at m (project t) a;
  after = λ t a. after_at m inject t (project t) a;
  fault = λ t a. fault_at m (project t) a;
  at_view = λ t. view_at m inject t (project t);
  at_end = λ t cut. end_at m inject t (project t) cut;
  nature = m.nature;
}

module _ {S T P F : Type 0} (m : Meaning S P F) (law : KeepsCutting m) (project : T → Option S) (inject : S → T) (there : (s : S) → project (inject s) ≡ Some s) (back : (t : T) (s : S) → project t ≡ Some s → inject s ≡ t) where
  emits : (t : T) (a b : List P) (o : Option S) → project t ≡ o → fault_at m o a ≡ None → emit_at m o (a ++ b) ≡ emit_at m o a ++ emit_at m (project (after_at m inject t o a)) b
  emits t a b None e h = rw e refl
  emits t a b (Some s) e h = rw (there (m.after s a)) (law.emits s a b h)

  goes_on : (t : T) (a b : List P) (o : Option S) → project t ≡ o → fault_at m o a ≡ None → after_at m inject t o (a ++ b) ≡ after_at m inject (after_at m inject t o a) (project (after_at m inject t o a)) b
  goes_on t a b None e h = rw e refl
  goes_on t a b (Some s) e h = rw (there (m.after s a)) (ap inject (law.goes_on s a b h))

  finds : (t : T) (a b : List P) (o : Option S) → project t ≡ o → fault_at m o a ≡ None → fault_at m o (a ++ b) ≡ fault_at m (project (after_at m inject t o a)) b
  finds t a b None e h = rw e refl
  finds t a b (Some s) e h = rw (there (m.after s a)) (law.finds s a b h)

  stops_emit : (a b : List P) (o : Option S) → fault_at m o a ≢ None → emit_at m o (a ++ b) ≡ emit_at m o a
  stops_emit a b None h = absurd (h refl)
  stops_emit a b (Some s) h = law.stops_emit s a b h

  stops_after : (t : T) (a b : List P) (o : Option S) → fault_at m o a ≢ None → after_at m inject t o (a ++ b) ≡ after_at m inject t o a
  stops_after t a b None h = absurd (h refl)
  stops_after t a b (Some s) h = ap inject (law.stops_after s a b h)

  stops_fault : (a b : List P) (o : Option S) → fault_at m o a ≢ None → fault_at m o (a ++ b) ≡ fault_at m o a
  stops_fault a b None h = absurd (h refl)
  stops_fault a b (Some s) h = law.stops_fault s a b h

  holds_back : (p : P) (o : Option S) → fault_at m o (p ∷ []) ≢ None → emit_at m o (p ∷ []) ≡ []
  holds_back p None h = absurd (h refl)
  holds_back p (Some s) h = law.holds_back s p h

  rests : (t : T) (o : Option S) → project t ≡ o → after_at m inject t o [] ≡ t
  rests t None e = refl
  rests t (Some s) e = ap inject (law.rests s) ∙ back t s e

  is_sound : (o : Option S) → fault_at m o [] ≡ None
  is_sound None = refl
  is_sound (Some s) = law.is_sound s

  no_longer : (o : Option S) (a : List P) → length (emit_at m o a) ≤ length a
  no_longer None a = omega arith
  no_longer (Some s) a = law.no_longer s a

  pub lifted-keeps : KeepsCutting (lifted m project inject)
  lifted-keeps = record {
    emits = λ t a b h. emits t a b (project t) refl h;
    goes_on = λ t a b h. goes_on t a b (project t) refl h;
    finds = λ t a b h. finds t a b (project t) refl h;
    stops_emit = λ t a b h. stops_emit a b (project t) h;
    stops_after = λ t a b h. stops_after t a b (project t) h;
    stops_fault = λ t a b h. stops_fault a b (project t) h;
    holds_back = λ t p h. holds_back p (project t) h;
    rests = λ t. rests t (project t) refl;
    is_sound = λ t. is_sound (project t);
    no_longer = λ t a. no_longer (project t) a;
  }
