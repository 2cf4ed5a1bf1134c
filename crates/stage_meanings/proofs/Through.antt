-- A work over one variant of a larger state gives the same for a flow, has the same fault, and is left in the same state.
use Rattle.std.proofs.Common.{◌≡◌, Bool, List, [], ◌∷◌, ◌++◌, Option, Some, is_some, true, false, cond, refl, ap, ◌∙◌, ◌+◌}
use Rattle.std.specs.Prelude.{◌==◌}
use Rattle.cloud_points.specs.Flows.{Flow}
use Rattle.cloud_points.specs.Lifted.{lifted}
use Rattle.cloud_points.specs.Marks.{Mark, At, View_end, End, flow_marks}
use Rattle.cloud_points.specs.Meaning.{Meaning}
use Rattle.network_theory.specs.Machine.{Machine, next, gives, output, after_all, at_last, one_end, at_start, state_after}

module _ {S T P F : Type 0} (m : Meaning S P F) (project : T → Option S) (inject : S → T) (there : (s : S) → project (inject s) ≡ Some s) where
  -- the machine over the larger state
  abbrev wide : Machine S F → Machine T F
  wide c = record { state = inject c.state; fault = c.fault; cut = c.cut; inputs = c.inputs; ended = c.ended }

  wide_next : (c : Machine S F) (t : Mark P) → next (lifted m project inject) (wide c) t ≡ wide (next m c t)
  wide_next c (At p) = go (is_some c.fault)
    where
      go : (b : Bool) → cond b (wide c) (record (wide c) { state = (lifted m project inject).after (inject c.state) (p ∷ []); fault = (lifted m project inject).fault (inject c.state) (p ∷ []) })
          ≡ wide (cond b c (record c { state = m.after c.state (p ∷ []); fault = m.fault c.state (p ∷ []) }))
      go true = refl
      go false = rw (there c.state) refl
  wide_next c View_end = go (is_some c.fault)
    where
      go : (b : Bool) → cond b (wide c) (record (wide c) { state = ((lifted m project inject).at_view (inject c.state)).0 }) ≡ wide (cond b c (record c { state = (m.at_view c.state).0 }))
      go true = refl
      go false = rw (there c.state) refl
  wide_next c (End cut) = go (c.ended + 1 == c.inputs)
    where
      go : (b : Bool) → cond b (at_last (lifted m project inject) (one_end (wide c) cut)) (one_end (wide c) cut) ≡ wide (cond b (at_last m (one_end c cut)) (one_end c cut))
      go true = rw (there c.state) refl
      go false = refl

  wide_gives : (c : Machine S F) (t : Mark P) → gives (lifted m project inject) (wide c) t ≡ gives m c t
  wide_gives c (At p) = rw (there c.state) refl
  wide_gives c View_end = rw (there c.state) refl
  wide_gives c (End cut) = rw (there c.state) refl

  wide_output : (c : Machine S F) (ts : List (Mark P)) → output (lifted m project inject) (wide c) ts ≡ output m c ts
  wide_output c [] = refl
  wide_output c (t ∷ ts) = ap (λ z. z ++ output (lifted m project inject) (next (lifted m project inject) (wide c) t) ts) (wide_gives c t)
      ∙ ap (λ d. gives m c t ++ output (lifted m project inject) d ts) (wide_next c t) ∙ ap (λ z. gives m c t ++ z) (wide_output (next m c t) ts)

  wide_after : (c : Machine S F) (ts : List (Mark P)) → after_all (lifted m project inject) (wide c) ts ≡ wide (after_all m c ts)
  wide_after c [] = refl
  wide_after c (t ∷ ts) = ap (λ d. after_all (lifted m project inject) d ts) (wide_next c t) ∙ wide_after (next m c t) ts

  pub lifted_gives : (s : S) (ts : List (Mark P)) → output (lifted m project inject) (at_start 1 (inject s)) ts ≡ output m (at_start 1 s) ts
  lifted_gives s ts = wide_output (at_start 1 s) ts

  pub lifted_faults : (s : S) (ts : List (Mark P)) → (after_all (lifted m project inject) (at_start 1 (inject s)) ts).fault ≡ (after_all m (at_start 1 s) ts).fault
  lifted_faults s ts = ap (λ d. d.fault) (wide_after (at_start 1 s) ts)

  -- and leaves the state that it leaves there
  pub lifted_leaves : (s : S) (flow : Flow P) → state_after (lifted m project inject) (inject s) flow ≡ inject (state_after m s flow)
  lifted_leaves s flow = ap (λ d. d.state) (wide_after (at_start 1 s) (flow_marks flow))
