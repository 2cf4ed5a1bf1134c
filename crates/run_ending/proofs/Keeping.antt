-- The files of writers are kept, one after the other.
use Rattle.std.proofs.Common.{◌≡◌, ℕ, zero, suc, ◌+◌, ◌≤◌, ◌<◌, List, length, slice_get, Option, Some, None, refl, ap, sym, ◌∙◌, inl, inr, add-one}
use Rattle.file_devices.specs.Counts.{Rose}
use Rattle.file_devices.specs.Named.{Names}
use Rattle.stage_kinds.specs.declared.stage_work.StageWork.{StageWork}
use Rattle.stage_options.specs.Roles.{Role, Reads, Filters, Gathers, Writes, WritesEach, is_writing}
use Rattle.stage_options.specs.declared.stage.StageSpec.{StageSpec}
use Rattle.run_report.specs.declared.refusal.Refusal.{Refusal}
use Rattle.answer_model.specs.Values.{role_at}
use Rattle.run_ending.specs.Keeping.{kept_one, kept_if, kept_first, NotKept, BrokeOff}
use Rattle.run_outcome.proofs.Causes.{rose-within}

module _ {S K P Q : Type 0} (bytes : K → Option (List ℕ)) where
  kept-more : (old : Option Names) (stages : List StageSpec) (works : List (StageWork S K P Q)) (i : ℕ) (w : StageWork S K P Q) → slice_get works i ≡ Some w
      → kept_first bytes (i + 1) old stages works ≡ kept_one bytes (kept_first bytes i old stages works) (role_at stages i) w
  kept-more old stages works i w e = rw add-one (ap (kept_if bytes (kept_first bytes i old stages works) (role_at stages i)) e)

  pub kept-next : (old now new : Option Names) (stages : List StageSpec) (works : List (StageWork S K P Q)) (i : ℕ) (w : StageWork S K P Q) (role : Role) → role ≡ role_at stages i → slice_get works i ≡ Some w
      → now ≡ kept_first bytes i old stages works → new ≡ kept_one bytes now role w → new ≡ kept_first bytes (i + 1) old stages works
  kept-next old now new stages works i w role is e was one =
      one ∙ ap (λ m. kept_one bytes m role w) was ∙ ap (λ r. kept_one bytes (kept_first bytes i old stages works) r w) is ∙ sym (kept-more old stages works i w e)

  pub broke-off : (old now new end : Option Names) (f0 f1 f2 f3 : ℕ) (stages : List StageSpec) (works : List (StageWork S K P Q)) (i : ℕ) (w : StageWork S K P Q) (role : Role) (refusal : Refusal) → role ≡ role_at stages i → slice_get works i ≡ Some w
      → i < length works → now ≡ kept_first bytes i old stages works → f0 ≤ f1 → f2 ≤ f3 → end ≡ new → NotKept (Rose f1 f2) i role now new (kept_one bytes now role w) refusal
      → BrokeOff bytes (Rose f0 f3) old end stages works refusal
  broke-off old now new end f0 f1 f2 f3 stages works i w role refusal is e inside was low high same not = record {
    stage = i;
    inside = inside;
    writes = ap is_writing (sym is) ∙ not.writes;
    why = elim not.why [ inl m ↦ inl m | inr d ↦ inr (d.0, rose-within f0 f1 f2 f3 low high d.1) ];
    left = elim not.left [
      | inl l ↦ inl (same ∙ l ∙ was)
      | inr l ↦ inr (kept-next old now end stages works i w role is e was (same ∙ l))
    ];
  }

  -- what isn't told isn't told after a file is kept
  untold-if : (role : Role) (w : Option (StageWork S K P Q)) → kept_if bytes None role w ≡ None
  untold-if role None = refl
  untold-if (Writes name) (Some w) = refl
  untold-if Filters (Some w) = refl
  untold-if Gathers (Some w) = refl
  untold-if (WritesEach name) (Some w) = refl
  untold-if (Reads name) (Some w) = refl

  untold-first : (i : ℕ) (stages : List StageSpec) (works : List (StageWork S K P Q)) → kept_first bytes i None stages works ≡ None
  untold-first zero stages works = refl
  untold-first (suc i) stages works =
      ap (λ m. kept_if bytes m (role_at stages i) (slice_get works i)) (untold-first i stages works) ∙ untold-if (role_at stages i) (slice_get works i)

  pub untold-kept : (i : ℕ) (old now new : Option Names) (stages : List StageSpec) (works : List (StageWork S K P Q)) → now ≡ old → new ≡ kept_first bytes i now stages works → old ≡ None → new ≡ None
  untold-kept i old now new stages works same is none =
      is ∙ ap (λ m. kept_first bytes i m stages works) (same ∙ none) ∙ untold-first i stages works

  pub untold-broke : (old now new : Option Names) (rose : Type 0) (stages : List StageSpec) (works : List (StageWork S K P Q)) (refusal : Refusal) → now ≡ old → BrokeOff bytes rose now new stages works refusal → old ≡ None → new ≡ None
  untold-broke old now new rose stages works refusal same broke none = elim broke.left [
    | inl l ↦ untold-kept broke.stage old now new stages works same l none
    | inr l ↦ untold-kept (broke.stage + 1) old now new stages works same l none
  ]
