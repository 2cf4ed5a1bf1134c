-- The file of one view, which is created, written and kept.
use Rattle.std.proofs.Common.{◌≡◌, ◌⊎◌, ℕ, true, [], ◌∷◌, Option, is_some, refl, inl, inr}
use Rattle.file_devices.specs.Named.{Names}
use Rattle.file_devices.specs.declared.devices.DeviceErr.{DeviceErr}
use Rattle.file_devices.specs.declared.devices.DeviceErr.TheVariants as device
use Rattle.file_devices.specs.declared.devices.Op.{Op}
use Rattle.file_devices.specs.declared.devices.Op.TheVariants.{Keep}
use Rattle.stage_kinds.specs.declared.file_form.FileForm.{FileForm}
use Rattle.stage_kinds.specs.declared.view_writing.ViewErr.{ViewErr}
use Rattle.stage_kinds.specs.declared.view_writing.ViewErr.TheVariants as view
use Rattle.stage_kinds.specs.Views.{IsWritingOp}
use Rattle.run_report.specs.declared.refusal.Place.TheVariants.{Stage}
use Rattle.run_report.specs.declared.refusal.Refusal.{Refusal}
use Rattle.run_report.specs.declared.refusal.Refusal.TheVariants.{Memory, Device}
use Rattle.answer_model.specs.Values.{Output}
use Rattle.run_outcome.specs.Cause.{WerePut}
use Rattle.run_ending.specs.Each.{IsEachOp, Stops, undone, unwritten}
use Rattle.run_ending.proofs.Each.{none-put}

-- a stage's refusal has a cause: memory was wanting, or its device failed in one of these
abbrev pub HasReason : Type 0 → ℕ → FileForm → Refusal → Type 0
HasReason rose i form refusal = (refusal ≡ Memory) ⊎ ((o : Op) × (refusal ≡ Device (Stage i) o) × IsEachOp form o × rose)

pub undone-reason : {rose : Type 0} (i : ℕ) (form : FileForm) (o : Op) (e : DeviceErr) → IsEachOp form o → (e ≡ device.Absent → ⊥) → (e ≡ device.Failed → rose) → HasReason rose i form (undone i o e)
undone-reason i form o device.Memory each there failed = inl refl
undone-reason i form o device.Failed each there failed = inr (o, refl, each, failed refl)
undone-reason i form o device.Absent each there failed = absurd (there refl)

pub unwritten-reason : {rose : Type 0} (i : ℕ) (form : FileForm) (e : ViewErr) → ((o : Op) → e ≡ view.Failed o → IsWritingOp form o × rose) → HasReason rose i form (unwritten i e)
unwritten-reason i form view.Memory failed = inl refl
unwritten-reason i form (view.Failed o) failed = let f = failed o refl in inr (o, refl, inr (inl f.0), f.1)

undone-named : (i : ℕ) (e : DeviceErr) → (undone i Keep e ≡ Memory) ⊎ (undone i Keep e ≡ Device (Stage i) Keep)
undone-named i device.Memory = inl refl
undone-named i device.Failed = inr refl
undone-named i device.Absent = inr refl

module _ {rose : Type 0} (old new : Option Names) (i : ℕ) (form : FileForm) (o : Output) (of : o.stage ≡ i) (view : is_some o.view ≡ true) where
  -- it isn't there
  pub unmade : (refusal : Refusal) → HasReason rose i form refusal → new ≡ old → Stops rose old new i form (o ∷ []) refusal
  unmade refusal why same = record {
    done = 0;
    next = o;
    at = refl;
    of = of;
    view = view;
    why = why;
    left = inl (none-put old new same);
  }

  -- it couldn't be kept, and may be there
  pub unkept : (e : DeviceErr) → HasReason rose i form (undone i Keep e) → (new ≡ old) ⊎ WerePut old (o ∷ []) new → Stops rose old new i form (o ∷ []) (undone i Keep e)
  unkept e why left = record {
    done = 0;
    next = o;
    at = refl;
    of = of;
    view = view;
    why = why;
    left = elim left [ inl same ↦ inl (none-put old new same) | inr put ↦ inr (undone-named i e, put) ];
  }
