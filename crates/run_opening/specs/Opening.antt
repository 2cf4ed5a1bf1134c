-- Why a stage's file isn't opened or created.
use Rattle.std.specs.Prelude.{◌≡◌, ◌⊎◌, ◌<◌, ℕ, List, ◌∷◌, Option, Some, None, option_map, ⊤}
use Rattle.file_devices.specs.Told.{IsAsTold}
use Rattle.file_devices.specs.Named.{Names}
use Rattle.file_devices.specs.declared.devices.Op.TheVariants as op
use Rattle.las_reader.specs.declared.opening.OpenErr.{OpenErr}
use Rattle.las_reader.specs.declared.opening.OpenErr.TheVariants as opening
use Rattle.stage_options.specs.Roles.{Role, Reads}
use Rattle.run_report.specs.declared.refusal.Fault.TheVariants as fault
use Rattle.run_report.specs.declared.refusal.Refusal.{Refusal}
use Rattle.run_report.specs.declared.refusal.Refusal.TheVariants as of
use Rattle.run_report.specs.declared.refusal.Place.TheVariants as at
use Rattle.run_outcome.specs.Cause.{AtRole}
use Rattle.answer_model.specs.Runs.{unread}

-- the refusal of a run whose stage i can't be opened
abbrev pub opening_refusal : ℕ → OpenErr → Refusal
opening_refusal i (opening.Header f) = of.Data i (fault.Header f)
opening_refusal i (opening.Vlr f) = of.Data i (fault.Vlr f)
opening_refusal i opening.ReadFailed = of.Device (at.Stage i) op.Read
opening_refusal i opening.Memory = of.Memory

-- it comes before any point is looked at
abbrev pub IsBeforePoints : Refusal → Type 0
IsBeforePoints (of.Data i (fault.Point f)) = ⊥
IsBeforePoints refusal = ⊤

-- why the file of stage i, which does this, couldn't be opened: that is expected, memory was wanting, or its device failed
abbrev pub IsUnopened : Type 0 → Option Names → ℕ → Role → Refusal → Type 0
IsUnopened rose map i role of.Memory = ⊤
IsUnopened rose map i role (of.Data j f) = (m : Names) → map ≡ Some m → unread m i role ≡ Some (of.Data j f)
IsUnopened rose map i (Reads name) (of.Device (at.Stage j) o) =
    (j ≡ i) × (((m : Names) × (map ≡ Some m) × (unread m i (Reads name) ≡ Some (of.Device (at.Stage i) o))) ⊎ (rose × AtRole ⊤ ⊥ ⊥ (Reads name) o))
IsUnopened rose map i role refusal = ⊥

-- what is told then of the counts: a file that couldn't be read was given back, of which a read failed
abbrev pub ToldUnopened : Option (List ℕ) → Option (List ℕ) → Refusal → Type 0
ToldUnopened before after (of.Device p op.Open) = after ≡ before
ToldUnopened before after (of.Device p op.Read) = (c : ℕ) × (0 < c) × IsAsTold after (option_map (λ cs. c ∷ cs) before)
ToldUnopened before after (of.Device p o) = ⊥
ToldUnopened before after refusal = ⊤

-- why the file of stage i couldn't be created, or begun on this sink: memory was wanting, or its device failed
abbrev pub IsUncreated : {K : Type 0} → (K → ℕ) → Type 0 → ℕ → Option K → Refusal → Type 0
IsUncreated faults rose i sink of.Memory = ⊤
IsUncreated faults rose i sink (of.Device (at.Stage j) op.Create) = (j ≡ i) × (sink ≡ None) × rose
IsUncreated {K} faults rose i sink (of.Device (at.Stage j) op.Write) = (j ≡ i) × ((k : K) × (sink ≡ Some k) × (0 < faults k))
IsUncreated faults rose i sink refusal = ⊥
