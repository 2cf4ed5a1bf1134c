-- The keeping of writers' files.
use Rattle.std.specs.Prelude.{◌≡◌, ◌⊎◌, ℕ, ◌+◌, ◌<◌, true, List, length, slice_get, Option, Some, None}
use Rattle.std.proofs.Common.{zero, suc}
use Rattle.file_devices.specs.Named.{Names, kept}
use Rattle.file_devices.specs.declared.devices.Op.TheVariants.{Keep}
use Rattle.stage_kinds.specs.declared.stage_work.StageWork.{StageWork}
use Rattle.stage_kinds.specs.Held.{told_by}
use Rattle.stage_options.specs.Roles.{Role, Writes, is_writing}
use Rattle.stage_options.specs.declared.stage.StageSpec.{StageSpec}
use Rattle.run_report.specs.declared.refusal.Place.TheVariants.{Stage}
use Rattle.run_report.specs.declared.refusal.Refusal.{Refusal}
use Rattle.run_report.specs.declared.refusal.Refusal.TheVariants.{Memory, Device}
use Rattle.answer_model.specs.Values.{role_at}

module _ {S K P Q : Type 0} (bytes : K → Option (List ℕ)) where
  -- the map after the file of a stage that does this is kept, if it writes one
  abbrev pub kept_one : Option Names → Role → StageWork S K P Q → Option Names
  kept_one old (Writes name) w = kept old name (told_by bytes w)
  kept_one old _ w = old

  abbrev pub kept_if : Option Names → Role → Option (StageWork S K P Q) → Option Names
  kept_if old role None = old
  kept_if old role (Some w) = kept_one old role w

  -- the map after the files of the first so many stages are kept, in their order
  abbrev pub kept_first : ℕ → Option Names → List StageSpec → List (StageWork S K P Q) → Option Names
  kept_first zero old stages works = old
  kept_first (suc i) old stages works = kept_if (kept_first i old stages works) (role_at stages i) (slice_get works i)

  -- the file of a stage wasn't kept: memory was wanting or its device failed, and those before it are kept, and it is or isn't
  pub record BrokeOff (rose : Type 0) (old new : Option Names) (stages : List StageSpec) (works : List (StageWork S K P Q)) (refusal : Refusal) : Type 0 where
    pub stage : ℕ
    pub inside : stage < length works
    pub writes : is_writing (role_at stages stage) ≡ true
    pub why : (refusal ≡ Memory) ⊎ ((refusal ≡ Device (Stage stage) Keep) × rose)
    pub left : (new ≡ kept_first stage old stages works) ⊎ (new ≡ kept_first (stage + 1) old stages works)

-- the same of one stage
pub record NotKept (rose : Type 0) (i : ℕ) (role : Role) (old new kept : Option Names) (refusal : Refusal) : Type 0 where
  pub writes : is_writing role ≡ true
  pub why : (refusal ≡ Memory) ⊎ ((refusal ≡ Device (Stage i) Keep) × rose)
  pub left : (new ≡ old) ⊎ (new ≡ kept)
