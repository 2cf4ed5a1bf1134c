-- All files of a run.
use Rattle.std.specs.Prelude.{◌≡◌, ◌⊎◌, ℕ, List, length, Option, None}
use Rattle.file_devices.specs.Named.{Names}
use Rattle.stage_kinds.specs.declared.stage_work.StageWork.{StageWork}
use Rattle.stage_options.specs.declared.stage.StageSpec.{StageSpec}
use Rattle.run_report.specs.declared.refusal.Refusal.{Refusal}
use Rattle.run_report.specs.declared.refusal.Refusal.TheVariants.{Memory}
use Rattle.run_outcome.specs.Cause.{WerePut}
use Rattle.run_ending.specs.Each.{BrokeOffAt, all_files, kept_from}
use Rattle.run_ending.specs.Keeping.{BrokeOff, kept_first}

module _ {S K P Q : Type 0} (bytes : K → Option (List ℕ)) where
  -- the files of all writers of one file were kept, and then those of views
  pub record AreAllKept (old new : Option Names) (stages : List StageSpec) (works : List (StageWork S K P Q)) : Type 0 where
    pub mid : Option Names
    pub plain : mid ≡ kept_first bytes (length works) old stages works
    pub lost : mid ≡ None → new ≡ None
    pub each : WerePut mid (all_files stages (kept_from 0 works)) new

  -- those of all writers of one file were, and those of views up to one
  pub record BrokeOffEach (rose : Type 0) (old new : Option Names) (stages : List StageSpec) (works : List (StageWork S K P Q)) (refusal : Refusal) : Type 0 where
    pub mid : Option Names
    pub plain : mid ≡ kept_first bytes (length works) old stages works
    pub lost : mid ≡ None → new ≡ None
    pub broke : BrokeOffAt rose mid new stages (kept_from 0 works) refusal

  -- memory was wanting before the first was kept, or it broke off at one of the first or at one of the others
  abbrev pub IsUnkept : Type 0 → Option Names → Option Names → List StageSpec → List (StageWork S K P Q) → Refusal → Type 0
  IsUnkept rose old new stages works refusal =
      ((refusal ≡ Memory) × (new ≡ old)) ⊎ (BrokeOff bytes rose old new stages works refusal ⊎ BrokeOffEach rose old new stages works refusal)
