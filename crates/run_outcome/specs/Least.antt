-- Whose device failed, by the counts that the files tell of what was given back.
use Rattle.std.specs.Prelude.{◌≡◌, ◌+◌, ◌<◌, ℕ, Bool, true, if◌then◌else◌, List, ◌++◌, length, slice_get, Option, Some, is_some, option_map, ⊤}
use Rattle.file_devices.specs.Counts.{all_listed}
use Rattle.file_devices.specs.Told.{IsAsTold}
use Rattle.file_devices.specs.declared.devices.Op.{Op}
use Rattle.file_devices.specs.declared.devices.Op.TheVariants as op
use Rattle.stage_options.specs.Roles.{Role, is_writing}
use Rattle.stage_options.specs.declared.stage.StageSpec.{StageSpec}
use Rattle.run_report.specs.declared.refusal.Fault.TheVariants as fault
use Rattle.run_report.specs.declared.refusal.Place.TheVariants as at
use Rattle.run_report.specs.declared.refusal.Refusal.{Refusal}
use Rattle.run_report.specs.declared.refusal.Refusal.TheVariants as of
use Rattle.answer_model.specs.Values.{op_for, role_at}

-- a stage has a file of its own: one that it reads, or one that it writes
abbrev pub has_file : Role → Bool
has_file role = is_some (op_for role)

-- files are opened in the order of these numbers: those that are read, then those that are written
abbrev pub opens_at : ℕ → Role → ℕ → ℕ
opens_at count role i = if is_writing role then count + i else i

-- stage j has a file of its own, which is opened before that of stage i
pub record OpensBefore (stages : List StageSpec) (j i : ℕ) : Type 0 where
  pub inside : j < length stages
  pub has : has_file (role_at stages j) ≡ true
  pub sooner : opens_at (length stages) (role_at stages j) j < opens_at (length stages) (role_at stages i) i

-- of each stage the count of its own file, where that was open, and then those opened before it were, too; these are told of what was given
-- back since, the last one first
pub record WereGiven (stages : List StageSpec) (own : List (Option ℕ)) (before after : Option (List ℕ)) : Type 0 where
  pub told : IsAsTold after (option_map (λ cs. all_listed own ++ cs) before)
  pub files : (i c : ℕ) → slice_get own i ≡ Some (Some c) → (i < length stages) × (has_file (role_at stages i) ≡ true)
  pub all : (i j c : ℕ) → slice_get own i ≡ Some (Some c) → OpensBefore stages j i → (d : ℕ) × (slice_get own j ≡ Some (Some d))

-- the file of stage i is the next one to be opened: just those before it are open, and none of them failed
pub record IsNext (stages : List StageSpec) (own : List (Option ℕ)) (i : ℕ) : Type 0 where
  pub inside : i < length stages
  pub others : (j c : ℕ) → slice_get own j ≡ Some (Some c) → OpensBefore stages j i × (c ≡ 0)
  pub all : (j : ℕ) → OpensBefore stages j i → (d : ℕ) × (slice_get own j ≡ Some (Some d))

-- that of stage i failed, and that of no earlier stage
pub record IsLeast (own : List (Option ℕ)) (i : ℕ) : Type 0 where
  pub count : ℕ
  pub at : slice_get own i ≡ Some (Some count)
  pub rose : 0 < count
  pub earlier : (j c : ℕ) → j < i → slice_get own j ≡ Some (Some c) → c ≡ 0

-- none of them failed
abbrev pub AreCalm : List (Option ℕ) → Type 0
AreCalm own = (j c : ℕ) → slice_get own j ≡ Some (Some c) → c ≡ 0

-- what the counts show where stage i is named for this: opening and creating are calls on the files themselves, all others on its own one
abbrev pub Shows : List StageSpec → Op → List (Option ℕ) → ℕ → Type 0
Shows stages op.Open own i = IsNext stages own i
Shows stages op.Create own i = IsNext stages own i
Shows stages o own i = IsLeast own i

-- the device that a refusal names, but for a keeping, is that of the first stage whose own file failed, where that stage has one, or the
-- next that was to be opened; where it is for a point, no stage's own file failed
abbrev pub IsNamedBy : List StageSpec → Option (List ℕ) → Option (List ℕ) → Refusal → Type 0
IsNamedBy stages before after (of.Device (at.Stage i) op.Keep) = ⊤
IsNamedBy stages before after (of.Device (at.Stage i) o) = has_file (role_at stages i) ≡ true → (own : List (Option ℕ)) × WereGiven stages own before after × Shows stages o own i
IsNamedBy stages before after (of.Data i (fault.Point f)) = (own : List (Option ℕ)) × WereGiven stages own before after × AreCalm own
IsNamedBy stages before after refusal = ⊤
