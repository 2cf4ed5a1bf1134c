-- Writers that may come to write one file.
use Rattle.std.specs.Prelude.{ℕ, ◌≡◌, ◌<◌, List, Bool, false, Option, Some, None, option_and_then, find, length, take}
use Rattle.std.specs.List.{slice_get, list_any, range_with_len}
use Rattle.stage_options.specs.Roles.{role_of, written_name}
use Rattle.stage_options.specs.declared.options.Options.{Options}
use Rattle.stage_options.specs.declared.stage.StageSpec.{StageSpec}
use Rattle.stage_typing.specs.Meeting.{MayMeet, may_meet}

-- the name that a writer is given, with a `#` or without
abbrev pub output_of : Options → Option (List ℕ)
output_of options = written_name (role_of options)

abbrev pub output_at : List StageSpec → ℕ → Option (List ℕ)
output_at stages i = option_and_then (λ s. output_of s.options) (slice_get stages i)

-- stage i and an earlier one may come to write one file
abbrev pub NamesAgain : List StageSpec → ℕ → Type 0
NamesAgain stages i =
    (j : ℕ) × (earlier : List ℕ) × (name : List ℕ) × (j < i) × (output_at stages j ≡ Some earlier) × (output_at stages i ≡ Some name) × MayMeet earlier name

-- ---- the same, as tests

abbrev pub meets : List ℕ → Option (List ℕ) → Bool
meets name None = false
meets name (Some output) = may_meet output name

-- whether one of the stages may come to write a file of this name
abbrev pub is_among : List StageSpec → Option (List ℕ) → Bool
is_among stages None = false
is_among stages (Some name) = list_any (λ s. meets name (output_of s.options)) stages

abbrev pub names_again : List StageSpec → ℕ → Bool
names_again stages i = is_among (take i stages) (output_at stages i)

-- the first stage that may come to write a file which an earlier one writes
abbrev pub same_output : List StageSpec → Option ℕ
same_output stages = find (names_again stages) (range_with_len 0 (length stages))
