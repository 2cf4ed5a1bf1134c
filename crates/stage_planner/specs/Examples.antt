-- Plans that compute.
use Rattle.std.specs.Prelude.{ℕ, ◌≡◌, false, List, [], ◌∷◌, None, codes, refl}
use Rattle.stage_options.specs.declared.options.Options.TheVariants.{ReadersLas, FiltersHead, FiltersMerge, FiltersSort}
use Rattle.stage_options.specs.declared.stage.StageSpec.{StageSpec}
use Rattle.stage_planner.specs.declared.steps.PlanStep.TheVariants.{Run, Whole}
use Rattle.stage_planner.specs.Plans.{plan_of, end_of}

-- a reader, and by the numbers of the stages that they take a head, a merge and a sort
abbrev read : StageSpec
read = record { ins = []; options = ReadersLas (record { filename = codes "a.las"; extra = false }) }

abbrev head : List ℕ → StageSpec
head ins = record { ins = ins; options = FiltersHead (record { count = 1; only = None }) }

abbrev merge : List ℕ → StageSpec
merge ins = record { ins = ins; options = FiltersMerge (record {}) }

abbrev sort : List ℕ → StageSpec
sort ins = record { ins = ins; options = FiltersSort (record { dimension = codes "Z"; down = false }) }

-- a tree of streamed stages is one run
pub streamed_plan : plan_of (read ∷ read ∷ merge (0 ∷ 1 ∷ []) ∷ head (2 ∷ []) ∷ []) ≡ Run (0 ∷ 1 ∷ 2 ∷ 3 ∷ []) ∷ []
unfolding end_of
streamed_plan = refl

-- a whole stage parts it in two
pub parted_plan : plan_of (read ∷ read ∷ merge (0 ∷ 1 ∷ []) ∷ sort (2 ∷ []) ∷ head (3 ∷ []) ∷ []) ≡ Run (0 ∷ 1 ∷ 2 ∷ []) ∷ Whole 3 ∷ Run (4 ∷ []) ∷ []
unfolding end_of
parted_plan = refl

-- stages before and behind a whole one may be of one run
pub mixed_plan : plan_of (read ∷ read ∷ sort (0 ∷ []) ∷ sort (2 ∷ []) ∷ merge (1 ∷ 3 ∷ []) ∷ []) ≡ Run (0 ∷ []) ∷ Whole 2 ∷ Whole 3 ∷ Run (1 ∷ 4 ∷ []) ∷ []
unfolding end_of
mixed_plan = refl

-- a whole stage may stand last
pub last_plan : plan_of (read ∷ sort (0 ∷ []) ∷ []) ≡ Run (0 ∷ []) ∷ Whole 1 ∷ []
unfolding end_of
last_plan = refl
