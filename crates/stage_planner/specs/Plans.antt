-- The steps in which the stages of a tree are run.
use Rattle.std.specs.Prelude.{ℕ, zero, suc, Bool, false, ◌||◌, ◌==◌, List, length, map, filter, position, slice_get, Option, option_map, unwrap_or, if◌then◌else◌}
use Rattle.std.specs.List.{range_with_len}
use Rattle.pipeline_json.specs.Lists.{has}
use Rattle.stage_options.specs.Roles.{is_gathering, role_of}
use Rattle.stage_options.specs.declared.stage.StageSpec.{StageSpec}
use Rattle.stage_planner.specs.declared.steps.PlanStep.{PlanStep}
use Rattle.stage_planner.specs.declared.steps.PlanStep.TheVariants.{Run, Whole}

-- a stage that needs whole views
abbrev pub needs_whole : StageSpec → Bool
needs_whole s = is_gathering (role_of s.options)

-- whether stage i is one
abbrev pub is_whole : List StageSpec → ℕ → Bool
is_whole stages i = unwrap_or (option_map needs_whole (slice_get stages i)) false

-- the stage that takes stage j
abbrev pub taker : List StageSpec → ℕ → Option ℕ
taker stages j = position (λ (s : StageSpec). has s.ins j) stages

-- the stage that takes stage j in the same run, where neither needs whole views, and else j itself
abbrev pub next : List StageSpec → ℕ → ℕ
next stages j = let i = unwrap_or (taker stages j) j in if is_whole stages j || is_whole stages i then j else i

abbrev pub times_over : ℕ → (ℕ → ℕ) → ℕ → ℕ
times_over zero f x = x
times_over (suc n) f x = f (times_over n f x)

-- the greatest stage of the step of stage j: the one to which the way from taker to taker leads
unfoldable pub end_of : List StageSpec → ℕ → ℕ
end_of stages j = times_over (length stages) (next stages) j

-- of the first n stages, those whose end is stage i
abbrev pub part_by : (ℕ → ℕ) → ℕ → ℕ → List ℕ
part_by end n i = filter (λ j. end j == i) (range_with_len 0 n)

-- the step that ends in stage i
abbrev pub step_at : List StageSpec → ℕ → PlanStep
step_at stages i = if is_whole stages i then Whole i else Run (part_by (end_of stages) (length stages) i)

-- of the first n stages, those in which a step ends
abbrev pub ends : List StageSpec → ℕ → List ℕ
ends stages n = filter (λ i. end_of stages i == i) (range_with_len 0 n)

-- the steps in the order of their greatest stages
abbrev pub plan_of : List StageSpec → List PlanStep
plan_of stages = map (step_at stages) (ends stages (length stages))
