-- The runs of a plan and the parts of its tree.
use Rattle.std.specs.Prelude.{ℕ, ◌≡◌, List, map, slice_get, Some}
use Rattle.stage_options.specs.declared.stage.StageSpec.{StageSpec}
use Rattle.stage_parts.specs.Parts.{AreHomes}
use Rattle.stage_planner.specs.Covering.{IsEnd}
use Rattle.stage_planner.specs.Plans.{needs_whole, plan_of}
use Rattle.stage_planner.specs.declared.steps.PlanStep.TheVariants.{Run}

-- the homes of stages: of these those gather that need whole views
abbrev pub AreHomesOf : List StageSpec → List ℕ → Type 0
AreHomesOf stages homes = AreHomes (map needs_whole stages) (map (λ (s : StageSpec). s.ins) stages) homes

-- step a of the plan is a run, and stage e is its greatest
pub record EndsRun (stages : List StageSpec) (e a : ℕ) : Type 0 where
  pub is_run : (numbers : List ℕ) × (slice_get (plan_of stages) a ≡ Some (Run numbers))
  pub end : IsEnd (plan_of stages) e a
