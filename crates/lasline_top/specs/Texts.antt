-- What is printed of a plan, and of a file of generated points.
use Rattle.std.specs.Prelude.{ℕ, List, [], ◌∷◌, ◌++◌, length, flat_map, codes, decimal}
use Rattle.stage_planner.specs.declared.steps.PlanStep.{PlanStep}
use Rattle.stage_planner.specs.declared.steps.PlanStep.TheVariants.{Run, Whole}

abbrev pub numbers_text : List ℕ → List ℕ
numbers_text numbers = flat_map (λ k. codes " " ++ decimal k) numbers

-- the line of a step, with the numbers of its stages
abbrev pub step_line : PlanStep → List ℕ
step_line (Run numbers) = codes "run" ++ numbers_text numbers ++ codes "\n"
step_line (Whole k) = codes "whole" ++ numbers_text (k ∷ []) ++ codes "\n"

-- a line for each step, and then how many there are
abbrev pub plan_text : List PlanStep → List ℕ
plan_text steps = flat_map step_line steps ++ (codes "steps " ++ decimal (length steps) ++ codes "\n")

-- so many points were generated
abbrev pub generated_line : ℕ → List ℕ
generated_line count = codes "generated " ++ decimal count ++ codes " points\n"
