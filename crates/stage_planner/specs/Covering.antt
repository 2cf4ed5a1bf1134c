-- A plan covers the tree of its stages.
use Rattle.std.specs.Prelude.{ℕ, ◌<◌, ◌≤◌, ◌≡◌, Bool, true, false, ◌==◌, List, length, slice_get, Some, count_by, ◌⊎◌}
use Rattle.pipeline_json.specs.Lists.{has}
use Rattle.stage_options.specs.declared.stage.StageSpec.{StageSpec}
use Rattle.stage_planner.specs.declared.steps.PlanStep.{PlanStep}
use Rattle.stage_planner.specs.declared.steps.PlanStep.TheVariants.{Run, Whole}
use Rattle.stage_planner.specs.Plans.{is_whole}

-- stage i takes stage j
abbrev pub Takes : List StageSpec → ℕ → ℕ → Type 0
Takes stages i j = (s : StageSpec) × (slice_get stages i ≡ Some s) × (has s.ins j ≡ true)

-- whether stage i stands in a step
abbrev pub is_in : ℕ → PlanStep → Bool
is_in i (Run numbers) = has numbers i
is_in i (Whole k) = k == i

-- stage i stands in step a
abbrev pub StandsIn : List PlanStep → ℕ → ℕ → Type 0
StandsIn steps i a = (s : PlanStep) × (slice_get steps a ≡ Some s) × (is_in i s ≡ true)

-- stage i is the greatest of step a
pub record IsEnd (steps : List PlanStep) (i a : ℕ) : Type 0 where
  pub stands : StandsIn steps i a
  pub greatest : (j : ℕ) → StandsIn steps j a → j ≤ i

-- each stage stands in one step, and the runs are the largest pieces of the tree without a whole stage
pub record Covers (stages : List StageSpec) (steps : List PlanStep) : Type 0 where
  -- each stage stands in just one step
  pub one : (i : ℕ) → i < length stages → count_by (is_in i) steps ≡ 1
  -- and nothing else stands in one
  pub only : (i a : ℕ) → StandsIn steps i a → i < length stages
  -- a stage that needs whole views is a whole step
  pub whole : (i a : ℕ) → StandsIn steps i a → is_whole stages i ≡ true → slice_get steps a ≡ Some (Whole i)
  -- and so is no other stage
  pub streamed : (i a : ℕ) → slice_get steps a ≡ Some (Whole i) → is_whole stages i ≡ true
  -- the stages of a run stand in ascending order, each once
  pub ascending : (a k l i j : ℕ) (numbers : List ℕ) → slice_get steps a ≡ Some (Run numbers)
      → slice_get numbers k ≡ Some i → slice_get numbers l ≡ Some j → k < l → i < j
  -- what a stage takes stands in its step or in an earlier one
  pub earlier : (i j a b : ℕ) → Takes stages i j → StandsIn steps i a → StandsIn steps j b → b ≤ a
  -- and in its step, where neither needs whole views
  pub inside : (i j a b : ℕ) → Takes stages i j → is_whole stages i ≡ false → is_whole stages j ≡ false
      → StandsIn steps i a → StandsIn steps j b → b ≡ a
  -- a step is one piece: another stage of it takes each of its stages but the greatest
  pub joined : (j a : ℕ) → StandsIn steps j a → IsEnd steps j a ⊎ ((i : ℕ) × Takes stages i j × StandsIn steps i a)
  -- no step is empty
  pub some : (a : ℕ) → a < length steps → (i : ℕ) × IsEnd steps i a
  -- the steps stand in the order of their greatest stages
  pub ordered : (i j a b : ℕ) → IsEnd steps i a → IsEnd steps j b → a < b → i < j
