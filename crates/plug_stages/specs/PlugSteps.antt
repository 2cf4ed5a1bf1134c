-- The stage of a plug, by its steps.
use Rattle.std.specs.Prelude.{ℕ, ℤ, Bool, true, false, List, Some, Result, Ok, if◌then◌else◌}
use Rattle.std.specs.Option.{option_map}
use Rattle.cloud_points.specs.Meaning.{Meaning, Nature}
use Rattle.cloud_points.specs.Queue.{up_to_limit}
use Rattle.cloud_points.specs.declared.faults.StageFault.{StageFault}
use Rattle.stage_meanings.specs.ByRule.{one_more}
use Rattle.stage_meanings.specs.Filters.{reason_of, fault_at}
use Rattle.stage_meanings.specs.Steps.{Steps, steps_meaning}
use Rattle.stage_meanings.specs.declared.reason.Reason.{Reason}
use Rattle.plug_stages.specs.Folds.{Step, step_where}
use Rattle.plug_stages.specs.declared.spots.PlugSpot.{PlugSpot}

-- what the plug remembers at the next point: a view that isn't begun begins
abbrev pub remembered_at : List ℤ → PlugSpot → List ℤ
remembered_at opening s = if s.begun then s.remembered else opening

abbrev pub plug_steps : {P : Type 0} → List ℤ → Step P → (P → P) → (P → Result Bool Reason) → Steps PlugSpot P StageFault
plug_steps opening step clear only = record {
  fault = λ s p. option_map (fault_at s.number) (reason_of (only p));
  becomes = λ s p. (step_where only clear step (remembered_at opening s) p).1;
  next = λ s p. record { number = one_more s.number; begun = true; remembered = (step_where only clear step (remembered_at opening s) p).0 };
  anew = λ s. record { number = s.number; begun = false; remembered = remembered_at opening s };
}

-- a work of the caller's
abbrev pub with_nature : {S P F : Type 0} → Nature P → Meaning S P F → Meaning S P F
with_nature nature m = record m { nature = Some nature }

-- the stage as a work
abbrev pub plug_stage : {P : Type 0} → Nature P → List ℤ → Step P → (P → P) → (P → Result Bool Reason) → Meaning PlugSpot P StageFault
plug_stage nature opening step clear only = with_nature nature (steps_meaning (plug_steps opening step clear only))

-- at the beginning of a view behind so many points, where the plug remembers this
abbrev pub plug_spot_at : ℕ → List ℤ → PlugSpot
plug_spot_at n s = record { number = up_to_limit n; begun = false; remembered = s }

-- each point passes
abbrev pub all_pass : {P : Type 0} → P → Result Bool Reason
all_pass p = Ok true
