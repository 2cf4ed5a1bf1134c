-- The stage of a tally, by its steps.
use Rattle.std.specs.Prelude.{ℕ, ℤ, Bool, List, Some, Result, filter, if◌then◌else◌}
use Rattle.std.specs.Option.{option_map}
use Rattle.cloud_points.specs.Meaning.{Meaning, Nature}
use Rattle.cloud_points.specs.Queue.{up_to_limit}
use Rattle.cloud_points.specs.declared.faults.StageFault.{StageFault}
use Rattle.stage_meanings.specs.ByRule.{one_more}
use Rattle.stage_meanings.specs.Filters.{reason_of, is_true, fault_at}
use Rattle.stage_meanings.specs.Steps.{Steps, steps_meaning}
use Rattle.stage_meanings.specs.declared.reason.Reason.{Reason}
use Rattle.plug_stages.specs.PlugSteps.{with_nature}
use Rattle.plug_stages.specs.declared.spots.TallySpot.{TallySpot}

-- behind a point, which does or doesn't pass the `where`
abbrev pub tally_next : {P : Type 0} → (List ℤ → P → List ℤ) → Bool → TallySpot → P → TallySpot
tally_next step passed s p = record {
  number = one_more s.number;
  shown = if passed then one_more s.shown else s.shown;
  remembered = if passed then step s.remembered p else s.remembered;
}

-- each point goes on as it is, and all views are one to the tally
abbrev pub tally_steps : {P : Type 0} → (List ℤ → P → List ℤ) → (P → Result Bool Reason) → Steps TallySpot P StageFault
tally_steps step only = record {
  fault = λ s p. option_map (fault_at s.number) (reason_of (only p));
  becomes = λ s p. Some p;
  next = λ s p. tally_next step (is_true (only p)) s p;
  anew = λ s. s;
}

-- the stage as a work
abbrev pub tally_stage : {P : Type 0} → Nature P → (List ℤ → P → List ℤ) → (P → Result Bool Reason) → Meaning TallySpot P StageFault
tally_stage nature step only = with_nature nature (steps_meaning (tally_steps step only))

-- behind so many points, of which so many were shown, where the tally remembers this
abbrev pub tally_spot_at : ℕ → ℕ → List ℤ → TallySpot
tally_spot_at n shown s = record { number = up_to_limit n; shown = up_to_limit shown; remembered = s }

-- those that pass
abbrev pub passing : {P : Type 0} → (P → Result Bool Reason) → List P → List P
passing only points = filter (λ p. is_true (only p)) points
