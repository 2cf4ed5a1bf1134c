-- A tally's stage gives on each point.
use Rattle.std.proofs.Common.{◌≡◌, ℤ, Bool, List, [], ◌∷◌, length, Option, Some, None, Result, refl, arith}
use Rattle.std.specs.List.{cons_option}
use Rattle.cloud_points.specs.Events.{first_fault}
use Rattle.cloud_points.specs.Lifted.{emit_at, fault_at}
use Rattle.cloud_points.specs.declared.faults.StageFault.{StageFault}
use Rattle.cloud_points.specs.declared.point.Point.{Point}
use Rattle.network_theory.specs.Ahead.{KeepsCount}
use Rattle.stage_meanings.specs.Conditions.{passes}
use Rattle.stage_meanings.specs.Steps.{Steps, unless, given, stopped}
use Rattle.stage_meanings.specs.declared.reason.Reason.{Reason}
use Rattle.plug_stages.specs.TallySteps.{tally_steps}
use Rattle.plug_stages.specs.Works.{tally_meaning}
use Rattle.plug_stages.specs.declared.spots.TallySpot.{TallySpot}
use Rattle.plug_stages.specs.declared.tally.PlugTally as tally_type
use Rattle.plug_stages.specs.declared.tally_work.TallyWork.{TallyWork}
use Rattle.stage_kinds.specs.Stages.{tallying_in, tally_work}

module _ (step : List ℤ → Point → List ℤ) (only : Point → Result Bool Reason) where
  abbrev steps : Steps TallySpot Point StageFault
  steps = tally_steps step only

  all-go-on : (s : TallySpot) (ps : List Point) → stopped steps s ps ≡ None → length (given steps s ps) ≡ length ps
  all-go-on s [] e = refl
  all-go-on s (p ∷ ps) e = by_fault (steps.fault s p) (all-go-on (steps.next s p) ps) e
    where
      by_fault : (f : Option StageFault) → (stopped steps (steps.next s p) ps ≡ None → length (given steps (steps.next s p) ps) ≡ length ps)
          → first_fault f (stopped steps (steps.next s p) ps) ≡ None → length (unless f [] (cons_option (Some p) (given steps (steps.next s p) ps))) ≡ length (p ∷ ps)
      by_fault (Some f) rest h = cc
      by_fault None rest h = let more = rest h in omega (arith, more)

pub tally-count : {Q : Type 0} (ts : tally_type.Ghosts Q) (w : TallyWork Q) → KeepsCount (tally_work (tally_meaning ts w))
tally-count ts w t ps e = go (tallying_in t) e
  where
    go : (o : Option TallySpot) → fault_at (tally_meaning ts w) o ps ≡ None → length (emit_at (tally_meaning ts w) o ps) ≡ length ps
    go None h = refl
    go (Some s) h = all-go-on (ts.step w.tally) (passes w.only) s ps h
