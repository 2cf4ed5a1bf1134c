-- The fault of a filter is a point's.
use Rattle.std.proofs.Common.{◌≡◌, ℕ, Bool, false, List, [], ◌∷◌, Option, Some, None, refl}
use Rattle.std.specs.Prelude.{Result}
use Rattle.std.specs.Option.{option_map}
use Rattle.cloud_points.specs.Events.{is_device, first_fault, IsOf}
use Rattle.cloud_points.specs.declared.faults.StageFault.{StageFault}
use Rattle.cloud_points.specs.declared.faults.StageFault.TheVariants as stage
use Rattle.stage_meanings.specs.declared.reason.Reason.{Reason}
use Rattle.stage_meanings.specs.declared.reason.Reason.TheVariants.{OutOfRange, NotHeld, DivideByZero, ArithOverflow, TooMany}
use Rattle.stage_meanings.specs.declared.spot.Spot.{Spot}
use Rattle.stage_meanings.specs.Filters.{Rule, reason_of, is_true, fault_at}
use Rattle.stage_meanings.specs.ByRule.{judged_at, spot_after, steps_of}
use Rattle.stage_meanings.specs.Steps.{stopped}

pub no_device : (n : ℕ) (r : Reason) → is_device (Some (fault_at n r)) ≡ false
no_device n (OutOfRange d) = refl
no_device n (NotHeld d) = refl
no_device n DivideByZero = refl
no_device n ArithOverflow = refl
no_device n TooMany = refl

pub filters_have_no_device : {P : Type 0} (rule : Rule P Reason) (only : P → Result Bool Reason) (s : Spot) (v : List P) → is_device (stopped (steps_of rule only) s v) ≡ false
filters_have_no_device rule only s [] = refl
filters_have_no_device rule only s (p ∷ v) = go (reason_of (judged_at rule only s.place p)) (filters_have_no_device rule only (spot_after (is_true (only p)) s) v)
  where
    go : (o : Option Reason) → is_device (stopped (steps_of rule only) (spot_after (is_true (only p)) s) v) ≡ false
        → is_device (first_fault (option_map (fault_at s.number) o) (stopped (steps_of rule only) (spot_after (is_true (only p)) s) v)) ≡ false
    go (Some r) ih = no_device s.number r
    go None ih = ih

-- so it names no operation of a device
names_none : (o : Option StageFault) → is_device o ≡ false → IsOf None o
names_none None h = tt
names_none (Some (stage.Point f)) h = tt
names_none (Some (stage.Device op)) h = absurd cc

pub filters_name_no_device : {P : Type 0} (rule : Rule P Reason) (only : P → Result Bool Reason) (s : Spot) (v : List P) → IsOf None (stopped (steps_of rule only) s v)
filters_name_no_device rule only s v = names_none (stopped (steps_of rule only) s v) (filters_have_no_device rule only s v)
