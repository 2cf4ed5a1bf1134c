-- The stages of plugs and of tallies have no device.
use Rattle.std.proofs.Common.{◌≡◌, ℤ, Bool, false, List, [], ◌∷◌, Option, Some, None, refl}
use Rattle.std.specs.Prelude.{Result}
use Rattle.std.specs.Option.{option_map}
use Rattle.cloud_points.specs.Events.{is_device, IsOf, first_fault}
use Rattle.cloud_points.specs.declared.faults.StageFault.{StageFault}
use Rattle.cloud_points.specs.declared.faults.StageFault.TheVariants as stage
use Rattle.stage_meanings.proofs.Faults.{no_device}
use Rattle.stage_meanings.specs.Filters.{reason_of, fault_at}
use Rattle.stage_meanings.specs.Steps.{Steps, stopped}
use Rattle.stage_meanings.specs.declared.reason.Reason.{Reason}
use Rattle.plug_stages.specs.Folds.{Step}
use Rattle.plug_stages.specs.PlugSteps.{plug_steps}
use Rattle.plug_stages.specs.TallySteps.{tally_steps}
use Rattle.plug_stages.specs.declared.spots.PlugSpot.{PlugSpot}
use Rattle.plug_stages.specs.declared.spots.TallySpot.{TallySpot}

names_none : (o : Option StageFault) → is_device o ≡ false → IsOf None o
names_none None h = tt
names_none (Some (stage.Point f)) h = tt
names_none (Some (stage.Device op)) h = absurd cc

-- where no point has a fault of a device, no points have one
none_stops : {S P : Type 0} (st : Steps S P StageFault) → ((s : S) (p : P) → is_device (st.fault s p) ≡ false) → (s : S) (v : List P) → is_device (stopped st s v) ≡ false
none_stops st none s [] = refl
none_stops st none s (p ∷ v) = go (st.fault s p) (none s p) (none_stops st none (st.next s p) v)
  where
    go : (o : Option StageFault) → is_device o ≡ false → is_device (stopped st (st.next s p) v) ≡ false → is_device (first_fault o (stopped st (st.next s p) v)) ≡ false
    go None h ih = ih
    go (Some f) h ih = h

unjudged_only : {R : Type 0} (number : R → StageFault) → ((r : R) → is_device (Some (number r)) ≡ false) → (o : Option R) → is_device (option_map number o) ≡ false
unjudged_only number h None = refl
unjudged_only number h (Some r) = h r

module _ {P : Type 0} (opening : List ℤ) (step : Step P) (clear : P → P) (only : P → Result Bool Reason) (s : PlugSpot) (v : List P) where
  pub plugs_have_no_device : is_device (stopped (plug_steps opening step clear only) s v) ≡ false
  plugs_have_no_device = none_stops (plug_steps opening step clear only) (λ t p. unjudged_only (fault_at t.number) (no_device t.number) (reason_of (only p))) s v

  pub plugs_name_no_device : IsOf None (stopped (plug_steps opening step clear only) s v)
  plugs_name_no_device = names_none _ plugs_have_no_device

module _ {P : Type 0} (step : List ℤ → P → List ℤ) (only : P → Result Bool Reason) (s : TallySpot) (v : List P) where
  pub tallies_have_no_device : is_device (stopped (tally_steps step only) s v) ≡ false
  tallies_have_no_device = none_stops (tally_steps step only) (λ t p. unjudged_only (fault_at t.number) (no_device t.number) (reason_of (only p))) s v

  pub tallies_name_no_device : IsOf None (stopped (tally_steps step only) s v)
  tallies_name_no_device = names_none _ tallies_have_no_device
