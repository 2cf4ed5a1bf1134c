-- What a writer does with a chunk, by the first of its points at which it stops.
use Rattle.std.proofs.Common.{◌≡◌, ℕ, ◌+◌, ◌≤◌, false, List, length, Option, Some, None, refl, ap, sym, ◌∙◌, arith}
use Rattle.std.specs.Prelude.{option_map, IfSome}
use Rattle.cloud_points.specs.declared.point.Point.{Point}
use Rattle.cloud_points.specs.Events.{is_device, IsOf}
use Rattle.cloud_points.specs.Queue.{up_to_limit}
use Rattle.cloud_points.specs.declared.faults.StageFault.{StageFault}
use Rattle.file_devices.specs.declared.devices.Op.{Op}
use Rattle.stage_meanings.specs.Admitting.{told_behind}
use Rattle.stage_meanings.proofs.Admits.{Admits, admits, refused_within}
use Rattle.stage_meanings.specs.ByRule.{IsWithin}
use Rattle.stage_meanings.specs.Conditions.{passes}
use Rattle.stage_meanings.specs.Filters.{points_before}
use Rattle.stage_meanings.proofs.Spots.{same_spot}
use Rattle.stage_meanings.specs.Steps.{given, reached, stopped}
use Rattle.stage_meanings.specs.declared.reason.Reason.{Reason}
use Rattle.stage_meanings.specs.declared.spot.Spot.{Spot}
use Rattle.stage_kinds.specs.declared.file_form.Writing.{Writing as Writes}
use Rattle.stage_kinds.specs.Files.{chosen, unwritten}
use Rattle.stage_kinds.specs.Stages.{first_stop, writing_steps}

-- its fault there is one of a point
pub no_device : (n : ℕ) (o : Option (ℕ × Reason)) → is_device (option_map (told_behind n) o) ≡ false
no_device n None = refl
no_device n (Some s) = refl

pub names_none : (op : Option Op) (n : ℕ) (o : Option (ℕ × Reason)) → IsOf op (option_map (told_behind n) o)
names_none op n None = tt
names_none op n (Some s) = tt

-- it stops at one of the points
pub stop_within : (x : Writes) (k : ℕ) (ps : List Point) (o : Option (ℕ × Reason)) → o ≡ first_stop x k ps → IfSome o (λ s. s.0 ≤ length ps)
stop_within x k ps None e = tt
stop_within x k ps (Some s) e = let high = (refused_within (unwritten x.form) (passes x.only) 0 k ps s.0 s.1 (sym e)).1 in omega (arith, high)

module _ (x : Writes) (s : Spot) (ps : List Point) (o : Option (ℕ × Reason)) (within : IsWithin s) (is : o ≡ first_stop x s.place ps) where
  so : Admits (unwritten x.form) (passes x.only) s ps
  so = admits (unwritten x.form) (passes x.only) s ps within

  pub chunk_spot : (number place : ℕ) → number ≡ up_to_limit (s.number + length (points_before o ps)) → place ≡ up_to_limit (s.place + length (chosen x.only (points_before o ps)))
      → ◌≡◌ {A = Spot} (record { number = number; place = place }) (reached (writing_steps x) s ps)
  chunk_spot number place n p = same_spot _ _ _ _ (n ∙ ap (λ o. up_to_limit (s.number + length (points_before o ps))) is)
      (p ∙ ap (λ o. up_to_limit (s.place + length (chosen x.only (points_before o ps)))) is) ∙ sym so.reaches

  pub chunk_given : (qs : List Point) → qs ≡ points_before o ps → qs ≡ given (writing_steps x) s ps
  chunk_given qs e = e ∙ ap (λ o. points_before o ps) is ∙ sym so.gives

  pub chunk_fault : (f : Option StageFault) → f ≡ option_map (told_behind s.number) o → f ≡ stopped (writing_steps x) s ps
  chunk_fault f e = e ∙ ap (option_map (told_behind s.number)) is ∙ sym so.stops
