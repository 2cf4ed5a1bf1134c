-- Why a run is refused, by the faults of its stages.
use Rattle.std.proofs.Common.{◌≡◌, ◌⊎◌, ℕ, zero, suc, ◌<◌, ◌≤◌, false, List, [], ◌∷◌, length, Option, Some, None, refl, ap, sym, ◌∙◌, arith, inl, inr}
use Rattle.std.proofs.lemmas.Bool.{cases_lt}
use Rattle.file_devices.specs.declared.devices.Op.{Op}
use Rattle.cloud_points.specs.Events.{is_device}
use Rattle.cloud_points.specs.declared.faults.PointFault.{PointFault}
use Rattle.cloud_points.specs.declared.faults.StageFault.{StageFault}
use Rattle.cloud_points.specs.declared.faults.StageFault.TheVariants as of
use Rattle.run_report.specs.declared.refusal.Place.TheVariants.{Stage}
use Rattle.run_report.specs.declared.refusal.Fault.TheVariants.{Point}
use Rattle.run_report.specs.declared.refusal.Refusal.{Refusal}
use Rattle.run_report.specs.declared.refusal.Refusal.TheVariants.{Data, Device}
use Rattle.answer_model.proofs.Least.{found, none-found}
use Rattle.run_outcome.specs.Faults.{fault_at, NoneFailed, AreSound}
use Rattle.run_outcome.specs.Outcomes.{device_op, point_fault, first_failed, first_faulty, refusal_by, refusal_for}

a-device : (f : Option StageFault) (o : Op) → device_op f ≡ Some o → f ≡ Some (of.Device o)
a-device None o e = cc
a-device (Some (of.Point f)) o e = cc
a-device (Some (of.Device p)) o e = let same : p ≡ o = cc in ap (λ x. Some (of.Device x)) same

a-point : (f : Option StageFault) (p : PointFault) → point_fault f ≡ Some p → f ≡ Some (of.Point p)
a-point None p e = cc
a-point (Some (of.Point f)) p e = let same : f ≡ p = cc in ap (λ x. Some (of.Point x)) same
a-point (Some (of.Device o)) p e = cc

no-device : (f : Option StageFault) → device_op f ≡ None → is_device f ≡ false
no-device None e = refl
no-device (Some (of.Point f)) e = refl
no-device (Some (of.Device o)) e = cc

neither : (f : Option StageFault) → device_op f ≡ None → point_fault f ≡ None → f ≡ None
neither None d p = refl
neither (Some (of.Device o)) d p = cc
neither (Some (of.Point f)) d p = cc

beyond : (faults : List (Option StageFault)) (i : ℕ) → length faults ≤ i → fault_at faults i ≡ None
beyond [] i le = refl
beyond (f ∷ faults) zero le = absurd (omega (arith, le))
beyond (f ∷ faults) (suc i) le = beyond faults i (omega (arith, le))

-- where there is none among the stages there is none anywhere
nowhere : {A : Type 0} (f : Option StageFault → Option A) (faults : List (Option StageFault)) → f None ≡ None → ((i : ℕ) → i < length faults → f (fault_at faults i) ≡ None) → (i : ℕ) → f (fault_at faults i) ≡ None
nowhere f faults none within i = elim (cases_lt i (length faults)) [
  | inl lt ↦ within i lt
  | inr le ↦ ap f (beyond faults i le) ∙ none
]

no-failed : (faults : List (Option StageFault)) → first_failed faults ≡ None → (i : ℕ) → device_op (fault_at faults i) ≡ None
no-failed faults e = nowhere device_op faults refl (λ i lt. none-found (λ j. device_op (fault_at faults j)) (length faults) 0 e i (omega arith) (omega (arith, lt)))

no-faulty : (faults : List (Option StageFault)) → first_faulty faults ≡ None → (i : ℕ) → point_fault (fault_at faults i) ≡ None
no-faulty faults e = nowhere point_fault faults refl (λ i lt. none-found (λ j. point_fault (fault_at faults j)) (length faults) 0 e i (omega arith) (omega (arith, lt)))

-- it is for the device of the first stage whose device failed
pub record IsForDevice (faults : List (Option StageFault)) (refusal : Refusal) : Type 0 where
  pub stage : ℕ
  pub op : Op
  pub has : fault_at faults stage ≡ Some (of.Device op)
  pub least : (j : ℕ) → j < stage → is_device (fault_at faults j) ≡ false
  pub is : refusal ≡ Device (Stage stage) op

-- it is for the first stage of which a point has a fault, where no device failed
pub record IsForPoint (faults : List (Option StageFault)) (refusal : Refusal) : Type 0 where
  pub stage : ℕ
  pub fault : PointFault
  pub none_failed : NoneFailed faults
  pub inside : stage < length faults
  pub has : fault_at faults stage ≡ Some (of.Point fault)
  pub least : (j : ℕ) → j < stage → fault_at faults j ≡ None
  pub is : refusal ≡ Data stage (Point fault)

pub why-refused : (faults : List (Option StageFault)) (refusal : Refusal) → refusal_for faults ≡ Some refusal → IsForDevice faults refusal ⊎ IsForPoint faults refusal
why-refused faults refusal e = go (first_failed faults) (first_faulty faults) refl refl e
  where
    go : (failed : Option (ℕ × Op)) (faulty : Option (ℕ × PointFault)) → first_failed faults ≡ failed → first_faulty faults ≡ faulty → refusal_by failed faulty ≡ Some refusal → IsForDevice faults refusal ⊎ IsForPoint faults refusal
    go (Some d) faulty is none e =
        let r = found (λ j. device_op (fault_at faults j)) (length faults) 0 (d.0) (d.1) is in
        let same : Device (Stage d.0) d.1 ≡ refusal = cc in
        inl (record {
          stage = d.0;
          op = d.1;
          has = a-device (fault_at faults (d.0)) (d.1) r.here;
          least = λ j lt. no-device (fault_at faults j) (r.least j (omega arith) lt);
          is = sym same;
        })
    go None (Some p) is first e =
        let r = found (λ j. point_fault (fault_at faults j)) (length faults) 0 (p.0) (p.1) first in
        let same : Data p.0 (Point p.1) ≡ refusal = cc in
        inr (record {
          stage = p.0;
          fault = p.1;
          none_failed = λ j. no-device (fault_at faults j) (no-failed faults is j);
          inside = (let l = r.inside in omega (arith, l));
          has = a-point (fault_at faults (p.0)) (p.1) r.here;
          least = λ j lt. neither (fault_at faults j) (no-failed faults is j) (r.least j (omega arith) lt);
          is = sym same;
        })
    go None None is none e = absurd cc

-- a run that isn't refused has no stage with a fault
pub not-refused : (faults : List (Option StageFault)) → refusal_for faults ≡ None → AreSound faults
not-refused faults e = go (first_failed faults) (first_faulty faults) refl refl e
  where
    go : (failed : Option (ℕ × Op)) (faulty : Option (ℕ × PointFault)) → first_failed faults ≡ failed → first_faulty faults ≡ faulty → refusal_by failed faulty ≡ None → AreSound faults
    go (Some d) faulty is none e = absurd cc
    go None (Some p) is first e = absurd cc
    go None None is none e = λ j. neither (fault_at faults j) (no-failed faults is j) (no-faulty faults none j)
