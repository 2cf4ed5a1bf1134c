-- Works later, and the faults of stages.
use Rattle.std.proofs.Common.{◌≡◌, ℕ, zero, suc, ◌<◌, ◌≤◌, true, false, true≢false, List, [], ◌∷◌, ◌++◌, length, take, Option, Some, None, refl, ap, sym, subst, ◌∙◌, arith, inl, inr, length-set, length-append}
use Rattle.std.specs.Prelude.{slice_get}
use Rattle.std.proofs.Math.ListN.{set}
use Rattle.std.proofs.lemmas.Bool.{cases_lt}
use Rattle.std.proofs.lemmas.Bool.Decides.{eqb_tells}
use Rattle.std.proofs.lemmas.Option.{same_Some, slice_get_within}
use Rattle.cloud_points.specs.Events.{is_device, IsOf}
use Rattle.cloud_points.specs.declared.faults.StageFault.{StageFault}
use Rattle.cloud_points.specs.declared.faults.StageFault.TheVariants as stage
use Rattle.cloud_points.specs.declared.faults.StageFault.TheVariants.{Device}
use Rattle.file_devices.specs.declared.devices.Op.{Op}
use Rattle.file_devices.specs.Counts.{Rose}
use Rattle.plug_stages.specs.declared.filter.PlugFilter as plug_type
use Rattle.plug_stages.specs.declared.tally.PlugTally as tally_type
use Rattle.stage_kinds.specs.Held.{op_of}
use Rattle.stage_kinds.specs.declared.stage_work.StageWork.{StageWork}
use Rattle.run_outcome.specs.Faults.{NoneFailed, fault_at}
use Rattle.set_engine.proofs.Values.{AreAfter}
use Rattle.set_engine.specs.Evaluated.{AreCaused, FailedAt}
use Rattle.set_engine.specs.Given.{IsAfter}
use Rattle.set_engine.specs.Stops.{IsCaused}
use Rattle.set_engine.proofs.Joined.{stays-elsewhere}

pub put-there : {A : Type 0} (xs : List A) (i : ℕ) (x : A) → i < length xs → slice_get (set xs i x) i ≡ Some x
put-there [] i x lt = absurd (omega (arith, lt))
put-there (y ∷ xs) zero x lt = refl
put-there (y ∷ xs) (suc i) x lt = put-there xs i x (omega (arith, lt))

-- a list in front of others
pub front : {A : Type 0} (xs ys : List A) (n : ℕ) → length xs ≡ n → take n (xs ++ ys) ≡ xs
front [] ys n e = ap (λ k. take k ys) (sym e)
front (x ∷ xs) ys zero e = absurd (omega (arith, e))
front (x ∷ xs) ys (suc n) e = ap (λ zs. x ∷ zs) (front xs ys n (omega (arith, e)))

module _ {S K P Q : Type 0} (fs : plug_type.Ghosts P) (ts : tally_type.Ghosts Q) (faults : StageWork S K P Q → ℕ) where
  stays : (v : StageWork S K P Q) → IsAfter fs ts faults v v
  stays v = record { op = refl; later = omega arith; writing = refl; holds = (refl, refl) }

  and-then : (u v w : StageWork S K P Q) → IsAfter fs ts faults u v → IsAfter fs ts faults v w → IsAfter fs ts faults u w
  and-then u v w a b = record { op = b.op ∙ a.op; later = (let x = a.later in let y = b.later in omega (arith, x, y)); writing = b.writing ∙ a.writing; holds = (b.holds.0 ∙ a.holds.0, b.holds.1 ∙ a.holds.1) }

  -- nothing was done yet
  pub all-stay : (works : List (StageWork S K P Q)) → AreAfter fs ts faults works works
  all-stay works = record {
    count = refl;
    each = λ i v w a b. (let e : Some v ≡ Some w = sym a ∙ b in let same : v ≡ w = cc in subst (IsAfter fs ts faults v) same (stays v));
  }

  -- one more call
  pub one-later : (old now : List (StageWork S K P Q)) (i : ℕ) (v w : StageWork S K P Q) → AreAfter fs ts faults old now → slice_get now i ≡ Some v → IsAfter fs ts faults v w → AreAfter fs ts faults old (set now i w)
  one-later old now i v w before at call = record {
    count = length-set now i w ∙ before.count;
    each = λ j u x a b. elim (eqb_tells j i) as (λ _. IsAfter fs ts faults u x) [
      | inl p ↦ (let lt = slice_get_within now i v at in
          let e : Some w ≡ Some x = sym (put-there now i w lt) ∙ ap (slice_get (set now i w)) (sym p.1) ∙ b in let same : w ≡ x = cc in
          subst (IsAfter fs ts faults u) same (and-then u v w (before.each i u v (ap (slice_get old) (sym p.1) ∙ a) at) call))
      | inr p ↦ before.each j u x a (sym (stays-elsewhere now i j w p.1) ∙ b)
    ];
  }

-- ---- faults

pub fault-front : (found : List (Option StageFault)) (f : Option StageFault) (j : ℕ) → j < length found → fault_at (found ++ f ∷ []) j ≡ fault_at found j
fault-front [] f j lt = absurd (omega (arith, lt))
fault-front (g ∷ found) f zero lt = refl
fault-front (g ∷ found) f (suc j) lt = fault-front found f j (omega (arith, lt))

pub fault-last : (found : List (Option StageFault)) (f : Option StageFault) → fault_at (found ++ f ∷ []) (length found) ≡ f
fault-last [] f = refl
fault-last (g ∷ found) f = fault-last found f

fault-beyond : (found : List (Option StageFault)) (j : ℕ) → length found ≤ j → fault_at found j ≡ None
fault-beyond [] j le = refl
fault-beyond (g ∷ found) zero le = absurd (omega (arith, le))
fault-beyond (g ∷ found) (suc j) le = fault-beyond found j (omega (arith, le))

-- where there was none with one stage more, there was none before, nor at that one
pub none-with : (found : List (Option StageFault)) (f : Option StageFault) → NoneFailed (found ++ f ∷ []) → NoneFailed found × (is_device f ≡ false)
none-with found f none = (
  λ j. elim (cases_lt j (length found)) [
    | inl lt ↦ ap is_device (sym (fault-front found f j lt)) ∙ none j
    | inr le ↦ ap is_device (fault-beyond found j le)
  ],
  ap is_device (sym (fault-last found f)) ∙ none (length found),
)

-- without a device's fault the count is as it was
calm-of : (op : Option Op) (before now : ℕ) (f : Option StageFault) → is_device f ≡ false → IsCaused op before now f → now ≡ before
calm-of op before now None e is = is
calm-of op before now (Some (stage.Point p)) e is = is
calm-of op before now (Some (stage.Device o)) e is = absurd (true≢false e)

pub caused-by : (op : Option Op) (before now : ℕ) (f : Option StageFault) → IsOf op f → (is_device f ≡ true → Rose before now) → (is_device f ≡ false → now ≡ before) → IsCaused op before now f
caused-by op before now None named rose calm = calm refl
caused-by op before now (Some (stage.Point p)) named rose calm = calm refl
caused-by op before now (Some (stage.Device o)) named rose calm = (named, rose refl)

-- one more stage, whose fault has its cause
module _ {S K P Q : Type 0} (faults : StageWork S K P Q → ℕ) (old now : List (StageWork S K P Q)) (found : List (Option StageFault)) (i : ℕ) (v w : StageWork S K P Q) (f : Option StageFault)
    (size : length found ≡ i) (was : slice_get old i ≡ Some v) (at : slice_get now i ≡ Some v) (caused : IsCaused (op_of v) (faults v) (faults w) f) (before : AreCaused faults old now found) where
  last-fault : (j : ℕ) → j ≡ i → f ≡ fault_at (found ++ f ∷ []) j
  last-fault j same = sym (fault-last found f) ∙ ap (fault_at (found ++ f ∷ [])) (size ∙ sym same)

  pub caused-more : AreCaused faults old (set now i w) (found ++ f ∷ [])
  caused-more = record { failed = failed; calm = calm }
    where
      failed : (j : ℕ) (o : Op) → fault_at (found ++ f ∷ []) j ≡ Some (Device o) → FailedAt faults old (set now i w) j o
      failed j o e = elim (eqb_tells j i) as (λ _. FailedAt faults old (set now i w) j o) [
        | inl p ↦ (
            let why = subst (IsCaused (op_of v) (faults v) (faults w)) (last-fault j p.1 ∙ e) caused in
            subst (λ k. FailedAt faults old (set now i w) k o) (sym p.1) (record {
              before = v;
              after = w;
              was = was;
              is = put-there now i w (slice_get_within now i v at);
              does = why.0;
              rose = why.1;
            }))
        | inr p ↦ elim (cases_lt j (length found)) as (λ _. FailedAt faults old (set now i w) j o) [
          | inl lt ↦ (let b = before.failed j o (sym (fault-front found f j lt) ∙ e) in
              record { before = b.before; after = b.after; was = b.was; is = stays-elsewhere now i j w p.1 ∙ b.is; does = b.does; rose = b.rose })
          | inr le ↦ (
              let ne = p.1 in
              let past : fault_at (found ++ f ∷ []) j ≡ None = fault-beyond (found ++ f ∷ []) j (let n = length-append found (f ∷ []) in omega (arith, n, le, ne, size)) in
              let no : None ≡ Some (Device o) = sym past ∙ e in
              absurd cc)
        ]
      ]

      calm : (j : ℕ) (x y : StageWork S K P Q) → slice_get old j ≡ Some x → slice_get (set now i w) j ≡ Some y → is_device (fault_at (found ++ f ∷ []) j) ≡ false → faults y ≡ faults x
      calm j x y a b quiet = elim (eqb_tells j i) as (λ _. faults y ≡ faults x) [
        | inl p ↦ (
            let new : w ≡ y = same_Some w y (sym (put-there now i w (slice_get_within now i v at)) ∙ ap (slice_get (set now i w)) (sym p.1) ∙ b) in
            let same : v ≡ x = same_Some v x (sym was ∙ ap (slice_get old) (sym p.1) ∙ a) in
            ap faults (sym new) ∙ calm-of (op_of v) (faults v) (faults w) f (ap is_device (last-fault j p.1) ∙ quiet) caused ∙ ap faults same)
        | inr p ↦ before.calm j x y a (sym (stays-elsewhere now i j w p.1) ∙ b) (elim (cases_lt j (length found)) as (λ _. is_device (fault_at found j) ≡ false) [
          | inl lt ↦ ap is_device (sym (fault-front found f j lt)) ∙ quiet
          | inr le ↦ ap is_device (fault-beyond found j le)
        ])
      ]
