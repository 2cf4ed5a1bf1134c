-- How far readers have read where the stages of a run ended at a fault.
use Rattle.std.proofs.Common.{◌≡◌, ◌⊎◌, ℕ, zero, suc, ◌+◌, ◌-◌, ◌*◌, ◌^◌, ◌<◌, ◌≤◌, true, inl, inr, List, [], ◌∷◌, length, map, Option, Some, None, option_map, slice_get, refl, ap, sym, subst, ◌∙◌, arith}
use Rattle.std.specs.List.{range_with_len}
use Rattle.std.specs.Prelude.{sum_by}
use Rattle.std.proofs.lemmas.List.Sums.{sum_by-cons}
use Rattle.std.proofs.lemmas.Option.{none-some, same_Some}
use Rattle.file_devices.specs.Named.{Names}
use Rattle.file_devices.specs.Told.{IsAsTold}
use Rattle.file_devices.specs.declared.devices.Source as source
use Rattle.file_devices.specs.declared.devices.Sink as sink
use Rattle.cloud_points.specs.Events.{is_device}
use Rattle.cloud_points.specs.declared.faults.PointFault.{PointFault}
use Rattle.cloud_points.specs.declared.faults.StageFault.{StageFault}
use Rattle.cloud_points.specs.declared.faults.StageFault.TheVariants as stage
use Rattle.network_core.specs.declared.node.Node.{Node}
use Rattle.network_core.specs.declared.stop.Stop.{Stop}
use Rattle.network_core.specs.Shown.{work_of}
use Rattle.network_solo.specs.Stopping.{NoneFaulty}
use Rattle.run_outcome.specs.Faults.{fault_at}
use Rattle.run_outcome.specs.Outcomes.{refusal_for}
use Rattle.run_outcome.specs.declared.ended.Ended.{Ended}
use Rattle.run_outcome.proofs.Outcomes.{IsForDevice, IsForPoint, why-refused}
use Rattle.run_opening.specs.Headers.{header_at}
use Rattle.run_opening.specs.Ready.{AreReady}
use Rattle.run_report.specs.declared.refusal.Fault.{Fault}
use Rattle.run_report.specs.declared.refusal.Fault.TheVariants as fault
use Rattle.run_report.specs.declared.refusal.Refusal.{Refusal}
use Rattle.run_report.specs.declared.refusal.Refusal.TheVariants.{Data}
use Rattle.stage_kinds.specs.Leads.{begins_at, number_of, reached_of}
use Rattle.stage_kinds.specs.declared.stage_work.StageWork.{StageWork}
use Rattle.stage_kinds.specs.declared.stage_work.StageWork.TheVariants.{Reader, Filter, Plug, Tally, Collector, Views, ViewFiles, Writer}
use Rattle.stage_options.specs.Roles.{is_writing}
use Rattle.stage_options.specs.declared.stage.StageSpec.{StageSpec}
use Rattle.answer_model.specs.Runs.{opened_in}
use Rattle.answer_model.specs.Values.{role_at}
use Rattle.stage_runs.specs.Ahead.{AreReadAhead, EndedAtWriter, HasAllReaders, HaveReadAhead, KeepPoints, most_read}
use Rattle.stage_runs.specs.Works.{as_works}
use Rattle.stage_runs.proofs.Places.{mapped-at}
use Rattle.run_engine.specs.Counted.{AreFaultsOf}
use Rattle.run_engine.specs.Jobs.{CameTo, HaveCome, HaveReadBy}
use Rattle.run_engine.specs.ReadAhead.{HasReadNoMore, ReadAtMost, all_begin, begins_in}
use Rattle.run_engine.specs.declared.engine.Engine.{Engine}
use Rattle.run_engine.specs.declared.engine.Engine.TheVariants as engine
use Rattle.run_engine.specs.declared.job.Step.{Step}
use Rattle.run_engine.specs.declared.job.Step.TheVariants.{Done, Short}
use Rattle.run_engine.specs.declared.shape.Shape.{Shape}
use Rattle.plug_stages.specs.declared.filter.PlugFilter as plug_type
use Rattle.plug_stages.specs.declared.tally.PlugTally as tally_type
use Rattle.plug_stages.specs.Handed.{Handed}

module _ {S K P Q : Type 0} (s : source.Ghosts S) (k : sink.Ghosts K) (fs : plug_type.Ghosts P) (ts : tally_type.Ghosts Q) (stages : List StageSpec) (queue chunk : ℕ) where
  -- where no node has a fault they didn't end at one
  pub none-ahead : (new : List (Node (StageWork S K P Q))) (works after : List (StageWork S K P Q)) (found : List (Option StageFault)) → (KeepPoints stages → NoneFaulty (as_works s k fs ts) new) → AreFaultsOf new found
      → AreReadAhead s fs ts stages queue chunk works after found
  none-ahead new works after found sound are keep opened tell plain front i f over =
      let m = mapped-at (λ (n : Node (StageWork S K P Q)). n.fault) new i (Some f) (ap (λ fs. slice_get fs i) (sym are) ∙ over.fault) in
      absurd (none-some f (sym (sound keep i m.0 m.1) ∙ m.2))

  pub some-ahead : (old new : List (Node (StageWork S K P Q))) (works : List (StageWork S K P Q)) (found : List (Option StageFault)) → HaveReadAhead s fs ts stages queue chunk old new
      → ((j : ℕ) (n : Node (StageWork S K P Q)) → slice_get old j ≡ Some n → n.chunk ≡ chunk) → map work_of old ≡ works → AreFaultsOf new found → AreReadAhead s fs ts stages queue chunk works (map work_of new) found
  some-ahead old new works found ahead cuts made are = subst (AreReadAhead s fs ts stages queue chunk works (map work_of new)) (sym are)
      (subst (λ ws. AreReadAhead s fs ts stages queue chunk ws (map work_of new) (map (λ (n : Node (StageWork S K P Q)). n.fault) new)) made (ahead cuts))

module _ {S K P Q : Type 0} (E : Type 0) (s : source.Ghosts S) (k : sink.Ghosts K) (fs : plug_type.Ghosts P) (ts : tally_type.Ghosts Q) (stages : List StageSpec) (old new : List (StageWork S K P Q)) where
  pub read-short : (chosen : Engine) → HaveReadBy {E = E} s k fs ts chosen stages old new Short
  read-short (engine.Queues shape) = tt
  read-short engine.Whole = tt

  pub read-done : (chosen : Engine) (ended : Ended) → ((shape : Shape) → chosen ≡ engine.Queues shape → AreReadAhead s fs ts stages shape.queue shape.chunk old new ended.faults.items) → HaveReadBy {E = E} s k fs ts chosen stages old new (Done ended)
  read-done (engine.Queues shape) ended ahead = ahead shape refl
  read-done engine.Whole ended ahead = tt

-- what was told before has risen by so much
rose-by : (more : ℕ) (old : Option ℕ) (k : ℕ) → option_map (λ n. n + more) old ≡ Some k → (n : ℕ) × (old ≡ Some n) × (k ≡ n + more)
rose-by more (Some n) k e = (n, refl, sym (same_Some (n + more) k e))
rose-by more None k e = absurd (none-some k e)

-- by what sources were read that were taken back
pub read-at-most : (more most : ℕ) (old new : Option ℕ) → IsAsTold new (option_map (λ n. n + more) old) → more ≤ most → ReadAtMost most old new
read-at-most more most old new told within k is =
    let rose = rose-by more old k (told k is) in
    (rose.0, rose.1, omega (arith, rose.2, within))

-- ---- of the whole run

-- of each element no more than of its number
sum-range : {A : Type 0} (f : A → ℕ) (g : ℕ → ℕ) (from : ℕ) (xs : List A) → ((i : ℕ) (x : A) → slice_get xs i ≡ Some x → f x ≤ g (from + i)) → sum_by f xs ≤ sum_by g (range_with_len from (length xs))
sum-range f g from [] each = omega arith
sum-range f g from (x ∷ xs) each =
    let first : f x ≤ g from = subst (λ n. f x ≤ g n) {x = from + 0} {y = from} (omega arith) (each 0 x refl) in
    let rest = sum-range f g (from + 1) xs (λ i y e. subst (λ n. f y ≤ g n) {x = from + suc i} {y = from + 1 + i} (omega arith) (each (suc i) y e)) in
    let a = sum_by-cons f x xs in
    let b = sum_by-cons g from (range_with_len (from + 1) (length xs)) in
    omega (arith, first, rest, a, b)

fault-there : (found : List (Option StageFault)) (i : ℕ) (f : StageFault) → fault_at found i ≡ Some f → slice_get found i ≡ Some (Some f)
fault-there [] i f e = absurd (none-some f e)
fault-there (o ∷ found) zero f e = ap (λ x. Some x) e
fault-there (o ∷ found) (suc i) f e = fault-there found i f e

fault-is : (found : List (Option StageFault)) (i : ℕ) (o : Option StageFault) → slice_get found i ≡ Some o → fault_at found i ≡ o
fault-is [] i o e = absurd (none-some o e)
fault-is (x ∷ found) zero o e = same_Some x o e
fault-is (x ∷ found) (suc i) o e = fault-is found i o e

-- a refusal of a run for a point is that of the first stage that has a fault
ended-at : (stages : List StageSpec) (found : List (Option StageFault)) (i : ℕ) (f : PointFault) → length found ≡ length stages → refusal_for found ≡ Some (Data i (fault.Point f))
    → is_writing (role_at stages i) ≡ true → HasAllReaders stages i → number_of (stage.Point f) < 2 ^ 64 - 1 → EndedAtWriter stages found i (stage.Point f)
ended-at stages found i f size refused writes readers told = go (why-refused found (Data i (fault.Point f)) refused)
  where
    data-of : Refusal → Option (ℕ × Fault)
    data-of (Data j g) = Some (j, g)
    data-of r = None

    go : IsForDevice found (Data i (fault.Point f)) ⊎ IsForPoint found (Data i (fault.Point f)) → EndedAtWriter stages found i (stage.Point f)
    go (inl d) = absurd (none-some (i, fault.Point f) (sym (ap data-of d.is)))
    go (inr p) =
        let pair = same_Some (i, fault.Point f) (p.stage, fault.Point p.fault) (ap data-of p.is) in
        let at : i ≡ p.stage = ap (λ x. x.0) pair in
        let same : ◌≡◌ {A = Fault} (fault.Point f) (fault.Point p.fault) = ap (λ x. x.1) pair in
        let same_fault : f ≡ p.fault = cc in
        record {
          inside = (let l = p.inside in omega (arith, l, at, size));
          writes = writes;
          readers = readers;
          fault = fault-there found i (stage.Point f) (ap (fault_at found) at ∙ p.has ∙ ap (λ x. Some (stage.Point x)) (sym same_fault));
          earlier = λ j o l e. sym (fault-is found j o e) ∙ p.least j (omega (arith, l, at));
          calm = λ j o e. ap is_device (sym (fault-is found j o e)) ∙ p.none_failed j;
          told = told;
        }

module _ {S K P Q : Type 0} (E : Type 0) (s : source.Ghosts S) (k : sink.Ghosts K) (fs : plug_type.Ghosts P) (ts : tally_type.Ghosts Q) (handed : Handed) (m : Names) (stages : List StageSpec) (shape : Shape) (old new : List (StageWork S K P Q)) (ready : AreReady s k fs ts handed (Some m) stages old) where
  begins-so : sum_by begins_at old ≤ all_begin m stages
  begins-so =
      let a = sum-range begins_at (λ i. begins_in (header_at m (role_at stages i))) 0 old one in
      subst (λ n. sum_by begins_at old ≤ sum_by (λ i. begins_in (header_at m (role_at stages i))) (range_with_len 0 n)) ready.count a
    where
      one : (i : ℕ) (w : StageWork S K P Q) → slice_get old i ≡ Some w → begins_at w ≤ begins_in (header_at m (role_at stages (0 + i)))
      one i (Reader r) e =
          let h : header_at m (role_at stages (0 + i)) ≡ Some r.header = ap (λ n. header_at m (role_at stages n)) {x = 0 + i} {y = i} (omega arith) ∙ ready.headers m refl i r e in
          subst (λ o. r.header.points_at ≤ begins_in o) (sym h) (omega arith)
      one i (Filter f) e = omega arith
      one i (Plug f) e = omega arith
      one i (Tally f) e = omega arith
      one i (Collector c) e = omega arith
      one i (Views h) e = omega arith
      one i (ViewFiles t) e = omega arith
      one i (Writer w) e = omega arith

  -- a run that ended at this point has read no further than so
  pub read-no-more : (stop : Stop) (before : List (StageWork S K P Q)) (step : Step S K P Q E) (i : ℕ) (f : PointFault) → HaveCome s k fs ts stop stages before new step → HaveReadBy s k fs ts (engine.Queues shape) stages old new step → CameTo (Data i (fault.Point f)) step
      → (first now : Option ℕ) → IsAsTold now (option_map (λ n. n + sum_by (reached_of s.reached) new) first) → HasReadNoMore m stages shape.queue shape.chunk i (stage.Point f) first now
  read-no-more stop before (Done ended) i f came ahead refused first now read keep writes readers told bytes plain j is =
      let over = ended-at stages ended.faults.items i f came.count refused writes readers told in
      let more = ahead keep (opened_in handed m stages) (ready.tell m refl) (λ x r e. (plain x r.header (ready.headers m refl x r e)).0) ready.front i (stage.Point f) over in
      let most = more.bytes bytes (λ x r e. (plain x r.header (ready.headers m refl x r e)).1) in
      read-at-most (sum_by (reached_of s.reached) new) (all_begin m stages + most_read (number_of (stage.Point f)) (length stages) shape.queue shape.chunk * bytes) first now read
      (omega (arith, most, begins-so)) j is
  read-no-more stop before Short i f came ahead refused first now read keep writes readers told bytes plain j is = cc
  read-no-more stop before step i f came ahead refused first now read keep writes readers told bytes plain j is = absurd refused
