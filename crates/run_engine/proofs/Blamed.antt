-- Which device is named where a run is closed.
use Rattle.std.proofs.Common.{◌≡◌, ℕ, ◌<◌, ◌≤◌, false, true, List, length, Option, Some, slice_get, refl, ap, sym, subst, ◌∙◌, arith, inl, inr}
use Rattle.file_devices.specs.Counts.{Rose, saturating}
use Rattle.file_devices.specs.Named.{Names}
use Rattle.file_devices.specs.declared.devices.Op.{Op}
use Rattle.file_devices.specs.declared.devices.Op.TheVariants.{Write, Keep}
use Rattle.file_devices.specs.declared.devices.Source as source
use Rattle.file_devices.specs.declared.devices.Sink as sink
use Rattle.cloud_points.specs.Events.{is_device}
use Rattle.cloud_points.specs.declared.faults.PointFault.{PointFault}
use Rattle.cloud_points.specs.declared.faults.StageFault.{StageFault}
use Rattle.cloud_points.specs.declared.faults.StageFault.TheVariants as stage
use Rattle.run_report.specs.declared.report.StageCount.{StageCount}
use Rattle.run_report.specs.declared.refusal.Place.TheVariants.{Stage}
use Rattle.run_report.specs.declared.refusal.Fault.TheVariants.{Point}
use Rattle.run_report.specs.declared.refusal.Refusal.TheVariants.{Data, Memory, Device}
use Rattle.stage_kinds.specs.Held.{faults_of}
use Rattle.stage_kinds.specs.declared.stage_work.StageWork.{StageWork}
use Rattle.stage_options.specs.Roles.{Role, Reads, Filters, Gathers, Writes, WritesEach, is_writing}
use Rattle.stage_options.specs.declared.stage.StageSpec.{StageSpec}
use Rattle.answer_model.specs.Values.{op_for, role_at}
use Rattle.stage_forms.specs.Later.{AreLater}
use Rattle.stage_forms.specs.Starts.{HaveDevices}
use Rattle.held_devices.proofs.Lists.{some_at}
use Rattle.run_outcome.specs.Faults.{fault_at, AreSound}
use Rattle.run_outcome.specs.Outcomes.{refusal_for}
use Rattle.run_outcome.proofs.Outcomes.{why-refused}
use Rattle.std.proofs.lemmas.Option.{slice_get_within}
use Rattle.run_ending.specs.All.{IsUnkept}
use Rattle.run_ending.specs.Each.{BrokeOffAt, IsEachOp, kept_from}
use Rattle.run_ending.specs.Finished.{AreKept, IsUnfinished}
use Rattle.run_ending.specs.Keeping.{BrokeOff}
use Rattle.network_core.specs.declared.stop.Stop.{Stop}
use Rattle.run_engine.specs.Stopping.{HaveEndedBy}
use Rattle.run_engine.specs.Blame.{FailedFirst, FailedLast}
use Rattle.run_engine.proofs.Answers.{rose-given}
use Rattle.run_engine.proofs.Roles.{kept-work}
use Rattle.plug_stages.specs.declared.filter.PlugFilter as plug_type
use Rattle.plug_stages.specs.declared.tally.PlugTally as tally_type

module _ {S K P Q : Type 0} (s : source.Ghosts S) (k : sink.Ghosts K) (fs : plug_type.Ghosts P) (ts : tally_type.Ghosts Q) (stages : List StageSpec) where
  -- no device had failed as the stages were prepared
  abbrev pub WereCalm : List (StageWork S K P Q) → Type 0
  WereCalm works = (i : ℕ) (w : StageWork S K P Q) → slice_get works i ≡ Some w → faults_of s.faults k.faults w ≡ 0

  -- so the device of a stage without a device's fault has never failed
  calm-at : (stop : Stop) (old works : List (StageWork S K P Q)) (faults : List (Option StageFault)) (counts : List StageCount) → HaveEndedBy s k fs ts stop stages old works faults counts → AreLater fs ts (faults_of s.faults k.faults) old works
      → WereCalm old → (j : ℕ) (w : StageWork S K P Q) → slice_get works j ≡ Some w → is_device (fault_at faults j) ≡ false → faults_of s.faults k.faults w ≡ 0
  calm-at stop old works faults counts ended later start j w at quiet =
      let v = some_at old j (let a = slice_get_within works j w at in let b = later.count in omega (arith, a, b)) in
      ended.caused.calm j v.0 w v.1 at quiet ∙ start j v.0 v.1

  pub all-calm : (stop : Stop) (old works : List (StageWork S K P Q)) (faults : List (Option StageFault)) (counts : List StageCount) → HaveEndedBy s k fs ts stop stages old works faults counts → AreLater fs ts (faults_of s.faults k.faults) old works
      → WereCalm old → AreSound faults → WereCalm works
  all-calm stop old works faults counts ended later start sound j w at = calm-at stop old works faults counts ended later start j w at (ap is_device (sound j))

  pub failed-first : (stop : Stop) (old works : List (StageWork S K P Q)) (faults : List (Option StageFault)) (counts : List StageCount) → HaveEndedBy s k fs ts stop stages old works faults counts → AreLater fs ts (faults_of s.faults k.faults) old works
      → WereCalm old → (i : ℕ) (o : Op) → refusal_for faults ≡ Some (Device (Stage i) o) → FailedFirst (faults_of s.faults k.faults) faults works i o
  failed-first stop old works faults counts ended later start i o e = elim (why-refused faults (Device (Stage i) o) e) [
    | inl d ↦ (
        let same : Device (Stage i) o ≡ Device (Stage d.stage) d.op = d.is in
        let number : i ≡ d.stage = cc in
        let op : o ≡ d.op = cc in
        let has : fault_at faults i ≡ Some (stage.Device o) = ap (fault_at faults) number ∙ d.has ∙ ap (λ x. Some (stage.Device x)) (sym op) in
        let least : (j : ℕ) → j < i → is_device (fault_at faults j) ≡ false = λ j lt. d.least j (omega (arith, lt, number)) in
        let c = ended.caused.failed i o has in
        record {
          has = has;
          least = least;
          work = c.after;
          at = c.is;
          does = later.op i c.before c.after c.was c.is ∙ c.does;
          count = (let rose = c.rose in omega (arith, rose));
          others = λ j w lt at. calm-at stop old works faults counts ended later start j w at (least j lt);
        })
    | inr p ↦ absurd (let no : Device (Stage i) o ≡ Data p.stage (Point p.fault) = p.is in cc)
  ]

  -- where a point is at fault, no device had failed
  pub faulty-calm : (stop : Stop) (old works : List (StageWork S K P Q)) (faults : List (Option StageFault)) (counts : List StageCount) → HaveEndedBy s k fs ts stop stages old works faults counts → AreLater fs ts (faults_of s.faults k.faults) old works
      → WereCalm old → (i : ℕ) (f : PointFault) → refusal_for faults ≡ Some (Data i (Point f)) → WereCalm works
  faulty-calm stop old works faults counts ended later start i f e j w at = elim (why-refused faults (Data i (Point f)) e) [
    | inl d ↦ absurd (let no : Data i (Point f) ≡ Device (Stage d.stage) d.op = d.is in cc)
    | inr p ↦ calm-at stop old works faults counts ended later start j w at (p.none_failed j)
  ]

  -- a writer whose file couldn't be finished
  pub failed-finish : (works new : List (StageWork S K P Q)) (faults : List (Option StageFault)) (start end : ℕ) → AreSound faults → WereCalm works
      → ((i : ℕ) (w : StageWork S K P Q) → slice_get new i ≡ Some w → saturating start (faults_of s.faults k.faults w) ≤ end)
      → (i : ℕ) (o : Op) → IsUnfinished (faults_of s.faults k.faults) works new (Device (Stage i) o) → FailedLast (faults_of s.faults k.faults) (Rose start end) faults works i o
  failed-finish works new faults start end sound calm back i o c = record {
    sound = sound;
    calm = calm;
    rises = rose-given (faults_of s.faults k.faults c.before) (faults_of s.faults k.faults c.after) start end c.rose (back i c.after c.is);
    work = c.before;
    at = c.was;
    ends = inl c.named;
  }

  does-write : (role : Role) → is_writing role ≡ true → op_for role ≡ Some Write
  does-write (Reads name) e = cc
  does-write Filters e = cc
  does-write Gathers e = cc
  does-write (WritesEach name) e = cc
  does-write (Writes name) e = refl

  -- one whose file wasn't kept
  pub failed-keep : {bytes : K → Option (List ℕ)} (works done : List (StageWork S K P Q)) (faults : List (Option StageFault)) (rose : Type 0) (old new : Option Names) → AreSound faults → WereCalm works → HaveDevices stages works
      → AreLater fs ts (faults_of s.faults k.faults) works done → (i : ℕ) (o : Op) → BrokeOff bytes rose old new stages done (Device (Stage i) o) → FailedLast (faults_of s.faults k.faults) rose faults works i o
  failed-keep works done faults rose old new sound calm fit later i o broke = elim broke.why [
    | inl m ↦ absurd (let no : Device (Stage i) o ≡ Memory = m in cc)
    | inr d ↦ (
        let same : Device (Stage i) o ≡ Device (Stage broke.stage) Keep = d.0 in
        let number : i ≡ broke.stage = cc in
        let op : o ≡ Keep = cc in
        let w = some_at works i (let a = broke.inside in let b = later.count in omega (arith, a, b, number)) in
        record {
          sound = sound;
          calm = calm;
          rises = d.1;
          work = w.0;
          at = w.1;
          ends = inr (inl (fit i w.0 w.1 ∙ does-write (role_at stages i) (ap (λ j. is_writing (role_at stages j)) number ∙ broke.writes), op));
        })
  ]

  -- one of a file for each view, where one of these wasn't kept
  pub failed-each : (works done : List (StageWork S K P Q)) (faults : List (Option StageFault)) (rose : Type 0) (mid new : Option Names) → AreSound faults → WereCalm works → AreKept works done → length done ≡ length works
      → (i : ℕ) (o : Op) → BrokeOffAt rose mid new stages (kept_from 0 done) (Device (Stage i) o) → FailedLast (faults_of s.faults k.faults) rose faults works i o
  failed-each works done faults rose mid new sound calm kept size i o broke = elim broke.stops.why [
    | inl m ↦ absurd (let no : Device (Stage i) o ≡ Memory = m in cc)
    | inr d ↦ (
        let same : Device (Stage i) o ≡ Device (Stage broke.stage) d.0 = d.1 in
        let number : i ≡ broke.stage = cc in
        let op : o ≡ d.0 = cc in
        let w = kept-work done 0 broke.place broke.stage (broke.writing, broke.flow) broke.of in
        let v = some_at works w.0 (let a = slice_get_within done w.0 w.1 w.2.0 in omega (arith, a, size)) in
        let here : i ≡ w.0 = (let a = w.3 in omega (arith, number, a)) in
        record {
          sound = sound;
          calm = calm;
          rises = d.3;
          work = v.0;
          at = ap (slice_get works) here ∙ v.1;
          ends = inr (inr ((broke.writing, broke.flow), sym (kept w.0 v.0 w.1 v.1 w.2.0) ∙ w.2.1, subst (IsEachOp broke.writing.form) (sym op) d.2));
        })
  ]

  pub failed-all : {bytes : K → Option (List ℕ)} (works done : List (StageWork S K P Q)) (faults : List (Option StageFault)) (rose : Type 0) (old new : Option Names) → AreSound faults → WereCalm works → HaveDevices stages works
      → AreLater fs ts (faults_of s.faults k.faults) works done → AreKept works done → (i : ℕ) (o : Op) → IsUnkept bytes rose old new stages done (Device (Stage i) o) → FailedLast (faults_of s.faults k.faults) rose faults works i o
  failed-all works done faults rose old new sound calm fit later kept i o unkept = elim unkept [
    | inl m ↦ absurd (let no : Device (Stage i) o ≡ Memory = m.0 in cc)
    | inr b ↦ elim b [
      | inl broke ↦ failed-keep works done faults rose old new sound calm fit later i o broke
      | inr each ↦ failed-each works done faults rose each.mid new sound calm kept later.count i o each.broke
    ]
  ]
