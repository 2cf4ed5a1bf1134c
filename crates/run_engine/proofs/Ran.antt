-- What the nodes of a tree's stages came to, as what its stages come to.
use Rattle.std.proofs.Common.{◌≡◌, ℕ, zero, suc, ◌+◌, ◌<◌, false, List, [], ◌∷◌, length, map, slice_get, Option, Some, None, is_some, true, true≢false, refl, ap, sym, subst, ◌∙◌, arith}
use Rattle.std.specs.Prelude.{option_map}
use Rattle.std.proofs.lemmas.Option.{slice_get_within}
use Rattle.std.proofs.lemmas.List.FromFn.{length-map-range_with_len}
use Rattle.network_core.proofs.Opened.{some_at}
use Rattle.file_devices.specs.declared.devices.Op.{Op}
use Rattle.file_devices.specs.declared.devices.Source as source
use Rattle.file_devices.specs.declared.devices.Sink as sink
use Rattle.cloud_points.specs.declared.faults.PointFault.{PointFault}
use Rattle.cloud_points.specs.declared.faults.StageFault.{StageFault}
use Rattle.cloud_points.specs.declared.faults.StageFault.TheVariants as stage
use Rattle.cloud_points.specs.Events.{is_device, IsOf}
use Rattle.cloud_points.specs.Flows.{points}
use Rattle.cloud_points.specs.Queue.{up_to_limit}
use Rattle.network_core.specs.declared.node.Node.{Node}
use Rattle.network_core.specs.Shown.{work_of}
use Rattle.stage_kinds.specs.declared.stage_work.StageWork.{StageWork}
use Rattle.run_report.specs.declared.tally.TallyLine.{TallyLine}
use Rattle.stage_kinds.specs.Held.{op_of, faults_of, filter_in, tally_in, told_by}
use Rattle.file_devices.specs.Told.{IsAsTold}
use Rattle.stage_options.specs.Kinds.{kind_of}
use Rattle.stage_options.specs.declared.stage.StageSpec.{StageSpec}
use Rattle.run_report.specs.declared.report.StageCount.{StageCount}
use Rattle.answer_model.specs.Values.{or_shown, wrote_with, Opened, stage_at, options_at, role_at, row_at, setting_at, stage_input, stage_fault, stage_value, count_at, counts_of}
use Rattle.answer_model.proofs.Least.{least-nowhere}
use Rattle.stage_runs.specs.Works.{AreNewStages, RunOn}
use Rattle.stage_runs.specs.Parts.{AreLaterNodes}
use Rattle.stage_runs.proofs.Places.{mapped-at, map-at}
use Rattle.stage_kinds.specs.Files.{chosen}
use Rattle.stage_forms.proofs.Works.{writes-form, writer-row, wrote-is, files-are}
use Rattle.stage_kinds.specs.Stages.{keeps_of, shown_by, HoldsAll}
use Rattle.stage_runs.specs.Ran.{EndsAsStage, AreRanStages, AreStoppedStages}
use Rattle.run_outcome.specs.Faults.{fault_at, NoneFailed, AreSound}
use Rattle.run_engine.specs.Counted.{node_count, AreCounted, AreFaultsOf}
use Rattle.stage_forms.specs.Starts.{AreGiven, AreHandedIn}
use Rattle.set_engine.specs.Evaluated.{FailedAt, HaveEnded}
use Rattle.network_core.specs.declared.stop.Stop.TheVariants.{First}
use Rattle.run_engine.specs.Stopping.{HaveEndedBy}
use Rattle.stage_forms.specs.Later.{AreLater, CameToEnd, Remembers}
use Rattle.run_ending.specs.Finished.{AreFinished, AreKept}
use Rattle.run_engine.specs.Done.{AreDone}
use Rattle.held_devices.proofs.Lists.{length-mapped}
use Rattle.set_engine.proofs.Lists.{same-lists, range-at}
use Rattle.run_outcome.proofs.Stages.{stage-is}
use Rattle.plug_stages.specs.declared.filter.PlugFilter as plug_type
use Rattle.plug_stages.specs.declared.tally.PlugTally as tally_type

no-point : (o : Option PointFault) → None ≡ option_map stage.Point o → o ≡ None
no-point None e = refl
no-point (Some f) e = cc

-- the faults of nodes
fault-of : {W : Type 0} (nodes : List (Node W)) (i : ℕ) (m : Node W) → slice_get nodes i ≡ Some m → fault_at (map (λ (n : Node W). n.fault) nodes) i ≡ m.fault
fault-of [] i m e = absurd cc
fault-of (n ∷ nodes) zero m e = let same : n ≡ m = cc in ap (λ (x : Node _). x.fault) same
fault-of (n ∷ nodes) (suc i) m e = fault-of nodes i m e

node-of : {W : Type 0} (nodes : List (Node W)) (i : ℕ) (f : StageFault) → fault_at (map (λ (n : Node W). n.fault) nodes) i ≡ Some f → (m : Node W) × (slice_get nodes i ≡ Some m) × (m.fault ≡ Some f)
node-of [] i f e = absurd cc
node-of (n ∷ nodes) zero f e = (n, refl, e)
node-of (n ∷ nodes) (suc i) f e = node-of nodes i f e

-- no node has a fault, and none of them has one
pub none-sound : {W : Type 0} (nodes : List (Node W)) → ((i : ℕ) (m : Node W) → slice_get nodes i ≡ Some m → m.fault ≡ None) → (i : ℕ) → fault_at (map (λ (n : Node W). n.fault) nodes) i ≡ None
none-sound [] none i = refl
none-sound (n ∷ nodes) none zero = none 0 n refl
none-sound (n ∷ nodes) none (suc i) = none-sound nodes (λ j m e. none (suc j) m e) i

-- a node has a fault, and not none
pub some-unsound : {W : Type 0} (nodes : List (Node W)) (found : List (Option StageFault)) → AreFaultsOf nodes found → (i : ℕ) (m : Node W) → slice_get nodes i ≡ Some m → is_some m.fault ≡ true → AreSound found → ⊥
some-unsound nodes found are i m e fault sound =
    let none : m.fault ≡ None = sym (ap (λ fs. fault_at fs i) are ∙ fault-of nodes i m e) ∙ sound i in
    true≢false (sym fault ∙ ap (λ (o : Option StageFault). is_some o) none)

same-count : (i : ℕ) (k l : _) (v v' p p' : ℕ) (w w' : Option ℕ) (f f' : ℕ) (t t' : Option TallyLine) → k ≡ l → v ≡ v' → p ≡ p' → w ≡ w' → f ≡ f' → t ≡ t'
    → ◌≡◌ {A = StageCount} (record { stage = i; kind = k; views = v; points = p; wrote = w; files = f; tally = t }) (record { stage = i; kind = l; views = v'; points = p'; wrote = w'; files = f'; tally = t' })
same-count i k l v v' p p' w w' f f' t t' a b c d e g = cc

module _ {S K P Q : Type 0} (s : source.Ghosts S) (k : sink.Ghosts K) (fs : plug_type.Ghosts P) (ts : tally_type.Ghosts Q) (stages : List StageSpec) (old new : List (Node (StageWork S K P Q))) (works : List (StageWork S K P Q))
    (is_works : map work_of old ≡ works) (fresh : AreNewStages s k fs ts stages old) (lasted : AreLaterNodes s k fs ts old new) where
  faults : StageWork S K P Q → ℕ
  faults = faults_of s.faults k.faults

  was : (i : ℕ) (v : StageWork S K P Q) → slice_get works i ≡ Some v → (n : Node (StageWork S K P Q)) × (slice_get old i ≡ Some n) × (work_of n ≡ v)
  was i v e = mapped-at work_of old i v (ap (λ xs. slice_get xs i) is_works ∙ e)

  pub later : AreLater fs ts (faults_of s.faults k.faults) works (map work_of new)
  later = record {
    count = length-mapped work_of new ∙ lasted.count ∙ sym (length-mapped work_of old) ∙ ap (λ xs. length xs) is_works;
    op = λ i v w e f.
        let n = was i v e in
        let m = mapped-at work_of new i w f in
        ap op_of (sym m.2) ∙ (lasted.each i n.0 m.0 n.1 m.1).op ∙ ap op_of n.2;
    later = λ i v w e f.
        let n = was i v e in
        let m = mapped-at work_of new i w f in
        let a = (lasted.each i n.0 m.0 n.1 m.1).faults in
        let b = ap (faults_of s.faults k.faults) n.2 in
        let c = ap (faults_of s.faults k.faults) m.2 in
        omega (arith, a, b, c);
    same = λ i v w e f.
        let n = was i v e in
        let m = mapped-at work_of new i w f in
        let same = (lasted.each i n.0 m.0 n.1 m.1).holds in
        (ap (filter_in fs) (sym m.2) ∙ same.0 ∙ ap (filter_in fs) n.2, ap (tally_in ts) (sym m.2) ∙ same.1 ∙ ap (tally_in ts) n.2);
  }

  -- what the works run on the nodes run on
  run-on : (opened : Opened) → AreGiven s fs ts stages works opened → RunOn s fs ts stages old opened
  run-on opened given = record {
    tell = λ i n r e w. given.told i (work_of n) r (ap (λ xs. slice_get xs i) (sym is_works) ∙ map-at work_of old i n e) w;
    handed = subst (λ ws. AreHandedIn fs ts stages ws opened.handed) (sym is_works) given.handed;
  }

  -- the node that stood at a place before the run
  before : (i : ℕ) (m : Node (StageWork S K P Q)) → slice_get new i ≡ Some m → (n : Node (StageWork S K P Q)) × (slice_get old i ≡ Some n)
  before i m e = some_at old i (let a = slice_get_within new i m e in let b = lasted.count in omega (arith, a, b))

  after : (i : ℕ) → i < length stages → (m : Node (StageWork S K P Q)) × (slice_get new i ≡ Some m)
  after i lt = some_at new i (let a = lasted.count in let b = fresh.count in omega (arith, a, b, lt))

  module _ (ran : AreRanStages s k fs ts stages old new) (opened : Opened) (tell : AreGiven s fs ts stages works opened) where
    module _ (none : (i : ℕ) (m : Node (StageWork S K P Q)) → slice_get new i ≡ Some m → is_device m.fault ≡ false) where
      ends : (i : ℕ) (m : Node (StageWork S K P Q)) → slice_get new i ≡ Some m → EndsAsStage s k fs ts stages opened i m
      ends = ran none opened (run-on opened tell)

      -- a node without a fault is one of a stage without a fault
      sound-at : (i : ℕ) (m : Node (StageWork S K P Q)) → slice_get new i ≡ Some m → m.fault ≡ None → stage_fault stages opened i ≡ None
      sound-at i m e f = no-point (stage_fault stages opened i) (sym f ∙ (ends i m e).fault)

      pub came : ((i : ℕ) (m : Node (StageWork S K P Q)) → slice_get new i ≡ Some m → m.fault ≡ None) → (counts : List StageCount) → length counts ≡ length stages → AreCounted ts stages new counts → CameToEnd k.bytes fs ts stages opened (map work_of new) counts
      came sound counts size counted = record {
        sound = least-nowhere (stage_fault stages opened) (length stages) (λ j lt. let m = after j lt in sound-at j m.0 m.1 (sound j m.0 m.1));
        counted = same-lists counts (counts_of stages opened) (size ∙ sym (length-map-range_with_len (count_at stages opened) 0 (length stages))) count-is;
        held = λ i w e x is. let m = mapped-at work_of new i w e in
            subst (HoldsAll k.bytes x (points (stage_input stages opened i))) m.2 ((ends i m.0 m.1).holds (sound i m.0 m.1) x is);
        keeps = λ i w e. let m = mapped-at work_of new i w e in ap keeps_of (sym m.2) ∙ (ends i m.0 m.1).keeps;
        leaves = λ i w e. let m = mapped-at work_of new i w e in
            subst (Remembers fs ts (row_at stages opened i) (stage_input stages opened i)) m.2 ((ends i m.0 m.1).says (sound i m.0 m.1)).leaves;
      }
        where
          one-count : (i : ℕ) (t : StageSpec) (m : Node (StageWork S K P Q)) → slice_get stages i ≡ Some t → slice_get new i ≡ Some m → node_count ts i t m ≡ count_at stages opened i
          one-count i t m e f =
              let g = (ends i m f).gave in
              let is = stage-is stages i t e in
              same-count i (kind_of t.options) (kind_of (stage_at stages i).options) (up_to_limit m.views) _ (up_to_limit m.points) _ _ _ _ _ _ _
              (ap (λ (x : StageSpec). kind_of x.options) (sym is)) g.views g.points
              (ap (λ w. or_shown w (shown_by m.work)) ((ends i m f).wrote (sound i m f) ∙ wrote-is (options_at stages i) (setting_at stages opened i) (stage_input stages opened i) (stage_value stages opened i))
              ∙ ap (or_shown (wrote_with (role_at stages i) (row_at stages opened i) (stage_input stages opened i) (stage_value stages opened i))) ((ends i m f).says (sound i m f)).shown)
              ((ends i m f).files ∙ files-are (options_at stages i) (setting_at stages opened i) (stage_value stages opened i))
              ((ends i m f).says (sound i m f)).says

          count-is : (i : ℕ) → i < length counts → slice_get counts i ≡ slice_get (counts_of stages opened) i
          count-is i lt =
              let inside : i < length stages = omega (arith, lt, size) in
              let t = some_at stages i inside in
              let m = after i inside in
              counted i t.0 m.0 lt t.1 m.1 ∙ ap (λ x. Some x) (one-count i t.0 m.0 t.1 m.1)
              ∙ ap (λ j. Some (count_at stages opened j)) (zero-first i) ∙ sym (range-at (count_at stages opened) 0 (length stages) i inside)
            where
              zero-first : (n : ℕ) → n ≡ 0 + n
              zero-first n = omega arith

  -- the device of a node with such a fault failed
  failed-at : (i : ℕ) (o : Op) (m : Node (StageWork S K P Q)) → slice_get new i ≡ Some m → m.fault ≡ Some (stage.Device o) → FailedAt (faults_of s.faults k.faults) works (map work_of new) i o
  failed-at i o m at is =
      let n = before i m at in
      let later = lasted.each i n.0 m n.1 at in
      record {
        before = work_of n.0;
        after = work_of m;
        was = ap (λ xs. slice_get xs i) (sym is_works) ∙ map-at work_of old i n.0 n.1;
        is = map-at work_of new i m at;
        does = subst (λ f. IsOf (op_of (work_of n.0)) f) is later.named;
        rose = later.cause (ap is_device is);
      }

  -- and that of any other node has the count that it had
  calm-in : (found : List (Option StageFault)) → AreFaultsOf new found → (i : ℕ) (v w : StageWork S K P Q) → slice_get works i ≡ Some v → slice_get (map work_of new) i ≡ Some w → is_device (fault_at found i) ≡ false → faults_of s.faults k.faults w ≡ faults_of s.faults k.faults v
  calm-in found are i v w e f quiet =
      let n = was i v e in
      let m = mapped-at work_of new i w f in
      let told : fault_at found i ≡ m.0.fault = ap (λ fs. fault_at fs i) are ∙ fault-of new i m.0 m.1 in
      ap (faults_of s.faults k.faults) (sym m.2) ∙ (lasted.each i n.0 m.0 n.1 m.1).kept (ap is_device (sym told) ∙ quiet) ∙ ap (faults_of s.faults k.faults) n.2

  -- so the stages of the nodes have ended
  pub have-ended : AreRanStages s k fs ts stages old new → (found : List (Option StageFault)) (counts : List StageCount) → AreFaultsOf new found → length counts ≡ length stages → AreCounted ts stages new counts
      → HaveEnded s k fs ts stages works (map work_of new) found counts
  have-ended ran found counts are size counted = record {
    count = ap (λ fs. length fs) are ∙ length-mapped (λ (n : Node (StageWork S K P Q)). n.fault) new ∙ lasted.count ∙ fresh.count;
    caused = record {
      failed = λ i o e. let m = node-of new i (stage.Device o) (ap (λ fs. fault_at fs i) (sym are) ∙ e) in failed-at i o m.0 m.1 m.2;
      calm = calm-in found are;
    };
    faulty = λ none opened tell i lt.
        let m = after i lt in
        told i m.0 m.1 ∙ (ends ran opened tell (calm none) i m.0 m.1).fault;
    sound = λ sound opened tell. came ran opened tell (λ i m e. ap is_device (quiet sound i m e)) (quiet sound) counts size counted;
  }
    where
      told : (i : ℕ) (m : Node (StageWork S K P Q)) → slice_get new i ≡ Some m → fault_at found i ≡ m.fault
      told i m e = ap (λ fs. fault_at fs i) are ∙ fault-of new i m e

      calm : NoneFailed found → (i : ℕ) (m : Node (StageWork S K P Q)) → slice_get new i ≡ Some m → is_device m.fault ≡ false
      calm none i m e = ap is_device (sym (told i m e)) ∙ none i

      quiet : AreSound found → (i : ℕ) (m : Node (StageWork S K P Q)) → slice_get new i ≡ Some m → m.fault ≡ None
      quiet sound i m e = sym (told i m e) ∙ sound i

  -- so have those of nodes whose turns ended at a fault
  pub have-stopped : AreStoppedStages s k fs ts stages old new → (found : List (Option StageFault)) (counts : List StageCount) → AreFaultsOf new found → (AreSound found → ⊥)
      → HaveEndedBy s k fs ts First stages works (map work_of new) found counts
  have-stopped stopped found counts are faulty = record {
    count = ap (λ fs. length fs) are ∙ length-mapped (λ (n : Node (StageWork S K P Q)). n.fault) new ∙ lasted.count ∙ fresh.count;
    caused = record {
      failed = λ i o e. let m = node-of new i (stage.Device o) (ap (λ fs. fault_at fs i) (sym are) ∙ e) in failed-at i o m.0 m.1 m.2;
      calm = calm-in found are;
    };
    faulty = λ none opened tell i f e.
        let m = node-of new i f (ap (λ fs. fault_at fs i) (sym are) ∙ e) in
        (stopped (λ j n at. ap is_device (sym (ap (λ fs. fault_at fs j) are ∙ fault-of new j n at)) ∙ none j) opened (run-on opened tell)).1 i m.0 f m.1 m.2;
    sound = λ sound. absurd (faulty sound);
  }

-- works that stay
pub same-later : {S K P Q : Type 0} (fs : plug_type.Ghosts P) (ts : tally_type.Ghosts Q) (faults : StageWork S K P Q → ℕ) (old new : List (StageWork S K P Q)) → new ≡ old → AreLater fs ts faults old new
same-later fs ts faults old new e = subst (AreLater fs ts faults old) (sym e) (record {
  count = refl;
  op = λ i v w a b. ap op_of (stays i v w a b);
  later = λ i v w a b. (let c = ap faults (stays i v w a b) in omega (arith, c));
  same = λ i v w a b. (ap (filter_in fs) (stays i v w a b), ap (tally_in ts) (stays i v w a b));
})
  where
    stays : (i : ℕ) (v w : StageWork _ _ _ _) → slice_get old i ≡ Some v → slice_get old i ≡ Some w → w ≡ v
    stays i v w a b = let c : Some v ≡ Some w = sym a ∙ b in cc

module _ {S K P Q : Type 0} {fs : plug_type.Ghosts P} {ts : tally_type.Ghosts Q} (faults : StageWork S K P Q → ℕ) (old now new : List (StageWork S K P Q)) (first : AreLater fs ts faults old now) (second : AreLater fs ts faults now new) where
  mid : (i : ℕ) (v : StageWork S K P Q) → slice_get old i ≡ Some v → (x : StageWork S K P Q) × (slice_get now i ≡ Some x)
  mid i v e = some_at now i (let a = slice_get_within old i v e in let b = first.count in omega (arith, a, b))

  pub later-on : AreLater fs ts faults old new
  later-on = record {
    count = second.count ∙ first.count;
    op = λ i v w e f. let x = mid i v e in second.op i x.0 w x.1 f ∙ first.op i v x.0 e x.1;
    later = λ i v w e f. let x = mid i v e in let a = first.later i v x.0 e x.1 in let b = second.later i x.0 w x.1 f in omega (arith, a, b);
    same = λ i v w e f. let x = mid i v e in
        let a = first.same i v x.0 e x.1 in
        let b = second.same i x.0 w x.1 f in
        (b.0 ∙ a.0, b.1 ∙ a.1);
  }

  pub done-on : (bytes : K → Option (List ℕ)) (stages : List StageSpec) (opened : Opened) (counts : List StageCount) → AreFinished bytes now new → AreKept now new → CameToEnd bytes fs ts stages opened now counts → AreDone bytes stages opened new counts
  done-on bytes stages opened counts finished kept c = record {
    sound = c.sound;
    counted = c.counted;
    told = λ i w e writes.
        let v = some_at now i (let a = slice_get_within new i w e in let b = second.count in omega (arith, a, b)) in
        let setting = setting_at stages opened i in
        let (x, is) = writes-form (options_at stages i) setting writes in
        let ps = points (stage_input stages opened i) in
        let row = writer-row (options_at stages i) setting x is in
        subst (λ bs. IsAsTold (told_by bytes w) (Some bs)) (row.bytes (chosen x.only ps) ∙ ap ((row_at stages opened i).bytes) (row.chooses ps))
        (finished i v.0 w v.1 e x ps (c.held i v.0 v.1 x is));
    keeps = λ i w e. let v = some_at now i (let a = slice_get_within new i w e in let b = second.count in omega (arith, a, b)) in
        kept i v.0 w v.1 e ∙ c.keeps i v.0 v.1;
  }
