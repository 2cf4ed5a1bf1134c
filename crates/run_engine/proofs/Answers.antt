-- What a run comes to, by its steps.
use Rattle.std.proofs.Common.{◌≡◌, ◌⊎◌, ℕ, ◌+◌, ◌≤◌, suc, ◌<◌, true, List, [], ◌∷◌, ◌++◌, length, take, slice_get, Option, Some, None, Ok, IsOk, IsOkAnd, refl, ap, sym, subst, ◌∙◌, inl, inr, arith}
use Rattle.std.specs.Prelude.{flat_map, option_map}
use Rattle.std.specs.List.{range_with_len}
use Rattle.std.proofs.lemmas.List.{append-nil, append_assoc}
use Rattle.std.proofs.lemmas.Option.{same_Some, slice_get_within}
use Rattle.file_devices.specs.Counts.{Rose, saturating}
use Rattle.file_devices.specs.Named.{Names}
use Rattle.file_devices.specs.declared.devices.Op.{Op}
use Rattle.file_devices.specs.declared.devices.Op.TheVariants as op
use Rattle.file_devices.specs.declared.devices.Source as source
use Rattle.file_devices.specs.declared.devices.Sink as sink
use Rattle.network_core.proofs.Opened.{some_at}
use Rattle.run_report.specs.declared.report.StageCount.{StageCount}
use Rattle.stage_kinds.specs.declared.file_form.Writing.{Writing}
use Rattle.stage_kinds.specs.Files.{finishing_op}
use Rattle.cloud_points.specs.declared.faults.PointFault.{PointFault}
use Rattle.cloud_points.specs.declared.faults.StageFault.{StageFault}
use Rattle.cloud_points.specs.declared.faults.StageFault.TheVariants as stage
use Rattle.stage_kinds.specs.declared.stage_work.StageWork.{StageWork}
use Rattle.stage_kinds.specs.Held.{op_of, faults_of, held_by}
use Rattle.stage_options.specs.declared.stage.StageSpec.{StageSpec}
use Rattle.run_report.specs.Reports.{report_of}
use Rattle.run_report.specs.declared.refusal.Refusal.{Refusal}
use Rattle.run_report.specs.declared.refusal.Refusal.TheVariants as of
use Rattle.run_report.specs.declared.refusal.Place.{Place}
use Rattle.run_report.specs.declared.refusal.Place.TheVariants as at
use Rattle.run_report.specs.declared.refusal.Fault.{Fault}
use Rattle.answer_model.specs.Values.{Opened, Output, options_at, op_for, role_at, row_at, setting_at, stage_fault, stage_value, least_fault, written_at, output_at, outputs_at}
use Rattle.answer_model.specs.Runs.{Run, AreRead, run_of, opened_in}
use Rattle.answer_model.proofs.Least.{least-at}
use Rattle.stage_forms.specs.Starts.{form_for, kept_for, HaveDevices, AreGiven}
use Rattle.stage_forms.proofs.Works.{each-row, writes-form}
use Rattle.std.proofs.lemmas.List.Sums.{sum_by-cons}
use Rattle.held_devices.specs.Holding.{there, all_held}
use Rattle.run_ending.specs.All.{AreAllKept, BrokeOffEach, IsUnkept}
use Rattle.run_ending.specs.Each.{BrokeOffAt, Stops, all_files, kept_from}
use Rattle.run_ending.specs.Keeping.{kept_first, BrokeOff}
use Rattle.run_ending.proofs.Each.{more-put, stops-behind}
use Rattle.run_outcome.specs.Cause.{CanBegin, IsCause, IsEarly, IsLeft, IsRun, WereKept, WerePut, WereWritten, AtRole, patches}
use Rattle.run_opening.specs.Ready.{AreReady}
use Rattle.run_outcome.specs.Faults.{fault_at}
use Rattle.run_outcome.specs.Outcomes.{refusal_for}
use Rattle.run_outcome.proofs.Outcomes.{IsForPoint, why-refused}
use Rattle.stage_forms.specs.Later.{AreLater, CameToEnd}
use Rattle.network_core.specs.declared.stop.Stop.{Stop}
use Rattle.network_core.specs.declared.stop.Stop.TheVariants.{Last, First}
use Rattle.run_report.specs.declared.refusal.Fault.TheVariants as fault
use Rattle.run_engine.specs.Stopping.{HaveEndedBy, HaveFaultsBy, IsRefusedFor, IsCauseBy}
use Rattle.run_engine.specs.Done.{AreDone}
use Rattle.run_ending.specs.Finished.{IsUnfinished}
use Rattle.run_ending.proofs.Finished.{finishing-writes}
use Rattle.run_outcome.proofs.Runs.{right_run, run-right, run-fault}
use Rattle.run_engine.proofs.Each.{works-files}
use Rattle.run_engine.proofs.Puts.{outputs_below, below-more, below-split, were-put}
use Rattle.plug_stages.specs.declared.filter.PlugFilter as plug_type
use Rattle.plug_stages.specs.declared.tally.PlugTally as tally_type
use Rattle.plug_stages.specs.Handed.{Handed}
use Rattle.run_engine.proofs.Roles.{at-turns, at-keeping, at-each, at-finishing, never-patched, writing-role, patched-las, each-las, kept-work, kept-form, one-output, take-first, take-next, at-next}
use Rattle.run_engine.proofs.Early.{op-early}

-- a count that rose in a device rose in that of the files, once the device is given back
pub rose-given : (before after files end : ℕ) → Rose before after → saturating files after ≤ end → Rose files end
rose-given before after files end rose back = omega (arith, rose, back)

no-point : (o : Option PointFault) → None ≡ option_map stage.Point o → o ≡ None
no-point None e = refl
no-point (Some f) e = cc

the-point : (f : PointFault) (o : Option PointFault) → Some (stage.Point f) ≡ option_map stage.Point o → o ≡ Some f
the-point f None e = cc
the-point f (Some g) e = cc

-- the fault of a run's stages that goes first is the cause
module _ {S K P Q : Type 0} (s : source.Ghosts S) (k : sink.Ghosts K) (fs : plug_type.Ghosts P) (ts : tally_type.Ghosts Q) (stop : Stop) (handed : Handed) (map : Option Names) (stages : List StageSpec) (old new : List (StageWork S K P Q)) (found : List (Option StageFault)) (counts : List StageCount)
    (ended : HaveEndedBy s k fs ts stop stages old new found counts) where
  least-is : (r : Refusal) (p : IsForPoint found r) (opened : Opened) → AreGiven s fs ts stages old opened → stop ≡ Last → least_fault stages opened ≡ Some (p.stage, p.fault)
  least-is r p opened told last =
      let have = subst (λ stop. HaveFaultsBy stop stages opened found) last (ended.faulty p.none_failed opened told) in
      let inside : p.stage < length stages = (let a = p.inside in let b = ended.count in omega (arith, a, b)) in
      least-at (stage_fault stages opened) (length stages) p.stage p.fault inside (the-point p.fault (stage_fault stages opened p.stage) (sym p.has ∙ have p.stage inside))
      (λ j lt. no-point (stage_fault stages opened j) (sym (p.least j lt) ∙ have j (omega (arith, lt, inside))))

  -- no device fails in a keeping before the files are kept
  pub fault-early : (r : Refusal) → refusal_for found ≡ Some r → IsEarly r
  fault-early r e = elim (why-refused found r e) [
    | inl d ↦ (let c = ended.caused.failed d.stage d.op d.has in subst IsEarly (sym d.is) (op-early d.stage (held_by c.before) d.op c.does))
    | inr p ↦ subst IsEarly (sym p.is) tt
  ]

  module _ (start mid end : ℕ)
      (few : length old ≡ length stages)
      (come : (m : Names) → map ≡ Some m → CanBegin handed m stages)
      (tells : (m : Names) → map ≡ Some m → AreGiven s fs ts stages old (opened_in handed m stages))
      (fit : (i : ℕ) (w : StageWork S K P Q) → slice_get old i ≡ Some w → op_of w ≡ op_for (role_at stages i))
      (low : start ≤ mid) (back : (i : ℕ) (w : StageWork S K P Q) → slice_get new i ≡ Some w → saturating mid (faults_of s.faults k.faults w) ≤ end) where
    device-cause : (i : ℕ) (o : Op) → fault_at found i ≡ Some (stage.Device o) → IsCause (Rose start end) handed map stages (of.Device (at.Stage i) o)
    device-cause i o has =
        let c = ended.caused.failed i o has in
        let faults = faults_of s.faults k.faults in
        inr (
          (let a = rose-given (faults c.before) (faults c.after) mid end c.rose (back i c.after c.is) in omega (arith, a, low)),
          λ m e. (let inside : i < length stages = (let a = slice_get_within old i c.before c.was in omega (arith, a, few)) in record {
            inside = inside;
            come = at-turns (AreRead m stages i) (CanBegin handed m stages) (IsOk (run_of handed m stages)) (role_at stages i) o
                (λ j lt. (come m e).0 j (omega (arith, lt, inside))) (come m e) (sym (fit i c.before c.was) ∙ c.does);
            patched = λ p. absurd (never-patched (role_at stages i) (sym (fit i c.before c.was) ∙ c.does ∙ ap (λ x. Some x) p));
          }),
        )

    -- the fault of a point is the least one, or any that was seen
    point-cause : (r : Refusal) (p : IsForPoint found r) (m : Names) → map ≡ Some m → (st : Stop) → stop ≡ st → IsRefusedFor st handed m stages p.stage (fault.Point p.fault)
    point-cause r p m e Last is = run-fault handed m stages p.stage p.fault (come m e) (least-is r p (opened_in handed m stages) (tells m e) is)
    point-cause r p m e First is =
        let have = subst (λ st. HaveFaultsBy st stages (opened_in handed m stages) found) is (ended.faulty p.none_failed (opened_in handed m stages) (tells m e)) in
        inr (come m e, the-point p.fault (stage_fault stages (opened_in handed m stages) p.stage) (sym (have p.stage (stage.Point p.fault) p.has)))

    pub fault-cause : (r : Refusal) → refusal_for found ≡ Some r → IsCauseBy stop (Rose start end) handed map stages r
    fault-cause r e = elim (why-refused found r e) [
      | inl d ↦ subst (IsCauseBy stop (Rose start end) handed map stages) (sym d.is) (device-cause d.stage d.op d.has)
      | inr p ↦ subst (IsCauseBy stop (Rose start end) handed map stages) (sym p.is) (λ m e. point-cause r p m e stop refl)
    ]

-- a writer whose file couldn't be finished is the cause, where the stages came to their end
module _ {S K P Q : Type 0} (k : sink.Ghosts K) (fs : plug_type.Ghosts P) (ts : tally_type.Ghosts Q) (faults : StageWork S K P Q → ℕ) (handed : Handed) (map : Option Names) (stages : List StageSpec) (old new : List (StageWork S K P Q)) (start mid end : ℕ)
    (few : length old ≡ length stages) (fit : HaveDevices stages old)
    (come : (m : Names) → map ≡ Some m → CanBegin handed m stages)
    (counts : List StageCount) (came : (m : Names) → map ≡ Some m → CameToEnd k.bytes fs ts stages (opened_in handed m stages) old counts)
    (low : start ≤ mid) (back : (i : ℕ) (w : StageWork S K P Q) → slice_get new i ≡ Some w → saturating mid (faults w) ≤ end) where
  pub unfinished-to-cause : (r : Refusal) → IsUnfinished faults old new r → IsCause (Rose start end) handed map stages r
  unfinished-to-cause (of.Device (at.Stage i) o) c = inr (
    (let a = rose-given (faults c.before) (faults c.after) mid end c.rose (back i c.after c.is) in omega (arith, a, low)),
    λ m e. record {
      inside = (let a = slice_get_within old i c.before c.was in omega (arith, a, few));
      come = at-finishing (AreRead m stages i) (CanBegin handed m stages) (IsOk (run_of handed m stages)) (role_at stages i) o (come m e)
          (subst IsOk (sym (run-right handed m stages (come m e) (came m e).sound)) refl) does named.1;
      patched = λ p.
          let setting = setting_at stages (opened_in handed m stages) i in
          let (x, is) = writes-form (options_at stages i) setting (writing-role (role_at stages i) does) in
          let holds = (came m e).held i c.before c.was x is in
          patched-las (options_at stages i) setting x is (same_Some (finishing_op x.form) o (ap (option_map (λ (y : Writing). finishing_op y.form)) (sym holds.is) ∙ c.named) ∙ p);
    },
  )
    where
      named : (op_of c.before ≡ Some op.Write) × ((o ≡ op.Write) ⊎ (o ≡ op.Patch))
      named = finishing-writes c.before o c.named

      does : op_for (role_at stages i) ≡ Some op.Write
      does = sym (fit i c.before c.was) ∙ named.0
  unfinished-to-cause (of.Device at.PipelineFile o) c = absurd c
  unfinished-to-cause (of.Device at.Generated o) c = absurd c
  unfinished-to-cause (of.Device at.Out o) c = absurd c
  unfinished-to-cause (of.Data i f) c = absurd c
  unfinished-to-cause of.Memory c = absurd c
  unfinished-to-cause (of.Pipeline f) c = absurd c
  unfinished-to-cause (of.Usage k) c = absurd c

module _ {S K P Q : Type 0} (bytes : K → Option (List ℕ)) (stages : List StageSpec) (works : List (StageWork S K P Q)) (few : length works ≡ length stages) where
  -- a file that wasn't kept is the cause, where the answer is right
  pub broke-cause : (rose : Type 0) (handed : Handed) (map old new : Option Names) (r : Refusal) → ((m : Names) → map ≡ Some m → IsOk (run_of handed m stages)) → BrokeOff bytes rose old new stages works r → IsCause rose handed map stages r
  broke-cause rose handed map old new r right broke = elim broke.why [
    | inl m ↦ subst (IsCause rose handed map stages) (sym m) tt
    | inr d ↦ subst (IsCause rose handed map stages) (sym d.0) (inr (
      d.1,
      λ m e. record {
        inside = (let a = broke.inside in omega (arith, a, few));
        come = at-keeping (AreRead m stages broke.stage) (CanBegin handed m stages) (IsOk (run_of handed m stages)) (role_at stages broke.stage) broke.writes (right m e);
        patched = λ p. cc;
      },
    ))
  ]

-- later works hold as many devices
held-same : {S K P Q : Type 0} (xs ys : List (StageWork S K P Q)) → length ys ≡ length xs → ((i : ℕ) (v w : StageWork S K P Q) → slice_get xs i ≡ Some v → slice_get ys i ≡ Some w → there (op_of w) ≡ there (op_of v)) → all_held ys ≡ all_held xs
held-same [] [] l h = refl
held-same [] (y ∷ ys) l h = absurd (omega (arith, l))
held-same (x ∷ xs) [] l h = absurd (omega (arith, l))
held-same (x ∷ xs) (y ∷ ys) l h =
    let a = h 0 x y refl refl in
    let r = held-same xs ys (omega (arith, l)) (λ i v w e f. h (suc i) v w e f) in
    let p = sum_by-cons (λ w. there (op_of w)) x xs in
    let q = sum_by-cons (λ w. there (op_of w)) y ys in
    omega (arith, a, r, p, q)

pub same-held : {S K P Q : Type 0} {fs : plug_type.Ghosts P} {ts : tally_type.Ghosts Q} (faults : StageWork S K P Q → ℕ) (old new : List (StageWork S K P Q)) → AreLater fs ts faults old new → all_held new ≡ all_held old
same-held faults old new later = held-same old new later.count (λ i v w e f. ap there (later.op i v w e f))

-- a run whose stages came to their end
module _ {S K P Q : Type 0} (s : source.Ghosts S) (k : sink.Ghosts K) (fs : plug_type.Ghosts P) (ts : tally_type.Ghosts Q) (handed : Handed) (first : Option Names) (stages : List StageSpec) (works done : List (StageWork S K P Q)) (ready : AreReady s k fs ts handed first stages works)
    (faults : StageWork S K P Q → ℕ) (later : AreLater fs ts faults works done) where
  pub fit : HaveDevices stages done
  fit i w e =
      let v = some_at works i (let a = slice_get_within done i w e in let b = later.count in omega (arith, a, b)) in
      later.op i v.0 w v.1 e ∙ ready.devices i v.0 v.1

  pub size : length done ≡ length stages
  size = later.count ∙ ready.count

  module _ (counts : List StageCount) (came : (opened : Opened) → AreGiven s fs ts stages works opened → AreDone k.bytes stages opened done counts) where
    at-end : (m : Names) → first ≡ Some m → AreDone k.bytes stages (opened_in handed m stages) done counts
    at-end m e = came (opened_in handed m stages) (ready.tell m e)

    right : (m : Names) → first ≡ Some m → run_of handed m stages ≡ Ok (right_run stages (opened_in handed m stages))
    right m e = run-right handed m stages (ready.come m e) (at-end m e).sound

    first-kept : (m : Names) → first ≡ Some m → (n : ℕ) → n ≤ length done → (now new : Option Names) → new ≡ kept_first k.bytes n now stages done → WerePut now (outputs_below stages (opened_in handed m stages) n) new
    first-kept m e n le now new is = were-put stages (opened_in handed m stages) k.bytes done (at-end m e).told n now new le is

    -- the outputs are those of the writers of one file, and then those of views
    outputs-are : (m : Names) → first ≡ Some m → (right_run stages (opened_in handed m stages)).outputs ≡ outputs_below stages (opened_in handed m stages) (length stages) ++ all_files stages (kept_from 0 done)
    outputs-are m e = ap (λ os. outputs_below stages (opened_in handed m stages) (length stages) ++ os)
        (ap (λ n. flat_map (outputs_at stages (opened_in handed m stages)) (range_with_len 0 n)) (sym size)
        ∙ sym (works-files stages (opened_in handed m stages) 0 done (λ j w f. (at-end m e).keeps j w f
        ∙ ap (λ n. kept_for (form_for (options_at stages n) (setting_at stages (opened_in handed m stages) n)) (stage_value stages (opened_in handed m stages) n)) (let z : j ≡ 0 + j = omega arith in z))))

    pub is-run : (m : Names) → first ≡ Some m → (now new : Option Names) → (now ≡ None → new ≡ None) → AreAllKept k.bytes now new stages done → IsOkAnd (run_of handed m stages) (IsRun now new counts)
    is-run m e now new lost all = subst (λ o. IsOkAnd o (IsRun now new counts)) (sym (right m e)) (record {
      put = subst (λ os. WerePut now os new) (sym (outputs-are m e))
          (more-put now all.mid new (outputs_below stages (opened_in handed m stages) (length stages)) (all_files stages (kept_from 0 done)) all.lost
          (subst (λ n. WerePut now (outputs_below stages (opened_in handed m stages) n) all.mid) size (first-kept m e (length done) (omega arith) now all.mid all.plain)) all.each);
      report = ap report_of (sym (at-end m e).counted);
    })

    pub unkept-cause : (rose : Type 0) (now new : Option Names) (r : Refusal) → IsUnkept k.bytes rose now new stages done r → IsCause rose handed first stages r
    unkept-cause rose now new r unkept = elim unkept [
      | inl m ↦ subst (IsCause rose handed first stages) (sym m.0) tt
      | inr b ↦ elim b [
        | inl broke ↦ broke-cause k.bytes stages done size rose handed first now new r (λ m e. subst IsOk (sym (right m e)) refl) broke
        | inr each ↦ each-cause each.broke
      ]
    ]
      where
        each-cause : {mid : Option Names} → BrokeOffAt rose mid new stages (kept_from 0 done) r → IsCause rose handed first stages r
        each-cause broke = elim broke.stops.why [
          | inl m ↦ subst (IsCause rose handed first stages) (sym m) tt
          | inr d ↦ subst (IsCause rose handed first stages) (sym d.1) (inr (
            d.3,
            λ m e.
                let w = kept-work done 0 broke.place broke.stage (broke.writing, broke.flow) broke.of in
                let here : broke.stage ≡ w.0 = (let v = w.3 in omega (arith, v)) in
                let form = kept-form stages (opened_in handed m stages) w.0 broke.writing broke.flow (sym ((at-end m e).keeps w.0 w.1 w.2.0) ∙ w.2.1) in
                let row = each-row (options_at stages w.0) (setting_at stages (opened_in handed m stages) w.0) broke.writing form in
                record {
                  inside = (let a = slice_get_within done w.0 w.1 w.2.0 in omega (arith, a, here, size));
                  come = subst (λ j. AtRole (AreRead m stages j) (CanBegin handed m stages) (IsOk (run_of handed m stages)) (role_at stages j) d.0) (sym here)
                      (subst (λ x. AtRole (AreRead m stages w.0) (CanBegin handed m stages) (IsOk (run_of handed m stages)) x d.0) (sym row.does)
                      (at-each (AreRead m stages w.0) (CanBegin handed m stages) (IsOk (run_of handed m stages)) row.name broke.writing.form d.0 (subst IsOk (sym (right m e)) refl) d.2));
                  patched = λ p. subst (λ j. patches (options_at stages j) ≡ true) (sym here) (each-las (options_at stages w.0) (setting_at stages (opened_in handed m stages) w.0) broke.writing form d.0 d.2 p);
                },
          ))
        ]

    -- what it leaves
    pub unkept-left : (rose : Type 0) (now new : Option Names) (r : Refusal) → IsUnkept k.bytes rose now new stages done r → (m : Names) → first ≡ Some m → IsLeft r now new (run_of handed m stages)
    unkept-left rose now new r unkept m e = subst (IsLeft r now new) (sym (right m e)) (elim unkept [
      | inl n ↦ subst (λ x. IsLeft x now new (Ok run)) (sym n.0) (inl n.1)
      | inr b ↦ elim b [ inl broke ↦ plain-left broke | inr each ↦ each-left each ]
    ])
      where
        run : Run
        run = right_run stages (opened_in handed m stages)

        opened : Opened
        opened = opened_in handed m stages

        -- at one of the writers of one file
        plain-left : BrokeOff k.bytes rose now new stages done r → IsLeft r now new (Ok run)
        plain-left broke = elim broke.why [
          | inl n ↦ subst (λ x. IsLeft x now new (Ok run)) (sym n) (inr (elim kept.put [ inl a ↦ (kept.count, a) | inr b ↦ (kept.count + 1, b) ]))
          | inr d ↦ subst (λ x. IsLeft x now new (Ok run)) (sym d.0) kept
        ]
          where
            i : ℕ
            i = broke.stage

            inside : i < length stages
            inside = let a = broke.inside in omega (arith, a, size)

            split : (rest : List Output) × (outputs_below stages opened (length stages) ≡ outputs_below stages opened i ++ (output_at stages opened i ++ rest))
            split = below-split stages opened i (length stages) inside

            own : (o : Output) × (output_at stages opened i ≡ o ∷ []) × (o.stage ≡ i)
            own = one-output i (role_at stages i) ((row_at stages opened i).bytes (written_at stages opened i)) broke.writes

            -- all outputs
            all : run.outputs ≡ outputs_below stages opened i ++ (own.0 ∷ (split.0 ++ all_files stages (kept_from 0 done)))
            all = outputs-are m e ∙ ap (λ os. os ++ all_files stages (kept_from 0 done)) split.1
                ∙ append_assoc (outputs_below stages opened i) (output_at stages opened i ++ split.0) (all_files stages (kept_from 0 done))
                ∙ ap (λ os. outputs_below stages opened i ++ ((os ++ split.0) ++ all_files stages (kept_from 0 done))) own.1

            first-are : take (length (outputs_below stages opened i)) run.outputs ≡ outputs_below stages opened i
            first-are = ap (take (length (outputs_below stages opened i))) all ∙ take-first (outputs_below stages opened i) (own.0 ∷ (split.0 ++ all_files stages (kept_from 0 done)))

            next-are : take (length (outputs_below stages opened i) + 1) run.outputs ≡ outputs_below stages opened (i + 1)
            next-are = ap (λ n. take n run.outputs) (let z : length (outputs_below stages opened i) + 1 ≡ suc (length (outputs_below stages opened i)) = omega arith in z)
                ∙ ap (take (suc (length (outputs_below stages opened i)))) all ∙ take-next (outputs_below stages opened i) own.0 (split.0 ++ all_files stages (kept_from 0 done))
                ∙ ap (λ os. outputs_below stages opened i ++ os) (sym own.1) ∙ sym (below-more stages opened i) ∙ ap (outputs_below stages opened) (let z : suc i ≡ i + 1 = omega arith in z)

            kept : WereKept i now new run
            kept = record {
              count = length (outputs_below stages opened i);
              next = record { next = own.0; at = ap (λ os. slice_get os (length (outputs_below stages opened i))) all ∙ at-next (outputs_below stages opened i) own.0 (split.0 ++ all_files stages (kept_from 0 done)); of = own.2 };
              put = elim broke.left [
                | inl l ↦ inl (subst (λ os. WerePut now os new) (sym first-are) (first-kept m e i (let a = broke.inside in omega (arith, a)) now new l))
                | inr l ↦ inr (subst (λ os. WerePut now os new) (sym next-are) (first-kept m e (i + 1) (let a = broke.inside in omega (arith, a)) now new l))
              ];
            }

        -- at the file of a view
        each-left : BrokeOffEach k.bytes rose now new stages done r → IsLeft r now new (Ok run)
        each-left each = elim stops.why [
          | inl n ↦ subst (λ x. IsLeft x now new (Ok run)) (sym n) (inr (elim stops.left [ inl a ↦ (stops.done, a) | inr b ↦ (stops.done + 1, b.1) ]))
          | inr d ↦ subst (λ x. IsLeft x now new (Ok run)) (sym d.1) (by-op d.0 d.1)
        ]
          where
            broke : BrokeOffAt rose each.mid new stages (kept_from 0 done) r
            broke = each.broke

            stops : Stops rose now new broke.stage broke.writing.form run.outputs r
            stops = subst (λ os. Stops rose now new broke.stage broke.writing.form os r)
                (ap (λ os. outputs_below stages opened (length stages) ++ os) (append-nil (all_files stages (kept_from 0 done))) ∙ sym (outputs-are m e))
                (stops-behind now each.mid new broke.stage broke.writing.form (outputs_below stages opened (length stages)) (all_files stages (kept_from 0 done)) r each.lost
                (subst (λ n. WerePut now (outputs_below stages opened n) each.mid) size (first-kept m e (length done) (omega arith) now each.mid each.plain)) broke.stops)

            unwritten-left : (o : Op) → r ≡ of.Device (at.Stage broke.stage) o → (o ≡ op.Keep → ⊥) → WereWritten broke.stage now new run
            unwritten-left o is unlike = record {
              count = stops.done;
              next = record { next = stops.next; at = stops.at; of = stops.of };
              view = stops.view;
              put = elim stops.left [
                | inl a ↦ a
                | inr b ↦ absurd (elim b.0 [
                  | inl n ↦ (let z : of.Device (at.Stage broke.stage) o ≡ of.Memory = sym is ∙ n in cc)
                  | inr n ↦ (let z : of.Device (at.Stage broke.stage) o ≡ of.Device (at.Stage broke.stage) op.Keep = sym is ∙ n in unlike cc)
                ])
              ];
            }

            by-op : (o : Op) → r ≡ of.Device (at.Stage broke.stage) o → IsLeft (of.Device (at.Stage broke.stage) o) now new (Ok run)
            by-op op.Keep is = record { count = stops.done; next = record { next = stops.next; at = stops.at; of = stops.of }; put = elim stops.left [ inl a ↦ inl a | inr b ↦ inr b.1 ] }
            by-op op.Open is = inr (unwritten-left op.Open is (λ q. cc))
            by-op op.Read is = inr (unwritten-left op.Read is (λ q. cc))
            by-op op.Create is = inr (unwritten-left op.Create is (λ q. cc))
            by-op op.Write is = inr (unwritten-left op.Write is (λ q. cc))
            by-op op.Patch is = inr (unwritten-left op.Patch is (λ q. cc))

-- a file that isn't kept is no matter of the data
pub unkept-no-data : {S K P Q : Type 0} (bytes : K → Option (List ℕ)) (rose : Type 0) (old new : Option Names) (stages : List StageSpec) (works : List (StageWork S K P Q)) (r : Refusal) (i : ℕ) (f : Fault)
    → IsUnkept bytes rose old new stages works r → r ≡ of.Data i f → ⊥
unkept-no-data bytes rose old new stages works r i f unkept is = elim unkept [
  | inl m ↦ no-memory (sym is ∙ m.0)
  | inr b ↦ elim b [
    | inl broke ↦ elim broke.why [ inl m ↦ no-memory (sym is ∙ m) | inr d ↦ no-device (sym is ∙ d.0) ]
    | inr each ↦ elim each.broke.stops.why [ inl m ↦ no-memory (sym is ∙ m) | inr d ↦ no-device (sym is ∙ d.1) ]
  ]
]
  where
    no-memory : of.Data i f ≡ of.Memory → ⊥
    no-memory e = cc

    no-device : {p : Place} {o : Op} → of.Data i f ≡ of.Device p o → ⊥
    no-device e = cc
