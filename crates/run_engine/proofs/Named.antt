-- The device that is named where a run is closed is the first one that failed, by the counts that are told.
use Rattle.std.proofs.Common.{◌≡◌, ◌⊎◌, ℕ, ◌<◌, true, List, ◌++◌, length, slice_get, Option, Some, None, option_map, is_some, refl, ap, sym, subst, ◌∙◌, inl, inr, arith}
use Rattle.std.proofs.lemmas.Option.{none-some, same_Some, slice_get-map, slice_get_within}
use Rattle.file_devices.specs.Counts.{all_listed}
use Rattle.file_devices.specs.Named.{Names}
use Rattle.file_devices.specs.Told.{IsAsTold}
use Rattle.file_devices.specs.declared.devices.Op.{Op}
use Rattle.file_devices.specs.declared.devices.Op.TheVariants as op
use Rattle.file_devices.specs.declared.devices.Source as source
use Rattle.file_devices.specs.declared.devices.Sink as sink
use Rattle.cloud_points.specs.declared.faults.PointFault.{PointFault}
use Rattle.cloud_points.specs.declared.faults.StageFault.{StageFault}
use Rattle.stage_kinds.specs.Held.{faults_of, held_by, op_of, op_on}
use Rattle.stage_kinds.specs.declared.held.Held.{Held}
use Rattle.stage_kinds.specs.declared.held.Held.TheVariants.{Nothing, Source, Sink, Filter as Filter_held, Tally as Tally_held}
use Rattle.stage_kinds.specs.Stages.{keeps_of}
use Rattle.stage_kinds.specs.declared.stage_work.StageWork.{StageWork}
use Rattle.stage_kinds.specs.declared.stage_work.StageWork.TheVariants.{Reader, Filter, Plug, Tally, Collector, Views, ViewFiles, Writer}
use Rattle.stage_options.specs.declared.stage.StageSpec.{StageSpec}
use Rattle.stage_forms.specs.Starts.{HaveDevices}
use Rattle.answer_model.specs.Values.{op_for, role_at}
use Rattle.run_report.specs.declared.refusal.Refusal.{Refusal}
use Rattle.run_report.specs.declared.refusal.Refusal.TheVariants as of
use Rattle.run_report.specs.declared.refusal.Fault.TheVariants as fault
use Rattle.run_report.specs.declared.refusal.Place.TheVariants as at
use Rattle.held_devices.specs.Holding.{count_on, counts_on}
use Rattle.held_devices.proofs.Lists.{some_at}
use Rattle.run_outcome.specs.Least.{IsLeast, IsNamedBy, Shows, WereGiven, has_file}
use Rattle.run_opening.proofs.Named.{held-count, work-count}
use Rattle.run_ending.specs.All.{IsUnkept}
use Rattle.run_ending.specs.Finished.{IsUnfinished}
use Rattle.run_ending.proofs.Finished.{finishing-writes}
use Rattle.run_engine.specs.Blame.{FailedFirst}
use Rattle.run_engine.proofs.Roles.{kept-work}

-- neither opening nor creating is done while stages take turns
in-turns : {S K P Q : Type 0} (h : Held S K P Q) (o : Op) → op_on h ≡ Some o → (o ≡ op.Read) ⊎ (o ≡ op.Write)
in-turns Nothing o e = absurd (none-some o e)
in-turns (Source s) o e = inl (sym (same_Some op.Read o e))
in-turns (Sink k) o e = inr (sym (same_Some op.Write o e))
in-turns (Filter_held p place) o e = absurd (none-some o e)
in-turns (Tally_held q place) o e = absurd (none-some o e)

-- a work that keeps views has no device
keeps-none : {S K P Q : Type 0} (w : StageWork S K P Q) → is_some (keeps_of w) ≡ true → op_of w ≡ None
keeps-none (Reader r) e = cc
keeps-none (Filter f) e = cc
keeps-none (Plug v) e = cc
keeps-none (Tally v) e = cc
keeps-none (Collector c) e = cc
keeps-none (Views h) e = cc
keeps-none (ViewFiles t) e = refl
keeps-none (Writer v) e = cc

-- the least one is shown for a call on a file of a stage's own
shows-least : (stages : List StageSpec) (o : Op) (own : List (Option ℕ)) (i : ℕ) → ((o ≡ op.Read) ⊎ (o ≡ op.Write)) ⊎ (o ≡ op.Patch) → IsLeast own i → Shows stages o own i
shows-least stages op.Open own i h l = elim h [ inl p ↦ elim p [ inl e ↦ absurd cc | inr e ↦ absurd cc ] | inr e ↦ absurd cc ]
shows-least stages op.Create own i h l = elim h [ inl p ↦ elim p [ inl e ↦ absurd cc | inr e ↦ absurd cc ] | inr e ↦ absurd cc ]
shows-least stages op.Read own i h l = l
shows-least stages op.Write own i h l = l
shows-least stages op.Patch own i h l = l
shows-least stages op.Keep own i h l = l

-- where a stage has no file of its own, nothing is to be shown
named-by : (stages : List StageSpec) (before after : Option (List ℕ)) (i : ℕ) (o : Op) → (has_file (role_at stages i) ≡ true → (own : List (Option ℕ)) × WereGiven stages own before after × Shows stages o own i)
    → IsNamedBy stages before after (of.Device (at.Stage i) o)
named-by stages before after i op.Open h = h
named-by stages before after i op.Create h = h
named-by stages before after i op.Read h = h
named-by stages before after i op.Write h = h
named-by stages before after i op.Patch h = h
named-by stages before after i op.Keep h = tt

module _ {S K P Q : Type 0} (s : source.Ghosts S) (k : sink.Ghosts K) (stages : List StageSpec) (before after : Option (List ℕ)) where
  abbrev faults : StageWork S K P Q → ℕ
  faults = faults_of s.faults k.faults

  abbrev GivenBack : List (StageWork S K P Q) → Type 0
  GivenBack works = IsAsTold after (option_map (λ cs. all_listed (counts_on s.faults k.faults works) ++ cs) before)

  count-at : (works : List (StageWork S K P Q)) (j : ℕ) (w : StageWork S K P Q) → slice_get works j ≡ Some w → is_some (op_of w) ≡ true → slice_get (counts_on s.faults k.faults works) j ≡ Some (Some (faults w))
  count-at works j w at some =
      slice_get-map (λ x. count_on s.faults k.faults (held_by x)) works j
      ∙ ap (option_map (λ x. count_on s.faults k.faults (held_by x))) at
      ∙ ap (λ o. Some o) (held-count s.faults k.faults (held_by w) some)

  -- works of all stages, which hold their devices
  were-given : (works : List (StageWork S K P Q)) → length works ≡ length stages → HaveDevices stages works → GivenBack works → WereGiven stages (counts_on s.faults k.faults works) before after
  were-given works size fit told = record {
    told = told;
    files = λ j c e. (
        let (w, there, same, some) = work-count s.faults k.faults works j c e in
        ((let a = slice_get_within works j w there in omega (arith, a, size)), ap is_some (sym (fit j w there)) ∙ some));
    all = λ i j c e before. (
        let (w, there) = some_at works j (let a = before.inside in omega (arith, a, size)) in
        (faults w, count-at works j w there (ap is_some (fit j w there) ∙ before.has)));
  }

  is-least : (works : List (StageWork S K P Q)) (i : ℕ) (w : StageWork S K P Q) → slice_get works i ≡ Some w → is_some (op_of w) ≡ true → 0 < faults w
      → ((j : ℕ) (x : StageWork S K P Q) → j < i → slice_get works j ≡ Some x → faults x ≡ 0) → IsLeast (counts_on s.faults k.faults works) i
  is-least works i w at some rose earlier = record {
    count = faults w;
    at = count-at works i w at some;
    rose = rose;
    earlier = λ j c lt e. (let (x, there, same, some) = work-count s.faults k.faults works j c e in sym same ∙ earlier j x lt there);
  }

  -- a device that failed while stages took turns, or a point's fault, where none did
  pub turns-named : (found : List (Option StageFault)) (works : List (StageWork S K P Q)) (refusal : Refusal) → ((i : ℕ) (o : Op) → refusal ≡ of.Device (at.Stage i) o → FailedFirst faults found works i o)
      → ((i : ℕ) (f : PointFault) → refusal ≡ of.Data i (fault.Point f) → (j : ℕ) (w : StageWork S K P Q) → slice_get works j ≡ Some w → faults w ≡ 0)
      → length works ≡ length stages → HaveDevices stages works → GivenBack works → IsNamedBy stages before after refusal
  turns-named found works (of.Device (at.Stage i) o) first calm size fit told =
      let f = first i o refl in
      named-by stages before after i o (λ has. (
        counts_on s.faults k.faults works,
        were-given works size fit told,
        shows-least stages o (counts_on s.faults k.faults works) i (inl (in-turns (held_by f.work) o f.does))
            (is-least works i f.work f.at (ap is_some f.does) f.count f.others),
      ))
  turns-named found works (of.Device at.PipelineFile o) first calm size fit told = tt
  turns-named found works (of.Device at.Generated o) first calm size fit told = tt
  turns-named found works (of.Device at.Out o) first calm size fit told = tt
  turns-named found works (of.Data i (fault.Header f)) first calm size fit told = tt
  turns-named found works (of.Data i (fault.Vlr f)) first calm size fit told = tt
  turns-named found works (of.Data i (fault.Point f)) first calm size fit told = (
    counts_on s.faults k.faults works,
    were-given works size fit told,
    λ j c e. (let (w, there, same, some) = work-count s.faults k.faults works j c e in sym same ∙ calm i f refl j w there),
  )
  turns-named found works (of.Pipeline f) first calm size fit told = tt
  turns-named found works (of.Usage n) first calm size fit told = tt
  turns-named found works of.Memory first calm size fit told = tt

  -- one that failed as a file was finished
  pub finish-named : (works done : List (StageWork S K P Q)) (refusal : Refusal) → ((j : ℕ) (w : StageWork S K P Q) → slice_get works j ≡ Some w → faults w ≡ 0) → length works ≡ length stages → length done ≡ length works
      → ((j : ℕ) (v w : StageWork S K P Q) → slice_get works j ≡ Some v → slice_get done j ≡ Some w → op_of w ≡ op_of v) → HaveDevices stages done
      → IsUnfinished faults works done refusal → GivenBack done → IsNamedBy stages before after refusal
  finish-named works done (of.Device (at.Stage i) o) calm whole size same fit c told =
      let (writes, either) = finishing-writes c.before o c.named in
      named-by stages before after i o (λ has. (
        counts_on s.faults k.faults done,
        were-given done (size ∙ whole) fit told,
        shows-least stages o (counts_on s.faults k.faults done) i (elim either [ inl e ↦ inl (inr e) | inr e ↦ inr e ])
            (is-least done i c.after c.is (ap is_some (same i c.before c.after c.was c.is ∙ writes)) (let r = c.rose in omega (arith, r))
            (λ j x lt at. (let v = some_at works j (let a = slice_get_within done j x at in omega (arith, a, size)) in c.others j v.0 x lt v.1 at ∙ calm j v.0 v.1))),
      ))
  finish-named works done (of.Device at.PipelineFile o) calm whole size same fit c told = absurd c
  finish-named works done (of.Device at.Generated o) calm whole size same fit c told = absurd c
  finish-named works done (of.Device at.Out o) calm whole size same fit c told = absurd c
  finish-named works done (of.Data i f) calm whole size same fit c told = absurd c
  finish-named works done (of.Pipeline f) calm whole size same fit c told = absurd c
  finish-named works done (of.Usage n) calm whole size same fit c told = absurd c
  finish-named works done of.Memory calm whole size same fit c told = absurd c

  -- a keeping, or the file of a view of a stage that has none of its own
  pub keep-named : {bytes : K → Option (List ℕ)} (done : List (StageWork S K P Q)) (rose : Type 0) (old new : Option Names) (refusal : Refusal) → HaveDevices stages done → IsUnkept bytes rose old new stages done refusal → IsNamedBy stages before after refusal
  keep-named done rose old new refusal fit unkept = elim unkept [
    | inl m ↦ subst (IsNamedBy stages before after) (sym m.0) tt
    | inr b ↦ elim b [
      | inl broke ↦ elim broke.why [
        | inl m ↦ subst (IsNamedBy stages before after) (sym m) tt
        | inr d ↦ subst (IsNamedBy stages before after) (sym d.0) tt
      ]
      | inr each ↦ elim each.broke.stops.why [
        | inl m ↦ subst (IsNamedBy stages before after) (sym m) tt
        | inr d ↦ subst (IsNamedBy stages before after) (sym d.1) (vacuous each.broke.stage d.0 (
            let w = kept-work done 0 each.broke.place each.broke.stage (each.broke.writing, each.broke.flow) each.broke.of in
            let here : each.broke.stage ≡ w.0 = (let a = w.3 in omega (arith, a)) in
            ap (λ j. op_for (role_at stages j)) here ∙ sym (fit w.0 w.1 w.2.0) ∙ keeps-none w.1 (ap is_some w.2.1)))
      ]
    ]
  ]
    where
      vacuous : (i : ℕ) (o : Op) → op_for (role_at stages i) ≡ None → IsNamedBy stages before after (of.Device (at.Stage i) o)
      vacuous i o none = named-by stages before after i o (λ has. absurd (let a = has in let b = ap is_some none in cc))
