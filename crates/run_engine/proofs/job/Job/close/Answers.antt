use Rattle.std.proofs.Common.{◌≡◌, ◌+◌, Err, refl, ap, sym, subst, ◌∙◌, arith, inl, inr}
use Rattle.std.specs.Prelude.{None, Some}
use Rattle.file_devices.specs.Counts.{Rose}
use Rattle.stage_kinds.specs.Held.{faults_of}
use Rattle.answer_model.specs.Naming.{AreNamed}
use Rattle.answer_model.specs.Values.{Opened}
use Rattle.answer_model.specs.Runs.{run_of, opened_in}
use Rattle.stage_forms.specs.Starts.{AreGiven, AreHandedIn}
use Rattle.run_outcome.specs.Outcomes.{refusal_for}
use Rattle.run_outcome.proofs.Outcomes.{not-refused}
use Rattle.run_outcome.proofs.Results.{on-ok, err-of}
use Rattle.run_ending.specs.Finished.{IsUnfinished}
use Rattle.run_ending.specs.All.{IsUnkept}
use Rattle.run_report.specs.declared.refusal.Place.TheVariants.{Stage}
use Rattle.run_report.specs.declared.refusal.Refusal.TheVariants.{Data, Device}
use Rattle.run_engine.specs.Blame.{IsBlamed}
use Rattle.run_engine.specs.Done.{AreDone}
use Rattle.run_engine.specs.Jobs.{HaveCome, CameTo}
use Rattle.run_engine.proofs.Stopping.{cause-by}
use Rattle.run_engine.proofs.Come.{none-came}
use Rattle.run_engine.proofs.Named.{finish-named, keep-named, turns-named}
use Rattle.run_engine.proofs.Blamed.{all-calm, failed-first, failed-finish, failed-all, faulty-calm}
use Rattle.run_engine.proofs.Ran.{later-on, done-on}
use Rattle.run_engine.proofs.Answers.{fault-cause, fault-early, unfinished-to-cause, same-held, fit, is-run, unkept-cause, unkept-left, unkept-no-data}
use Rattle.run_engine.proofs.Early.{early-left, unfinished-early}
use Rattle.run_engine.proofs.Given.{later-out, released-back}
use Rattle.run_engine.proofs.Remembered.{are-remembered}
use Rattle.run_engine.proofs.job.Job.close.Goals as goal

pub returns-in-Err-clause-err : goal.returns-in-Err-clause-err
returns-in-Err-clause-err g c = λ stop handed first ran.
    let s = g.S.Source in
    let k = g.K.Sink in
    let fs = g.P.PlugFilter in
    let ts = g.Q.PlugTally in
    let files = g.F.Files in
    let stages = c.args.stages.now in
    let works = c.args.self.works.items in
    let came = subst (HaveCome s k fs ts stop stages ran.before works) c.in-Done.is ran.came in
    let found : refusal_for c.in-Done.ended.faults.items ≡ Some c.in-Err.refusal = subst (λ fs. refusal_for fs ≡ Some c.in-Err.refusal) c.as_slice.ensures.value c.in-Err.ensures.err in
    fault-cause s k fs ts stop handed first stages ran.before works c.in-Done.ended.faults.items c.in-Done.ended.report.items came (files.faults c.args.files.now) (files.faults c.args.files.now) (files.faults c.release_works-in-Err.new.files)
    ran.ready.count ran.ready.come ran.ready.tell ran.ready.devices (omega arith) c.release_works-in-Err.ensures.counted c.in-Err.refusal found

pub returns-in-Err-clause-left : goal.returns-in-Err-clause-left
returns-in-Err-clause-left g c = λ stop handed m ran.
    let s = g.S.Source in
    let k = g.K.Sink in
    let fs = g.P.PlugFilter in
    let ts = g.Q.PlugTally in
    let files = g.F.Files in
    let stages = c.args.stages.now in
    let works = c.args.self.works.items in
    let came = subst (HaveCome s k fs ts stop stages ran.before works) c.in-Done.is ran.came in
    let found : refusal_for c.in-Done.ended.faults.items ≡ Some c.in-Err.refusal = subst (λ fs. refusal_for fs ≡ Some c.in-Err.refusal) c.as_slice.ensures.value c.in-Err.ensures.err in
    early-left c.in-Err.refusal (files.map c.args.files.now) (files.map c.release_works-in-Err.new.files) (run_of handed m stages)
    (fault-early s k fs ts stop handed (Some m) stages ran.before works c.in-Done.ended.faults.items c.in-Done.ended.report.items came c.in-Err.refusal found) c.release_works-in-Err.ensures.settles.map

pub returns-in-Err-clause-refused : goal.returns-in-Err-clause-refused
returns-in-Err-clause-refused g c = λ refusal came.
    let met : refusal_for c.in-Done.ended.faults.items ≡ Some refusal = subst (CameTo {S = g.row.S.Denot} {K = g.row.K.Denot} {P = g.row.P.Denot} {Q = g.row.Q.Denot} {E = g.row.E.Denot} refusal) c.in-Done.is came in
    let found : refusal_for c.in-Done.ended.faults.items ≡ Some c.in-Err.refusal = subst (λ fs. refusal_for fs ≡ Some c.in-Err.refusal) c.as_slice.ensures.value c.in-Err.ensures.err in
    let both : Some c.in-Err.refusal ≡ Some refusal = sym found ∙ met in
    let same : c.in-Err.refusal ≡ refusal = cc in
    (ap Err same, c.release_works-in-Err.ensures.settles.map)

pub returns-in-Err-outcome-clause-err : goal.returns-in-Err-outcome-clause-err
returns-in-Err-outcome-clause-err g c = λ stop handed first ran.
    let s = g.S.Source in
    let k = g.K.Sink in
    let fs = g.P.PlugFilter in
    let ts = g.Q.PlugTally in
    let files = g.F.Files in
    let stages = c.args.stages.now in
    let faults = faults_of s.faults k.faults in
    let works = c.args.self.works.items in
    let done = c.finish-works.result.works.items in
    let came = subst (HaveCome s k fs ts stop stages ran.before works) c.in-Done.is ran.came in
    let none : refusal_for c.in-Done.ended.faults.items ≡ None = subst (λ fs. refusal_for fs ≡ None) c.as_slice.ensures.value c.in_default.ensures.ok in
    let sound = not-refused c.in-Done.ended.faults.items none in
    let unfinished = err-of (IsUnfinished faults works done) c.finish-works.result.outcome c.in-Err-outcome.refusal c.in-Err-outcome.is c.finish-works.ensures.err in
    cause-by (Rose (files.faults c.args.files.now) (files.faults c.release_works-in-Err-outcome.new.files)) handed first stages stop c.in-Err-outcome.refusal (unfinished-to-cause k fs ts faults handed first stages works done (files.faults c.args.files.now) (files.faults c.args.files.now) (files.faults c.release_works-in-Err-outcome.new.files)
    (ran.later.count ∙ ran.ready.count) (fit s k fs ts handed first stages ran.before works ran.ready faults ran.later) ran.ready.come
    c.in-Done.ended.report.items (λ m e. came.sound sound (opened_in handed m stages) (ran.ready.tell m e)) (omega arith) c.release_works-in-Err-outcome.ensures.counted c.in-Err-outcome.refusal unfinished)

pub returns-in-Err-outcome-clause-left : goal.returns-in-Err-outcome-clause-left
returns-in-Err-outcome-clause-left g c = λ stop handed m ran.
    let s = g.S.Source in
    let k = g.K.Sink in
    let fs = g.P.PlugFilter in
    let ts = g.Q.PlugTally in
    let files = g.F.Files in
    let stages = c.args.stages.now in
    let faults = faults_of s.faults k.faults in
    let works = c.args.self.works.items in
    let done = c.finish-works.result.works.items in
    let unfinished = err-of (IsUnfinished faults works done) c.finish-works.result.outcome c.in-Err-outcome.refusal c.in-Err-outcome.is c.finish-works.ensures.err in
    early-left c.in-Err-outcome.refusal (files.map c.args.files.now) (files.map c.release_works-in-Err-outcome.new.files) (run_of handed m stages)
    (unfinished-early faults works done c.in-Err-outcome.refusal unfinished) c.release_works-in-Err-outcome.ensures.settles.map

pub returns-in-Err-outcome-clause-lent : goal.returns-in-Err-outcome-clause-lent
returns-in-Err-outcome-clause-lent g c =
    let faults = faults_of g.S.Source.faults g.K.Sink.faults in
    let works = c.args.self.works.items in
    let done = c.finish-works.result.works.items in
    λ others h. c.release_works-in-Err-outcome.ensures.settles.lent others (h ∙ ap (λ n. others + n) (sym (same-held faults works done c.finish-works.ensures.later)))

pub returns-in-Err-outcome-clause-refused : goal.returns-in-Err-outcome-clause-refused
returns-in-Err-outcome-clause-refused g c = λ refusal came. absurd (none-came refusal c.args.self.step c.in-Done.ended c.in-Done.is c.as_slice.ensures.value c.in_default.ensures.ok came)

pub keep_all-requires-clause-fit : goal.keep_all-requires-clause-fit
keep_all-requires-clause-fit g c =
    let s = g.S.Source in
    let k = g.K.Sink in
    let fs = g.P.PlugFilter in
    let ts = g.Q.PlugTally in
    let files = g.F.Files in
    let stages = c.args.stages.now in
    let faults = faults_of s.faults k.faults in
    let works = c.args.self.works.items in
    let done = c.finish-works.result.works.items in
    let handed = c.requires.ran.1 in
    let first = c.requires.ran.2 in
    let ran = c.requires.ran.3 in
    fit s k fs ts handed first stages ran.before done ran.ready faults (later-on faults ran.before works done ran.later c.finish-works.ensures.later)

pub returns-in-Err-keep_all-clause-err : goal.returns-in-Err-keep_all-clause-err
returns-in-Err-keep_all-clause-err g c = λ stop handed first ran.
    let s = g.S.Source in
    let k = g.K.Sink in
    let fs = g.P.PlugFilter in
    let ts = g.Q.PlugTally in
    let files = g.F.Files in
    let stages = c.args.stages.now in
    let faults = faults_of s.faults k.faults in
    let works = c.args.self.works.items in
    let done = c.finish-works.result.works.items in
    let why = c.in-Err-keep_all.refusal in
    let rose = Rose (files.faults c.args.files.now) (files.faults c.keep_all.new.files) in
    let came = subst (HaveCome s k fs ts stop stages ran.before works) c.in-Done.is ran.came in
    let none : refusal_for c.in-Done.ended.faults.items ≡ None = subst (λ fs. refusal_for fs ≡ None) c.as_slice.ensures.value c.in_default.ensures.ok in
    let sound = not-refused c.in-Done.ended.faults.items none in
    let later = later-on faults ran.before works done ran.later c.finish-works.ensures.later in
    let counts = c.in-Done.ended.report.items in
    let ended : (opened : Opened) → AreGiven s fs ts stages ran.before opened → AreDone k.bytes stages opened done counts = λ opened tell.
    done-on faults ran.before works done ran.later c.finish-works.ensures.later k.bytes stages opened counts (on-ok c.finish-works.result.outcome c.in_default-outcome.field-0 c.in_default-outcome.is c.finish-works.ensures.finished) c.finish-works.ensures.kept (came.sound sound opened tell) in
    cause-by rose handed first stages stop why (unkept-cause s k fs ts handed first stages ran.before done ran.ready faults later counts ended rose (files.map c.args.files.now) (files.map c.keep_all.new.files) why c.in-Err-keep_all.ensures.err)

pub returns-in-Err-keep_all-clause-left : goal.returns-in-Err-keep_all-clause-left
returns-in-Err-keep_all-clause-left g c = λ stop handed m ran.
    let s = g.S.Source in
    let k = g.K.Sink in
    let fs = g.P.PlugFilter in
    let ts = g.Q.PlugTally in
    let files = g.F.Files in
    let stages = c.args.stages.now in
    let faults = faults_of s.faults k.faults in
    let works = c.args.self.works.items in
    let done = c.finish-works.result.works.items in
    let why = c.in-Err-keep_all.refusal in
    let old = files.map c.args.files.now in
    let new = files.map c.keep_all.new.files in
    let came = subst (HaveCome s k fs ts stop stages ran.before works) c.in-Done.is ran.came in
    let none : refusal_for c.in-Done.ended.faults.items ≡ None = subst (λ fs. refusal_for fs ≡ None) c.as_slice.ensures.value c.in_default.ensures.ok in
    let sound = not-refused c.in-Done.ended.faults.items none in
    let later = later-on faults ran.before works done ran.later c.finish-works.ensures.later in
    let counts = c.in-Done.ended.report.items in
    let ended : (opened : Opened) → AreGiven s fs ts stages ran.before opened → AreDone k.bytes stages opened done counts = λ opened tell.
    done-on faults ran.before works done ran.later c.finish-works.ensures.later k.bytes stages opened counts (on-ok c.finish-works.result.outcome c.in_default-outcome.field-0 c.in_default-outcome.is c.finish-works.ensures.finished) c.finish-works.ensures.kept (came.sound sound opened tell) in
    unkept-left s k fs ts handed (Some m) stages ran.before done ran.ready faults later counts ended (Rose (files.faults c.args.files.now) (files.faults c.keep_all.new.files)) old new why c.in-Err-keep_all.ensures.err m refl

pub returns-in-Err-keep_all-clause-refused : goal.returns-in-Err-keep_all-clause-refused
returns-in-Err-keep_all-clause-refused g c = λ refusal came. absurd (none-came refusal c.args.self.step c.in-Done.ended c.in-Done.is c.as_slice.ensures.value c.in_default.ensures.ok came)

pub returns-in-Err-keep_all-clause-untold : goal.returns-in-Err-keep_all-clause-untold
returns-in-Err-keep_all-clause-untold g c = c.keep_all.ensures.untold

pub returns-in-Err-keep_all-clause-lent : goal.returns-in-Err-keep_all-clause-lent
returns-in-Err-keep_all-clause-lent g c =
    let faults = faults_of g.S.Source.faults g.K.Sink.faults in
    let works = c.args.self.works.items in
    let done = c.finish-works.result.works.items in
    λ others h. c.keep_all.ensures.lent others (h ∙ ap (λ n. others + n) (sym (same-held faults works done c.finish-works.ensures.later)))

pub returns-in-Ok-clause-ok : goal.returns-in-Ok-clause-ok
returns-in-Ok-clause-ok g c = λ stop handed m ran.
    let s = g.S.Source in
    let k = g.K.Sink in
    let fs = g.P.PlugFilter in
    let ts = g.Q.PlugTally in
    let files = g.F.Files in
    let stages = c.args.stages.now in
    let faults = faults_of s.faults k.faults in
    let works = c.args.self.works.items in
    let done = c.finish-works.result.works.items in
    let came = subst (HaveCome s k fs ts stop stages ran.before works) c.in-Done.is ran.came in
    let none : refusal_for c.in-Done.ended.faults.items ≡ None = subst (λ fs. refusal_for fs ≡ None) c.as_slice.ensures.value c.in_default.ensures.ok in
    let sound = not-refused c.in-Done.ended.faults.items none in
    let later = later-on faults ran.before works done ran.later c.finish-works.ensures.later in
    let counts = c.in-Done.ended.report.items in
    let ended : (opened : Opened) → AreGiven s fs ts stages ran.before opened → AreDone k.bytes stages opened done counts = λ opened tell.
    done-on faults ran.before works done ran.later c.finish-works.ensures.later k.bytes stages opened counts (on-ok c.finish-works.result.outcome c.in_default-outcome.field-0 c.in_default-outcome.is c.finish-works.ensures.finished) c.finish-works.ensures.kept (came.sound sound opened tell) in
    is-run s k fs ts handed (Some m) stages ran.before done ran.ready faults later counts ended m refl (files.map c.args.files.now) (files.map c.keep_all.new.files) c.keep_all.ensures.untold c.in-Ok.ensures.ok

pub returns-in-Ok-clause-remembered : goal.returns-in-Ok-clause-remembered
returns-in-Ok-clause-remembered g c = λ stop handed m before ran is named out.
    let s = g.S.Source in
    let k = g.K.Sink in
    let fs = g.P.PlugFilter in
    let ts = g.Q.PlugTally in
    let stages = c.args.stages.now in
    let works = c.args.self.works.items in
    let came = subst (HaveCome s k fs ts stop stages ran.before works) c.in-Done.is ran.came in
    let none : refusal_for c.in-Done.ended.faults.items ≡ None = subst (λ fs. refusal_for fs ≡ None) c.as_slice.ensures.value c.in_default.ensures.ok in
    let ended = came.sound (not-refused c.in-Done.ended.faults.items none) (opened_in handed m stages) (ran.ready.tell m refl) in
    are-remembered fs ts stages before (subst (λ h. AreNamed h stages) is named) (faults_of s.faults k.faults) ran.before works c.finish-works.result.works.items ran.ready.count ran.later
    c.finish-works.ensures.later c.finish-works.ensures.others (subst (AreHandedIn fs ts stages ran.before) is ran.ready.handed) (opened_in handed m stages) is
    c.args.places.now c.keep_all.new.places out c.in-Ok.ensures.put ended.leaves

pub returns-in-Ok-clause-refused : goal.returns-in-Ok-clause-refused
returns-in-Ok-clause-refused g c = λ refusal came. absurd (none-came refusal c.args.self.step c.in-Done.ended c.in-Done.is c.as_slice.ensures.value c.in_default.ensures.ok came)

pub returns-in-Ok-clause-untold : goal.returns-in-Ok-clause-untold
returns-in-Ok-clause-untold g c = c.keep_all.ensures.untold

pub returns-in-Ok-clause-lent : goal.returns-in-Ok-clause-lent
returns-in-Ok-clause-lent g c =
    let faults = faults_of g.S.Source.faults g.K.Sink.faults in
    let works = c.args.self.works.items in
    let done = c.finish-works.result.works.items in
    λ others h. c.keep_all.ensures.lent others (h ∙ ap (λ n. others + n) (sym (same-held faults works done c.finish-works.ensures.later)))

pub returns-in-Err-clause-blamed : goal.returns-in-Err-clause-blamed
returns-in-Err-clause-blamed g c = λ i o same.
    let s = g.S.Source in
    let k = g.K.Sink in
    let fs = g.P.PlugFilter in
    let ts = g.Q.PlugTally in
    let stages = c.args.stages.now in
    let works = c.args.self.works.items in
    let stop = c.requires.ran.0 in
    let ran = c.requires.ran.3 in
    let came = subst (HaveCome s k fs ts stop stages ran.before works) c.in-Done.is ran.came in
    let found : refusal_for c.in-Done.ended.faults.items ≡ Some c.in-Err.refusal = subst (λ fs. refusal_for fs ≡ Some c.in-Err.refusal) c.as_slice.ensures.value c.in-Err.ensures.err in
    let is : c.in-Err.refusal ≡ Device (Stage i) o = cc in
    let first = failed-first s k fs ts stages stop ran.before works c.in-Done.ended.faults.items c.in-Done.ended.report.items came ran.later ran.ready.calm i o (found ∙ ap (λ r. Some r) is) in
    subst (λ step. IsBlamed (faults_of s.faults k.faults) (Rose (g.F.Files.faults c.args.files.now) (g.F.Files.faults c.release_works-in-Err.new.files)) works step i o) (sym c.in-Done.is) (inl first)

pub returns-in-Err-outcome-clause-blamed : goal.returns-in-Err-outcome-clause-blamed
returns-in-Err-outcome-clause-blamed g c = λ i o same.
    let s = g.S.Source in
    let k = g.K.Sink in
    let fs = g.P.PlugFilter in
    let ts = g.Q.PlugTally in
    let files = g.F.Files in
    let stages = c.args.stages.now in
    let faults = faults_of s.faults k.faults in
    let works = c.args.self.works.items in
    let done = c.finish-works.result.works.items in
    let none : refusal_for c.in-Done.ended.faults.items ≡ None = subst (λ fs. refusal_for fs ≡ None) c.as_slice.ensures.value c.in_default.ensures.ok in
    let sound = not-refused c.in-Done.ended.faults.items none in
    let unfinished = err-of (IsUnfinished faults works done) c.finish-works.result.outcome c.in-Err-outcome.refusal c.in-Err-outcome.is c.finish-works.ensures.err in
    let is : c.in-Err-outcome.refusal ≡ Device (Stage i) o = cc in
    let ran = c.requires.ran.3 in
    let came = subst (HaveCome s k fs ts c.requires.ran.0 stages ran.before works) c.in-Done.is ran.came in
    let calm = all-calm s k fs ts stages c.requires.ran.0 ran.before works c.in-Done.ended.faults.items c.in-Done.ended.report.items came ran.later ran.ready.calm sound in
    let last = failed-finish s k fs ts stages works done c.in-Done.ended.faults.items (files.faults c.args.files.now) (files.faults c.release_works-in-Err-outcome.new.files) sound calm c.release_works-in-Err-outcome.ensures.counted i o
    (subst (IsUnfinished faults works done) is unfinished) in
    subst (λ step. IsBlamed faults (Rose (files.faults c.args.files.now) (files.faults c.release_works-in-Err-outcome.new.files)) works step i o) (sym c.in-Done.is) (inr last)

pub returns-in-Err-keep_all-clause-blamed : goal.returns-in-Err-keep_all-clause-blamed
returns-in-Err-keep_all-clause-blamed g c = λ i o same.
    let s = g.S.Source in
    let k = g.K.Sink in
    let fs = g.P.PlugFilter in
    let ts = g.Q.PlugTally in
    let files = g.F.Files in
    let stages = c.args.stages.now in
    let faults = faults_of s.faults k.faults in
    let works = c.args.self.works.items in
    let done = c.finish-works.result.works.items in
    let ran = c.requires.ran.3 in
    let none : refusal_for c.in-Done.ended.faults.items ≡ None = subst (λ fs. refusal_for fs ≡ None) c.as_slice.ensures.value c.in_default.ensures.ok in
    let sound = not-refused c.in-Done.ended.faults.items none in
    let rose = Rose (files.faults c.args.files.now) (files.faults c.keep_all.new.files) in
    let is : c.in-Err-keep_all.refusal ≡ Device (Stage i) o = cc in
    let came = subst (HaveCome s k fs ts c.requires.ran.0 stages ran.before works) c.in-Done.is ran.came in
    let calm = all-calm s k fs ts stages c.requires.ran.0 ran.before works c.in-Done.ended.faults.items c.in-Done.ended.report.items came ran.later ran.ready.calm sound in
    let last = failed-all s k fs ts stages works done c.in-Done.ended.faults.items rose (files.map c.args.files.now) (files.map c.keep_all.new.files) sound calm (fit s k fs ts c.requires.ran.1 c.requires.ran.2 stages ran.before works ran.ready faults ran.later)
    c.finish-works.ensures.later c.finish-works.ensures.kept i o (subst (IsUnkept k.bytes rose (files.map c.args.files.now) (files.map c.keep_all.new.files) stages done) is c.in-Err-keep_all.ensures.err) in
    subst (λ step. IsBlamed faults rose works step i o) (sym c.in-Done.is) (inr last)

pub returns-in-Err-clause-read : goal.returns-in-Err-clause-read
returns-in-Err-clause-read g c = λ refusal came. c.release_works-in-Err.ensures.read

pub returns-in-Err-outcome-clause-read : goal.returns-in-Err-outcome-clause-read
returns-in-Err-outcome-clause-read g c = λ refusal came. absurd (none-came refusal c.args.self.step c.in-Done.ended c.in-Done.is c.as_slice.ensures.value c.in_default.ensures.ok came)

pub returns-in-Err-keep_all-clause-read : goal.returns-in-Err-keep_all-clause-read
returns-in-Err-keep_all-clause-read g c = λ refusal came. absurd (none-came refusal c.args.self.step c.in-Done.ended c.in-Done.is c.as_slice.ensures.value c.in_default.ensures.ok came)

pub returns-in-Ok-clause-read : goal.returns-in-Ok-clause-read
returns-in-Ok-clause-read g c = λ refusal came. absurd (none-came refusal c.args.self.step c.in-Done.ended c.in-Done.is c.as_slice.ensures.value c.in_default.ensures.ok came)

pub returns-in-Err-keep_all-clause-data : goal.returns-in-Err-keep_all-clause-data
returns-in-Err-keep_all-clause-data g c = λ i f e.
    let is : c.in-Err-keep_all.refusal ≡ Data i f = cc in
    absurd (unkept-no-data g.K.Sink.bytes (Rose (g.F.Files.faults c.args.files.now) (g.F.Files.faults c.keep_all.new.files)) (g.F.Files.map c.args.files.now) (g.F.Files.map c.keep_all.new.files) c.args.stages.now c.finish-works.result.works.items c.in-Err-keep_all.refusal i f c.in-Err-keep_all.ensures.err is)

pub returns-in-Short-clause-back : goal.returns-in-Short-clause-back
returns-in-Short-clause-back g c = λ before out. released-back g.P.PlugFilter g.Q.PlugTally c.args.stages.now before c.args.self.works.items c.args.places.now c.release_works.new.places
    (c.release_works.ensures.filters _ _) (c.release_works.ensures.tallies _ _) out

pub returns-in-Err-clause-back : goal.returns-in-Err-clause-back
returns-in-Err-clause-back g c = λ before out. released-back g.P.PlugFilter g.Q.PlugTally c.args.stages.now before c.args.self.works.items c.args.places.now c.release_works-in-Err.new.places
    (c.release_works-in-Err.ensures.filters _ _) (c.release_works-in-Err.ensures.tallies _ _) out

pub returns-in-Err-outcome-clause-back : goal.returns-in-Err-outcome-clause-back
returns-in-Err-outcome-clause-back g c = λ before out. released-back g.P.PlugFilter g.Q.PlugTally c.args.stages.now before c.finish-works.result.works.items c.args.places.now c.release_works-in-Err-outcome.new.places
    (c.release_works-in-Err-outcome.ensures.filters _ _) (c.release_works-in-Err-outcome.ensures.tallies _ _)
    (later-out (faults_of g.S.Source.faults g.K.Sink.faults) c.args.self.works.items c.finish-works.result.works.items c.finish-works.ensures.later out)

pub returns-in-Err-keep_all-clause-back : goal.returns-in-Err-keep_all-clause-back
returns-in-Err-keep_all-clause-back g c = λ before out. released-back g.P.PlugFilter g.Q.PlugTally c.args.stages.now before c.finish-works.result.works.items c.args.places.now c.keep_all.new.places
    (c.keep_all.ensures.filters _ _) (c.keep_all.ensures.tallies _ _)
    (later-out (faults_of g.S.Source.faults g.K.Sink.faults) c.args.self.works.items c.finish-works.result.works.items c.finish-works.ensures.later out)

pub returns-in-Ok-clause-back : goal.returns-in-Ok-clause-back
returns-in-Ok-clause-back g c = λ before out. released-back g.P.PlugFilter g.Q.PlugTally c.args.stages.now before c.finish-works.result.works.items c.args.places.now c.keep_all.new.places
    (c.keep_all.ensures.filters _ _) (c.keep_all.ensures.tallies _ _)
    (later-out (faults_of g.S.Source.faults g.K.Sink.faults) c.args.self.works.items c.finish-works.result.works.items c.finish-works.ensures.later out)

pub returns-in-Err-clause-least : goal.returns-in-Err-clause-least
returns-in-Err-clause-least g c =
    let s = g.S.Source in
    let k = g.K.Sink in
    let fs = g.P.PlugFilter in
    let ts = g.Q.PlugTally in
    let files = g.F.Files in
    let stages = c.args.stages.now in
    let works = c.args.self.works.items in
    let stop = c.requires.ran.0 in
    let ran = c.requires.ran.3 in
    let came = subst (HaveCome s k fs ts stop stages ran.before works) c.in-Done.is ran.came in
    let found : refusal_for c.in-Done.ended.faults.items ≡ Some c.in-Err.refusal = subst (λ fs. refusal_for fs ≡ Some c.in-Err.refusal) c.as_slice.ensures.value c.in-Err.ensures.err in
    turns-named s k stages (files.counts c.args.files.now) (files.counts c.release_works-in-Err.new.files) c.in-Done.ended.faults.items works c.in-Err.refusal
    (λ i o is. failed-first s k fs ts stages stop ran.before works c.in-Done.ended.faults.items c.in-Done.ended.report.items came ran.later ran.ready.calm i o (found ∙ ap (λ r. Some r) is))
    (λ i f is. faulty-calm s k fs ts stages stop ran.before works c.in-Done.ended.faults.items c.in-Done.ended.report.items came ran.later ran.ready.calm i f (found ∙ ap (λ r. Some r) is))
    (ran.later.count ∙ ran.ready.count) (fit s k fs ts c.requires.ran.1 c.requires.ran.2 stages ran.before works ran.ready (faults_of s.faults k.faults) ran.later) c.release_works-in-Err.ensures.told

pub returns-in-Err-outcome-clause-least : goal.returns-in-Err-outcome-clause-least
returns-in-Err-outcome-clause-least g c =
    let s = g.S.Source in
    let k = g.K.Sink in
    let fs = g.P.PlugFilter in
    let ts = g.Q.PlugTally in
    let files = g.F.Files in
    let stages = c.args.stages.now in
    let faults = faults_of s.faults k.faults in
    let works = c.args.self.works.items in
    let done = c.finish-works.result.works.items in
    let ran = c.requires.ran.3 in
    let came = subst (HaveCome s k fs ts c.requires.ran.0 stages ran.before works) c.in-Done.is ran.came in
    let none : refusal_for c.in-Done.ended.faults.items ≡ None = subst (λ fs. refusal_for fs ≡ None) c.as_slice.ensures.value c.in_default.ensures.ok in
    let sound = not-refused c.in-Done.ended.faults.items none in
    let calm = all-calm s k fs ts stages c.requires.ran.0 ran.before works c.in-Done.ended.faults.items c.in-Done.ended.report.items came ran.later ran.ready.calm sound in
    let unfinished = err-of (IsUnfinished faults works done) c.finish-works.result.outcome c.in-Err-outcome.refusal c.in-Err-outcome.is c.finish-works.ensures.err in
    let later = c.finish-works.ensures.later in
    finish-named s k stages (files.counts c.args.files.now) (files.counts c.release_works-in-Err-outcome.new.files) works done c.in-Err-outcome.refusal calm (ran.later.count ∙ ran.ready.count) later.count later.op
    (fit s k fs ts c.requires.ran.1 c.requires.ran.2 stages ran.before done ran.ready faults (later-on faults ran.before works done ran.later later)) unfinished c.release_works-in-Err-outcome.ensures.told

pub returns-in-Err-keep_all-clause-least : goal.returns-in-Err-keep_all-clause-least
returns-in-Err-keep_all-clause-least g c =
    let s = g.S.Source in
    let k = g.K.Sink in
    let fs = g.P.PlugFilter in
    let ts = g.Q.PlugTally in
    let files = g.F.Files in
    let stages = c.args.stages.now in
    let faults = faults_of s.faults k.faults in
    let works = c.args.self.works.items in
    let done = c.finish-works.result.works.items in
    let ran = c.requires.ran.3 in
    keep-named s k stages (files.counts c.args.files.now) (files.counts c.keep_all.new.files) done (Rose (files.faults c.args.files.now) (files.faults c.keep_all.new.files)) (files.map c.args.files.now) (files.map c.keep_all.new.files) c.in-Err-keep_all.refusal
    (fit s k fs ts c.requires.ran.1 c.requires.ran.2 stages ran.before done ran.ready faults (later-on faults ran.before works done ran.later c.finish-works.ensures.later)) c.in-Err-keep_all.ensures.err
