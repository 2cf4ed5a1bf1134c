use Rattle.std.proofs.Common.{◌≡◌, ℕ, ◌+◌, ◌<◌, ◌≤◌, [], ◌∷◌, ◌++◌, length, map, drop, get_or, refl, ap, sym, subst, ◌∙◌, arith, length-append}
use Rattle.std.specs.Prelude.{slice_get, Some}
use Rattle.std.proofs.Math.ListN.{set}
use Rattle.std.proofs.lemmas.List.{get_or-set_same}
use Rattle.std.proofs.lemmas.Option.{same_Some, slice_get-get_or, slice_get_read, get_or_from_slice_get}
use Rattle.answer_model.specs.Values.{or_shown, role_at, row_at, stage_at, las_at}
use Rattle.cloud_points.specs.Events.{is_device}
use Rattle.cloud_points.specs.Flows.{join_all}
use Rattle.pipeline_json.specs.Lists.{has, times}
use Rattle.stage_kinds.specs.Held.{faults_of}
use Rattle.stage_kinds.specs.Stages.{files_by, says_of, shown_by, written_by}
use Rattle.stage_options.specs.declared.stage.StageSpec.{StageSpec}
use Rattle.run_outcome.specs.Faults.{NoneFailed, fault_at}
use Rattle.set_engine.specs.Evaluated.{AreCaused}
use Rattle.set_engine.specs.Given.{IsGivenBy, count_for}
use Rattle.set_engine.specs.Taking.{value_in}
use Rattle.set_engine.proofs.After.{all-stay, caused-more, front, none-with, one-later, put-there}
use Rattle.set_engine.proofs.Joined.{stays-elsewhere}
use Rattle.set_engine.proofs.Starting.{las-told, all-fit, are-later, came}
use Rattle.set_engine.proofs.UpTo.{length-shapes, inside, once, one-more, none-yet, all-done, count_with, or-is}
use Rattle.set_engine.proofs.evaluating.evaluate_stages.Goals as goal

pub loop-i-init : goal.loop-i-init
loop-i-init g c = record {
  values = c.in_ok-values.ensures.len;
  room = c.in_ok-values.ensures.capacity;
  counts = ap length c.new-report.ensures;
  told = ap length c.new-faults.ensures;
  after = all-stay g.P.PlugFilter g.Q.PlugTally (faults_of g.S.Source.faults g.K.Sink.faults) c.args.works.now;
  rest = λ j le. refl;
  caused = record {
    failed = λ j o e. absurd (let none = sym (ap (λ found. fault_at found j) c.new-faults.ensures) ∙ e in cc);
    calm = λ j v w a b quiet. ap (faults_of g.S.Source.faults g.K.Sink.faults) (same_Some w v (sym b ∙ a));
  };
  up_to = λ none opened told. (rw (c.in_ok-values.ensures.items, c.new-report.ensures, c.new-faults.ensures) (none-yet g.K.Sink.bytes g.P.PlugFilter g.Q.PlugTally c.args.stages.now c.requires.tree opened c.args.works.now c.args.works.now));
}

pub take_joined-requires-clause-inside : goal.take_joined-requires-clause-inside
take_joined-requires-clause-inside g c =
    let stages = c.args.stages.now in
    let i = c.loop-i.i in
    let s = c.index-stages-i.result in
    let there : slice_get stages i ≡ Some s = slice_get_read stages (length stages) i s refl c.loop-i-test.true c.index-stages-i.is in
    let ins : (stage_at stages i).ins ≡ c.as_slice-inputs.result.now = ap (λ (t : StageSpec). t.ins) (get_or_from_slice_get stages i s _ there ∙ c.index-stages-i.is) ∙ sym c.as_slice-inputs.ensures in
    let size : length c.as_mut_slice.result.now ≡ i = (let a = ap (λ xs. length xs) c.as_mut_slice.ensures.value in let b = c.loop-i.invariant.values in let k = c.loop-i.values.ok in omega (arith, a, b, k)) in
    subst (λ xs. (k d : ℕ) → k < length xs → get_or xs k d < length c.as_mut_slice.result.now) ins (inside stages c.requires.tree i (length c.as_mut_slice.result.now) size)

pub take_joined-requires-clause-once : goal.take_joined-requires-clause-once
take_joined-requires-clause-once g c =
    let stages = c.args.stages.now in
    let i = c.loop-i.i in
    let s = c.index-stages-i.result in
    let there : slice_get stages i ≡ Some s = slice_get_read stages (length stages) i s refl c.loop-i-test.true c.index-stages-i.is in
    let ins : (stage_at stages i).ins ≡ c.as_slice-inputs.result.now = ap (λ (t : StageSpec). t.ins) (get_or_from_slice_get stages i s _ there ∙ c.index-stages-i.is) ∙ sym c.as_slice-inputs.ensures in
    subst (λ xs. (j : ℕ) → times j xs ≤ 1) ins (once stages c.requires.tree i c.loop-i-test.true)

pub returns-in_err-views-clause-later : goal.returns-in_err-views-clause-later
returns-in_err-views-clause-later g c =
    let s = g.S.Source in
    let bytes = g.K.Sink.bytes in
    let works = c.loop-i.works in
    let i = c.loop-i.i in
    let w = c.stage_views.new.work in
    let inside-works : i < length works = (let a = c.loop-i.auto.works in let b = c.requires.count in let t = c.loop-i-test.true in omega (arith, a, b, t)) in
    are-later g.P.PlugFilter g.Q.PlugTally (faults_of s.faults g.K.Sink.faults) c.args.works.now (set works i w)
    (one-later g.P.PlugFilter g.Q.PlugTally (faults_of s.faults g.K.Sink.faults) c.args.works.now works i _ w c.loop-i.invariant.after (slice_get-get_or works i c.index-works-i.result inside-works) c.stage_views.ensures.after)

pub push-requires : goal.push-requires
push-requires g c =
    let few = c.requires.tree.few in
    let n = length-shapes c.args.stages.now in
    let t = c.loop-i-test.true in
    let l = c.loop-i.invariant.counts in
    (omega arith, omega (arith, few, n, t, l))

pub push-requires-in-loop-i : goal.push-requires-in-loop-i
push-requires-in-loop-i g c =
    let few = c.requires.tree.few in
    let n = length-shapes c.args.stages.now in
    let t = c.loop-i-test.true in
    let l = c.loop-i.invariant.told in
    (omega arith, omega (arith, few, n, t, l))

pub loop-i-preserved : goal.loop-i-preserved
loop-i-preserved g c =
    let stages = c.args.stages.now in
    let i = c.loop-i.i in
    let s = c.index-stages-i.result in
    let there : slice_get stages i ≡ Some s = slice_get_read stages (length stages) i s refl c.loop-i-test.true c.index-stages-i.is in
    let ins : (stage_at stages i).ins ≡ c.as_slice-inputs.result.now = ap (λ (t : StageSpec). t.ins) (get_or_from_slice_get stages i s _ there ∙ c.index-stages-i.is) ∙ sym c.as_slice-inputs.ensures in
    let now = c.loop-i.invariant in
    let old = c.args.works.now in
    let works = c.loop-i.works in
    let values = c.loop-i.values.items in
    let found = c.loop-i.faults.items in
    let v = get_or works i c.index-works-i.result in
    let w = c.stage_views.new.work in
    let given = c.in_ok-views.field-0 in
    let fs = g.P.PlugFilter in
    let ts = g.Q.PlugTally in
    let lt : i < length stages = c.loop-i-test.true in
    let inside-works : i < length works = (let a = c.loop-i.auto.works in let b = c.requires.count in omega (arith, a, b, lt)) in
    let at : slice_get works i ≡ Some v = slice_get-get_or works i c.index-works-i.result inside-works in
    let was : slice_get old i ≡ Some v = sym (now.rest i (omega arith)) ∙ at in
    let size : length values ≡ i = (let b = now.values in let k = c.loop-i.values.ok in omega (arith, b, k)) in
    let input : c.in_ok-taken.taken ≡ join_all (map (value_in values) ((stage_at stages i).ins)) =
    c.in_ok-taken.ensures.joined ∙ ap (λ vs. join_all (map (value_in vs) c.as_slice-inputs.result.now)) c.as_mut_slice.ensures.value ∙ ap (λ js. join_all (map (value_in values) js)) (sym ins) in
    let t = c.index-stages-i-in-loop-i.result in
    let there-now : slice_get stages i ≡ Some t = slice_get_read stages (length stages) i t refl lt c.index-stages-i-in-loop-i.is in
    let here = get_or-set_same works i w _ inside-works in
    let wrote : c.written.result ≡ written_by w = c.written.ensures ∙ ap written_by here in
    let files : c.files.result ≡ files_by w = c.files.ensures ∙ ap files_by here in
    let shown : c.shown.result ≡ shown_by w = c.shown.ensures ∙ ap shown_by here in
    let says : c.says.result ≡ says_of ts w = c.says.ensures ∙ ap (says_of ts) here in
    let both : c.or-wrote.result ≡ or_shown (written_by w) (shown_by w) =
    c.or-wrote.ensures ∙ or-is c.written.result c.shown.result ∙ ap (λ o. or_shown o c.shown.result) wrote ∙ ap (or_shown (written_by w)) shown in
    let counted : c.push.new.self.items ≡ c.loop-i.report.items ++ count_with ts i t given.views w ∷ [] =
    c.push.ensures.items ∙ ap (λ x. c.loop-i.report.items ++ x ∷ []) (c.stage_count-count.ensures ∙ ap (λ o. count_for i t given.views o c.files.result c.says.result) both
    ∙ ap (λ n. count_for i t given.views (or_shown (written_by w) (shown_by w)) n c.says.result) files ∙ ap (count_for i t given.views (or_shown (written_by w) (shown_by w)) (files_by w)) says) in
    let told : c.push-in-loop-i.new.self.items ≡ found ++ given.fault ∷ [] = c.push-in-loop-i.ensures.items in
    let left : length c.take_joined.new.values ≡ i = (let a = c.take_joined.auto.values in let b = ap (λ xs. length xs) c.as_mut_slice.ensures.value in omega (arith, a, b, size)) in
    record {
      values = (let a = c.push_reserved.ensures.len in let b = now.values in omega (arith, a, b));
      room = (let a = c.push_reserved.ensures.capacity in let b = now.room in omega (arith, a, b));
      counts = ap length c.push.ensures.items ∙ length-append c.loop-i.report.items (c.stage_count-count.result ∷ []) ∙ ap (λ n. n + 1) now.counts;
      told = ap length told ∙ length-append found (given.fault ∷ []) ∙ ap (λ n. n + 1) now.told;
      after = one-later fs ts (faults_of g.S.Source.faults g.K.Sink.faults) old works i v w now.after at c.stage_views.ensures.after;
      rest = λ j le. stays-elsewhere works i j w (λ e. absurd (omega (arith, le, e))) ∙ now.rest j (omega (arith, le));
      caused = subst (AreCaused (faults_of g.S.Source.faults g.K.Sink.faults) old (set works i w)) (sym told) (caused-more (faults_of g.S.Source.faults g.K.Sink.faults) old works found i v w given.fault now.told was at c.in_ok-views.ensures.caused now.caused);
      up_to = λ none opened tell.
          let calm = none-with found given.fault (subst NoneFailed told none) in
          let gave : IsGivenBy g.K.Sink.bytes fs ts (role_at stages i) (row_at stages opened i) (las_at stages opened i) c.in_ok-taken.taken w given =
          c.in_ok-views.ensures.ok calm.1 (role_at stages i) (row_at stages opened i) (las_at stages opened i) (all-fit g.S.Source fs ts g.K.Sink.bytes stages old c.requires.starts opened tell i v was) (las-told g.S.Source fs ts g.K.Sink.bytes stages old c.requires.starts opened i v tell.told was) in
          one-more g.K.Sink.bytes fs ts stages c.requires.tree opened old i lt values c.loop-i.report.items found works (now.up_to calm.0 opened tell) size t there-now c.in_ok-taken.taken input w given gave
          c.take_joined.new.values c.push_reserved.new.self.items c.push.new.self.items c.push-in-loop-i.new.self.items (set works i w) left
          (λ j away. c.in_ok-taken.ensures.others j (ap (λ js. has js j) (sym ins) ∙ away) ∙ ap (λ vs. slice_get vs j) c.as_mut_slice.ensures.value)
          (c.push_reserved.ensures.items ∙ ap (λ vs. vs ++ given.views ∷ []) (front c.take_joined.new.values (drop (length c.take_joined.new.values) values) c.loop-i.values.len (left ∙ sym now.values)))
          now.counts counted now.told told (put-there works i w inside-works) (λ j l. stays-elsewhere works i j w (λ e. absurd (omega (arith, l, e))))
          v was c.in_ok-views.ensures.keeps;
    }

pub returns-in_err-taken-clause-later : goal.returns-in_err-taken-clause-later
returns-in_err-taken-clause-later g c = are-later g.P.PlugFilter g.Q.PlugTally (faults_of g.S.Source.faults g.K.Sink.faults) c.args.works.now c.loop-i.works c.loop-i.invariant.after

pub returns-clause-later : goal.returns-clause-later
returns-clause-later g c = are-later g.P.PlugFilter g.Q.PlugTally (faults_of g.S.Source.faults g.K.Sink.faults) c.args.works.now c.loop-i.works c.loop-i.invariant.after

pub returns-clause-ended : goal.returns-clause-ended
returns-clause-ended g c =
    let s = g.S.Source in
    let k = g.K.Sink in
    let stages = c.args.stages.now in
    let old = c.args.works.now in
    let works = c.loop-i.works in
    let now = c.loop-i.invariant in
    let all : c.loop-i.i ≡ length stages = (let t = c.loop-i-test.false in let e = c.loop-i.auto.i-end in omega (arith, t, e)) in
    let size : length works ≡ length stages = (let a = c.loop-i.auto.works in let b = c.requires.count in omega (arith, a, b)) in
    let counts = c.loop-i.report.items in
    let found = c.loop-i.faults.items in
    record {
      count = now.told ∙ all;
      caused = now.caused;
      faulty = λ none opened tell i lt. (now.up_to none opened tell).faults i (omega (arith, all, lt));
      sound = λ quiet opened tell. came s g.P.PlugFilter g.Q.PlugTally k.bytes stages old c.requires.starts (faults_of s.faults k.faults) works now.after opened counts tell.told
          (all-done k.bytes g.P.PlugFilter g.Q.PlugTally stages c.requires.tree opened old c.loop-i.i c.loop-i.values.items counts found works all now.counts size (now.up_to (λ j. ap is_device (quiet j)) opened tell) quiet);
    }
