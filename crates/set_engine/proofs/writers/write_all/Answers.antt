use Rattle.std.proofs.Common.{◌≡◌, ◌≤◌, ◌<◌, ◌+◌, ◌++◌, ℕ, List, length, take, true, None, ap, sym, subst, ◌∙◌, arith}
use Rattle.cloud_points.specs.Flows.{all_of}
use Rattle.cloud_points.specs.Queue.{up_to_limit}
use Rattle.cloud_points.specs.declared.point.Point.{Point}
use Rattle.set_filters.proofs.Firsts.{count_more, all_more}
use Rattle.stage_kinds.specs.Files.{chosen}
use Rattle.stage_kinds.specs.Stages.{first_stop, holds_chosen, writes_of}
use Rattle.stage_kinds.specs.declared.file_form.Writing.{Writing}
use Rattle.whole_filters.specs.Held.{view_at}
use Rattle.set_engine.specs.Stops.{IsStopBehind}
use Rattle.set_engine.proofs.Firsts.{stops_at, sound_all, none_more, written_both}
use Rattle.set_engine.proofs.writers.write_all.Goals as goal

pub returns-in-Err-clause-err : goal.returns-in-Err-clause-err
returns-in-Err-clause-err g c = λ begun.
    let flow = c.args.views.now in
    let x = writes_of c.args.writer.now in
    let now = c.loop-v.invariant in
    let stop = c.in-Err.why in
    let inside : c.loop-v.v ≤ length flow.views = (let t = c.loop-v-test.true in let n = c.views-v-end.ensures in omega (arith, t, n)) in
    let k = length (chosen x.only (all_of (take c.loop-v.v flow.views))) in
    stops_at x flow c.loop-v.v c.loop-v.number c.view.result.now stop inside c.view.ensures now.number (now.none begun)
    (subst (λ y. IsStopBehind c.loop-v.number (first_stop y (up_to_limit k) c.view.result.now) stop) now.form (c.in-Err.ensures.err k (now.count begun)))

pub loop-v-preserved : goal.loop-v-preserved
loop-v-preserved g c =
    let flow = c.args.views.now in
    let x = writes_of c.args.writer.now in
    let now = c.loop-v.invariant in
    let v = c.loop-v.v in
    let before = all_of (take v flow.views) in
    let k = length (chosen x.only before) in
    let inside : v < length flow.views = (let t = c.loop-v-test.true in let n = c.views-v-end.ensures in omega (arith, t, n)) in
    let more = count_more flow.views v flow.open_view inside in
    let whole = all_more flow.views v flow.open_view inside in
    let size : length c.view.result.now ≡ length (view_at flow v) = ap length c.view.ensures in
    record {
      number = (let a = c.in-Ok.ensures.ok in let b = now.number in omega (arith, a, b, more, size));
      form = c.write_view.ensures.form ∙ now.form;
      none = λ begun. ap (first_stop x 0) whole ∙ none_more x before (view_at flow v) (now.none begun)
          (subst (λ y. first_stop y (up_to_limit k) (view_at flow v) ≡ None) now.form (subst (λ ps. first_stop (writes_of c.loop-v.writer) (up_to_limit k) ps ≡ None) c.view.ensures (c.in-Ok.ensures.sound k (now.count begun))));
      count = λ begun.
          let only = ap (λ (y : Writing). y.only) now.form in
          c.in-Ok.ensures.count k (now.count begun)
          ∙ (λ i. up_to_limit (k + length (chosen (only i) (c.view.ensures i))))
          ∙ ap up_to_limit (sym (ap (λ ps. length (chosen x.only ps)) whole ∙ written_both x before (view_at flow v)));
      holds = λ held. subst (λ ps. holds_chosen g.K.Sink.bytes c.write_view.new.writer ps ≡ true)
          (ap (λ ps. before ++ ps) c.view.ensures ∙ sym whole)
          (c.in-Ok.ensures.holds before (now.holds held));
      calm = c.in-Ok.ensures.calm (λ e. cc) ∙ now.calm;
    }

pub returns-in-Ok-write_view-clause-sound : goal.returns-in-Ok-write_view-clause-sound
returns-in-Ok-write_view-clause-sound g c = λ begun.
    let flow = c.args.views.now in
    let x = writes_of c.args.writer.now in
    let now = c.loop-v.invariant in
    let end = c.views-last.ensures in
    let at : c.loop-v.v ≡ c.views-last.result = (let t = c.loop-v-test.false in let n = c.views-v-end.ensures in let e = c.loop-v.auto.v-end in omega (arith, t, n, end, e)) in
    let k = length (chosen x.only (all_of (take c.loop-v.v flow.views))) in
    sound_all x flow c.loop-v.v c.view-2.result.now (omega (arith, at, end)) (c.view-2.ensures ∙ ap (view_at flow) (sym at)) (now.none begun)
    (subst (λ y. first_stop y (up_to_limit k) c.view-2.result.now ≡ None) now.form (c.in-Ok-write_view.ensures.sound k (now.count begun)))

pub returns-in-Err-write_view-clause-err : goal.returns-in-Err-write_view-clause-err
returns-in-Err-write_view-clause-err g c = λ begun.
    let flow = c.args.views.now in
    let x = writes_of c.args.writer.now in
    let now = c.loop-v.invariant in
    let stop = c.in-Err-write_view.why in
    let end = c.views-last.ensures in
    let at : c.loop-v.v ≡ c.views-last.result = (let t = c.loop-v-test.false in let n = c.views-v-end.ensures in let e = c.loop-v.auto.v-end in omega (arith, t, n, end, e)) in
    let before : ℕ → List Point = λ v. all_of (take v flow.views) in
    let none : first_stop x 0 (before c.views-last.result) ≡ None = ap (λ v. first_stop x 0 (before v)) (sym at) ∙ now.none begun in
    let k = length (chosen x.only (before c.views-last.result)) in
    let count = now.count begun ∙ ap (λ v. up_to_limit (length (chosen x.only (before v)))) at in
    let number = now.number ∙ ap (λ v. up_to_limit (length (before v))) at in
    stops_at x flow c.views-last.result c.loop-v.number c.view-2.result.now stop (omega (arith, end)) c.view-2.ensures number none
    (subst (λ y. IsStopBehind c.loop-v.number (first_stop y (up_to_limit k) c.view-2.result.now) stop) now.form (c.in-Err-write_view.ensures.err k count))
