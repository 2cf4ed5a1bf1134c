use Rattle.std.proofs.Common.{◌≡◌, ◌<◌, length, take, None, is_some, true, false, ap, sym, subst, ◌∙◌, arith}
use Rattle.cloud_points.specs.Flows.{Flow}
use Rattle.cloud_points.specs.declared.point.Point.{Point}
use Rattle.cloud_points.specs.Marks.{piece_marks, view_marks}
use Rattle.whole_filters.specs.Held.{view_at}
use Rattle.set_engine.specs.Showing.{WasShown}
use Rattle.set_engine.proofs.Shown.{Came, last-split, none-is, piece-split, points-shown, stopped-shown, taken-more, view-shown}
use Rattle.set_engine.proofs.showing.show_pieces.Goals as goal

pub returns-then-is_some : goal.returns-then-is_some
returns-then-is_some g c =
    let work = g.W.Work in
    let first = c.args.work.now in
    let m = work.meaning first in
    let law = g.met.W.Work.cutting first in
    let s = work.state first in
    let flow = c.args.taken.now in
    let now = c.loop-v.invariant in
    let v = c.loop-v.v in
    let before = view_marks (take v flow.views) in
    let old = c.loop-v.work in
    let view = c.view.result.now in
    let mid = c.show_view.new.work in
    let given = c.show_view.new.given in
    let fault = c.in_ok-fault.fault in
    let ensures = c.in_ok-fault.ensures in
    let came : Came (work.meaning old) (work.state old) view c.loop-v.views given (work.state mid) fault = record { after = ensures.state; faults = ensures.fault; gave = ensures.points } in
    let lt : v < length flow.views = (let t = c.loop-v-test.true in let n = c.views-v-end.ensures in omega (arith, t, n)) in
    let split = piece-split flow v view c.view.ensures lt in
    let faulty : is_some fault ≡ true = sym c.is_some.ensures ∙ c.if-is_some.true in
    record {
      shown = stopped-shown m law s (work.state old) before c.loop-v.views now.shown view (work.meaning old) now.meaning given (work.state mid) fault came faulty split.0 flow.open_view (piece_marks flow) split.1;
      uncut = ap (λ (f : Flow Point). f.cut) ensures.points ∙ now.uncut;
      no_device = ensures.no_device;
      meaning = ensures.meaning ∙ now.meaning;
      plain = ensures.plain;
    }

pub loop-v-preserved : goal.loop-v-preserved
loop-v-preserved g c =
    let work = g.W.Work in
    let first = c.args.work.now in
    let m = work.meaning first in
    let law = g.met.W.Work.cutting first in
    let s = work.state first in
    let flow = c.args.taken.now in
    let now = c.loop-v.invariant in
    let v = c.loop-v.v in
    let before = view_marks (take v flow.views) in
    let old = c.loop-v.work in
    let view = c.view.result.now in
    let mid = c.show_view.new.work in
    let given = c.show_view.new.given in
    let fault = c.in_ok-fault.fault in
    let ensures = c.in_ok-fault.ensures in
    let came : Came (work.meaning old) (work.state old) view c.loop-v.views given (work.state mid) fault = record { after = ensures.state; faults = ensures.fault; gave = ensures.points } in
    let lt : v < length flow.views = (let t = c.loop-v-test.true in let n = c.views-v-end.ensures in omega (arith, t, n)) in
    let sound : is_some fault ≡ false = sym c.is_some.ensures ∙ c.if-is_some.false in
    let ended = c.show_end.ensures in
    let new = work.state c.show_end.new.work in
    let same : work.meaning mid ≡ m = c.show_view.ensures.meaning ∙ now.meaning in
    record {
      meaning = ended.meaning ∙ same;
      plain = ended.plain;
      shown = subst (λ ms. WasShown m s ms c.show_end.new.given new None) (sym (taken-more flow v view c.view.ensures lt))
          (view-shown m law s (work.state old) before c.loop-v.views now.shown view (work.meaning old) now.meaning given (work.state mid) fault came
          (none-is fault sound) (work.meaning mid) same new ended.state c.show_end.new.given c.in_ok-show_end.ensures.marks);
      uncut = ended.cut ∙ ap (λ (f : Flow Point). f.cut) ensures.points ∙ now.uncut;
    }

pub returns : goal.returns
returns g c =
    let work = g.W.Work in
    let first = c.args.work.now in
    let m = work.meaning first in
    let law = g.met.W.Work.cutting first in
    let s = work.state first in
    let flow = c.args.taken.now in
    let now = c.loop-v.invariant in
    let v = c.loop-v.v in
    let before = view_marks (take v flow.views) in
    let old = c.loop-v.work in
    let view = c.view-last.result.now in
    let mid = c.show_view-2.new.work in
    let given = c.show_view-2.new.given in
    let fault = c.in_ok-fault-2.fault in
    let ensures = c.in_ok-fault-2.ensures in
    let came : Came (work.meaning old) (work.state old) view c.loop-v.views given (work.state mid) fault = record { after = ensures.state; faults = ensures.fault; gave = ensures.points } in
    let end : v ≡ c.views-2.result = (let t = c.loop-v-test.false in let n = c.views-v-end.ensures in let e = c.loop-v.auto.v-end in let last = c.views-2.ensures in omega (arith, t, n, e, last)) in
    let split = last-split flow v view (c.view-last.ensures ∙ ap (view_at flow) (sym end)) (end ∙ c.views-2.ensures) in
    record {
      shown = subst (λ ms. WasShown m s ms given (work.state mid) fault) (sym split) (points-shown m law s (work.state old) before c.loop-v.views now.shown view (work.meaning old) now.meaning given (work.state mid) fault came);
      uncut = ap (λ (f : Flow Point). f.cut) ensures.points ∙ now.uncut;
      no_device = ensures.no_device;
      meaning = ensures.meaning ∙ now.meaning;
      plain = ensures.plain;
    }
