use Rattle.std.proofs.Common.{◌≡◌, ◌||◌, is_some, ap, sym, ◌∙◌}
use Rattle.set_engine.proofs.Shown.{ended-marks, ended-state, flow-fault}
use Rattle.set_engine.proofs.showing.shown_views.Goals.{then-is_cut, else-is_cut}
use Rattle.set_engine.proofs.showing.shown_views.Goals as goal

pub returns : goal.returns
returns g c =
    let work = g.W.Work in
    let m = work.meaning c.args.work.now in
    let s = work.state c.args.work.now in
    let mid = c.show_pieces.new.work in
    let new = c.on_end-ends_view.new.self in
    let flow = c.args.taken.now in
    let fault = c.in_ok-views.field-0.fault in
    let given = c.in_ok-views.field-0.views in
    let came = c.in_ok-views.ensures in
    let cut = c.if-is_cut.cut in
    let is : cut ≡ flow.cut || is_some fault = elim c.if-is_cut.branch [
      | then-is_cut w ↦ w.cut-is ∙ w.if-is_cut.true ∙ ap (λ b. b || is_some fault) (sym (sym c.is_cut.ensures ∙ w.if-is_cut.true))
      | else-is_cut w ↦ w.cut-is ∙ w.is_some-cut.ensures ∙ ap (λ b. b || is_some fault) (sym (sym c.is_cut.ensures ∙ w.if-is_cut.false))
    ] in
    let ended = c.on_end-ends_view.ensures in
    let ends = c.on_end-ends_view.result in
    record {
      value = ended-marks m s (work.state mid) flow given fault came.shown (work.meaning mid) came.meaning cut ends (work.state new) is ended.gives c.in_ok-at_end.field-0 c.in_ok-at_end.ensures;
      fault = sym (flow-fault m s (work.state mid) flow given fault came.shown);
      no_device = came.no_device;
      state = ended-state m s (work.state mid) flow given fault came.shown (work.meaning mid) came.meaning cut ends (work.state new) is ended.gives;
      meaning = ended.meaning ∙ came.meaning;
    }
