use Rattle.std.proofs.Common.{◌++◌, [], ◌∷◌, cond, sym, ap, ◌∙◌}
use Rattle.cloud_points.specs.Marks.{View_end, piece_marks}
use Rattle.set_engine.proofs.Shown.{end-marks}
use Rattle.set_engine.proofs.showing.show_end.Goals as goal

pub returns-in_ok-end_view-clause-marks : goal.returns-in_ok-end_view-clause-marks
returns-in_ok-end_view-clause-marks g c =
    ap piece_marks c.in_ok-end_view.ensures.ok ∙ end-marks c.args.given.now
    ∙ ap (λ b. piece_marks c.args.given.now ++ cond b (View_end ∷ []) []) (sym (sym c.on_end_view.ensures.goes_on ∙ c.if-on_end_view.true))
