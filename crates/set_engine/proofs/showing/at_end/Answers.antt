use Rattle.std.proofs.Common.{◌≡◌, true, cond, sym, ap, ◌∙◌}
use Rattle.set_engine.proofs.Shown.{end-is, with_end}
use Rattle.set_engine.proofs.showing.at_end.Goals.{then-ends_view+in_ok-end_view, else-ends_view, then-cut, else-cut}
use Rattle.set_engine.proofs.showing.at_end.Goals as goal

pub returns : goal.returns
returns c =
    let views = c.args.views in
    let mid = c.if-ends_view.views in
    let ended : mid ≡ cond c.args.ends_view (with_end views) views = elim c.if-ends_view.branch [
      | then-ends_view+in_ok-end_view w ↦ w.views-is ∙ w.in_ok-end_view.ensures.ok ∙ ap (λ b. cond b (with_end views) views) (sym w.if-ends_view.true)
      | else-ends_view w ↦ w.views-is ∙ ap (λ b. cond b (with_end views) views) (sym w.if-ends_view.false)
    ] in
    let last : c.if-cut.views ≡ cond c.args.cut (record mid { cut = true }) mid = elim c.if-cut.branch [
      | then-cut w ↦ w.views-is ∙ w.set_cut.ensures ∙ ap (λ b. cond b (record mid { cut = true }) mid) (sym w.if-cut.true)
      | else-cut w ↦ w.views-is ∙ ap (λ b. cond b (record mid { cut = true }) mid) (sym w.if-cut.false)
    ] in
    end-is views mid c.if-cut.views c.args.ends_view c.args.cut c.requires ended last
