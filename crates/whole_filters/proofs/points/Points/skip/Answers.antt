use Rattle.std.proofs.Common.{◌∙◌, ap, sym, drop}
use Rattle.std.proofs.lemmas.List.{drop-drop}
use Rattle.whole_filters.proofs.points.Points.skip.Goals as goal

pub returns : goal.returns
returns c =
    let i = c.self.inside in
    c.let_go.ensures ∙ sym (drop-drop 1 i.at i.rows) ∙ ap (λ ps. drop 1 ps) c.self.view_is
