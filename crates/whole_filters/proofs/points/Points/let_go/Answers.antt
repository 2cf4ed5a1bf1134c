use Rattle.std.proofs.Common.{ap, ◌∙◌, ◌≡◌, drop, arith}
use Rattle.whole_filters.proofs.points.Points.let_go.Goals as goal

pub returns-then-self-eq-PIECE : goal.returns-then-self-eq-PIECE
returns-then-self-eq-PIECE c =
    let here : 4096 ≡ c.self.inside.at = grind arith in
    c.let_go.ensures ∙ ap (λ n. drop n c.self.inside.rows) here ∙ c.self.view_is
