use Rattle.std.proofs.Common.{◌<◌, [], ◌∷◌, ◌++◌, take, get_or, length, append_assoc, ap, sym, ◌∙◌, arith}
use Rattle.std.proofs.lemmas.List.{take_more}
use Rattle.cloud_points.specs.Points.{zero_point}
use Rattle.whole_filters.proofs.rows.Rows.push_front.Goals as goal

pub loop-k-preserved : goal.loop-k-preserved
loop-k-preserved c =
    let other = c.args.other.now in
    let k = c.loop-k.k in
    let inside : k < length other = omega (arith, c.loop-k-test.true, c.requires) in
    c.in_ok-push_from.ensures.ok ∙ ap (λ z. z ++ get_or other k zero_point ∷ []) c.loop-k.invariant
    ∙ append_assoc c.args.self.now (take k other) (get_or other k zero_point ∷ [])
    ∙ ap (λ z. c.args.self.now ++ z) (sym (take_more other k zero_point inside))
