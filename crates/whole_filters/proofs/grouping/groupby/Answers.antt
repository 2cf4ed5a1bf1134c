use Rattle.std.proofs.Common.{pos, ◌∙◌}
use Rattle.std.proofs.lemmas.Result.{IfOk-weaker}
use Rattle.cloud_points.specs.Points.{key_of}
use Rattle.cloud_points.specs.declared.point.Point.{Point}
use Rattle.packed_chunk.specs.Keys.{middle_of}
use Rattle.whole_filters.specs.Whole.{whole_set}
use Rattle.whole_filters.proofs.Shifted.{groups_less}
use Rattle.whole_filters.proofs.grouping.groupby.Goals as goal

pub returns : goal.returns
returns c =
    IfOk-weaker c.group_by.result _ _
    (λ made e. e ∙ (λ i. whole_set (λ view. groups_less (λ (p : Point). key_of p c.args.dim) (pos (middle_of c.args.dim)) view i) c.args.views))
    c.group_by.ensures
