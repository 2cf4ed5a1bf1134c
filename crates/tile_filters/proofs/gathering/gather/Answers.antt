use Rattle.std.proofs.Common.{sym, ap, ◌∙◌}
use Rattle.std.proofs.lemmas.Result.{IfOk-weaker}
use Rattle.whole_filters.specs.declared.gathering.Gathering.TheVariants.{Sort, GroupBy}
use Rattle.tile_filters.specs.Gathered.{gathered}
use Rattle.tile_filters.proofs.gathering.gather.Goals as goal

pub returns-in_ok-sort-in-Sort : goal.returns-in_ok-sort-in-Sort
returns-in_ok-sort-in-Sort c =
    c.in_ok-sort-in-Sort.ensures.ok ∙ ap (gathered (Sort c.in-Sort.dim c.in-Sort.down)) c.drop_open.ensures
    ∙ ap (λ how. gathered how c.args.views) (sym c.in-Sort.is)

pub returns-in-GroupBy : goal.returns-in-GroupBy
returns-in-GroupBy c =
    IfOk-weaker c.groupby.result _ _
    (λ made e. e ∙ ap (gathered (GroupBy c.in-GroupBy.dim)) c.drop_open.ensures ∙ ap (λ how. gathered how c.args.views) (sym c.in-GroupBy.is))
    c.groupby.ensures
