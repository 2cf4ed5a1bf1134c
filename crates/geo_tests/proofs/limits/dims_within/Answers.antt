use Rattle.std.proofs.Common.{◌||◌, get_or, ap, sym, ◌∙◌}
use Rattle.geo_tests.specs.Limits.{is_within}
use Rattle.geo_tests.proofs.Within.{no_limit, within_more}
use Rattle.geo_tests.proofs.limits.dims_within.Goals as goal

pub loop-limit-preserved : goal.loop-limit-preserved
loop-limit-preserved c = λ dim.
    let limits = c.args.limits.now in
    let i = c.loop-limit.limit-index in
    c.add_within.ensures dim ∙ ap (λ h. is_within c.args.p.now dim (get_or limits i no_limit) || h) (c.loop-limit.invariant dim)
    ∙ sym (within_more limits i c.args.p.now dim c.loop-limit-test.true)
