use Rattle.std.proofs.Common.{ap, sym, ◌∙◌}
use Rattle.geo_tests.specs.Limits.{in_limits}
use Rattle.geo_tests.proofs.Within.{one_limit}
use Rattle.geo_tests.proofs.limits.Limits.alone.Goals as goal

pub returns-in-len1-clause-limit : goal.returns-in-len1-clause-limit
returns-in-len1-clause-limit c = λ p. ap (in_limits p) (sym c.as_slice.ensures) ∙ one_limit c.as_slice.result.now p c.in-len1.len_at_least c.in-len1.len_below
