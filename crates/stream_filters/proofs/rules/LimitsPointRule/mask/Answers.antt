use Rattle.std.proofs.Common.{ℕ, Ok, refl, subst, sym, ap}
use Rattle.cloud_points.specs.Points.{get}
use Rattle.geo_tests.specs.Limits.{in_limits}
use Rattle.geo_tests.specs.Tests.{in_interval}
use Rattle.stage_meanings.specs.declared.reason.Reason.{Reason}
use Rattle.stage_meanings.specs.Filters.{keeps}
use Rattle.stage_meanings.specs.Rules.{range}
use Rattle.stream_filters.specs.Masks.{IsMaskOf}
use Rattle.stream_filters.proofs.Marking.{tests_are_masks}
use Rattle.stream_filters.proofs.rules.LimitsPointRule.mask.Goals as goal

pub returns-in-Some : goal.returns-in-Some
returns-in-Some c =
    let limits = c.args.self.now in
    let points = c.args.points.now in
    let limit = c.in-Some.limit in
    let Q : ℕ → Type 0 = λ m. IsMaskOf (range {R = Reason} limits) m points in
    subst Q (sym c.mask_of_limit.ensures)
    (tests_are_masks (λ p. in_interval (get p limit.dim) limit.interval) (range {R = Reason} limits)
    (λ place p. ap (λ b. Ok (keeps b p)) (c.in-Some.ensures.limit p)) points)

pub returns-in-None : goal.returns-in-None
returns-in-None c =
    let limits = c.args.self.now in
    let points = c.args.points.now in
    let Q : ℕ → Type 0 = λ m. IsMaskOf (range {R = Reason} limits) m points in
    subst Q (sym c.mask_of.ensures) (tests_are_masks (λ p. in_limits p limits) (range {R = Reason} limits) (λ place p. refl) points)
