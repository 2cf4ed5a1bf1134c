use Rattle.std.proofs.Common.{◌+◌, Option, drop, ap, sym, ◌∙◌}
use Rattle.cloud_points.specs.declared.point.Point.{Point}
use Rattle.stage_meanings.specs.Conditions.{passes}
use Rattle.stage_meanings.specs.Filters.{why, found, first_from}
use Rattle.stage_meanings.specs.declared.reason.Reason.{Reason}
use Rattle.set_filters.specs.Kinds.{rule_of}
use Rattle.set_filters.proofs.Givings.{next_of}
use Rattle.set_filters.proofs.stops.first_in.Goals as goal

pub returns-in-Some : goal.returns-in-Some
returns-in-Some c =
    let k = c.loop-k.k in
    let points = c.args.points.now in
    let reason : Point → Option Reason = why (rule_of c.args.filter.now) (passes c.args.only.now) in
    sym (ap (λ (o : Option Reason). found k o (first_from reason (k + 1) (drop (k + 1) points))) (sym c.why.ensures ∙ c.in-Some.is))
    ∙ sym (ap (first_from reason k) (next_of k points c.get.result c.get.ensures)) ∙ c.loop-k.invariant

pub loop-k-preserved : goal.loop-k-preserved
loop-k-preserved c =
    let k = c.loop-k.k in
    let points = c.args.points.now in
    let reason : Point → Option Reason = why (rule_of c.args.filter.now) (passes c.args.only.now) in
    ap (λ (o : Option Reason). found k o (first_from reason (k + 1) (drop (k + 1) points))) (sym c.in_default.is ∙ c.why.ensures)
    ∙ sym (ap (first_from reason k) (next_of k points c.get.result c.get.ensures)) ∙ c.loop-k.invariant
