use Rattle.std.proofs.Common.{◌≡◌, Some, subst}
use Rattle.las_writer.specs.Holding.{IsRefused}
use Rattle.las_writer.specs.Records.{refusal}
use Rattle.cloud_gen.proofs.steps.append_points.Goals as goal

pub unreachable-requires : goal.unreachable-requires
unreachable-requires g c =
    let form = c.args.writer.now.form in
    let count = c.args.writer.now.totals.count in
    let points = c.args.points.now in
    let refused = c.in-Err-Refused.field-0-0 in
    let found : refusal form count points ≡ Some (refused.at, refused.why) = subst (IsRefused form count points) c.in-Err-Refused.field-0-is c.in-Err-Refused.ensures.refused in
    let none = c.requires.placed in
    cc
