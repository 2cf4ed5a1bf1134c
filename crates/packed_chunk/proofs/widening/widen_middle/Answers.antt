use Rattle.std.proofs.Common.{◌≡◌, sym, ◌∙◌, rules}
use Rattle.std.specs.Int.{w64, cast_unsigned}
use Rattle.cloud_points.specs.declared.dims.Dim.TheVariants.{Overlap, ScanChannel, ScanAngleRank, UserData}
use Rattle.packed_chunk.proofs.widening.widen_middle.Goals as goal

pub returns-clause-zero : goal.returns-clause-zero
returns-clause-zero c =
    let angle : c.cast_unsigned.result ≡ cast_unsigned w64 c.args.p.now.scan_angle_rank = search rules in (
      λ lacks. c.widen.ensures.here (c.widen-2.ensures.wider Overlap (c.widen-3.ensures.wider Overlap (c.widen-4.ensures.wider Overlap (c.widen-5.ensures.wider Overlap lacks)))),
      (
        λ lacks. c.widen-2.ensures.here (c.widen-3.ensures.wider ScanChannel (c.widen-4.ensures.wider ScanChannel (c.widen-5.ensures.wider ScanChannel lacks))),
        (
          λ lacks. sym angle ∙ c.widen-3.ensures.here (c.widen-4.ensures.wider ScanAngleRank (c.widen-5.ensures.wider ScanAngleRank lacks)),
          (
            λ lacks. c.widen-4.ensures.here (c.widen-5.ensures.wider UserData lacks),
            (
              λ lacks. c.widen-5.ensures.here lacks,
              tt,
            ),
          ),
        ),
      ),
    )
