use Rattle.cloud_points.specs.declared.dims.Dim.TheVariants.{GpsTime, Red, Green, Blue}
use Rattle.packed_chunk.proofs.widening.widen_late.Goals as goal

pub returns-clause-zero : goal.returns-clause-zero
returns-clause-zero c = (
  λ lacks. c.widen.ensures.here (c.widen-2.ensures.wider GpsTime (c.widen-3.ensures.wider GpsTime (c.widen-4.ensures.wider GpsTime (c.widen-5.ensures.wider GpsTime lacks)))),
  (
    λ lacks. c.widen-2.ensures.here (c.widen-3.ensures.wider Red (c.widen-4.ensures.wider Red (c.widen-5.ensures.wider Red lacks))),
    (
      λ lacks. c.widen-3.ensures.here (c.widen-4.ensures.wider Green (c.widen-5.ensures.wider Green lacks)),
      (
        λ lacks. c.widen-4.ensures.here (c.widen-5.ensures.wider Blue lacks),
        (
          λ lacks. c.widen-5.ensures.here lacks,
          tt,
        ),
      ),
    ),
  ),
)
