use Rattle.std.proofs.Common.{◌≡◌, sym, ◌∙◌, rules}
use Rattle.std.specs.Int.{w64, cast_unsigned}
use Rattle.cloud_points.specs.declared.dims.Dim.TheVariants.{X, Y, Z, Intensity, ReturnNumber, NumberOfReturns, ScanDirectionFlag, EdgeOfFlightLine, Classification, Synthetic, KeyPoint}
use Rattle.packed_chunk.proofs.widening.widen_first.Goals as goal

pub returns-clause-zero : goal.returns-clause-zero
returns-clause-zero c =
    let x : c.cast_unsigned.result ≡ cast_unsigned w64 c.args.p.now.x = search rules in
    let y : c.cast_unsigned-2.result ≡ cast_unsigned w64 c.args.p.now.y = search rules in
    let z : c.cast_unsigned-3.result ≡ cast_unsigned w64 c.args.p.now.z = search rules in (
      λ lacks. sym x ∙ c.widen.ensures.here (c.widen-2.ensures.wider X (c.widen-3.ensures.wider X (c.widen-4.ensures.wider X (c.widen-5.ensures.wider X (c.widen-6.ensures.wider X (c.widen-7.ensures.wider X (c.widen-8.ensures.wider X (c.widen-9.ensures.wider X (c.widen-10.ensures.wider X (c.widen-11.ensures.wider X (c.widen-12.ensures.wider X lacks))))))))))),
      (
        λ lacks. sym y ∙ c.widen-2.ensures.here (c.widen-3.ensures.wider Y (c.widen-4.ensures.wider Y (c.widen-5.ensures.wider Y (c.widen-6.ensures.wider Y (c.widen-7.ensures.wider Y (c.widen-8.ensures.wider Y (c.widen-9.ensures.wider Y (c.widen-10.ensures.wider Y (c.widen-11.ensures.wider Y (c.widen-12.ensures.wider Y lacks)))))))))),
        (
          λ lacks. sym z ∙ c.widen-3.ensures.here (c.widen-4.ensures.wider Z (c.widen-5.ensures.wider Z (c.widen-6.ensures.wider Z (c.widen-7.ensures.wider Z (c.widen-8.ensures.wider Z (c.widen-9.ensures.wider Z (c.widen-10.ensures.wider Z (c.widen-11.ensures.wider Z (c.widen-12.ensures.wider Z lacks))))))))),
          (
            λ lacks. c.widen-4.ensures.here (c.widen-5.ensures.wider Intensity (c.widen-6.ensures.wider Intensity (c.widen-7.ensures.wider Intensity (c.widen-8.ensures.wider Intensity (c.widen-9.ensures.wider Intensity (c.widen-10.ensures.wider Intensity (c.widen-11.ensures.wider Intensity (c.widen-12.ensures.wider Intensity lacks)))))))),
            (
              λ lacks. c.widen-5.ensures.here (c.widen-6.ensures.wider ReturnNumber (c.widen-7.ensures.wider ReturnNumber (c.widen-8.ensures.wider ReturnNumber (c.widen-9.ensures.wider ReturnNumber (c.widen-10.ensures.wider ReturnNumber (c.widen-11.ensures.wider ReturnNumber (c.widen-12.ensures.wider ReturnNumber lacks))))))),
              (
                λ lacks. c.widen-6.ensures.here (c.widen-7.ensures.wider NumberOfReturns (c.widen-8.ensures.wider NumberOfReturns (c.widen-9.ensures.wider NumberOfReturns (c.widen-10.ensures.wider NumberOfReturns (c.widen-11.ensures.wider NumberOfReturns (c.widen-12.ensures.wider NumberOfReturns lacks)))))),
                (
                  λ lacks. c.widen-7.ensures.here (c.widen-8.ensures.wider ScanDirectionFlag (c.widen-9.ensures.wider ScanDirectionFlag (c.widen-10.ensures.wider ScanDirectionFlag (c.widen-11.ensures.wider ScanDirectionFlag (c.widen-12.ensures.wider ScanDirectionFlag lacks))))),
                  (
                    λ lacks. c.widen-8.ensures.here (c.widen-9.ensures.wider EdgeOfFlightLine (c.widen-10.ensures.wider EdgeOfFlightLine (c.widen-11.ensures.wider EdgeOfFlightLine (c.widen-12.ensures.wider EdgeOfFlightLine lacks)))),
                    (
                      λ lacks. c.widen-9.ensures.here (c.widen-10.ensures.wider Classification (c.widen-11.ensures.wider Classification (c.widen-12.ensures.wider Classification lacks))),
                      (
                        λ lacks. c.widen-10.ensures.here (c.widen-11.ensures.wider Synthetic (c.widen-12.ensures.wider Synthetic lacks)),
                        (
                          λ lacks. c.widen-11.ensures.here (c.widen-12.ensures.wider KeyPoint lacks),
                          (
                            λ lacks. c.widen-12.ensures.here lacks,
                            tt,
                          ),
                        ),
                      ),
                    ),
                  ),
                ),
              ),
            ),
          ),
        ),
      ),
    )
