use Rattle.std.proofs.Common.{◌≡◌, pos, get_or, sym, ◌∙◌, rules}
use Rattle.std.specs.Int.{w64, cast_unsigned}
use Rattle.cloud_points.specs.declared.dims.Dim.TheVariants.{Extra}
use Rattle.packed_chunk.proofs.widening.widen_extra.Goals as goal

pub returns-clause-zero : goal.returns-clause-zero
returns-clause-zero c =
    let e0 : c.cast_unsigned.result ≡ cast_unsigned w64 (get_or c.args.p.now.extra 0 (pos 0)) = search rules in
    let e1 : c.cast_unsigned-2.result ≡ cast_unsigned w64 (get_or c.args.p.now.extra 1 (pos 0)) = search rules in
    let e2 : c.cast_unsigned-3.result ≡ cast_unsigned w64 (get_or c.args.p.now.extra 2 (pos 0)) = search rules in
    let e3 : c.cast_unsigned-4.result ≡ cast_unsigned w64 (get_or c.args.p.now.extra 3 (pos 0)) = search rules in
    let e4 : c.cast_unsigned-5.result ≡ cast_unsigned w64 (get_or c.args.p.now.extra 4 (pos 0)) = search rules in
    let e5 : c.cast_unsigned-6.result ≡ cast_unsigned w64 (get_or c.args.p.now.extra 5 (pos 0)) = search rules in
    let e6 : c.cast_unsigned-7.result ≡ cast_unsigned w64 (get_or c.args.p.now.extra 6 (pos 0)) = search rules in
    let e7 : c.cast_unsigned-8.result ≡ cast_unsigned w64 (get_or c.args.p.now.extra 7 (pos 0)) = search rules in (
      λ lacks. sym e0 ∙ c.widen.ensures.here (c.widen-2.ensures.wider (Extra 0) (c.widen-3.ensures.wider (Extra 0) (c.widen-4.ensures.wider (Extra 0) (c.widen-5.ensures.wider (Extra 0) (c.widen-6.ensures.wider (Extra 0) (c.widen-7.ensures.wider (Extra 0) (c.widen-8.ensures.wider (Extra 0) lacks))))))),
      (
        λ lacks. sym e1 ∙ c.widen-2.ensures.here (c.widen-3.ensures.wider (Extra 1) (c.widen-4.ensures.wider (Extra 1) (c.widen-5.ensures.wider (Extra 1) (c.widen-6.ensures.wider (Extra 1) (c.widen-7.ensures.wider (Extra 1) (c.widen-8.ensures.wider (Extra 1) lacks)))))),
        (
          λ lacks. sym e2 ∙ c.widen-3.ensures.here (c.widen-4.ensures.wider (Extra 2) (c.widen-5.ensures.wider (Extra 2) (c.widen-6.ensures.wider (Extra 2) (c.widen-7.ensures.wider (Extra 2) (c.widen-8.ensures.wider (Extra 2) lacks))))),
          (
            λ lacks. sym e3 ∙ c.widen-4.ensures.here (c.widen-5.ensures.wider (Extra 3) (c.widen-6.ensures.wider (Extra 3) (c.widen-7.ensures.wider (Extra 3) (c.widen-8.ensures.wider (Extra 3) lacks)))),
            (
              λ lacks. sym e4 ∙ c.widen-5.ensures.here (c.widen-6.ensures.wider (Extra 4) (c.widen-7.ensures.wider (Extra 4) (c.widen-8.ensures.wider (Extra 4) lacks))),
              (
                λ lacks. sym e5 ∙ c.widen-6.ensures.here (c.widen-7.ensures.wider (Extra 5) (c.widen-8.ensures.wider (Extra 5) lacks)),
                (
                  λ lacks. sym e6 ∙ c.widen-7.ensures.here (c.widen-8.ensures.wider (Extra 6) lacks),
                  (
                    λ lacks. sym e7 ∙ c.widen-8.ensures.here lacks,
                    tt,
                  ),
                ),
              ),
            ),
          ),
        ),
      ),
    )

pub returns-clause-wider : goal.returns-clause-wider
returns-clause-wider c = λ dim lacks.
    c.widen.ensures.wider dim (c.widen-2.ensures.wider dim (c.widen-3.ensures.wider dim (c.widen-4.ensures.wider dim (c.widen-5.ensures.wider dim (c.widen-6.ensures.wider dim (c.widen-7.ensures.wider dim (c.widen-8.ensures.wider dim lacks)))))))
