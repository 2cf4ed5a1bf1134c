use Rattle.std.proofs.Common.{◌≡◌, pos, get_or, sym, ◌∙◌, rules}
use Rattle.std.specs.Int.{w64, cast_unsigned}
use Rattle.packed_chunk.proofs.outside.extra_outside.Goals as goal

pub returns : goal.returns
returns c = λ none.
    let e0 : c.cast_unsigned.result ≡ cast_unsigned w64 (get_or c.args.p.now.extra 0 (pos 0)) = search rules in
    let e1 : c.cast_unsigned-2.result ≡ cast_unsigned w64 (get_or c.args.p.now.extra 1 (pos 0)) = search rules in
    let e2 : c.cast_unsigned-3.result ≡ cast_unsigned w64 (get_or c.args.p.now.extra 2 (pos 0)) = search rules in
    let e3 : c.cast_unsigned-4.result ≡ cast_unsigned w64 (get_or c.args.p.now.extra 3 (pos 0)) = search rules in
    let e4 : c.cast_unsigned-5.result ≡ cast_unsigned w64 (get_or c.args.p.now.extra 4 (pos 0)) = search rules in
    let e5 : c.cast_unsigned-6.result ≡ cast_unsigned w64 (get_or c.args.p.now.extra 5 (pos 0)) = search rules in
    let e6 : c.cast_unsigned-7.result ≡ cast_unsigned w64 (get_or c.args.p.now.extra 6 (pos 0)) = search rules in
    let e7 : c.cast_unsigned-8.result ≡ cast_unsigned w64 (get_or c.args.p.now.extra 7 (pos 0)) = search rules in
    let none7 = c.find-8.ensures.before none in
    let none6 = c.find-7.ensures.before none7 in
    let none5 = c.find-6.ensures.before none6 in
    let none4 = c.find-5.ensures.before none5 in
    let none3 = c.find-4.ensures.before none4 in
    let none2 = c.find-3.ensures.before none3 in
    let none1 = c.find-2.ensures.before none2 in (
      λ lacks. sym e0 ∙ c.find.ensures.here none1 (c.has.ensures ∙ lacks),
      (
        λ lacks. sym e1 ∙ c.find-2.ensures.here none2 (c.has-2.ensures ∙ lacks),
        (
          λ lacks. sym e2 ∙ c.find-3.ensures.here none3 (c.has-3.ensures ∙ lacks),
          (
            λ lacks. sym e3 ∙ c.find-4.ensures.here none4 (c.has-4.ensures ∙ lacks),
            (
              λ lacks. sym e4 ∙ c.find-5.ensures.here none5 (c.has-5.ensures ∙ lacks),
              (
                λ lacks. sym e5 ∙ c.find-6.ensures.here none6 (c.has-6.ensures ∙ lacks),
                (
                  λ lacks. sym e6 ∙ c.find-7.ensures.here none7 (c.has-7.ensures ∙ lacks),
                  (
                    λ lacks. sym e7 ∙ c.find-8.ensures.here none (c.has-8.ensures ∙ lacks),
                    tt,
                  ),
                ),
              ),
            ),
          ),
        ),
      ),
    )
