use Rattle.std.proofs.Common.{◌≡◌, sym, ◌∙◌, rules}
use Rattle.std.specs.Int.{w64, cast_unsigned}
use Rattle.packed_chunk.proofs.outside.first_outside.Goals as goal

pub returns : goal.returns
returns c = λ none.
    let x : c.cast_unsigned.result ≡ cast_unsigned w64 c.args.p.now.x = search rules in
    let y : c.cast_unsigned-2.result ≡ cast_unsigned w64 c.args.p.now.y = search rules in
    let z : c.cast_unsigned-3.result ≡ cast_unsigned w64 c.args.p.now.z = search rules in
    let none11 = c.find-12.ensures.before none in
    let none10 = c.find-11.ensures.before none11 in
    let none9 = c.find-10.ensures.before none10 in
    let none8 = c.find-9.ensures.before none9 in
    let none7 = c.find-8.ensures.before none8 in
    let none6 = c.find-7.ensures.before none7 in
    let none5 = c.find-6.ensures.before none6 in
    let none4 = c.find-5.ensures.before none5 in
    let none3 = c.find-4.ensures.before none4 in
    let none2 = c.find-3.ensures.before none3 in
    let none1 = c.find-2.ensures.before none2 in (
      λ lacks. sym x ∙ c.find.ensures.here none1 (c.has.ensures ∙ lacks),
      (
        λ lacks. sym y ∙ c.find-2.ensures.here none2 (c.has-2.ensures ∙ lacks),
        (
          λ lacks. sym z ∙ c.find-3.ensures.here none3 (c.has-3.ensures ∙ lacks),
          (
            λ lacks. c.find-4.ensures.here none4 (c.has-4.ensures ∙ lacks),
            (
              λ lacks. c.find-5.ensures.here none5 (c.has-5.ensures ∙ lacks),
              (
                λ lacks. c.find-6.ensures.here none6 (c.has-6.ensures ∙ lacks),
                (
                  λ lacks. c.find-7.ensures.here none7 (c.has-7.ensures ∙ lacks),
                  (
                    λ lacks. c.find-8.ensures.here none8 (c.has-8.ensures ∙ lacks),
                    (
                      λ lacks. c.find-9.ensures.here none9 (c.has-9.ensures ∙ lacks),
                      (
                        λ lacks. c.find-10.ensures.here none10 (c.has-10.ensures ∙ lacks),
                        (
                          λ lacks. c.find-11.ensures.here none11 (c.has-11.ensures ∙ lacks),
                          (
                            λ lacks. c.find-12.ensures.here none (c.has-12.ensures ∙ lacks),
                            tt,
                          ),
                        ),
                      ),
                    ),
                  ),
                ),
              ),
            ),
          ),
        ),
      ),
    )
