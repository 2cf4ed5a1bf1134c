use Rattle.std.proofs.Common.{◌≡◌, sym, ◌∙◌, rules}
use Rattle.std.specs.Int.{w64, cast_unsigned}
use Rattle.packed_chunk.proofs.outside.middle_outside.Goals as goal

pub returns : goal.returns
returns c = λ none.
    let angle : c.cast_unsigned.result ≡ cast_unsigned w64 c.args.p.now.scan_angle_rank = search rules in
    let none4 = c.find-5.ensures.before none in
    let none3 = c.find-4.ensures.before none4 in
    let none2 = c.find-3.ensures.before none3 in
    let none1 = c.find-2.ensures.before none2 in (
      λ lacks. c.find.ensures.here none1 (c.has.ensures ∙ lacks),
      (
        λ lacks. c.find-2.ensures.here none2 (c.has-2.ensures ∙ lacks),
        (
          λ lacks. sym angle ∙ c.find-3.ensures.here none3 (c.has-3.ensures ∙ lacks),
          (
            λ lacks. c.find-4.ensures.here none4 (c.has-4.ensures ∙ lacks),
            (
              λ lacks. c.find-5.ensures.here none (c.has-5.ensures ∙ lacks),
              tt,
            ),
          ),
        ),
      ),
    )
