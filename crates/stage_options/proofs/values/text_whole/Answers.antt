use Rattle.std.proofs.Common.{◌≤◌, ◌≢◌, ◌∙◌, length, get_or, subst}
use Rattle.stage_options.proofs.Texts.{parsed_whole}
use Rattle.stage_options.proofs.values.text_whole.Goals as goal

pub returns : goal.returns
returns c =
    let bytes = c.as_bytes-bytes.ensures.value in
    let short = subst (λ xs. length xs ≤ 10) bytes c.if-bytes-gt-MOST_DIGITS.false in
    let plain = subst (λ xs. get_or xs 0 0 ≢ 43) bytes c.if-bytes-eq43.false in
    c.ok.ensures.value ∙ parsed_whole c.args.text.now c.parse.result short plain c.parse.ensures.value.0
