use Rattle.std.proofs.Common.{◌≢◌, ◌≡◌, ◌≤◌, ◌⊎◌, inl, inr, length, get_or, subst}
use Rattle.command_words.proofs.Numerals.{is_number, is_no_number}
use Rattle.command_words.proofs.options.number_in.Goals as goal
use Rattle.command_words.proofs.options.number_in.Goals.{else-bytes-gt1-via-then-bytes-gt1+else-bytes-eq48, else-bytes-gt1-via-else-bytes-gt1}

pub returns-then-number-most : goal.returns-then-number-most
returns-then-number-most c =
    let bytes = c.as_bytes-bytes.ensures.value in
    let some = subst (λ xs. length xs ≡ 0 → ⊥) bytes c.if-bytes-eq0.false in
    let plain = subst (λ xs. get_or xs 0 0 ≢ 43) bytes c.if-bytes-eq43.false in
    let first = subst (λ xs. (get_or xs 0 0 ≢ 48) ⊎ (length xs ≤ 1)) bytes (elim c.else-bytes-gt1.branch [ else-bytes-gt1-via-then-bytes-gt1+else-bytes-eq48 w ↦ inl w.if-bytes-eq48.false | else-bytes-gt1-via-else-bytes-gt1 w ↦ inr w.if-bytes-gt1.false ]) in
    is_number c.args.least c.args.most c.args.word.now c.parse.result c.in-Ok.number c.in-Ok.is some plain first c.parse.ensures.value.0 c.if-least-number.true c.if-number-most.true

pub returns-in-Err : goal.returns-in-Err
returns-in-Err c =
    let bytes = c.as_bytes-bytes.ensures.value in
    let some = subst (λ xs. length xs ≡ 0 → ⊥) bytes c.if-bytes-eq0.false in
    let plain = subst (λ xs. get_or xs 0 0 ≢ 43) bytes c.if-bytes-eq43.false in
    is_no_number c.args.least c.args.most c.args.word.now c.parse.result c.in-Err.field-0 c.in-Err.is c.ranges.most.fits plain some c.parse.ensures.value.0
