use Rattle.std.proofs.Common.{arith, length, subst}
use Rattle.expr_lang.specs.declared.fault.ExprKind.TheVariants.{TooLong}
use Rattle.expr_lang.specs.Texts.{too_long, in_tokens, HasTokenFault, IsConditionSaid}
use Rattle.expr_lang.specs.Fronts.{IsTooDeep}
use Rattle.expr_lang.proofs.Telling.{text_fault}
use Rattle.expr_lang.proofs.parse.parse_expr.Goals as goal

pub returns-then-text-gt-MOST_BYTES-clause-fault : goal.returns-then-text-gt-MOST_BYTES-clause-fault
returns-then-text-gt-MOST_BYTES-clause-fault c f h = text_fault c.fault.result 4096 TooLong f c.fault.ensures h (too_long (omega arith))

pub returns-clause-fault : goal.returns-clause-fault
returns-clause-fault c f h = in_tokens c.in_ok-tokens.tokens.items (omega arith) c.in_ok-tokens.ensures.lexed
    (subst (λ ts. HasTokenFault IsConditionSaid IsTooDeep (length c.args.text.now) ts f.at f.kind) c.as_slice.ensures.value (c.condition.ensures.fault f h))
