use Rattle.std.proofs.Common.{ap, refl, None, Some, Err}
use Rattle.expr_lang.specs.declared.fault.ExprKind.TheVariants.{Unexpected}
use Rattle.std.specs.Prelude.{slice_get}
use Rattle.expr_lang.specs.Seen.{operand_of}
use Rattle.expr_lang.specs.Trees.{formula_of}
use Rattle.expr_lang.specs.Texts.{place_at, at_a_token, of_a_sort}
use Rattle.expr_lang.proofs.Conditions.{first_fault, first_where, all_read, said_of}
use Rattle.expr_lang.proofs.Telling.{token_fault}
use Rattle.expr_lang.proofs.parse.condition.Goals as goal

pub returns-in-Err-Fault-clause-fault : goal.returns-in-Err-Fault-clause-fault
returns-in-Err-Fault-clause-fault c f h =
    token_fault c.fault.result c.place_of.result (place_at c.args.end (slice_get c.args.tokens.now c.in-Err-Fault.k)) c.in-Err-Fault.kind f c.fault.ensures c.place_of.ensures h
    (at_a_token c.in-Err-Fault.k (first_fault c.args.tokens.now c.in-Err-Fault.k c.in-Err-Fault.kind (c.in-Err-Fault.ensures.fault c.in-Err-Fault.k c.in-Err-Fault.kind (ap Err c.in-Err-Fault.field-0-is))))

pub returns-then-stretch-tokens-clause-fault : goal.returns-then-stretch-tokens-clause-fault
returns-then-stretch-tokens-clause-fault c f h =
    token_fault c.fault-then-stretch-tokens.result c.place_of-then-stretch-tokens.result (place_at c.args.end (slice_get c.args.tokens.now c.in-Ok.stretch.size)) Unexpected f
    c.fault-then-stretch-tokens.ensures c.place_of-then-stretch-tokens.ensures h
    (at_a_token c.in-Ok.stretch.size (first_where c.args.tokens.now (operand_of c.in-Ok.stretch.part) c.in-Ok.stretch.size c.in-Ok.ensures.ok c.if-stretch-tokens.true))

pub returns-in-Some-clause-fault : goal.returns-in-Some-clause-fault
returns-in-Some-clause-fault c f h =
    let all = all_read c.args.tokens.now (operand_of c.in-Ok.stretch.part) c.in-Ok.stretch.size c.in-Ok.ensures.ok c.if-stretch-tokens.false in
    token_fault c.fault-in-Some.result c.in-Some.at c.in-Some.at Unexpected f c.fault-in-Some.ensures refl h
    (of_a_sort (formula_of c.in-Ok.stretch.part.tree) all.none (said_of c.args.tokens.now (operand_of c.in-Ok.stretch.part) all (Some c.in-Some.at) c.in-Some.ensures))

pub returns-in-None-clause-none : goal.returns-in-None-clause-none
returns-in-None-clause-none c =
    let all = all_read c.args.tokens.now (operand_of c.in-Ok.stretch.part) c.in-Ok.stretch.size c.in-Ok.ensures.ok c.if-stretch-tokens.false in all.none

pub returns-in-None-clause-said : goal.returns-in-None-clause-said
returns-in-None-clause-said c =
    let all = all_read c.args.tokens.now (operand_of c.in-Ok.stretch.part) c.in-Ok.stretch.size c.in-Ok.ensures.ok c.if-stretch-tokens.false in
    rw c.new.ensures (said_of c.args.tokens.now (operand_of c.in-Ok.stretch.part) all None c.in-None.ensures)
