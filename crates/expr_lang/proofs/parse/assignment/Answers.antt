use Rattle.std.proofs.Common.{ap, refl, None, Some, Err}
use Rattle.std.specs.Prelude.{slice_get, option_map}
use Rattle.expr_lang.specs.declared.fault.ExprKind.TheVariants.{Unexpected}
use Rattle.expr_lang.specs.Seen.{operand_of}
use Rattle.expr_lang.specs.Trees.{formula_of}
use Rattle.expr_lang.specs.Texts.{formula_in, place_at, at_a_token, of_a_sort}
use Rattle.expr_lang.proofs.Assigned.{assign_fault, assign_all, assign_said}
use Rattle.expr_lang.proofs.Telling.{token_fault}
use Rattle.expr_lang.proofs.parse.assignment.Goals as goal

pub returns-in-Err-Fault-clause-fault : goal.returns-in-Err-Fault-clause-fault
returns-in-Err-Fault-clause-fault c f h =
    token_fault c.fault.result c.place_of.result (place_at c.args.end (slice_get c.args.tokens.now c.in-Err-Fault.k)) c.in-Err-Fault.kind f c.fault.ensures c.place_of.ensures h
    (at_a_token c.in-Err-Fault.k (assign_fault c.args.tokens.now c.in-Err-Fault.k c.in-Err-Fault.kind (c.in-Err-Fault.ensures.fault c.in-Err-Fault.k c.in-Err-Fault.kind (ap Err c.in-Err-Fault.field-0-is))))

pub returns-in-Some-clause-fault : goal.returns-in-Some-clause-fault
returns-in-Some-clause-fault c f h =
    let all = assign_all c.args.tokens.now c.in-Ok.parts.target (operand_of c.in-Ok.parts.value) c.in-Ok.parts.size (option_map operand_of c.in-Ok.parts.only) c.in-Ok.ensures.ok in
    token_fault c.fault-in-Some.result c.in-Some.at c.in-Some.at Unexpected f c.fault-in-Some.ensures refl h
    (of_a_sort (record { target = c.in-Ok.parts.target; value = formula_of c.in-Ok.parts.value.tree; only = option_map formula_in (option_map operand_of c.in-Ok.parts.only) }) all.none
    (assign_said c.args.tokens.now c.in-Ok.parts.target (operand_of c.in-Ok.parts.value) c.in-Ok.parts.size (option_map operand_of c.in-Ok.parts.only) all (Some c.in-Some.at) c.in-Some.ensures))

pub returns-in-None-clause-none : goal.returns-in-None-clause-none
returns-in-None-clause-none c =
    let all = assign_all c.args.tokens.now c.in-Ok.parts.target (operand_of c.in-Ok.parts.value) c.in-Ok.parts.size (option_map operand_of c.in-Ok.parts.only) c.in-Ok.ensures.ok in all.none

pub returns-in-None-clause-said : goal.returns-in-None-clause-said
returns-in-None-clause-said c =
    let all = assign_all c.args.tokens.now c.in-Ok.parts.target (operand_of c.in-Ok.parts.value) c.in-Ok.parts.size (option_map operand_of c.in-Ok.parts.only) c.in-Ok.ensures.ok in
    rw (c.new.ensures, c.limit_expr.ensures) (assign_said c.args.tokens.now c.in-Ok.parts.target (operand_of c.in-Ok.parts.value) c.in-Ok.parts.size (option_map operand_of c.in-Ok.parts.only) all None c.in-None.ensures)
