use Rattle.std.proofs.Common.{◌∙◌, length, refl, sym, true≢false}
use Rattle.pipeline_json.proofs.Numbers.{find_next}
use Rattle.stage_typing.specs.Outputs.{names_again}
use Rattle.stage_typing.proofs.Again.{least, one_more, none_again, found_here, found_none}
use Rattle.stage_typing.proofs.outputs.first_same_output.Goals as goal

pub returns-then-names_again-clause-value : goal.returns-then-names_again-clause-value
returns-then-names_again-clause-value c =
    sym (c.loop-i.invariant.rest ∙ found_here (names_again c.args.stages.now) c.loop-i.i (length c.args.stages.now) c.loop-i-test.true (sym c.if-names_again.ensures.value))

pub returns-then-names_again-clause-first : goal.returns-then-names_again-clause-first
returns-then-names_again-clause-first c = λ k n. (c.loop-i.i, refl, least c.args.stages.now c.loop-i.i c.loop-i.invariant.none k n)

pub loop-i-preserved : goal.loop-i-preserved
loop-i-preserved c = record {
  none = one_more c.args.stages.now c.loop-i.i c.loop-i.invariant.none (λ n. absurd (true≢false (sym (c.if-names_again.ensures.again.1 n))));
  rest = c.loop-i.invariant.rest ∙ find_next (names_again c.args.stages.now) c.loop-i.i (length c.args.stages.now) c.loop-i-test.true (sym c.if-names_again.ensures.value);
}

pub returns-clause-value : goal.returns-clause-value
returns-clause-value c = sym (c.loop-i.invariant.rest ∙ found_none (names_again c.args.stages.now) c.loop-i.i (length c.args.stages.now) c.loop-i-test.false)

pub returns-clause-first : goal.returns-clause-first
returns-clause-first c = λ k n. absurd (none_again c.args.stages.now c.loop-i.i c.loop-i-test.false c.loop-i.invariant.none k n)
