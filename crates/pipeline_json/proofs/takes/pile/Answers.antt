use Rattle.std.proofs.Common.{ℕ, ◌∙◌, ◌-◌, ◌++◌, ◌+◌, filter, not, length, sym, ap}
use Rattle.std.specs.List.{range_with_len}
use Rattle.pipeline_json.specs.Lists.{has}
use Rattle.pipeline_json.specs.Shown.{stages_view}
use Rattle.pipeline_json.specs.Stages.{taken}
use Rattle.pipeline_json.proofs.Numbers.{filter_next, pile_kept}
use Rattle.pipeline_json.proofs.takes.pile.Goals.{then-not-is_taken+in_ok-push, else-not-is_taken}
use Rattle.pipeline_json.proofs.takes.pile.Goals as goal

pub loop-number-preserved : goal.loop-number-preserved
loop-number-preserved c =
    let passes = λ (j : ℕ). not (has (taken (stages_view c.args.stages.now)) j) in
    elim c.if-not-is_taken.branch [
      | then-not-is_taken+in_ok-push w ↦
          c.loop-number.invariant
          ∙ pile_kept passes c.loop-number.number (length c.args.stages.now) c.loop-number.ins.items c.if-not-is_taken.ins.items c.loop-number-test.true
          (ap not (sym c.is_taken.ensures ∙ w.if-not-is_taken.true)) (ap (λ v. v.items) w.ins-is ∙ w.in_ok-push.ensures.items)
      | else-not-is_taken w ↦
          c.loop-number.invariant
          ∙ ap (λ xs. c.loop-number.ins.items ++ xs) (filter_next passes c.loop-number.number (length c.args.stages.now) c.loop-number-test.true (ap not (sym c.is_taken.ensures ∙ w.if-not-is_taken.false)))
          ∙ ap (λ v. v.items ++ filter passes (range_with_len (c.loop-number.number + 1) (length c.args.stages.now - (c.loop-number.number + 1)))) (sym w.ins-is)
    ]
