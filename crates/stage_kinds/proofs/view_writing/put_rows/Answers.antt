use Rattle.std.proofs.Common.{◌≡◌, ◌++◌, true, take, subst, ◌∙◌, arith}
use Rattle.stage_kinds.specs.Stages.{holds_chosen}
use Rattle.stage_kinds.proofs.Taking.{more-taken, all-taken}
use Rattle.stage_kinds.proofs.view_writing.put_rows.Goals as goal

pub loop-at-preserved : goal.loop-at-preserved
loop-at-preserved g c =
    let now = c.loop-at.invariant in
    record {
      within = (let m = c.min-count.ensures in let n = c.len-in-loop-at.ensures in let t = c.loop-at-test.true in omega (arith, m, n, t));
      form = c.put_chunk.ensures.form ∙ now.form;
      holds = λ before h. subst (λ ps. holds_chosen g.K.Sink.bytes c.put_chunk.new.writer ps ≡ true)
          (more-taken before c.args.view.now c.copy_into.new.into.items c.loop-at.at c.min-count.result c.copy_into.ensures)
          (c.in_ok-put_chunk.ensures.holds (before ++ take c.loop-at.at c.args.view.now) (now.holds before h));
      calm = c.in_ok-put_chunk.ensures.cause.calm ∙ now.calm;
    }

pub returns-clause-holds : goal.returns-clause-holds
returns-clause-holds g c = λ before h.
    let all = all-taken c.args.view.now c.loop-at.at (let t = c.loop-at-test.false in let w = c.loop-at.invariant.within in let n = c.len.ensures in omega (arith, t, w, n)) in
    subst (λ ps. holds_chosen g.K.Sink.bytes c.loop-at.writer (before ++ ps) ≡ true) all (c.loop-at.invariant.holds before h)
