use Rattle.stage_kinds.proofs.Judged.{Judged}
use Rattle.stage_kinds.proofs.judging.judge_view.Given as goal

abbrev pub invariant-loop-k : goal.invariant-loop-k
invariant-loop-k l = Judged l.places l.only l.before l.view l.k l.number l.written
