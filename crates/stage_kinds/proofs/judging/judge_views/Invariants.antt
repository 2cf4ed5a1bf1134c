use Rattle.stage_kinds.proofs.Judged.{AllJudged}
use Rattle.stage_kinds.proofs.judging.judge_views.Given as goal

abbrev pub invariant-loop-v : goal.invariant-loop-v
invariant-loop-v l = AllJudged l.places l.only l.views.views l.v l.number l.wrote
