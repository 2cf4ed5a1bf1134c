use Rattle.std.proofs.Common.{drop}
use Rattle.run_report.proofs.Lines.{Reporting}
use Rattle.run_report.proofs.report.report_text.Given as goal

abbrev pub invariant-loop-count : goal.invariant-loop-count
invariant-loop-count g l = Reporting l.report (drop l.count-index l.report) (g.K.Sink.bytes l.initial.out) (g.K.Sink.bytes l.out) (g.K.Sink.faults l.initial.out) (g.K.Sink.faults l.out)
