use Rattle.std.proofs.lemmas.Str.{IsUtf8-had}
use Rattle.run_report.proofs.padded.Padded.as_str.Goals as goal

pub unreachable-requires : goal.unreachable-requires
unreachable-requires g c = c.in-Err.ensures.cases.0 (IsUtf8-had _ c.self.invariant.utf8)
