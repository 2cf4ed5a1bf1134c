use Rattle.std.proofs.Common.{◌≡◌, ◌+◌, ◌≤◌, drop}
use Rattle.expr_lang.specs.Seen.{openers_in}
use Rattle.expr_lang.proofs.nesting.openers.Given as goal

abbrev pub invariant-loop-frame : goal.invariant-loop-frame
invariant-loop-frame l = record { sum : l.n + openers_in (drop l.frame-index l.frames) ≡ openers_in l.frames; low : l.n ≤ l.frame-index }
