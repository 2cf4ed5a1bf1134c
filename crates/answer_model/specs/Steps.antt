-- Steps that may be refused.
use Rattle.std.specs.Prelude.{Option, Some, None, Result, Ok, Err}
pub use Rattle.text_bytes.specs.Steps.{and_then}
use Rattle.run_report.specs.declared.refusal.Refusal.{Refusal}

-- why a step is refused
abbrev pub why : {A : Type 0} → Result A Refusal → Option Refusal
why (Ok a) = None
why (Err r) = Some r
