use Rattle.std.proofs.Common.{◌≡◌, ◌++◌, flat_map, string_bytes, drop}
use Rattle.lasline_top.specs.Texts.{step_line}
use Rattle.lasline_top.proofs.texts.plan_text.Given as goal

abbrev pub invariant-loop-step : goal.invariant-loop-step
invariant-loop-step l = string_bytes l.text ++ flat_map step_line (drop l.step-index l.steps) ≡ flat_map step_line l.steps
