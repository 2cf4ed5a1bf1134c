use Rattle.std.proofs.Common.{◌-◌, length}
use Rattle.stage_runs.specs.Parts.{IsExchanged, is_own}
use Rattle.stage_runs.proofs.parts.exchange.Given as goal

abbrev pub invariant-loop-k : goal.invariant-loop-k
invariant-loop-k g l = IsExchanged (is_own l.homes l.home (length l.initial.net - 1)) l.k l.initial.nodes l.initial.net l.nodes l.net
