use Rattle.std.proofs.Common.{◌≡◌, []}
use Rattle.worked_stages.proofs.gathers.gathered.Given as goal

abbrev pub invariant-loop-view : goal.invariant-loop-view
invariant-loop-view g l = l.held.open_view ≡ []
