use Rattle.std.proofs.Common.{rules}
use Rattle.lasline_top.proofs.threads.fn.do_by_crew.closure+FnOnce.call_once.Goals as goal

pub closure-requires : goal.closure-requires
closure-requires g c = (search rules, (search rules, (search rules, (search rules, (search rules, (search rules, search rules))))))
