use Rattle.std.proofs.Common.{[], ap, sym, ◌∙◌, append-nil}
use Rattle.std.specs.Prelude.{◌||◌}
use Rattle.std.proofs.lemmas.List.{append_cancel_left}
use Rattle.chunk_queue.specs.Ends.{are_counts_equal}
use Rattle.network_workers.proofs.settling.settle_ends.Goals as goal

pub returns : goal.returns
returns c =
    let part = c.settle-all.ensures.part in
    record {
      left = part.0;
      part = part.1;
      whole = λ e. append_cancel_left c.args.inn.got part.0 []
          (part.1 ∙ sym (c.settle-all.ensures.whole (c.settle-all.ensures.exact ∙ ap (λ b. b || are_counts_equal c.args.inn.got c.args.out.sent) e)) ∙ sym (append-nil c.args.inn.got));
    }
