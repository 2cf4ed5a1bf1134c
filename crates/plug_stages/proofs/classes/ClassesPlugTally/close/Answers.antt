use Rattle.std.proofs.Common.{◌++◌, take, ap, sym, ◌∙◌}
use Rattle.plug_stages.specs.Classes.{came_from, rest_text, spaced}
use Rattle.plug_stages.proofs.Counting.{text_of_counts}
use Rattle.plug_stages.proofs.classes.ClassesPlugTally.close.Goals as goal

pub returns-clause-text : goal.returns-clause-text
returns-clause-text c = c.put_rest.ensures.bytes
    ∙ ap (λ z. z ++ rest_text c.put_first-came.result) c.put_first-came.ensures.bytes
    ∙ ap (λ n. spaced (take 8 (came_from 0 c.args.self.now.counts)) ++ rest_text n) c.put_first-came.ensures.came
    ∙ sym (text_of_counts c.args.self.now.counts)
