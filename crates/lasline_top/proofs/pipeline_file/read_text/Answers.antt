use Rattle.std.proofs.Common.{rules, ◌≡◌, ◌∷◌, ◌+◌, ◌≤◌, max, length, vec_len, Ok, Err, option_map, ap, subst, sym, ◌∙◌, arith}
use Rattle.file_devices.specs.Told.{IsAsTold}
use Rattle.file_devices.specs.declared.whole.WholeErr.TheVariants.{Failed as ReadFailed}
use Rattle.run_report.specs.declared.refusal.Place.TheVariants.{PipelineFile}
use Rattle.answer_model.specs.Runs.{file_at}
use Rattle.run_engine.proofs.Ahead.{read-at-most}
use Rattle.lasline_top.proofs.pipeline_file.read_text.Goals as goal

pub returns-in-Ok-Some-clause-ok : goal.returns-in-Ok-Some-clause-ok
returns-in-Ok-Some-clause-ok g c = λ m e.
    let file = c.in-Ok.ensures.ok m e in
    let whole = rw c.in-Ok-Some.field-0-is at (c.in-Ok-Some.ensures.ok file.0 file.2) in
    ap (λ bytes. file_at bytes PipelineFile) file.1 ∙ ap (λ bytes. Ok bytes) (sym whole.1)

pub returns-in-Ok-Some-clause-no_further : goal.returns-in-Ok-Some-clause-no_further
returns-in-Ok-Some-clause-no_further g c =
    let files = g.F.Files in
    let reached = g.F.In.Source.reached in
    let text = c.in-Ok-Some.text in
    let now = reached c.read_whole-read.new.source in
    let most : now ≤ max (reached c.in-Ok.source) (vec_len text) = rw c.in-Ok-Some.field-0-is at c.in-Ok-Some.ensures.no_further in
    let told = subst (λ o. IsAsTold (files.read_to c.done_in.new.self) (option_map (λ n. n + now) o)) c.open_in.ensures.read_to c.done_in.ensures.read_to in
    read-at-most now (length text.items) (files.read_to c.args.files.now) (files.read_to c.done_in.new.self) told
    (omega (arith, most, c.in-Ok.ensures.fresh.1, text.ok))

pub returns-in-Ok-Some-clause-gave : goal.returns-in-Ok-Some-clause-gave
returns-in-Ok-Some-clause-gave g c =
    let files = g.F.Files in
    let count = g.F.In.Source.faults c.read_whole-read.new.source in
    (count, subst (λ o. IsAsTold (files.counts c.done_in.new.self) (option_map (λ cs. count ∷ cs) o)) c.open_in.ensures.counts c.done_in.ensures.counts)

pub returns-in-Ok-None-clause-told : goal.returns-in-Ok-None-clause-told
returns-in-Ok-None-clause-told g c =
    let files = g.F.Files in
    let count = g.F.In.Source.faults c.read_whole-read.new.source in
    (count, subst (λ o. IsAsTold (files.counts c.done_in.new.self) (option_map (λ cs. count ∷ cs) o)) c.open_in.ensures.counts c.done_in.ensures.counts)

pub returns-in-Err-Failed-clause-told : goal.returns-in-Err-Failed-clause-told
returns-in-Err-Failed-clause-told g c =
    let files = g.F.Files in
    let count = g.F.In.Source.faults c.read_whole-read.new.source in
    let failed : c.read_whole-read.result ≡ Err ReadFailed = search rules in
    let rose = c.read_whole-read.ensures.failed failed in (
      count,
      omega (arith, c.in-Ok.ensures.fresh.0, rose),
      subst (λ o. IsAsTold (files.counts c.done_in.new.self) (option_map (λ cs. count ∷ cs) o)) c.open_in.ensures.counts c.done_in.ensures.counts,
    )
