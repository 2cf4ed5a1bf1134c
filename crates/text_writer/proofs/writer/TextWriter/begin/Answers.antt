use Rattle.std.proofs.Common.{List, ℕ, subst, ◌∙◌}
use Rattle.file_devices.specs.Content.{Appends, AppendsPart}
use Rattle.text_writer.proofs.Held.{held_first}
use Rattle.text_writer.proofs.writer.TextWriter.begin.Goals as goal

pub returns-in-Ok-put_header-clause-ok : goal.returns-in-Ok-put_header-clause-ok
returns-in-Ok-put_header-clause-ok g c =
    subst (λ (xs : List ℕ). Appends (g.K.Sink.bytes c.args.sink) xs (g.K.Sink.bytes c.put_header.new.sink)) (c.as_slice.ensures.value ∙ c.in-Ok.ensures) c.in-Ok-put_header.ensures.ok

pub returns-in-Ok-put_header-clause-holds : goal.returns-in-Ok-put_header-clause-holds
returns-in-Ok-put_header-clause-holds g c = λ told. held_first _ _ c.args.form told
    (subst (λ (xs : List ℕ). Appends (g.K.Sink.bytes c.args.sink) xs (g.K.Sink.bytes c.put_header.new.sink)) (c.as_slice.ensures.value ∙ c.in-Ok.ensures) c.in-Ok-put_header.ensures.ok)

pub returns-in-Err-clause-part : goal.returns-in-Err-clause-part
returns-in-Err-clause-part g c =
    subst (λ (xs : List ℕ). AppendsPart (g.K.Sink.bytes c.args.sink) xs (g.K.Sink.bytes c.put_header.new.sink)) (c.as_slice.ensures.value ∙ c.in-Ok.ensures) c.in-Err.ensures.part
