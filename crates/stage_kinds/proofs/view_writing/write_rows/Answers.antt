use Rattle.std.proofs.Common.{◌≡◌, true, Some, Ok, Err, Result, ap, subst, ◌∙◌}
use Rattle.std.specs.Prelude.{OnOk, []}
use Rattle.file_devices.specs.Told.{IsAsTold}
use Rattle.stage_kinds.specs.declared.file_form.Writing.{Writing as Writes}
use Rattle.stage_kinds.specs.Files.{chosen, file_bytes, sink_of}
use Rattle.stage_kinds.specs.Stages.{only_of, stops_nowhere, writes_of}
use Rattle.stage_kinds.proofs.Putting.{all_held, all_placed}
use Rattle.stage_kinds.proofs.view_writing.write_rows.Goals as goal

on-ok : {A E : Type 0} {P Q : Type 0} (r : Result A E) → (P → Q) → OnOk r P → OnOk r Q
on-ok (Ok x) f h = f h
on-ok (Err e) f h = tt

pub returns-in-Ok-clause-file : goal.returns-in-Ok-clause-file
returns-in-Ok-clause-file g c = on-ok c.finish.result (λ file begins.
    let w = c.put_rows.new.writer in
    let view = c.args.view.now in
    let same : writes_of w ≡ writes_of c.args.writer.now = c.in-Ok.ensures.form in
    let stops : stops_nowhere (writes_of w) view ≡ true = ap (λ (x : Writes). stops_nowhere x view) same ∙ c.requires.nowhere in
    let told = file (chosen (only_of w) view) (all_held g.K.Sink.bytes w view (c.in-Ok.ensures.holds [] begins) stops) (all_placed (writes_of w) view stops) in
    subst (λ (x : Writes). IsAsTold (g.K.Sink.bytes (sink_of c.finish.new.self)) (Some (file_bytes x.form (chosen x.only view)))) same told) c.finish.ensures.file
