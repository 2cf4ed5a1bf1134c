use Rattle.std.proofs.Common.{◌≡◌, Some, true, Ok, Err, Result, ap, subst, ◌∙◌}
use Rattle.std.specs.Prelude.{OnOk}
use Rattle.std.proofs.lemmas.Option.{same_Some}
use Rattle.file_devices.specs.Told.{IsAsTold}
use Rattle.stage_kinds.specs.declared.file_form.Writing.{Writing as Writes}
use Rattle.stage_kinds.specs.Files.{chosen, file_bytes, sink_of}
use Rattle.stage_kinds.specs.Stages.{only_of, stops_nowhere, writes_of}
use Rattle.stage_kinds.proofs.Putting.{all_held, all_placed}
use Rattle.stage_kinds.proofs.stage_work.StageWork.finish.Goals as goal

on-ok : {A E : Type 0} {P Q : Type 0} (r : Result A E) → (P → Q) → OnOk r P → OnOk r Q
on-ok (Ok x) f h = f h
on-ok (Err e) f h = tt

pub returns-in-Writer-clause-file : goal.returns-in-Writer-clause-file
returns-in-Writer-clause-file g c = on-ok c.finish.result (λ file writing points is holds nowhere.
    let w = c.in-Writer.writer in
    let same : writes_of w ≡ writing = same_Some (writes_of w) writing (rw c.in-Writer.is at is) in
    let stops : stops_nowhere (writes_of w) points ≡ true = ap (λ (x : Writes). stops_nowhere x points) same ∙ nowhere in
    let told = file (chosen (only_of w) points) (all_held g.K.Sink.bytes w points (rw c.in-Writer.is at holds) stops) (all_placed (writes_of w) points stops) in
    subst (λ (x : Writes). IsAsTold (g.K.Sink.bytes (sink_of c.finish.new.self)) (Some (file_bytes x.form (chosen x.only points)))) same told) c.finish.ensures.file
