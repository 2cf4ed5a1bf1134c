use Rattle.std.proofs.Common.{◌∙◌, subst}
use Rattle.std.proofs.lemmas.Result.{err_from_is_err_and}
use Rattle.file_devices.specs.Content.{Appends, AppendsPart}
use Rattle.las_vlr.specs.Written.{head_bytes}
use Rattle.las_vlr.proofs.Appended.{OnErr-more, part_of_first, part_of_second}
use Rattle.las_vlr.proofs.writes.write_entry.Goals as goal

pub returns-in_err-append-clause-part : goal.returns-in_err-append-clause-part
returns-in_err-append-clause-part g c =
    let p = err_from_is_err_and c.from_residual.result c.from_residual.ensures.1 in
    rw p.1 (part_of_first (head_bytes c.args.vlr.now c.args.size.now) c.args.vlr.now.payload _ _
    (subst (λ piece. AppendsPart (g.K.Sink.bytes c.args.out.now) piece (g.K.Sink.bytes c.append.new.self)) (c.as_slice.ensures.value ∙ c.head_of-head.ensures.bytes) c.in_err-append.ensures.part))

pub returns-clause-part : goal.returns-clause-part
returns-clause-part g c =
    let head = subst (λ piece. Appends (g.K.Sink.bytes c.args.out.now) piece (g.K.Sink.bytes c.append.new.self)) (c.as_slice.ensures.value ∙ c.head_of-head.ensures.bytes) c.in_ok-append.ensures.ok in
    OnErr-more c.append-2.result _ _
    (λ part. part_of_second (head_bytes c.args.vlr.now c.args.size.now) c.args.vlr.now.payload _ _ _ head
    (subst (λ piece. AppendsPart (g.K.Sink.bytes c.append.new.self) piece (g.K.Sink.bytes c.append-2.new.self)) c.as_slice-2.ensures part))
    c.append-2.ensures.part
