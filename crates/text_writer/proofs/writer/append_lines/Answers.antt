use Rattle.std.proofs.Common.{List, ℕ, subst}
use Rattle.std.specs.List.{flat_map}
use Rattle.std.specs.Result.{OnOk, OnErr}
use Rattle.file_devices.specs.Content.{Appends, AppendsPart}
use Rattle.text_writer.specs.TextOutput.{text_line}
use Rattle.text_writer.proofs.Putting.{piece_is}
use Rattle.text_writer.proofs.writer.append_lines.Goals as goal

pub returns-clause-ok : goal.returns-clause-ok
returns-clause-ok g c =
    let piece = piece_is c.put_lines-start.new.buffer (flat_map (text_line c.args.form.now) c.args.points.now) c.put_lines-start.result c.put_lines-start.ensures.written in
    subst (λ (xs : List ℕ). OnOk c.append.result (Appends (g.K.Sink.bytes c.args.sink.now) xs (g.K.Sink.bytes c.append.new.self))) piece c.append.ensures.ok

pub returns-clause-part : goal.returns-clause-part
returns-clause-part g c =
    let piece = piece_is c.put_lines-start.new.buffer (flat_map (text_line c.args.form.now) c.args.points.now) c.put_lines-start.result c.put_lines-start.ensures.written in
    subst (λ (xs : List ℕ). OnErr c.append.result (AppendsPart (g.K.Sink.bytes c.args.sink.now) xs (g.K.Sink.bytes c.append.new.self))) piece c.append.ensures.part
