use Rattle.std.proofs.Common.{subst}
use Rattle.std.specs.Prelude.{OnErr}
use Rattle.file_devices.specs.Content.{AppendsPart}
use Rattle.las_writer.proofs.writer.put_header.Goals as goal

pub returns-clause-part : goal.returns-clause-part
returns-clause-part g c =
    subst (λ l. OnErr c.append.result (AppendsPart (g.K.Sink.bytes c.args.sink.now) l (g.K.Sink.bytes c.append.new.self))) c.header_block-size.ensures.bytes c.append.ensures.part
