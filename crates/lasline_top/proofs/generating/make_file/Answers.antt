use Rattle.std.proofs.Common.{subst, ◌∙◌}
use Rattle.file_devices.specs.Content.{AppendsPart}
use Rattle.lasline_top.proofs.Made.{file-unprinted}
use Rattle.lasline_top.proofs.Printed.{if-unprinted}
use Rattle.lasline_top.proofs.generating.make_file.Goals as goal

pub returns-clause-err : goal.returns-clause-err
returns-clause-err g c = λ handed. if-unprinted c.print_text.result _ _ _ c.print_text.ensures.err c.print_text.ensures.part c.print_text.ensures.rose
    (λ r is part rose. file-unprinted handed c.args.count.points c.args.name.now _ _ _ _ _ _ r is rose c.in_ok-make.ensures.ok
    (subst (λ text. AppendsPart (g.K.Sink.bytes c.args.out.now) text (g.K.Sink.bytes c.print_text.new.out)) (c.as_str.ensures.value ∙ c.in-Ok.ensures) part))
