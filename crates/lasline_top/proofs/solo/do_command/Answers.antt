use Rattle.std.proofs.Common.{Err, refl, ap, map, sym, ◌∙◌}
use Rattle.std.specs.Prelude.{string_bytes}
use Rattle.lasline_top.specs.Calls.{seen}
use Rattle.lasline_top.proofs.Called.{done_answered, never-ok, read_so, refused_answered}
use Rattle.plug_stages.specs.Handed.{handed_by}
use Rattle.lasline_top.proofs.solo.do_command.Goals as goal

pub returns-in-Ok : goal.returns-in-Ok
returns-in-Ok g c = record {
  answered = done_answered (handed_by g.P.PlugFilter g.Q.PlugTally c.args.places.now) _ _ _ c.in-Ok.ensures.lent c.in-Ok.ensures.later c.in-Ok.ensures.opened
      c.in-Ok.ensures.ok c.in-Ok.ensures.page (λ r e. let wrong = c.in-Ok.ensures.words_first r e in cc) refl;
  back = c.in-Ok.ensures.back;
  remembered = λ is. c.in-Ok.ensures.remembered;
  ahead = λ bounded r e. absurd (never-ok r e);
}

pub returns-in-Err : goal.returns-in-Err
returns-in-Err g c =
    let before = seen g.F.Files g.K.Sink g.E.Sink c.args.files.now c.args.out.now c.args.err.now in
    let after = seen g.F.Files g.K.Sink g.E.Sink c.run_command.new.files c.run_command.new.out c.refused.new.err in
    record {
      answered = refused_answered (handed_by g.P.PlugFilter g.Q.PlugTally c.args.places.now) _ _ _ c.in-Err.ensures.lent c.in-Err.ensures.later c.in-Err.ensures.opened
          c.in-Err.refusal c.refused.result c.refused.ensures.status c.in-Err.ensures.err c.in-Err.ensures.page_part
          (λ r e. let is = c.in-Err.ensures.words_first r e in cc) (λ k e. c.in-Err.ensures.of_words k (ap (λ r. Err r) e)) c.refused.ensures.line c.in-Err.ensures.least (λ alone. c.in-Err.ensures.ahead (c.requires.alone alone));
      back = c.in-Err.ensures.back;
      remembered = λ is. absurd (never-ok c.in-Err.refusal (sym is ∙ c.refused.ensures.status));
      ahead = λ bounded. read_so (map string_bytes c.args.words.now) before after c.in-Err.refusal c.refused.result c.refused.ensures.status (c.in-Err.ensures.ahead bounded);
    }
