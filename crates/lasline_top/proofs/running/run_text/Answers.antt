use Rattle.std.proofs.Common.{◌≡◌, Ok, Err, IfErr, rules, ap, subst, sym, ◌∙◌}
use Rattle.file_devices.specs.Counts.{Rose}
use Rattle.run_engine.specs.Stopping.{IsCauseBy}
use Rattle.lasline_top.specs.Tasks.{engine_view}
use Rattle.lasline_top.specs.Words.{stop_in}
use Rattle.lasline_top.proofs.Ran.{if-stopped, ends-so}
use Rattle.lasline_top.proofs.Back.{text-remembered}
use Rattle.lasline_top.specs.Least.{IsTextNamed}
use Rattle.lasline_top.proofs.Least.{stages-named, text-named}
use Rattle.lasline_top.proofs.Reading.{text-ahead}
use Rattle.plug_stages.specs.Handed.{handed_by}
use Rattle.lasline_top.proofs.running.run_text.Goals as goal

pub returns-clause-err : goal.returns-clause-err
returns-clause-err g c =
    let files = g.F.Files in
    let stop = g.T.Scheduler.stop c.args.scheduler.now in
    let rose = Rose (files.faults c.args.files.now) (files.faults c.run_pipeline.new.files) in
    let stages = c.as_slice.result.now in
    if-stopped (handed_by g.P.PlugFilter g.Q.PlugTally c.args.places.now) (stop_in (engine_view stop c.args.engine)) rose (files.map c.args.files.now) (files.map c.run_pipeline.new.files) c.args.text.now stages
    (c.in_ok-tree.ensures.ok ∙ ap (λ tree. Ok tree) (sym c.as_slice.ensures.stages)) c.run_pipeline.result
    (subst (λ ends. IfErr c.run_pipeline.result (IsCauseBy ends rose (handed_by g.P.PlugFilter g.Q.PlugTally c.args.places.now) (files.map c.args.files.now) stages)) (ends-so c.args.engine stop) c.run_pipeline.ensures.err)
    c.run_pipeline.ensures.left

pub returns-clause-remembered : goal.returns-clause-remembered
returns-clause-remembered g c =
    text-remembered g.P.PlugFilter g.Q.PlugTally (handed_by g.P.PlugFilter g.Q.PlugTally c.args.places.now) c.args.text.now c.as_slice.result.now (g.F.Files.map c.args.files.now) c.run_pipeline.new.places
    c.run_pipeline.result (c.in_ok-tree.ensures.ok ∙ ap (λ tree. Ok tree) (sym c.as_slice.ensures.stages)) c.run_pipeline.ensures.remembered

pub returns-clause-ahead : goal.returns-clause-ahead
returns-clause-ahead g c =
    let files = g.F.Files in
    text-ahead (g.T.Scheduler.bounded c.args.scheduler.now) c.args.engine (g.T.Scheduler.stop c.args.scheduler.now) (files.map c.args.files.now) c.args.text.now c.as_slice.result.now (files.read_to c.args.files.now) (files.read_to c.run_pipeline.new.files) c.run_pipeline.result
    (c.in_ok-tree.ensures.read ∙ ap (λ tree. Ok tree) (sym c.as_slice.ensures.stages)) c.run_pipeline.ensures.ahead

pub returns-in_err-tree-clause-least : goal.returns-in_err-tree-clause-least
returns-in_err-tree-clause-least g c =
    let files = g.F.Files in
    let handed = handed_by g.P.PlugFilter g.Q.PlugTally c.args.places.now in
    let refusal = c.in_err-tree.field-0.0 in
    let refused : c.from_residual.result ≡ Err refusal = search rules in
    subst (λ r. IfErr r (IsTextNamed handed c.args.text.now (files.counts c.args.files.now) (files.counts c.args.files.now))) (sym refused)
    (text-named handed c.args.text.now (files.counts c.args.files.now) (files.counts c.args.files.now) refusal c.in_err-tree.ensures.of_text)

pub returns-clause-least : goal.returns-clause-least
returns-clause-least g c =
    stages-named (handed_by g.P.PlugFilter g.Q.PlugTally c.args.places.now) c.args.text.now c.as_slice.result.now (g.F.Files.counts c.args.files.now) (g.F.Files.counts c.run_pipeline.new.files) c.run_pipeline.result
    (c.in_ok-tree.ensures.ok ∙ ap (λ tree. Ok tree) (sym c.as_slice.ensures.stages)) c.run_pipeline.ensures.least
