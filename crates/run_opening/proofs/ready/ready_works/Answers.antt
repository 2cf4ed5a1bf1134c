use Rattle.std.proofs.Common.{◌≡◌, Err, IfErr, length, ap, sym, subst, ◌∙◌, arith}
use Rattle.std.proofs.lemmas.Result.{err_from_is_err_and}
use Rattle.answer_model.proofs.Values.{tree-down}
use Rattle.file_devices.specs.Counts.{Rose}
use Rattle.plug_stages.specs.Handed.{handed_by}
use Rattle.run_opening.specs.Begun.{AreBegun, AreFine, AreForms, AreLayouts, AreNamesBound, AreOpened, IsUnbound}
use Rattle.run_outcome.specs.Cause.{IsCause}
use Rattle.run_outcome.specs.Least.{IsNamedBy}
use Rattle.stage_forms.specs.Below.{AreReaders}
use Rattle.run_outcome.proofs.Results.{if-ok, if-err, if-on-err}
use Rattle.run_outcome.proofs.Causes.{rose-within, cause-weaker}
use Rattle.run_opening.proofs.Bound.{are-at-start, are-ready, can-begin, unbound-before, unbound-cause, unbound-early, unbound-named}
use Rattle.run_opening.proofs.Works.{if-ok3, nothing-taken, on-err}
use Rattle.run_opening.proofs.Opening.{are-read, are-readers, have-readers}
use Rattle.run_opening.proofs.ready.ready_works.Goals as goal

pub bind_stages-requires-clause-fit : goal.bind_stages-requires-clause-fit
bind_stages-requires-clause-fit g c = subst (AreReaders c.args.stages.now) (sym c.as_slice.ensures.value)
    (are-readers g.F.In.Source (g.F.Files.map c.args.files.now) c.args.stages.now c.in_ok-readers.readers.items c.in_ok-readers.ensures.ok)

pub returns-in-Err-clause-err : goal.returns-in-Err-clause-err
returns-in-Err-clause-err g c =
    let files = g.F.Files in
    unbound-cause (Rose (files.faults c.args.files.now) (files.faults c.give_back.new.files)) (handed_by g.P.PlugFilter g.Q.PlugTally c.args.places.now) (files.map c.args.files.now) c.args.stages.now c.in_ok-readers.readers.items c.in-Err.refusal
    (are-read g.F.In.Source (files.map c.args.files.now) c.args.stages.now c.in_ok-readers.readers.items (length c.args.stages.now) (sym c.in_ok-readers.ensures.count) c.in_ok-readers.ensures.ok)
    (have-readers g.F.In.Source (files.map c.args.files.now) c.args.stages.now c.in_ok-readers.readers.items c.in_ok-readers.ensures.ok (handed_by g.P.PlugFilter g.Q.PlugTally c.args.places.now))
    (subst (λ rs. IsUnbound c.args.stages.now rs c.in-Err.refusal) c.as_slice.ensures.value c.in-Err.ensures.err)

pub returns-in-Err-clause-early : goal.returns-in-Err-clause-early
returns-in-Err-clause-early g c =
    unbound-early c.args.stages.now c.in_ok-readers.readers.items c.in-Err.refusal (subst (λ rs. IsUnbound c.args.stages.now rs c.in-Err.refusal) c.as_slice.ensures.value c.in-Err.ensures.err)

pub returns-in-Err-clause-before : goal.returns-in-Err-clause-before
returns-in-Err-clause-before g c =
    unbound-before c.args.stages.now c.in_ok-readers.readers.items c.in-Err.refusal (subst (λ rs. IsUnbound c.args.stages.now rs c.in-Err.refusal) c.as_slice.ensures.value c.in-Err.ensures.err)

pub returns-in-Err-clause-settles : goal.returns-in-Err-clause-settles
returns-in-Err-clause-settles g c =
    let first = c.in_ok-readers.ensures.lends in
    let back = c.give_back.ensures.settles in
    record {
      map = back.map ∙ first.map;
      later = (let a = first.later in let b = back.later in omega (arith, a, b));
      lent = λ others e. back.lent others (let a = first.lent in omega (arith, a, e));
    }

pub begin_works-requires-clause-made : goal.begin_works-requires-clause-made
begin_works-requires-clause-made g c = record {
  opened = subst (λ map. AreOpened g.F.In.Source map c.args.stages.now c.in_ok-readers.readers.items) (sym c.in_ok-readers.ensures.lends.map) c.in_ok-readers.ensures.ok;
  readers_each = c.in_ok-readers.ensures.count;
  fits = c.in-Ok.ensures.fits;
  fine = subst (λ rs. AreFine rs c.in-Ok.bound.forms.items) c.as_slice.ensures.value c.in-Ok.ensures.fine;
  forms_each = c.in-Ok.ensures.count;
  layouts_each = c.in-Ok.ensures.as_many;
}

pub begin_works-requires-clause-come : goal.begin_works-requires-clause-come
begin_works-requires-clause-come g c = λ m e. can-begin g.F.In.Source (handed_by g.P.PlugFilter g.Q.PlugTally c.args.places.now) (g.F.Files.map c.args.files.now) c.args.stages.now c.in_ok-readers.readers.items c.in_ok-readers.ensures.count c.in_ok-readers.ensures.ok
    (subst (λ rs. AreNamesBound c.args.stages.now rs (length c.args.stages.now)) c.as_slice.ensures.value c.in-Ok.ensures.bound) m (sym c.in_ok-readers.ensures.lends.map ∙ e)

pub returns-clause-ready : goal.returns-clause-ready
returns-clause-ready g c =
    let files = g.F.Files in
    let stages = c.args.stages.now in
    let readers = c.in_ok-readers.readers.items in
    let forms = c.in-Ok.bound.forms.items in
    let layouts = c.in-Ok.bound.layouts.items in
    let map = files.map c.args.files.now in
    let bound = subst (λ rs. AreNamesBound stages rs (length stages)) c.as_slice.ensures.value c.in-Ok.ensures.bound in
    if-ok3 c.begin_works.result c.begin_works.ensures.ok c.begin_works.ensures.count c.begin_works.ensures.handed (λ works begun count handed.
    let are = subst (λ m. AreBegun g.F.In.Source g.F.Out.Sink m stages readers forms layouts works.items) c.in_ok-readers.ensures.lends.map begun in
    let starts = are-at-start g.F.In.Source g.F.Out.Sink map stages readers forms layouts works.items count c.in_ok-readers.ensures.count c.in-Ok.ensures.count c.in-Ok.ensures.as_many are (tree-down stages c.requires.tree)
    (subst (λ rs. AreForms stages rs forms) c.as_slice.ensures.value c.in-Ok.ensures.forms) c.in-Ok.ensures.fits (subst (λ rs. AreLayouts stages rs layouts) c.as_slice.ensures.value c.in-Ok.ensures.layouts) in
    are-ready g.F.In.Source g.F.Out.Sink map stages readers forms layouts works.items count c.in_ok-readers.ensures.count c.in-Ok.ensures.count c.in-Ok.ensures.as_many are
    g.P.PlugFilter g.Q.PlugTally (handed_by g.P.PlugFilter g.Q.PlugTally c.args.places.now) starts c.in_ok-readers.ensures.ok bound handed)

pub returns-clause-err : goal.returns-clause-err
returns-clause-err g c =
    let files = g.F.Files in
    if-err c.begin_works.result c.begin_works.ensures.err (λ refusal cause.
    let handed = handed_by g.P.PlugFilter g.Q.PlugTally c.args.places.now in
    subst (λ map. IsCause (Rose (files.faults c.args.files.now) (files.faults c.begin_works.new.files)) handed map c.args.stages.now refusal) c.in_ok-readers.ensures.lends.map
    (cause-weaker handed (files.map c.open_readers.new.files) c.args.stages.now refusal
    (rose-within (files.faults c.args.files.now) (files.faults c.open_readers.new.files) (files.faults c.begin_works.new.files) (files.faults c.begin_works.new.files) c.in_ok-readers.ensures.lends.later (omega arith)) cause))

pub returns-clause-lends : goal.returns-clause-lends
returns-clause-lends g c =
    let first = c.in_ok-readers.ensures.lends in
    if-ok c.begin_works.result c.begin_works.ensures.lends (λ works lends. record {
      map = lends.map ∙ first.map;
      read_to = lends.read_to ∙ first.read_to;
      counts = lends.counts ∙ first.counts;
      later = (let a = first.later in let b = lends.later in omega (arith, a, b));
      lent = (let a = first.lent in let b = lends.lent in omega (arith, a, b));
    })

pub returns-clause-settles : goal.returns-clause-settles
returns-clause-settles g c =
    let first = c.in_ok-readers.ensures.lends in
    if-on-err c.begin_works.result c.begin_works.ensures.settles (λ settles. record {
      map = settles.map ∙ first.map;
      later = (let a = first.later in let b = settles.later in omega (arith, a, b));
      lent = λ others e. settles.lent others (let a = first.lent in omega (arith, a, e));
    })

pub returns-in_err-readers-clause-back : goal.returns-in_err-readers-clause-back
returns-in_err-readers-clause-back g c = on-err c.from_residual.result (nothing-taken g.P.PlugFilter g.Q.PlugTally c.args.stages.now c.args.places.now)

pub returns-in-Err-clause-back : goal.returns-in-Err-clause-back
returns-in-Err-clause-back g c = nothing-taken g.P.PlugFilter g.Q.PlugTally c.args.stages.now c.args.places.now

pub returns-in_err-readers-clause-err : goal.returns-in_err-readers-clause-err
returns-in_err-readers-clause-err g c =
    let files = g.F.Files in
    let refusal = c.in_err-readers.field-0.0 in
    let handed = handed_by g.P.PlugFilter g.Q.PlugTally c.args.places.now in
    let p = err_from_is_err_and c.from_residual.result c.from_residual.ensures.1 in
    let same : p.0 ≡ refusal = p.2 in
    let refused : c.from_residual.result ≡ Err refusal = p.1 ∙ ap Err same in
    subst (λ r. IfErr r (IsCause (Rose (files.faults c.args.files.now) (files.faults c.open_readers.new.files)) handed (files.map c.args.files.now) c.args.stages.now)) (sym refused)
    (c.in_err-readers.ensures.err handed)

pub returns-in-Err-clause-least : goal.returns-in-Err-clause-least
returns-in-Err-clause-least g c =
    unbound-named c.args.stages.now c.in_ok-readers.readers.items (g.F.Files.counts c.args.files.now) (g.F.Files.counts c.give_back.new.files) c.in-Err.refusal
    (subst (λ rs. IsUnbound c.args.stages.now rs c.in-Err.refusal) c.as_slice.ensures.value c.in-Err.ensures.err)

pub returns-clause-least : goal.returns-clause-least
returns-clause-least g c = if-err c.begin_works.result c.begin_works.ensures.least (λ refusal named.
    subst (λ o. IsNamedBy c.args.stages.now o (g.F.Files.counts c.begin_works.new.files) refusal) c.in_ok-readers.ensures.lends.counts named)
