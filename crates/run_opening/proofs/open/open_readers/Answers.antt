use Rattle.std.proofs.Common.{◌≡◌, ◌+◌, ◌<◌, length, refl, ap, sym, subst, ◌∙◌, arith}
use Rattle.std.proofs.lemmas.Option.{slice_get_read}
use Rattle.std.specs.Prelude.{slice_get}
use Rattle.file_devices.specs.Counts.{Rose}
use Rattle.stage_options.specs.Roles.{role_of}
use Rattle.answer_model.specs.Values.{role_at}
use Rattle.run_opening.specs.Begun.{IsOpened}
use Rattle.held_devices.specs.Holding.{there, all_there}
use Rattle.run_outcome.specs.Cause.{IsCause}
use Rattle.run_opening.specs.Opening.{IsUnopened, ToldUnopened}
use Rattle.run_outcome.proofs.Causes.{rose-within, cause-weaker}
use Rattle.held_devices.proofs.Lists.{each-push}
use Rattle.held_devices.proofs.Sums.{sum-push}
use Rattle.run_outcome.proofs.Stages.{role-is}
use Rattle.run_opening.proofs.Named.{unopened-named}
use Rattle.run_opening.proofs.Opening.{are-read, unopened-cause}
use Rattle.run_opening.proofs.open.open_readers.Goals as goal

pub returns-in-Err-clause-settles : goal.returns-in-Err-clause-settles
returns-in-Err-clause-settles g c =
    let now = c.loop-i.invariant in
    let here = c.in-Err.ensures.settles in
    let back = c.give_back.ensures.settles in
    record {
      map = back.map ∙ here.map ∙ now.map;
      later = (let a = now.later in let b = here.later in let d = back.later in omega (arith, a, b, d));
      lent = λ others e. back.lent others (here.lent (others + all_there c.loop-i.readers.items) (let a = now.lent in omega (arith, a, e)));
    }

pub returns-in-Err-clause-err : goal.returns-in-Err-clause-err
returns-in-Err-clause-err g c = λ handed.
    let files = g.F.Files in
    let now = c.loop-i.invariant in
    let lt : c.loop-i.i < length c.args.stages.now = (let a = c.loop-i-test.true in omega (arith, a)) in
    let at = slice_get_read c.args.stages.now (length c.args.stages.now) c.loop-i.i c.index-stages-i.result refl lt c.index-stages-i.is in
    let size : c.loop-i.i ≡ length c.loop-i.readers.items = (let a = now.count in let k = c.loop-i.readers.ok in omega (arith, a, k)) in
    let rose = Rose (files.faults c.loop-i.files) (files.faults c.open_stage.new.files) in
    let why = subst (λ role. IsUnopened rose (files.map c.loop-i.files) c.loop-i.i role c.in-Err.refusal) (role-is c.args.stages.now c.loop-i.i c.index-stages-i.result at) c.in-Err.ensures.err in
    subst (λ map. IsCause (Rose (files.faults c.args.files.now) (files.faults c.give_back.new.files)) handed map c.args.stages.now c.in-Err.refusal) now.map
    (cause-weaker handed (files.map c.loop-i.files) c.args.stages.now c.in-Err.refusal
    (rose-within (files.faults c.args.files.now) (files.faults c.loop-i.files) (files.faults c.open_stage.new.files) (files.faults c.give_back.new.files) now.later c.give_back.ensures.settles.later)
    (unopened-cause rose handed (files.map c.loop-i.files) c.args.stages.now c.loop-i.i c.in-Err.refusal lt
    (λ m e. are-read g.F.In.Source (files.map c.args.files.now) c.args.stages.now c.loop-i.readers.items c.loop-i.i size now.opened m (sym now.map ∙ e)) why))

pub returns-in-Err-clause-least : goal.returns-in-Err-clause-least
returns-in-Err-clause-least g c =
    let s = g.F.In.Source in
    let files = g.F.Files in
    let now = c.loop-i.invariant in
    let stages = c.args.stages.now in
    let lt : c.loop-i.i < length stages = (let a = c.loop-i-test.true in omega (arith, a)) in
    let at = slice_get_read stages (length stages) c.loop-i.i c.index-stages-i.result refl lt c.index-stages-i.is in
    let size : c.loop-i.i ≡ length c.loop-i.readers.items = (let a = now.count in let k = c.loop-i.readers.ok in omega (arith, a, k)) in
    let rose = Rose (files.faults c.loop-i.files) (files.faults c.open_stage.new.files) in
    let why = subst (λ role. IsUnopened rose (files.map c.loop-i.files) c.loop-i.i role c.in-Err.refusal) (role-is stages c.loop-i.i c.index-stages-i.result at) c.in-Err.ensures.err in
    unopened-named s (files.map c.args.files.now) stages c.loop-i.readers.items now.opened c.loop-i.i size lt rose c.in-Err.refusal (files.counts c.args.files.now) (files.counts c.open_stage.new.files) (files.counts c.give_back.new.files)
    (subst (λ m. IsUnopened rose m c.loop-i.i (role_at stages c.loop-i.i) c.in-Err.refusal) now.map why) c.in-Err.ensures.before
    (subst (λ o. ToldUnopened o (files.counts c.open_stage.new.files) c.in-Err.refusal) now.counts c.in-Err.ensures.told) c.give_back.ensures.told

pub loop-i-preserved : goal.loop-i-preserved
loop-i-preserved g c =
    let files = g.F.Files in
    let now = c.loop-i.invariant in
    let lt : c.loop-i.i < length c.args.stages.now = (let a = c.loop-i-test.true in omega (arith, a)) in
    let at = slice_get_read c.args.stages.now (length c.args.stages.now) c.loop-i.i c.index-stages-i.result refl lt c.index-stages-i.is in
    let size : c.loop-i.i ≡ length c.loop-i.readers.items = (let a = now.count in let k = c.loop-i.readers.ok in omega (arith, a, k)) in
    let pushed = c.push_reserved.ensures.items in
    let one = subst (λ role. IsOpened g.F.In.Source (files.map c.args.files.now) c.loop-i.i role c.in-Ok-open_stage.reader) (role-is c.args.stages.now c.loop-i.i c.index-stages-i.result at)
    (subst (λ map. IsOpened g.F.In.Source map c.loop-i.i (role_of c.index-stages-i.result.options) c.in-Ok-open_stage.reader) now.map c.in-Ok-open_stage.ensures.ok) in
    let sum = ap all_there pushed ∙ sum-push there c.loop-i.readers.items c.in-Ok-open_stage.reader in
    record {
      opened = λ i o e. each-push (λ j p. IsOpened g.F.In.Source (files.map c.args.files.now) j (role_at c.args.stages.now j) p) c.loop-i.readers.items c.in-Ok-open_stage.reader c.loop-i.i size now.opened one i o (ap (λ xs. slice_get xs i) (sym pushed) ∙ e);
      count = (let a = c.push_reserved.ensures.len in let b = now.count in omega (arith, a, b));
      room = (let a = c.push_reserved.ensures.capacity in let b = now.room in omega (arith, a, b));
      map = c.in-Ok-open_stage.ensures.lends.map ∙ now.map;
      lent = (let a = c.in-Ok-open_stage.ensures.lends.lent in let b = now.lent in omega (arith, a, b, sum));
      read = c.in-Ok-open_stage.ensures.lends.read_to ∙ now.read;
      counts = c.in-Ok-open_stage.ensures.lends.counts ∙ now.counts;
      later = (let a = c.in-Ok-open_stage.ensures.lends.later in let b = now.later in omega (arith, a, b));
    }
