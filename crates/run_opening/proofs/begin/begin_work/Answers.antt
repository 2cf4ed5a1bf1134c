use Rattle.std.proofs.Common.{◌≡◌, Some, refl, ap, sym, subst, ◌∙◌, arith}
use Rattle.stage_kinds.specs.declared.stage_work.StageWork.TheVariants.{Filter, Collector}
use Rattle.stage_kinds.specs.declared.file_form.StageForm.TheVariants.{Reads}
use Rattle.stage_options.specs.Roles.{is_reading, role_of}
use Rattle.stage_options.specs.Roles as role
use Rattle.stage_forms.specs.Starts.{IsStarted}
use Rattle.answer_model.specs.Values.{op_for}
use Rattle.run_opening.specs.Begun.{IsForm, IsOpened, IsWork}
use Rattle.held_devices.specs.Holding.{there}
use Rattle.run_opening.proofs.Opening.{by-reader, other-work, reader-work}
use Rattle.run_opening.proofs.begin.begin_work.Goals as goal

pub read_with-requires-clause-start : goal.read_with-requires-clause-start
read_with-requires-clause-start g c =
    let s = g.F.In.Source in
    let map = g.F.Files.map c.args.files.now in
    let role = role_of c.args.stage.now.options in
    (by-reader s map c.args.number role c.in-Some.reader (subst (IsOpened s map c.args.number role) c.in-Some.is c.requires.opened)).1.start

pub returns-clause-ok : goal.returns-clause-ok
returns-clause-ok g c =
    let w = c.read_with.ensures in
    let s = g.F.In.Source in
    let k = g.F.Out.Sink in
    let map = g.F.Files.map c.args.files.now in
    let o = c.args.stage.now.options in
    let work = reader-work s k map c.args.number o c.in-Some.reader w.with_fields c.in-Reads-form.fields c.args.layout.now (subst (IsOpened s map c.args.number (role_of o)) c.in-Some.is c.requires.opened)
    w.source w.header w.lists.0 w.lists.1 w.start w.taken in
    subst (λ r. IsWork s k map c.args.number o r c.args.form c.args.layout.now c.read_with.result) (sym c.in-Some.is)
    (subst (λ f. IsWork s k map c.args.number o (Some c.in-Some.reader) f c.args.layout.now c.read_with.result) (sym c.in-Reads-form.is)
    (subst (IsWork s k map c.args.number o (Some c.in-Some.reader) (Reads c.in-Reads-form.fields) c.args.layout.now) (sym w.is) work))

pub returns-in-Filters-clause-ok : goal.returns-in-Filters-clause-ok
returns-in-Filters-clause-ok g c =
    let s = g.F.In.Source in
    let k = g.F.Out.Sink in
    let map = g.F.Files.map c.args.files.now in
    let o = c.args.stage.now.options in
    let f = c.in-Filters.filter in
    let does : role_of o ≡ role.Filters = subst (IsForm o) c.in-Filters.is c.requires.form in
    subst (λ r. IsWork s k map c.args.number o r c.args.form c.args.layout.now (Filter f)) (sym c.in_default.is)
    (other-work s k map c.args.number o c.args.form c.args.layout.now (Filter f) (ap is_reading does) (sym (ap op_for does))
    (λ setting e laid. subst (λ form. IsStarted {S = g.row.F-In.Denot} {K = g.row.F-Out.Denot} {P = g.row.P.Denot} {Q = g.row.Q.Denot} k.bytes setting.dims form (Filter f)) (sym c.in-Filters.is ∙ e) refl) refl)

pub returns-in-Filters-clause-lends : goal.returns-in-Filters-clause-lends
returns-in-Filters-clause-lends g c = record { map = refl; read_to = refl; counts = refl; later = omega arith; lent = (let nothing = ap there c.in_default.is in omega (arith, nothing)) }

pub returns-in-Gathers-clause-ok : goal.returns-in-Gathers-clause-ok
returns-in-Gathers-clause-ok g c =
    let s = g.F.In.Source in
    let k = g.F.Out.Sink in
    let map = g.F.Files.map c.args.files.now in
    let o = c.args.stage.now.options in
    let w = c.new.result in
    let does = subst (IsForm o) c.in-Gathers.is c.requires.form in
    subst (λ r. IsWork s k map c.args.number o r c.args.form c.args.layout.now (Collector w)) (sym c.in_default.is)
    (other-work s k map c.args.number o c.args.form c.args.layout.now (Collector w) does.1 (sym does.0)
    (λ setting e laid. subst (λ form. IsStarted {S = g.row.F-In.Denot} {K = g.row.F-Out.Denot} {P = g.row.P.Denot} {Q = g.row.Q.Denot} k.bytes setting.dims form (Collector w)) (sym c.in-Gathers.is ∙ e)
    (record { makes = c.new.ensures.making; short = c.new.ensures.short; views = c.new.ensures.views })) refl)

pub returns-in-Gathers-clause-lends : goal.returns-in-Gathers-clause-lends
returns-in-Gathers-clause-lends g c = record { map = refl; read_to = refl; counts = refl; later = omega arith; lent = (let nothing = ap there c.in_default.is in omega (arith, nothing)) }
