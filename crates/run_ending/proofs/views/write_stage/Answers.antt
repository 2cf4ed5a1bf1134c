use Rattle.std.proofs.Common.{◌≡◌, ◌∙◌, List, OnOk, IfErr, ap, sym, subst}
use Rattle.cloud_points.specs.declared.point.Point.{Point}
use Rattle.cloud_points.specs.Flows.{Flow}
use Rattle.file_devices.specs.Counts.{Rose}
use Rattle.stage_kinds.specs.declared.file_form.Writing.{Writing}
use Rattle.stage_options.specs.Seen.{role_view}
use Rattle.stage_options.specs.declared.role.Role.{Role}
use Rattle.answer_model.specs.Values.{Output}
use Rattle.run_outcome.specs.Cause.{WerePut}
use Rattle.run_ending.specs.Each.{Stops, each_files, files_from}
use Rattle.run_ending.proofs.views.write_stage.Goals as goal

pub returns-clause-put : goal.returns-clause-put
returns-clause-put g c =
    let files = g.F.Files in
    let i = c.args.each.stage in
    let x = c.args.each.files.writing in
    let flow = c.args.each.files.views.views in
    let parts = c.into_parts-views.result in
    let same : files_from i c.in-WritesEach.name.now parts.1 1 parts.0.views ≡ each_files i (role_view c.args.role) x flow =
    ap (λ (y : Writing). files_from i c.in-WritesEach.name.now y 1 parts.0.views) c.into_parts-views.ensures.writing
    ∙ ap (λ (f : Flow Point). files_from i c.in-WritesEach.name.now x 1 f.views) c.into_parts-views.ensures.views
    ∙ sym (ap (λ (r : Role). each_files i (role_view r) x flow) c.in-WritesEach.is) in
    subst (λ (fs : List Output). OnOk c.write_views.result (WerePut (files.map c.args.files.now) fs (files.map c.write_views.new.files))) same c.write_views.ensures.put

pub returns-clause-stops : goal.returns-clause-stops
returns-clause-stops g c =
    let files = g.F.Files in
    let rose = Rose (files.faults c.args.files.now) (files.faults c.write_views.new.files) in
    let i = c.args.each.stage in
    let x = c.args.each.files.writing in
    let flow = c.args.each.files.views.views in
    let parts = c.into_parts-views.result in
    let same : files_from i c.in-WritesEach.name.now x 1 parts.0.views ≡ each_files i (role_view c.args.role) x flow =
    ap (λ (f : Flow Point). files_from i c.in-WritesEach.name.now x 1 f.views) c.into_parts-views.ensures.views
    ∙ sym (ap (λ (r : Role). each_files i (role_view r) x flow) c.in-WritesEach.is) in
    subst (λ (fs : List Output). IfErr c.write_views.result (Stops rose (files.map c.args.files.now) (files.map c.write_views.new.files) i x.form fs)) same
    (subst (λ (y : Writing). IfErr c.write_views.result (Stops rose (files.map c.args.files.now) (files.map c.write_views.new.files) i y.form (files_from i c.in-WritesEach.name.now y 1 parts.0.views)))
    c.into_parts-views.ensures.writing c.write_views.ensures.stops)
