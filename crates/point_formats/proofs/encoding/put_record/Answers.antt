use Rattle.std.proofs.Common.{rules, ◌≡◌, [], ◌∷◌, ◌++◌, Err, refl, ap, sym, ◌∙◌}
use Rattle.std.specs.Int.{w16}
use Rattle.cloud_points.specs.declared.dims.Dim.TheVariants.{Infrared}
use Rattle.point_formats.specs.Formats.{Time, Number, colours, old_items, new_items}
use Rattle.point_formats.proofs.Appending.{items_go_on, items_refused}
use Rattle.point_formats.proofs.encoding.put_record.Goals as goal

pub returns-in_err-old_record-in-F1-clause-refused : goal.returns-in_err-old_record-in-F1-clause-refused
returns-in_err-old_record-in-F1-clause-refused c =
    let refused : c.from_residual-in_err-old_record-in-F1.result ≡ Err c.in_err-old_record-in-F1.field-0.0 = search rules in
    rw (refused, c.in-F1.is) (items_refused c.args.grid.now c.args.p.now old_items (Time ∷ []) c.in_err-old_record-in-F1.field-0.0 (sym c.old_record-in-F1.ensures ∙ c.in_err-old_record-in-F1.was))

pub returns-in_err-old_record-in-F2-clause-refused : goal.returns-in_err-old_record-in-F2-clause-refused
returns-in_err-old_record-in-F2-clause-refused c =
    let refused : c.from_residual-in_err-old_record-in-F2.result ≡ Err c.in_err-old_record-in-F2.field-0.0 = search rules in
    rw (refused, c.in-F2.is) (items_refused c.args.grid.now c.args.p.now old_items colours c.in_err-old_record-in-F2.field-0.0 (sym c.old_record-in-F2.ensures ∙ c.in_err-old_record-in-F2.was))

pub returns-in_err-old_record-in-F3-clause-refused : goal.returns-in_err-old_record-in-F3-clause-refused
returns-in_err-old_record-in-F3-clause-refused c =
    let refused : c.from_residual-in_err-old_record-in-F3.result ≡ Err c.in_err-old_record-in-F3.field-0.0 = search rules in
    rw (refused, c.in-F3.is) (items_refused c.args.grid.now c.args.p.now old_items (Time ∷ colours) c.in_err-old_record-in-F3.field-0.0 (sym c.old_record-in-F3.ensures ∙ c.in_err-old_record-in-F3.was))

pub returns-in_err-new_record-in-F7-clause-refused : goal.returns-in_err-new_record-in-F7-clause-refused
returns-in_err-new_record-in-F7-clause-refused c =
    let refused : c.from_residual-in_err-new_record-in-F7.result ≡ Err c.in_err-new_record-in-F7.field-0.0 = search rules in
    rw (refused, c.in-F7.is) (items_refused c.args.grid.now c.args.p.now new_items colours c.in_err-new_record-in-F7.field-0.0 (sym c.new_record-in-F7.ensures ∙ c.in_err-new_record-in-F7.was))

pub returns-in_err-new_record-in-F8-clause-refused : goal.returns-in_err-new_record-in-F8-clause-refused
returns-in_err-new_record-in-F8-clause-refused c =
    let refused : c.from_residual-in_err-new_record-in-F8.result ≡ Err c.in_err-new_record-in-F8.field-0.0 = search rules in
    rw (refused, c.in-F8.is) (items_refused c.args.grid.now c.args.p.now new_items (colours ++ Number Infrared w16 ∷ []) c.in_err-new_record-in-F8.field-0.0 (sym c.new_record-in-F8.ensures ∙ c.in_err-new_record-in-F8.was))

pub returns-in_ok-old_record-in-F1-clause-ok : goal.returns-in_ok-old_record-in-F1-clause-ok
returns-in_ok-old_record-in-F1-clause-ok c =
    let first = sym c.old_record-in-F1.ensures ∙ c.in_ok-old_record-in-F1.was in
    let written = c.put_parts-in-F1.ensures.front ∙ ap (λ l. c.in_ok-old_record-in-F1.field-0 ++ l) c.to_le_bytes.ensures in
    rw (c.in-F1.is, written) (items_go_on c.args.grid.now c.args.p.now old_items (Time ∷ []) c.in_ok-old_record-in-F1.field-0 _ first refl)

pub returns-in_ok-old_record-in-F3-clause-ok : goal.returns-in_ok-old_record-in-F3-clause-ok
returns-in_ok-old_record-in-F3-clause-ok c =
    let first = sym c.old_record-in-F3.ensures ∙ c.in_ok-old_record-in-F3.was in
    let written = c.put_parts-in-F3.ensures.front ∙ ap (λ l. c.in_ok-old_record-in-F3.field-0 ++ l) c.timed_colours.ensures in
    rw (c.in-F3.is, written) (items_go_on c.args.grid.now c.args.p.now old_items (Time ∷ colours) c.in_ok-old_record-in-F3.field-0 _ first refl)

pub returns-in_ok-new_record-in-F7-clause-ok : goal.returns-in_ok-new_record-in-F7-clause-ok
returns-in_ok-new_record-in-F7-clause-ok c =
    let first = sym c.new_record-in-F7.ensures ∙ c.in_ok-new_record-in-F7.was in
    let written = c.put_parts-in-F7.ensures.front ∙ ap (λ l. c.in_ok-new_record-in-F7.field-0 ++ l) c.colours-in-F7.ensures in
    rw (c.in-F7.is, written) (items_go_on c.args.grid.now c.args.p.now new_items colours c.in_ok-new_record-in-F7.field-0 _ first refl)

pub returns-in_ok-new_record-in-F8-clause-ok : goal.returns-in_ok-new_record-in-F8-clause-ok
returns-in_ok-new_record-in-F8-clause-ok c =
    let first = sym c.new_record-in-F8.ensures ∙ c.in_ok-new_record-in-F8.was in
    let written = c.put_parts-in-F8.ensures.front ∙ ap (λ l. c.in_ok-new_record-in-F8.field-0 ++ l) c.infrared_colours.ensures in
    rw (c.in-F8.is, written) (items_go_on c.args.grid.now c.args.p.now new_items (colours ++ Number Infrared w16 ∷ []) c.in_ok-new_record-in-F8.field-0 _ first refl)
