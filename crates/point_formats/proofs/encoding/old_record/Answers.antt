use Rattle.std.proofs.Common.{rules, get_or, pos, ◌≡◌, Err, FitsSigned, w8, w16, w64, sym, ap, refl, ◌∙◌}
use Rattle.std.specs.Int.{to_le_bytes, cast_unsigned}
use Rattle.std.proofs.lemmas.Int.{to_z-of_z}
use Rattle.point_formats.specs.Encoded.{angle_number}
use Rattle.point_formats.proofs.Steps.{raw_bytes, old_is}
use Rattle.point_formats.proofs.encoding.old_record.Goals as goal

pub returns-in_err-x : goal.returns-in_err-x
returns-in_err-x c =
    let refused : c.from_residual.result ≡ Err c.in_err-x.field-0.0 = search rules in
    refused ∙ sym (old_is c.args.grid.now c.args.p.now (sym c.raw_numbers.ensures.value ∙ c.in_err-x.was) refl refl refl)

pub returns-in_err-returns : goal.returns-in_err-returns
returns-in_err-returns c =
    let refused : c.from_residual-in_err-returns.result ≡ Err c.in_err-returns.field-0.0 = search rules in
    refused ∙ sym (old_is c.args.grid.now c.args.p.now (sym c.raw_numbers.ensures.value ∙ c.in_ok-x.was) (sym c.old_returns.ensures ∙ c.in_err-returns.was) refl refl)

pub returns-in_err-class : goal.returns-in_err-class
returns-in_err-class c =
    let refused : c.from_residual-in_err-class.result ≡ Err c.in_err-class.field-0.0 = search rules in
    refused ∙ sym (old_is c.args.grid.now c.args.p.now (sym c.raw_numbers.ensures.value ∙ c.in_ok-x.was) (sym c.old_returns.ensures ∙ c.in_ok-returns.was) (sym c.old_class.ensures ∙ c.in_err-class.was) refl)

pub returns-in_err-angle : goal.returns-in_err-angle
returns-in_err-angle c =
    let fits : FitsSigned w64 c.args.p.now.scan_angle_rank = search rules in
    let angle = ap (λ n. angle_number w8 1000000000 n) (to_z-of_z w64 c.args.p.now.scan_angle_rank fits) in
    let refused : c.from_residual-in_err-angle.result ≡ Err c.in_err-angle.field-0.0 = search rules in
    refused ∙ sym (old_is c.args.grid.now c.args.p.now (sym c.raw_numbers.ensures.value ∙ c.in_ok-x.was) (sym c.old_returns.ensures ∙ c.in_ok-returns.was) (sym c.old_class.ensures ∙ c.in_ok-class.was) (sym (c.degrees.ensures ∙ angle) ∙ c.in_err-angle.was))

pub returns : goal.returns
returns c =
    let fits : FitsSigned w64 c.args.p.now.scan_angle_rank = search rules in
    let angle = ap (λ n. angle_number w8 1000000000 n) (to_z-of_z w64 c.args.p.now.scan_angle_rank fits) in
    let record_is = old_is c.args.grid.now c.args.p.now (sym c.raw_numbers.ensures.value ∙ c.in_ok-x.was) (sym c.old_returns.ensures ∙ c.in_ok-returns.was) (sym c.old_class.ensures ∙ c.in_ok-class.was) (sym (c.degrees.ensures ∙ angle) ∙ c.in_ok-angle.was) in
    let x_bytes : c.to_le_bytes-x.result ≡ raw_bytes (get_or c.in_ok-x.field-0 0 (pos 0)) = search rules in
    let y_bytes : c.to_le_bytes-y.result ≡ raw_bytes (get_or c.in_ok-x.field-0 1 (pos 0)) = search rules in
    let z_bytes : c.to_le_bytes-z.result ≡ raw_bytes (get_or c.in_ok-x.field-0 2 (pos 0)) = search rules in
    let light_bytes : c.to_le_bytes-light.result ≡ to_le_bytes w16 c.args.p.now.intensity = search rules in
    let user_bytes : c.to_le_bytes-user.result ≡ to_le_bytes w8 c.args.p.now.user_data = search rules in
    let source_bytes : c.to_le_bytes-source.result ≡ to_le_bytes w16 c.args.p.now.point_source_id = search rules in
    let angle_bytes : c.to_le_bytes-angle.result ≡ to_le_bytes w8 (cast_unsigned w8 c.in_ok-angle.angle) = search rules in
    rw (x_bytes, y_bytes, z_bytes, light_bytes, user_bytes, source_bytes, angle_bytes) (sym record_is)
