use Rattle.std.proofs.Common.{◌≡◌, ◌≤◌, ap, sym, subst, length, take, drop, Ok, arith}
use Rattle.extra_bytes.specs.Fields.{AreLaid, fields_bytes, fields_size}
use Rattle.las_writer.proofs.HeaderSizes.{record_small}
use Rattle.las_writer.specs.Records.{grid_for}
use Rattle.las_writer.proofs.Recorded.{written_whole}
use Rattle.point_formats.specs.Encoded.{encoded}
use Rattle.las_writer.proofs.records.encode_record.Goals as goal

pub put_fields-requires-clause-laid : goal.put_fields-requires-clause-laid
put_fields-requires-clause-laid c =
    subst (AreLaid c.in_ok-size.size) (sym c.as_slice.ensures) (subst (λ n. AreLaid n c.args.form.now.extra) (sym c.in_ok-size.ensures.size) c.requires.form.extra)

pub put_fields-requires-clause-room : goal.put_fields-requires-clause-room
put_fields-requires-clause-room c =
    omega (arith, record_small c.args.form.now c.requires.form, c.in_ok-size.ensures.size, ap fields_size c.as_slice.ensures, c.requires.room, c.encode_ready.auto.out)

pub returns-in-Ok-clause-ok : goal.returns-in-Ok-clause-ok
returns-in-Ok-clause-ok c =
    let form = c.args.form.now in
    let p = c.args.point.now in
    let n = c.in_ok-size.size in
    let end = c.in-Ok.end in
    let first = c.encode_ready.new.out in
    let all = c.put_fields.new.bytes in
    let fields : encoded form.format (grid_for form) p ≡ Ok (take n first) = subst (λ grid. encoded form.format grid p ≡ Ok (take n first)) c.requires.grid c.in_ok-size.ensures.ok in
    let behind : fields_bytes form.extra p ≡ Ok (drop n (take end all)) = subst (λ l. fields_bytes l p ≡ Ok (drop n (take end all))) c.as_slice.ensures c.in-Ok.ensures.ok in
    let ends : n ≤ end = omega (arith, c.in-Ok.ensures.end) in
    let within : end ≤ length all = omega (
      arith,
      c.in-Ok.ensures.end,
      record_small form c.requires.form,
      c.in_ok-size.ensures.size,
      ap fields_size c.as_slice.ensures,
      c.requires.room,
      c.encode_ready.auto.out,
      c.put_fields.ensures.len,
    ) in
    written_whole form p n end first all fields behind c.put_fields.ensures.before ends within

pub returns-in-Ok-clause-most : goal.returns-in-Ok-clause-most
returns-in-Ok-clause-most c =
    omega (arith, record_small c.args.form.now c.requires.form, c.in_ok-size.ensures.size, ap fields_size c.as_slice.ensures, c.in-Ok.ensures.end)
