use Rattle.std.proofs.Common.{ap, drop, length, length-append, arith}
use Rattle.extra_bytes.specs.Asked.{asked_fields}
use Rattle.extra_bytes.proofs.Described.{asked_length}
use Rattle.extra_bytes.proofs.asked.ask_each.Goals as goal

pub returns-clause-few : goal.returns-clause-few
returns-clause-few c =
    let names = c.args.names.now in
    let asked = c.args.asked.now in
    omega (
      arith,
      ap length c.new.ensures,
      ap length c.loop-field.invariant.fields_are,
      length-append c.loop-field.fields.items (asked_fields names c.loop-field.at (drop c.loop-field.field-index asked)),
      asked_length names c.args.from asked,
      c.requires.few,
    )
