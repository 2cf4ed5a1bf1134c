use Rattle.std.proofs.Common.{arith, ◌<◌, ◌≤◌, length, sym, ◌∙◌}
use Rattle.extra_bytes.specs.Descriptors.{fields_of}
use Rattle.extra_bytes.proofs.Walking.{walk_stops, walk_ends, walk_next, all_behind}
use Rattle.extra_bytes.proofs.reading.read_fields.Goals as goal

pub returns-in-None : goal.returns-in-None
returns-in-None c =
    let rest = c.loop-rest.rest.now in
    let whole : 192 ≤ length rest = omega arith in
    c.new.ensures ∙ sym (c.loop-rest.invariant ∙ walk_stops c.loop-rest.fields.items c.loop-rest.at c.args.record_length rest whole (sym c.in-None.ensures.size))

pub loop-rest-preserved : goal.loop-rest-preserved
loop-rest-preserved c =
    let rest = c.loop-rest.rest.now in
    let whole : 192 ≤ length rest = omega arith in
    walk_next (fields_of c.args.payload.now c.args.from c.args.record_length) c.loop-rest.fields.items c.push_field.new.fields.items c.loop-rest.at c.args.record_length c.in-Some.size rest _
    whole (sym c.in-Some.ensures.size) c.in_ok-push_field-in-Some.ensures (all_behind rest) c.loop-rest.invariant

pub returns : goal.returns
returns c =
    let rest = c.loop-rest.rest.now in
    let short : length rest < 192 = omega arith in
    c.new-2.ensures ∙ sym (c.loop-rest.invariant ∙ walk_ends c.loop-rest.fields.items c.loop-rest.at c.args.record_length rest short)
