use Rattle.std.proofs.Common.{rules, ◌≡◌, Some, None, ap, sym, ◌∙◌, w64, FitsSigned}
use Rattle.std.proofs.lemmas.Int.{to_z-of_z}
use Rattle.extra_bytes.specs.Descriptors.{kind_numbered}
use Rattle.extra_bytes.proofs.Fields.{field_is, type_byte}
use Rattle.extra_bytes.proofs.descriptors.field_in.Goals as goal

pub returns-in_default-offset_in : goal.returns-in_default-offset_in
returns-in_default-offset_in c =
    let bytes = c.args.bytes.now in
    let none : c.offset_in.result ≡ None = search rules in
    sym (field_is c.args.at c.args.fields.now bytes (Some c.in-Some.name.now) (Some c.in-Some-kind_numbered.kind) (Some c.in-Some-scale_in.scale) None
    c.in-Some.ensures (ap kind_numbered (type_byte bytes) ∙ sym c.in-Some-kind_numbered.ensures) (sym c.in-Some-scale_in.ensures) (sym c.offset_in.ensures ∙ none))

pub returns : goal.returns
returns c =
    let bytes = c.args.bytes.now in
    let offset = c.in-Some-offset_in.offset in
    let fits : FitsSigned w64 offset = search rules in
    let name : c.new-name.result ≡ c.in-Some.name.now = search rules in
    rw (to_z-of_z w64 offset fits, name)
    (sym (field_is c.args.at c.args.fields.now bytes (Some c.in-Some.name.now) (Some c.in-Some-kind_numbered.kind) (Some c.in-Some-scale_in.scale) (Some offset)
    c.in-Some.ensures (ap kind_numbered (type_byte bytes) ∙ sym c.in-Some-kind_numbered.ensures) (sym c.in-Some-scale_in.ensures) (sym c.in-Some-offset_in.ensures)))
