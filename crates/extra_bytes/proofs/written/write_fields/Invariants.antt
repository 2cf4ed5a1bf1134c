use Rattle.std.proofs.Common.{◌≡◌, take}
use Rattle.std.specs.List.{flat_map}
use Rattle.extra_bytes.specs.Written.{descriptor_bytes}
use Rattle.extra_bytes.proofs.written.write_fields.Given as goal

abbrev pub invariant-loop-field : goal.invariant-loop-field
invariant-loop-field l = l.payload.items ≡ flat_map descriptor_bytes (take l.field-index l.fields)
