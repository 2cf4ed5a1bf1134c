use Rattle.std.proofs.Common.{◌≡◌, ◌/◌, length}
use Rattle.extra_bytes.specs.Descriptors.{fields_behind, fields_of}
use Rattle.extra_bytes.proofs.reading.read_fields.Given as goal

abbrev pub invariant-loop-rest : goal.invariant-loop-rest
invariant-loop-rest l = fields_of l.payload l.from l.record_length ≡ fields_behind (length l.rest / 192) l.fields.items l.at l.record_length l.rest

abbrev pub decreases-loop-rest : goal.decreases-loop-rest
decreases-loop-rest l = length l.rest
