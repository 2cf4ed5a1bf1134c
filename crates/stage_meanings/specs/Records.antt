-- Points that have no place in a file.
use Rattle.std.specs.Prelude.{Bool, true, false, Option, Some, None, Result, Ok, Err}
use Rattle.point_formats.specs.declared.encoding.EncodeFault.{EncodeFault}
use Rattle.point_formats.specs.declared.encoding.EncodeFault.TheVariants as encode
use Rattle.stage_meanings.specs.declared.reason.Reason.{Reason}
use Rattle.stage_meanings.specs.declared.reason.Reason.TheVariants.{OutOfRange, NotHeld, TooMany}

-- why a point has no record, as the reason of a stage
abbrev pub encode_reason : EncodeFault → Reason
encode_reason (encode.NotHeld dim) = NotHeld dim
encode_reason (encode.ValueOutOfRange dim) = OutOfRange dim

-- why it has no place, by whether the file counts one point more, and by its record
abbrev pub unrecorded : {A : Type 0} → Bool → Result A EncodeFault → Option Reason
unrecorded false record_or_fault = Some TooMany
unrecorded true (Ok bytes) = None
unrecorded true (Err fault) = Some (encode_reason fault)
