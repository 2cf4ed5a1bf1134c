-- Why a writer doesn't take a point.
use Rattle.std.specs.Prelude.{◌≡◌, Option, Some, None}
use Rattle.stage_meanings.specs.declared.reason.Reason.{Reason}
use Rattle.stage_kinds.specs.declared.file_writer.PutErr.{PutErr}
use Rattle.stage_kinds.specs.declared.file_writer.PutErr.TheVariants as put
use Rattle.stage_kinds.specs.declared.writer_stage.TakeErr.{TakeErr}
use Rattle.stage_kinds.specs.declared.writer_stage.TakeErr.TheVariants.{Refused, Failed}

abbrev pub take_err_of : PutErr → TakeErr
take_err_of (put.Refused at reason) = Refused reason
take_err_of put.Failed = Failed

-- it stops at the point for this reason; where the sink failed it doesn't stop there
abbrev pub IsUntaken : Option Reason → TakeErr → Type 0
IsUntaken found (Refused reason) = found ≡ Some reason
IsUntaken found Failed = found ≡ None
