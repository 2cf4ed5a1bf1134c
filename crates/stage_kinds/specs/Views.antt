-- The files of views.
use Rattle.std.specs.Prelude.{◌≡◌, ◌⊎◌}
use Rattle.file_devices.specs.declared.devices.Op.{Op}
use Rattle.file_devices.specs.declared.devices.Op.TheVariants.{Write}
use Rattle.stage_kinds.specs.declared.file_form.FileForm.{FileForm}
use Rattle.stage_kinds.specs.Files.{finishing_op}

-- a file is written and made whole by this
abbrev pub IsWritingOp : FileForm → Op → Type 0
IsWritingOp form o = (o ≡ Write) ⊎ (o ≡ finishing_op form)
