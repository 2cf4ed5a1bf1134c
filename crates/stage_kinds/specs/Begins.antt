-- Why a writer doesn't begin, as a stage says it.
use Rattle.las_writer.specs.declared.faults.LasBeginErr.{LasBeginErr}
use Rattle.las_writer.specs.declared.faults.LasBeginErr.TheVariants as las
use Rattle.text_writer.specs.declared.form.TextBeginErr.{TextBeginErr}
use Rattle.text_writer.specs.declared.form.TextBeginErr.TheVariants as text
use Rattle.stage_kinds.specs.declared.beginning.FileBeginErr.{FileBeginErr}
use Rattle.stage_kinds.specs.declared.beginning.FileBeginErr.TheVariants.{Failed, Memory}
use Rattle.stage_kinds.specs.declared.view_writing.ViewErr.{ViewErr}
use Rattle.stage_kinds.specs.declared.view_writing.ViewErr.TheVariants as view
use Rattle.file_devices.specs.declared.devices.Op.TheVariants.{Write}

abbrev pub begin_err_of_text : TextBeginErr → FileBeginErr
begin_err_of_text text.Failed = Failed
begin_err_of_text text.Memory = Memory

abbrev pub begin_err_of_las : LasBeginErr → FileBeginErr
begin_err_of_las las.Failed = Failed
begin_err_of_las las.Memory = Memory

-- the same of the file of a view
abbrev pub view_err_of : FileBeginErr → ViewErr
view_err_of Failed = view.Failed Write
view_err_of Memory = view.Memory
