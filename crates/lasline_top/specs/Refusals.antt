-- The status of a refused command, and the refusal for a pipeline.
use Rattle.stage_names.specs.declared.faults.PipeErr.{PipeErr}
use Rattle.stage_names.specs.declared.faults.PipeErr.TheVariants as pipe
use Rattle.run_report.specs.declared.refusal.Refusal.{Refusal}
use Rattle.run_report.specs.declared.refusal.Refusal.TheVariants.{Usage, Pipeline, Data, Device, Memory}
use Rattle.lasline_top.specs.declared.status.Status.{Status}
use Rattle.lasline_top.specs.declared.status.Status.TheVariants as status

abbrev pub status_for : Refusal → Status
status_for (Usage k) = status.Usage k
status_for (Pipeline f) = status.Pipeline f
status_for (Data i f) = status.Data i f
status_for (Device p o) = status.Device p o
status_for Memory = status.Memory

abbrev pub refusal_of : PipeErr → Refusal
refusal_of (pipe.Fault f) = Pipeline f
refusal_of pipe.Memory = Memory
