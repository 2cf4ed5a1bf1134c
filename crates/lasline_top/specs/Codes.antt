-- The exit codes of the program.
use Rattle.std.specs.Prelude.{ℕ}
use Rattle.lasline_top.specs.declared.status.Status.{Status}
use Rattle.lasline_top.specs.declared.status.Status.TheVariants.{Ok, Usage, Pipeline, Data, Device, Memory}

abbrev pub code_of : Status → ℕ
code_of Ok = 0
code_of (Usage k) = 1
code_of (Pipeline f) = 2
code_of (Data i f) = 3
code_of (Device p o) = 4
code_of Memory = 5
