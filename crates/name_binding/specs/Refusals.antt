-- The faults of names that aren't bound.
use Rattle.std.specs.Prelude.{ℕ, Option, Some, None, Result, Err}
use Rattle.expr_eval.specs.declared.bind.BindErr.{BindErr}
use Rattle.expr_eval.specs.declared.bind.BindErr.TheVariants.{Unknown, NotNumeric, Memory}
use Rattle.stage_names.specs.declared.faults.PipeFault.{PipeFault}
use Rattle.stage_names.specs.declared.faults.PipeFault.TheVariants.{DimUnknown, DimNotNumeric}
use Rattle.stage_names.specs.declared.faults.PipeErr.{PipeErr}
use Rattle.stage_names.specs.declared.faults.PipeErr.TheVariants.{Fault, Memory as OutOfMemory}

-- the error of stage i's options where a name isn't bound
abbrev pub refusal_of : ℕ → BindErr → PipeErr
refusal_of i (Unknown name) = Fault (DimUnknown i name)
refusal_of i (NotNumeric name) = Fault (DimNotNumeric i name)
refusal_of i Memory = OutOfMemory

-- the fault that it tells
abbrev pub refused : {A : Type 0} → ℕ → Result A BindErr → Option PipeFault
refused i (Err (Unknown name)) = Some (DimUnknown i name)
refused i (Err (NotNumeric name)) = Some (DimNotNumeric i name)
refused i _ = None
