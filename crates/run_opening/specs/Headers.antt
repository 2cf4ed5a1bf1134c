-- The headers of the files that stages read.
use Rattle.std.specs.Prelude.{ℕ, List, Option, Some, None, Result, Ok, Err}
use Rattle.file_devices.specs.Named.{Names}
use Rattle.las_header.specs.Headers.{header_of}
use Rattle.las_header.specs.declared.block.Header.{Header}
use Rattle.las_header.specs.declared.faults.HeaderFault.{HeaderFault}
use Rattle.stage_options.specs.Roles.{Role, Reads}

-- the header, where it has no fault
abbrev pub header_or : Result Header HeaderFault → Option Header
header_or (Ok header) = Some header
header_or (Err fault) = None

-- of a file that may be there
abbrev pub header_in : Option (List ℕ) → Option Header
header_in (Some file) = header_or (header_of file)
header_in None = None

-- of the one that a stage reads which does this
abbrev pub header_at : Names → Role → Option Header
header_at m (Reads name) = header_in (m name)
header_at m _ = None
