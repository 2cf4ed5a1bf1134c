-- What stands around the points of a LAS file.
use Rattle.std.specs.Prelude.{ℕ, List, Result, Ok, Err}
use Rattle.las_header.specs.declared.block.Header.{Header}
use Rattle.las_header.specs.declared.faults.HeaderFault.{HeaderFault}
use Rattle.las_header.specs.Headers.{header_of}
use Rattle.las_header.specs.Steps.{◌>>=◌}
use Rattle.las_vlr.specs.declared.entry.Vlr.{Vlr}
use Rattle.las_vlr.specs.declared.entry.VlrFault.{VlrFault}
use Rattle.las_vlr.specs.Vlrs.{vlrs_of, evlrs_of}
use Rattle.las_reader.specs.declared.opening.LasFrame.{LasFrame}

-- why a file isn't read: a fault of its header, or else of its VLRs, or else of its EVLRs
pub data LasFault : Type 0 where
  In_header : HeaderFault → LasFault
  In_list : VlrFault → LasFault

abbrev pub header_or : Result Header HeaderFault → Result Header LasFault
header_or (Ok header) = Ok header
header_or (Err f) = Err (In_header f)

abbrev pub list_or : Result (List Vlr) VlrFault → Result (List Vlr) LasFault
list_or (Ok vlrs) = Ok vlrs
list_or (Err f) = Err (In_list f)

abbrev pub header_in : List ℕ → Result Header LasFault
header_in file = header_or (header_of file)

abbrev pub vlrs_in : Header → List ℕ → Result (List Vlr) LasFault
vlrs_in header file = list_or (vlrs_of header.header_size header.points_at header.vlrs file)

abbrev pub evlrs_in : Header → List ℕ → Result (List Vlr) LasFault
evlrs_in header file = list_or (evlrs_of header.evlrs_at header.evlrs file)

-- what stands around the points, or the first fault
abbrev pub frame_of : List ℕ → Result LasFrame LasFault
frame_of file = do
  header ← header_in file
  vlrs ← vlrs_in header file
  evlrs ← evlrs_in header file
  Ok (record { header = header; vlrs = vlrs; evlrs = evlrs })
