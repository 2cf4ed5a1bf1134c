-- Why a file isn't opened.
use Rattle.std.specs.Prelude.{◌≡◌, ℕ, ◌≤◌, List, Option, Result, Err, ⊤}
use Rattle.las_reader.specs.Frames.{LasFault, In_header, In_list}
use Rattle.las_reader.specs.declared.opening.OpenErr.{OpenErr}
use Rattle.las_reader.specs.declared.opening.OpenErr.TheVariants.{Header, Vlr, ReadFailed, Memory}
use Rattle.las_vlr.specs.declared.entry.VlrErr.{VlrErr}
use Rattle.las_vlr.specs.declared.entry.VlrErr.TheVariants as list

-- a refusal for the file's bytes is the one that is defined for them
abbrev pub IsOpening : {A : Type 0} → Result A LasFault → OpenErr → Type 0
IsOpening expected (Header f) = expected ≡ Err (In_header f)
IsOpening expected (Vlr f) = expected ≡ Err (In_list f)
IsOpening expected ReadFailed = ⊤
IsOpening expected Memory = ⊤

-- it is for the header
abbrev pub IsOfHeader : OpenErr → Type 0
IsOfHeader (Header f) = ⊤
IsOfHeader e = ⊥

-- the refusal for a list that isn't read
abbrev pub opening_of : VlrErr → OpenErr
opening_of (list.Fault f) = Vlr f
opening_of list.ReadFailed = ReadFailed
opening_of list.Memory = Memory

-- a source after its front was read, or was to be
pub record IsOpened (bytes_before bytes : Option (List ℕ)) (faults_before faults : ℕ) : Type 0 where
  pub same : bytes ≡ bytes_before
  pub later : faults_before ≤ faults
