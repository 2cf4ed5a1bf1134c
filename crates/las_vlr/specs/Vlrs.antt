-- Variable length records (LAS 1.4 R15, "Variable Length Records" and "Extended Variable Length Records").
use Rattle.std.specs.Prelude.{◌≡◌, ℕ, zero, suc, ◌+◌, ◌-◌, ◌≤◌, max, nat_lt, if◌then◌else◌, List, [], ◌∷◌, length, drop, Option, Some, None, Result, Ok, Err, ⊤}
use Rattle.byte_numbers.specs.Bytes.{number_at, piece}
use Rattle.las_vlr.specs.declared.entry.Vlr.{Vlr}
use Rattle.las_vlr.specs.declared.entry.ListKind.{ListKind}
use Rattle.las_vlr.specs.declared.entry.ListKind.TheVariants.{Plain, Extended}
use Rattle.las_vlr.specs.declared.entry.VlrFault.{VlrFault}
use Rattle.las_vlr.specs.declared.entry.VlrFault.TheVariants.{TooManyVlrs, VlrPastPoints, VlrPastEnd, EvlrPastEnd}
use Rattle.las_vlr.specs.declared.entry.VlrErr.{VlrErr}
use Rattle.las_vlr.specs.declared.entry.VlrErr.TheVariants.{Fault, ReadFailed, Memory}

-- the bytes in front of the payload
abbrev pub head_size : ListKind → ℕ
head_size (Plain points_at) = 54
head_size Extended = 60

-- the length of the payload that a head announces
abbrev pub payload_length : ListKind → List ℕ → ℕ
payload_length (Plain points_at) bytes = number_at 20 2 bytes
payload_length Extended bytes = number_at 20 8 bytes

-- the bytes of the whole record
abbrev pub entry_size : ListKind → List ℕ → ℕ
entry_size kind bytes = head_size kind + payload_length kind bytes

-- the record with which these bytes begin; the description ends its head
abbrev pub entry_of : ListKind → List ℕ → Vlr
entry_of kind bytes = record {
  reserved = number_at 0 2 bytes;
  user = piece 2 16 bytes;
  id = number_at 18 2 bytes;
  text = piece (head_size kind - 32) 32 bytes;
  payload = piece (head_size kind) (payload_length kind bytes) bytes;
}

-- why record k can't reach up to a place
abbrev pub past : ListKind → ℕ → ℕ → List ℕ → Option VlrFault
past (Plain points_at) k end file = if nat_lt points_at end then Some (VlrPastPoints k) else (if nat_lt (length file) end then Some (VlrPastEnd k) else None)
past Extended k end file = if nat_lt (length file) end then Some (EvlrPastEnd k) else None

-- the limit of all payloads of a list
abbrev pub too_many : ℕ → Option VlrFault
too_many sum = if nat_lt 16777216 sum then Some TooManyVlrs else None

abbrev pub first_fault : Option VlrFault → Option VlrFault → Option VlrFault
first_fault (Some f) later = Some f
first_fault None later = later

-- the first fault of record k, which stands at a place, behind payloads of so many bytes
abbrev pub entry_fault : ListKind → ℕ → ℕ → ℕ → List ℕ → Option VlrFault
entry_fault kind k at before file = first_fault (past kind k (at + head_size kind) file)
    (first_fault (too_many (before + payload_length kind (drop at file))) (past kind k (at + entry_size kind (drop at file)) file))

abbrev pub behind : Option VlrFault → Vlr → Result (List Vlr) VlrFault → Result (List Vlr) VlrFault
behind (Some f) entry rest = Err f
behind None entry (Ok entries) = Ok (entry ∷ entries)
behind None entry (Err f) = Err f

-- so many records from record k on, which stand one behind another from a place, or their first fault
unfoldable pub entries_from : ListKind → ℕ → ℕ → ℕ → ℕ → List ℕ → Result (List Vlr) VlrFault
entries_from kind zero k at before file = Ok []
entries_from kind (suc left) k at before file = behind (entry_fault kind k at before file) (entry_of kind (drop at file))
    (entries_from kind left (k + 1) (at + entry_size kind (drop at file)) (before + payload_length kind (drop at file)) file)

abbrev pub entries : ListKind → ℕ → ℕ → List ℕ → Result (List Vlr) VlrFault
entries kind count at file = if nat_lt 4096 count then Err TooManyVlrs else entries_from kind count 0 at 0 file

-- the VLRs from a place, so many as the header counts, in front of the points; or their first fault
abbrev pub vlrs_of : ℕ → ℕ → ℕ → List ℕ → Result (List Vlr) VlrFault
vlrs_of start points_at count file = entries (Plain points_at) count start file

-- the EVLRs from a place, so many as the header counts; or their first fault
abbrev pub evlrs_of : ℕ → ℕ → List ℕ → Result (List Vlr) VlrFault
evlrs_of at count file = entries Extended count at file

-- a refusal for the file's bytes is the one that is defined for them
abbrev pub IsRefusal : Result (List Vlr) VlrFault → VlrErr → Type 0
IsRefusal expected (Fault f) = expected ≡ Err f
IsRefusal expected ReadFailed = ⊤
IsRefusal expected Memory = ⊤

-- the same of one record
abbrev pub IsFault : Option VlrFault → VlrErr → Type 0
IsFault found (Fault f) = found ≡ Some f
IsFault found ReadFailed = ⊤
IsFault found Memory = ⊤

-- VLRs are sought in front of the points alone
abbrev pub IsInFront : ListKind → ℕ → ℕ → Type 0
IsInFront (Plain points_at) before reached = reached ≤ max before points_at
IsInFront Extended before reached = ⊤

-- a record may reach up to a place, in a file that is long enough
abbrev pub MayReach : ListKind → ℕ → Type 0
MayReach (Plain points_at) end = end ≤ points_at
MayReach Extended end = ⊤
