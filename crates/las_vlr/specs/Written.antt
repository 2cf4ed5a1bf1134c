-- Variable length records as bytes.
use Rattle.std.specs.Prelude.{◌≡◌, ℕ, ◌<◌, ◌^◌, List, ◌++◌, length}
use Rattle.std.specs.Int.{to_le_bytes, w16, w64}
use Rattle.las_vlr.specs.declared.entry.Vlr.{Vlr}

-- the fields have their sizes
pub record HasSizes (vlr : Vlr) : Type 0 where
  pub reserved : vlr.reserved < 2 ^ 16
  pub user : length vlr.user ≡ 16
  pub id : vlr.id < 2 ^ 16
  pub text : length vlr.text ≡ 32

-- the head of a record, with these bytes as the length of its payload
abbrev pub head_bytes : Vlr → List ℕ → List ℕ
head_bytes vlr size = to_le_bytes w16 vlr.reserved ++ vlr.user ++ to_le_bytes w16 vlr.id ++ size ++ vlr.text

-- a VLR
abbrev pub vlr_bytes : Vlr → List ℕ
vlr_bytes vlr = head_bytes vlr (to_le_bytes w16 (length vlr.payload)) ++ vlr.payload

-- an EVLR, which has more room for the length
abbrev pub evlr_bytes : Vlr → List ℕ
evlr_bytes vlr = head_bytes vlr (to_le_bytes w64 (length vlr.payload)) ++ vlr.payload

-- a record that can be written as a VLR
pub record IsVlr (vlr : Vlr) : Type 0 where
  pub sizes : HasSizes vlr
  pub short : length vlr.payload < 2 ^ 16

-- a record that can be written as an EVLR
pub record IsEvlr (vlr : Vlr) : Type 0 where
  pub sizes : HasSizes vlr
  pub short : length vlr.payload < 2 ^ 64

abbrev pub payload_size : Vlr → ℕ
payload_size vlr = length vlr.payload
