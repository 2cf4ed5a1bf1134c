-- The limits of the lists that are read.
use Rattle.std.specs.Prelude.{ℕ, ◌^◌, ◌<◌, ◌≤◌, List, length}
use Rattle.std.specs.List.{All, sum_by}
use Rattle.las_vlr.specs.Written.{IsVlr, IsEvlr, payload_size}
use Rattle.las_vlr.specs.declared.entry.Vlr.{Vlr}
use Rattle.las_vlr.specs.declared.entry.ListKind.{ListKind}
use Rattle.las_vlr.specs.declared.entry.ListKind.TheVariants.{Plain, Extended}

-- the length of a payload that a head of this kind has room for
abbrev pub IsShort : ListKind → ℕ → Type 0
IsShort (Plain points_at) size = size < 2 ^ 16
IsShort Extended size = size < 2 ^ 64

-- a record that can be written in a list of this kind
abbrev pub IsOf : ListKind → Vlr → Type 0
IsOf (Plain points_at) vlr = IsVlr vlr
IsOf Extended vlr = IsEvlr vlr

-- a list of such records, which are at most 4,096, and whose payloads have at most 16,777,216 bytes together
pub record AreHeld (IsRecord : Vlr → Type 0) (vlrs : List Vlr) : Type 0 where
  pub count : length vlrs ≤ 4096
  pub payloads : sum_by payload_size vlrs ≤ 16777216
  pub each : All IsRecord vlrs

-- VLRs within the limits; the payload of each has at most 65,535 bytes
abbrev pub AreHeldVlrs : List Vlr → Type 0
AreHeldVlrs vlrs = AreHeld IsVlr vlrs

-- EVLRs within the limits
abbrev pub AreHeldEvlrs : List Vlr → Type 0
AreHeldEvlrs vlrs = AreHeld IsEvlr vlrs
