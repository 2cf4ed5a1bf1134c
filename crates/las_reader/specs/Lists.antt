-- The lists around the points of a file, and the fields of its records.
use Rattle.std.specs.Prelude.{◌≡◌, ℕ, ◌+◌, ◌≤◌, List, length}
use Rattle.std.specs.List.{All}
use Rattle.cloud_points.specs.ExtraFields.{kind_size}
use Rattle.cloud_points.specs.declared.extra.ExtraField.{ExtraField}
use Rattle.las_header.specs.declared.block.Header.{Header}
use Rattle.las_vlr.specs.Limits.{AreHeldVlrs, AreHeldEvlrs}
use Rattle.las_vlr.specs.declared.entry.Vlr.{Vlr}

-- they are within their limits, and as long as the header counts
pub record HasLists (header : Header) (vlrs evlrs : List Vlr) : Type 0 where
  pub vlrs_held : AreHeldVlrs vlrs
  pub vlrs_counted : length vlrs ≡ header.vlrs
  pub evlrs_held : AreHeldEvlrs evlrs
  pub evlrs_counted : length evlrs ≡ header.evlrs

-- fields of the eight extra dimensions, which lie in a record of so many bytes
pub record AreFields (size : ℕ) (fields : List ExtraField) : Type 0 where
  pub within : All (λ (f : ExtraField). f.at + kind_size f.kind ≤ size) fields
  pub places : All (λ (f : ExtraField). f.place ≤ 7) fields
