-- The record with whose number a file ends.
use Rattle.std.specs.Prelude.{◌≡◌, ◌↔◌, ℕ, ◌+◌, ◌*◌, ◌<◌, ◌≤◌, List, length, drop, Some, None}
use Rattle.cloud_points.specs.declared.dims.Dim.{Dim}
use Rattle.cloud_points.specs.declared.extra.ExtraField.{ExtraField}
use Rattle.cloud_points.specs.declared.faults.PointFault.TheVariants.{Cut, ValueOutOfRange}
use Rattle.extra_bytes.specs.Fields.{first_out}
use Rattle.las_header.specs.declared.block.Header.{Header}
use Rattle.las_header.specs.Counts.{points_in}
use Rattle.las_reader.specs.Files.{las_with}
use Rattle.las_reader.specs.Records.{record_at}

-- record k, counted from 0, ends within the file
abbrev pub EndsWithin : Header → List ℕ → ℕ → Type 0
EndsWithin header file k = header.points_at + header.record_length * (k + 1) ≤ length file

-- points hold each value of these fields in record k
abbrev pub IsHeld : Header → List ExtraField → List ℕ → ℕ → Type 0
IsHeld header fields file k = first_out fields (record_at header.record_length k (drop header.points_at file)) ≡ None

-- record k is the first of those that the header counts that doesn't end within the file, and points hold the values of those before it
pub record IsFirstCut (header : Header) (fields : List ExtraField) (file : List ℕ) (k : ℕ) : Type 0 where
  pub counted : k < points_in header
  pub cut : ¬ EndsWithin header file k
  pub before : (j : ℕ) → j < k → EndsWithin header file j
  pub held : (j : ℕ) → j < k → IsHeld header fields file j

-- record k ends within the file, and is the first of those that the header counts with a value that no point holds; this is the
-- dimension of the first such value in it
pub record IsFirstOut (header : Header) (fields : List ExtraField) (file : List ℕ) (k : ℕ) (dim : Dim) : Type 0 where
  pub counted : k < points_in header
  pub within : EndsWithin header file k
  pub out : first_out fields (record_at header.record_length k (drop header.points_at file)) ≡ Some dim
  pub held : (j : ℕ) → j < k → IsHeld header fields file j

-- each record that the header counts ends within the file, and points hold its values
abbrev pub AreAllSound : Header → List ExtraField → List ℕ → Type 0
AreAllSound header fields file = (k : ℕ) → k < points_in header → EndsWithin header file k × IsHeld header fields file k

-- a file ends with the number of the first record that is bad: it is cut exactly with the number of the first that doesn't end within
-- it, and a value is out of range exactly in the first with such a value, unless the other comes before; there is no fault exactly
-- where there is neither
abbrev pub CutIsTheFirst : Type 0
CutIsTheFirst = (header : Header) (fields : List ExtraField) (file : List ℕ) → 0 < header.record_length
    → ((k : ℕ) → ((las_with header fields file).fault ≡ Some (Cut k)) ↔ IsFirstCut header fields file k)
    × ((k : ℕ) (dim : Dim) → ((las_with header fields file).fault ≡ Some (ValueOutOfRange k dim)) ↔ IsFirstOut header fields file k dim)
    × (((las_with header fields file).fault ≡ None) ↔ AreAllSound header fields file)
