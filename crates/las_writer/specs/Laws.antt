-- Points that are cut into parts.
use Rattle.std.specs.Prelude.{◌≡◌, ℕ, ◌+◌, ℤ, FitsSigned, List, [], ◌∷◌, ◌++◌, length, Some, None, Ok, option_map, ⊤}
use Rattle.std.specs.Int.{w32}
use Rattle.decimal_coords.specs.Grid.{nearest_step}
use Rattle.point_formats.specs.declared.grid.Grid.{Grid}
use Rattle.point_formats.specs.Grids.{scale_on, offset_on}
use Rattle.cloud_points.specs.declared.point.Point.{Point}
use Rattle.forward_rules.specs.declared.form.LasForm.{LasForm}
use Rattle.las_writer.specs.declared.faults.RecordFault.{RecordFault}
use Rattle.las_writer.specs.Records.{grid_for, written, raw_number, records, refusal}
use Rattle.std.specs.List.{All}
use Rattle.las_header.specs.Offsets.{IsOffset}
use Rattle.las_vlr.specs.Limits.{AreHeldVlrs, AreHeldEvlrs}
use Rattle.forward_rules.specs.declared.options.LasOpts.{LasOpts}
use Rattle.forward_rules.specs.Forwarded.{ReadFile, form_of}
use Rattle.forward_rules.specs.Options.{AreGoodOptions}
use Rattle.las_writer.specs.LasOutput.{IsForm, las_unfinished}

-- behind a refused point nothing counts
abbrev pub FirstPartRefuses : Type 0
FirstPartRefuses = (form : LasForm) (k : ℕ) (a b : List Point) (r : ℕ × RecordFault) → refusal form k a ≡ Some r → refusal form k (a ++ b) ≡ Some r

-- where the first part has no refused point, the second one is judged behind it, with its numbers counted on
abbrev pub SecondPartRefuses : Type 0
SecondPartRefuses = (form : LasForm) (k : ℕ) (a b : List Point) → refusal form k a ≡ None → refusal form k (a ++ b) ≡ option_map (λ r. (length a + r.0, r.1)) (refusal form (k + length a) b)

-- the unfinished file of more points
abbrev pub UnfinishedGrows : Type 0
UnfinishedGrows = (form : LasForm) (a b : List Point) → las_unfinished form (a ++ b) ≡ las_unfinished form a ++ records form b

-- the raw number on an axis is the step nearest to a coordinate, in 32 bits
pub record StandsOn (grid : Grid) (axis : ℕ) (nano : ℤ) (bytes : List ℕ) : Type 0 where
  pub is : raw_number axis bytes ≡ nearest_step nano (scale_on grid axis) (offset_on grid axis)
  pub small : FitsSigned w32 (nearest_step nano (scale_on grid axis) (offset_on grid axis))

pub record HasRaws (grid : Grid) (p : Point) (bytes : List ℕ) : Type 0 where
  pub x : StandsOn grid 0 p.x bytes
  pub y : StandsOn grid 1 p.y bytes
  pub z : StandsOn grid 2 p.z bytes

-- the raw numbers that stand in a point's record
abbrev pub RawNumbersAreSteps : Type 0
RawNumbersAreSteps = (form : LasForm) (p : Point) (bytes : List ℕ) → written form p ≡ Ok bytes → HasRaws (grid_for form) p bytes

-- a file that was read without a fault
pub record IsGoodRead (r : ReadFile) : Type 0 where
  pub offsets : All IsOffset r.values.offset
  pub vlrs : AreHeldVlrs r.vlrs
  pub evlrs : AreHeldEvlrs r.evlrs

abbrev pub AreGoodReads : List ReadFile → Type 0
AreGoodReads [] = ⊤
AreGoodReads (r ∷ reads) = IsGoodRead r × AreGoodReads reads

-- a writer takes each form that such options and files give
abbrev pub FormsAreTaken : Type 0
FormsAreTaken = (opts : LasOpts) (reads : List ReadFile) → AreGoodOptions opts → AreGoodReads reads → IsForm (form_of opts reads)
