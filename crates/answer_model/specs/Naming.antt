-- Whether the filters and tallies that stages name were handed in, and what becomes of their places.
use Rattle.std.specs.Prelude.{◌≡◌, ℕ, ℤ, ◌<◌, ◌==◌, Bool, true, false, ◌||◌, bytes_eq, is_some, if◌then◌else◌, List, length, Option, Some, None, option_map}
use Rattle.std.proofs.Common.{zero, suc}
use Rattle.std.specs.List.{list_any, range_with_len}
use Rattle.cloud_points.specs.Meaning.{Nature}
use Rattle.cloud_points.specs.declared.point.Point.{Point}
use Rattle.plug_stages.specs.Handed.{Handed, at_place, handed_by, named_in}
use Rattle.plug_stages.specs.declared.filter.PlugFilter as plug_type
use Rattle.plug_stages.specs.declared.places.Places.{Places}
use Rattle.plug_stages.specs.declared.tally.PlugTally as tally_type
use Rattle.stage_names.specs.Faults.{or_else}
use Rattle.stage_names.specs.declared.faults.PipeFault.{PipeFault}
use Rattle.stage_names.specs.declared.faults.PipeFault.TheVariants.{PlugUnknown, PlugTaken}
use Rattle.stage_options.specs.Roles.{plug_of, tally_of}
use Rattle.stage_options.specs.declared.options.Options.{Options}
use Rattle.stage_options.specs.declared.stage.StageSpec.{StageSpec}
use Rattle.answer_model.specs.Values.{Opened, least_from, left_at, options_at}

-- ---- names

-- the one of this name, where a stage names one
abbrev pub found_in : List (Option (Nature Point)) → Option (List ℕ) → Option (Nature Point)
found_in natures None = None
found_in natures (Some name) = named_in natures name

-- a stage names this one
abbrev pub is_name : List ℕ → Option (List ℕ) → Bool
is_name name None = false
is_name name (Some other) = bytes_eq other name

-- one of the first so many stages does, by what names stages have
abbrev pub is_taken : (Options → Option (List ℕ)) → List StageSpec → List ℕ → ℕ → Bool
is_taken names stages name zero = false
is_taken names stages name (suc k) = is_name name (names (options_at stages k)) || is_taken names stages name k

-- the fault of stage i, which names this one of those: there is none, or an earlier stage names it
abbrev pub unnamed : ℕ → Bool → Bool → List ℕ → Option PipeFault
unnamed i false taken name = Some (PlugUnknown i name)
unnamed i true true name = Some (PlugTaken i name)
unnamed i true false name = None

abbrev pub name_fault : (Options → Option (List ℕ)) → List (Option (Nature Point)) → List StageSpec → ℕ → Option (List ℕ) → Option PipeFault
name_fault names natures stages i None = None
name_fault names natures stages i (Some name) = unnamed i (is_some (named_in natures name)) (is_taken names stages name i) name

-- that of stage i, which names a filter, a tally, or neither
abbrev pub naming_fault : Handed → List StageSpec → ℕ → Option PipeFault
naming_fault handed stages i = or_else (name_fault plug_of handed.filters stages i (plug_of (options_at stages i)))
    (name_fault tally_of handed.tallies stages i (tally_of (options_at stages i)))

-- that of the first stage that has one, with the number of that
abbrev pub first_naming_fault : Handed → List StageSpec → Option (ℕ × PipeFault)
first_naming_fault handed stages = least_from (naming_fault handed stages) (length stages) 0

-- no stage has one
abbrev pub AreNamed : Handed → List StageSpec → Type 0
AreNamed handed stages = (i : ℕ) → i < length stages → naming_fault handed stages i ≡ None

-- ---- places

-- it is what stands in this place
abbrev pub is_at : ℕ → Option (Nature Point) → Bool
is_at k None = false
is_at k (Some n) = n.place == k

-- whether a stage names what stands in this place
abbrev pub is_used : (Options → Option (List ℕ)) → List (Option (Nature Point)) → List StageSpec → ℕ → Bool
is_used names natures stages k = list_any (λ i. is_at k (found_in natures (names (options_at stages i)))) (range_with_len 0 (length stages))

-- what the caller handed in is back: each place holds what it held, but for what that remembers; one that no stage names holds just that
pub record AreBack {P Q : Type 0} (fs : plug_type.Ghosts P) (ts : tally_type.Ghosts Q) (stages : List StageSpec) (old new : Places P Q) : Type 0 where
  pub same : handed_by fs ts new ≡ handed_by fs ts old
  pub filters : (k : ℕ) → is_used plug_of (handed_by fs ts old).filters stages k ≡ false → at_place new.filters.items k ≡ at_place old.filters.items k
  pub tallies : (k : ℕ) → is_used tally_of (handed_by fs ts old).tallies stages k ≡ false → at_place new.tallies.items k ≡ at_place old.tallies.items k

-- what stages leave is what the filters and the tallies that they name remember, each in its place
pub record AreRemembered {P Q : Type 0} (fs : plug_type.Ghosts P) (ts : tally_type.Ghosts Q) (stages : List StageSpec) (opened : Opened) (places : Places P Q) : Type 0 where
  pub filters : (i : ℕ) (n : Nature Point) (s : List ℤ) → found_in opened.handed.filters (plug_of (options_at stages i)) ≡ Some n → left_at stages opened i ≡ Some s
      → option_map fs.state (at_place places.filters.items n.place) ≡ Some s
  pub tallies : (i : ℕ) (n : Nature Point) (s : List ℤ) → found_in opened.handed.tallies (tally_of (options_at stages i)) ≡ Some n → left_at stages opened i ≡ Some s
      → option_map ts.state (at_place places.tallies.items n.place) ≡ Some s
