-- What stages do with files and views.
use Rattle.std.specs.Prelude.{ℕ, Bool, true, false, List, Option, Some, None}
use Rattle.stage_options.specs.declared.options.Options.{Options}
use Rattle.stage_options.specs.declared.options.Options.TheVariants.{ReadersLas, FiltersSort, FiltersTail, FiltersGroupby, FiltersSplitter, FiltersVoxeldownsize, FiltersPlug, WritersLas, WritersText, WritersTally}
use Rattle.stage_options.specs.Values.{is_numbered}

pub data Role : Type 0 where
  Reads : List ℕ → Role  -- the file of this name
  Filters : Role  -- it takes points one after the other
  Gathers : Role  -- it needs whole views
  Writes : List ℕ → Role  -- the file of this name
  WritesEach : List ℕ → Role  -- a file for each view, by this name with the view's number in place of its `#`

-- what a writer does whose file has this name, by whether it holds a `#`
abbrev pub writing_by : Bool → List ℕ → Role
writing_by true name = WritesEach name
writing_by false name = Writes name

abbrev pub writing_role : List ℕ → Role
writing_role name = writing_by (is_numbered name) name

-- what a stage with these options does
abbrev pub role_of : Options → Role
role_of (ReadersLas o) = Reads o.filename
role_of (FiltersSort o) = Gathers
role_of (FiltersTail o) = Gathers
role_of (FiltersGroupby o) = Gathers
role_of (FiltersSplitter o) = Gathers
role_of (FiltersVoxeldownsize o) = Gathers
role_of (WritersLas o) = writing_role o.filename
role_of (WritersText o) = writing_role o.filename
role_of _ = Filters

-- the names of the caller's filter and of the caller's tally to which it shows its points
abbrev pub plug_of : Options → Option (List ℕ)
plug_of (FiltersPlug o) = Some o.plug
plug_of _ = None

abbrev pub tally_of : Options → Option (List ℕ)
tally_of (WritersTally o) = Some o.tally
tally_of _ = None

-- the file that is read
abbrev pub source_of : Role → Option (List ℕ)
source_of (Reads name) = Some name
source_of _ = None

-- the file that is written
abbrev pub target_of : Role → Option (List ℕ)
target_of (Writes name) = Some name
target_of _ = None

-- the name with a `#`, by which the files of the views are named
abbrev pub pattern_of : Role → Option (List ℕ)
pattern_of (WritesEach name) = Some name
pattern_of _ = None

-- the name that a writer is given: of the file that is written, or with a `#`
abbrev pub written_name : Role → Option (List ℕ)
written_name (Writes name) = Some name
written_name (WritesEach name) = Some name
written_name _ = None

abbrev pub is_reading : Role → Bool
is_reading (Reads name) = true
is_reading _ = false

-- it needs whole views
abbrev pub is_gathering : Role → Bool
is_gathering Gathers = true
is_gathering (WritesEach name) = true
is_gathering _ = false

-- it writes one file
abbrev pub is_writing : Role → Bool
is_writing (Writes name) = true
is_writing _ = false
