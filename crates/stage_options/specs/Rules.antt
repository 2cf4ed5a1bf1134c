-- The options of each type: their names, and what they may hold.
use Rattle.std.specs.Prelude.{ℕ, ℤ, pos, neg_ℤ, int_le, ◌&&◌, ◌||◌, nat_le, bytes_eq, Bool, false, List, [], ◌∷◌, length, codes, Option, Some, None, is_some}
use Rattle.serde_json.specs.Data.{Data}
use Rattle.serde_json.specs.Find.{as_str}
use Rattle.limits_text.specs.Texts.{ranges_of, bounds_of, polygon_of, point_of}
use Rattle.option_texts.specs.Columns.{columns_of}
use Rattle.option_texts.specs.Forward.{forward_of}
use Rattle.option_texts.specs.Ferries.{ferries_of}
use Rattle.option_texts.specs.Groups.{groups_of}
use Rattle.option_texts.specs.ExtraDims.{extra_dims_of}
use Rattle.stage_names.specs.declared.kinds.KindName.{KindName}
use Rattle.stage_names.specs.declared.kinds.KindName.TheVariants.{ReadersLas, FiltersRange, FiltersCrop, FiltersAssign, FiltersFerry, FiltersExpression, FiltersDecimation, FiltersHead, FiltersReturns, FiltersPlug, FiltersMerge, FiltersSort, FiltersTail, FiltersGroupby, FiltersSplitter, FiltersVoxeldownsize, WritersLas, WritersText, WritersTally}
use Rattle.stage_options.specs.Expressions.{condition_with, assignments_with}
use Rattle.stage_options.specs.Values.{whole_of, truth_of, format_with, decimal_of, is_source, is_target}

-- what an option may hold
pub data Allowed : Type 0 where
  whole : ℕ → ℕ → Allowed  -- a whole number from the first to the second
  decimal : ℤ → ℤ → Allowed  -- a decimal from the first to the second, in nanounits
  format : Allowed  -- a point data record format
  truth : Allowed
  sized : ℕ → ℕ → Allowed  -- a text of so many bytes
  any_text : Allowed  -- a text
  either_text : List ℕ → List ℕ → Allowed  -- one of two texts
  this_text : List ℕ → Allowed  -- this text
  columns : Allowed  -- the columns of a text file
  forward : Allowed  -- the names of what is forwarded
  ranges : Allowed  -- ranges of the values of dimensions
  bounds : Allowed  -- a box
  polygon : Allowed  -- a ring of corners
  point : Allowed  -- a point
  ferries : Allowed  -- from which dimensions values go to which
  groups : Allowed  -- groups of returns
  extra_dims : Allowed  -- the extra dimensions of a LAS file
  condition : Allowed  -- the text of a condition
  assignments : Allowed  -- the text of an assignment, or several such texts
  source : Allowed  -- the name of a file that is read
  target : Allowed  -- the name of a file that is written

-- when an option has to be there, and when it may not be
pub data Presence : Type 0 where
  always : Presence  -- it has to be there
  at_will : Presence  -- it may be there
  one_of : List (List ℕ) → List (List ℕ) → Presence  -- just one of several has to be there: of those before it, itself, and those behind it
  along_with : List ℕ → Presence  -- it has to be there where this one is, and may not be there else
  apart_from : Allowed → List ℕ → Allowed → Presence  -- it may be there, but not with a value of the first kind where this one has one of the second

pub record Rule : Type 0 where
  pub name : List ℕ
  pub presence : Presence
  pub allowed : Allowed

-- an option that has to be there, and one that may
abbrev pub required : List ℕ → Allowed → Rule
required name allowed = record { name = name; presence = always; allowed = allowed }

abbrev pub optional : List ℕ → Allowed → Rule
optional name allowed = record { name = name; presence = at_will; allowed = allowed }

-- one of which just one has to be there, one that goes with another, and one some of whose values don't go with some of another
abbrev pub either : List ℕ → Allowed → List (List ℕ) → List (List ℕ) → Rule
either name allowed before behind = record { name = name; presence = one_of before behind; allowed = allowed }

abbrev pub going_with : List ℕ → Allowed → List ℕ → Rule
going_with name allowed other = record { name = name; presence = along_with other; allowed = allowed }

abbrev pub kept_apart : List ℕ → Allowed → Allowed → List ℕ → Allowed → Rule
kept_apart name allowed these other those = record { name = name; presence = apart_from these other those; allowed = allowed }

-- a scale factor, from 10 ^ -9 to 1; an offset, below 10 ^ 9 in size; a field of 16 bits
abbrev pub scale : Allowed
scale = decimal (pos 1) (pos 1000000000)

abbrev pub offset : Allowed
offset = decimal (neg_ℤ (pos 999999999999999999)) (pos 999999999999999999)

abbrev pub short : Allowed
short = whole 0 65535

-- a radius, up to 4 * 10 ^ 9
abbrev pub distance : Allowed
distance = decimal (pos 0) (pos 4000000000000000000)

-- the edge of a square or a voxel, from 10 ^ -9 to 10 ^ 9; a coordinate, up to 4 * 10 ^ 9 in size
abbrev pub edge : Allowed
edge = decimal (pos 1) (pos 1000000000000000000)

abbrev pub coordinate : Allowed
coordinate = decimal (neg_ℤ (pos 4000000000000000000)) (pos 4000000000000000000)

-- the options of a type, in the order in which they are looked at
abbrev pub rules_of : KindName → List Rule
rules_of ReadersLas =
    (required (codes "filename") source
    ∷ optional (codes "use_eb_vlr") truth
    ∷ [])
rules_of FiltersRange =
    (required (codes "limits") ranges
    ∷ optional (codes "where") condition
    ∷ [])
rules_of FiltersCrop =
    (either (codes "bounds") bounds [] (codes "polygon" ∷ codes "point" ∷ [])
    ∷ either (codes "polygon") polygon (codes "bounds" ∷ []) (codes "point" ∷ [])
    ∷ either (codes "point") point (codes "bounds" ∷ codes "polygon" ∷ []) []
    ∷ going_with (codes "distance") distance (codes "point")
    ∷ optional (codes "outside") truth
    ∷ optional (codes "where") condition
    ∷ [])
rules_of FiltersAssign =
    (required (codes "value") assignments
    ∷ optional (codes "where") condition
    ∷ [])
rules_of FiltersFerry =
    (required (codes "dimensions") ferries
    ∷ optional (codes "where") condition
    ∷ [])
rules_of FiltersExpression =
    (required (codes "expression") condition
    ∷ optional (codes "where") condition
    ∷ [])
rules_of FiltersDecimation =
    (optional (codes "step") (whole 1 4294967295)
    ∷ optional (codes "offset") (whole 0 4294967295)
    ∷ optional (codes "limit") (whole 0 4294967295)
    ∷ optional (codes "where") condition
    ∷ [])
rules_of FiltersHead =
    (optional (codes "count") (whole 0 4294967295)
    ∷ optional (codes "where") condition
    ∷ [])
rules_of FiltersReturns =
    (optional (codes "groups") groups
    ∷ optional (codes "where") condition
    ∷ [])
rules_of FiltersPlug =
    (required (codes "plug") any_text
    ∷ optional (codes "where") condition
    ∷ [])
rules_of FiltersMerge = []
rules_of FiltersSort =
    (required (codes "dimension") any_text
    ∷ optional (codes "order") (either_text (codes "ASC") (codes "DESC"))
    ∷ optional (codes "algorithm") (either_text (codes "normal") (codes "stable"))
    ∷ [])
rules_of FiltersTail =
    (optional (codes "count") (whole 0 4294967295)
    ∷ [])
rules_of FiltersGroupby =
    (required (codes "dimension") any_text
    ∷ [])
rules_of FiltersSplitter =
    (required (codes "length") edge
    ∷ optional (codes "origin_x") coordinate
    ∷ optional (codes "origin_y") coordinate
    ∷ [])
rules_of FiltersVoxeldownsize =
    (required (codes "cell") edge
    ∷ optional (codes "mode") (this_text (codes "first"))
    ∷ [])
rules_of WritersLas =
    (required (codes "filename") target
    ∷ optional (codes "dataformat_id") format
    ∷ kept_apart (codes "minor_version") (whole 2 4) (whole 2 3) (codes "dataformat_id") (whole 6 8)
    ∷ optional (codes "scale_x") scale
    ∷ optional (codes "scale_y") scale
    ∷ optional (codes "scale_z") scale
    ∷ optional (codes "offset_x") offset
    ∷ optional (codes "offset_y") offset
    ∷ optional (codes "offset_z") offset
    ∷ optional (codes "forward") forward
    ∷ optional (codes "filesource_id") short
    ∷ optional (codes "global_encoding") short
    ∷ optional (codes "creation_doy") short
    ∷ optional (codes "creation_year") short
    ∷ optional (codes "system_id") (sized 0 32)
    ∷ optional (codes "software_id") (sized 0 32)
    ∷ optional (codes "extra_dims") extra_dims
    ∷ optional (codes "where") condition
    ∷ [])
rules_of WritersText =
    (required (codes "filename") target
    ∷ optional (codes "order") columns
    ∷ optional (codes "precision") (whole 0 9)
    ∷ optional (codes "delimiter") (sized 1 8)
    ∷ optional (codes "quote_header") truth
    ∷ optional (codes "write_header") truth
    ∷ optional (codes "where") condition
    ∷ [])
rules_of WritersTally =
    (required (codes "tally") any_text
    ∷ optional (codes "where") condition
    ∷ [])

-- whether there is such a value and it passes a test
abbrev pub passes : {A : Type 0} → (A → Bool) → Option A → Bool
passes test None = false
passes test (Some a) = test a

abbrev pub is_within : ℕ → ℕ → ℕ → Bool
is_within low high n = nat_le low n && nat_le n high

abbrev pub is_between : ℤ → ℤ → ℤ → Bool
is_between low high z = int_le low z && int_le z high

abbrev pub has_size : ℕ → ℕ → List ℕ → Bool
has_size low high bytes = is_within low high (length bytes)

abbrev pub is_either : List ℕ → List ℕ → List ℕ → Bool
is_either one other text = bytes_eq text one || bytes_eq text other

-- whether a value is one that an option of these may hold
abbrev pub fits : Allowed → Data → Bool
fits (whole low high) d = passes (is_within low high) (whole_of d)
fits (decimal low high) d = passes (is_between low high) (decimal_of d)
fits format d = is_some (format_with d)
fits truth d = is_some (truth_of d)
fits (sized low high) d = passes (has_size low high) (as_str d)
fits any_text d = is_some (as_str d)
fits (either_text one other) d = passes (is_either one other) (as_str d)
fits (this_text text) d = passes (λ t. bytes_eq t text) (as_str d)
fits columns d = passes (λ t. is_some (columns_of t)) (as_str d)
fits forward d = passes (λ t. is_some (forward_of t)) (as_str d)
fits ranges d = passes (λ t. is_some (ranges_of t)) (as_str d)
fits bounds d = passes (λ t. is_some (bounds_of t)) (as_str d)
fits polygon d = passes (λ t. is_some (polygon_of t)) (as_str d)
fits point d = passes (λ t. is_some (point_of t)) (as_str d)
fits ferries d = passes (λ t. is_some (ferries_of t)) (as_str d)
fits groups d = passes (λ t. is_some (groups_of t)) (as_str d)
fits extra_dims d = passes (λ t. is_some (extra_dims_of t)) (as_str d)
fits condition d = is_some (condition_with d)
fits assignments d = is_some (assignments_with d)
fits source d = passes is_source (as_str d)
fits target d = passes is_target (as_str d)
