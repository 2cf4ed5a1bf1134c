-- What a stage of a pipeline's text is, by cases on its JSON value.
use Rattle.std.specs.Prelude.{ℕ, ◌-◌, nat_le, List, [], ◌∷◌, Bool, true, false, not, ◌&&◌, ◌||◌, ◌==◌, cond, if◌then◌else◌, Option, Some, None, option_and_then, is_some, is_none, unwrap_or, codes, position, map, filter, flat_map, length, drop, bytes_eq}
use Rattle.std.specs.List.{list_all, range_with_len}
use Rattle.std.specs.Char.{is_ascii_alphabetic, is_ascii_alphanumeric}
use Rattle.std.specs.Str.{str_to_ascii_lowercase}
use Rattle.serde_json.specs.Data.{Data, string, array, object, Items, no_items, item, Members, no_members, member}
use Rattle.serde_json.specs.Find.{get_member, as_str}
use Rattle.stage_names.specs.Kinds.{kind_named, is_reader}
use Rattle.stage_names.specs.declared.kinds.KindName.{KindName}
use Rattle.stage_names.specs.declared.kinds.KindName.TheVariants.{ReadersLas, WritersLas, WritersText}
use Rattle.stage_names.specs.declared.faults.PipeFault.{PipeFault}
use Rattle.stage_names.specs.declared.faults.PipeFault.TheVariants.{BadStage, TypeUnknown, CannotInfer, TagTwice, TagUnknown, InputOfReader, NoInput, UsedTwice}
use Rattle.pipeline_json.specs.Lists.{is_empty, has, has_twice}

-- a stage: `ins` are the numbers of the stages that it takes, `members` those of its object that are options
pub record Stage : Type 0 where
  pub kind : KindName
  pub tag : Option (List ℕ)
  pub ins : List ℕ
  pub filename : Option (List ℕ)
  pub members : Members

-- the members of an element that aren't options
pub record Parts : Type 0 where
  pub type : Option (List ℕ)
  pub tag : Option (List ℕ)
  pub inputs : Option (List Data)
  pub filename : Option (List ℕ)

-- ---- the parts of an element

abbrev pub elements : Items → List Data
elements no_items = []
elements (item d ds) = d ∷ elements ds

-- a text is the only input; an array has texts
abbrev pub inputs_in : Data → Option (List Data)
inputs_in (string s) = Some (string s ∷ [])
inputs_in (array ds) = if list_all (λ d. is_some (as_str d)) (elements ds) then Some (elements ds) else None
inputs_in _ = None

-- a member that stands has to be of its form
abbrev pub is_malformed : {X : Type 0} → (Data → Option X) → Option Data → Bool
is_malformed form None = false
is_malformed form (Some d) = is_none (form d)

abbrev pub part : {X : Type 0} → (Data → Option X) → List ℕ → Members → Option X
part form name ms = option_and_then form (get_member name ms)

abbrev pub are_malformed : Members → Bool
are_malformed ms = is_malformed as_str (get_member (codes "type") ms)
    || is_malformed as_str (get_member (codes "tag") ms)
    || is_malformed inputs_in (get_member (codes "inputs") ms)
    || is_malformed as_str (get_member (codes "filename") ms)

abbrev pub parts_of : Members → Parts
parts_of ms = record {
  type = part as_str (codes "type") ms;
  tag = part as_str (codes "tag") ms;
  inputs = part inputs_in (codes "inputs") ms;
  filename = part as_str (codes "filename") ms;
}

abbrev pub parts_in : Members → Option Parts
parts_in ms = if are_malformed ms then None else Some (parts_of ms)

abbrev pub no_parts : Parts
no_parts = record { type = None; tag = None; inputs = None; filename = None }

-- a text is a file name
abbrev pub element_parts : Data → Option Parts
element_parts (string s) = Some (record { type = None; tag = None; inputs = None; filename = Some s })
element_parts (object ms) = parts_in ms
element_parts _ = None

abbrev pub is_own : List ℕ → Bool
is_own name = bytes_eq name (codes "type") || bytes_eq name (codes "tag") || bytes_eq name (codes "inputs") || bytes_eq name (codes "filename")

-- the members that are options
abbrev pub without_own : Members → Members
without_own no_members = no_members
without_own (member name d ms) = cond (is_own name) (without_own ms) (member name d (without_own ms))

abbrev pub options_of : Data → Members
options_of (object ms) = without_own ms
options_of _ = no_members

-- ---- a tag, and a type

-- a letter, and at most 63 letters, digits and `_` (of the code 95)
abbrev pub is_word : ℕ → Bool
is_word b = is_ascii_alphanumeric b || (b == 95)

abbrev pub is_tag : List ℕ → Bool
is_tag [] = false
is_tag (b ∷ bs) = is_ascii_alphabetic b && nat_le (length bs) 63 && list_all is_word bs

abbrev pub is_bad_tag : Option (List ℕ) → Bool
is_bad_tag None = false
is_bad_tag (Some tag) = not (is_tag tag)

-- whether the name of the file is empty, or there is neither it nor a type
abbrev pub is_unnamed : Option (List ℕ) → Option (List ℕ) → Bool
is_unnamed None None = true
is_unnamed (Some type) None = false
is_unnamed type (Some name) = is_empty name

-- the name's last four bytes are these, without regard to ASCII case
abbrev pub has_ending : List ℕ → List ℕ → Bool
has_ending ending name = bytes_eq (str_to_ascii_lowercase (drop (length name - 4) name)) ending

-- the type that a file name stands for, in the place of a writer and elsewhere
abbrev pub inferred : Bool → List ℕ → Option KindName
inferred false name = if has_ending (codes ".las") name then Some ReadersLas else None
inferred true name = if has_ending (codes ".las") name then Some WritersLas
    else (if has_ending (codes ".txt") name || has_ending (codes ".csv") name || has_ending (codes ".xyz") name then Some WritersText else None)

abbrev pub kind_of : Bool → Option (List ℕ) → Option (List ℕ) → Option KindName
kind_of is_end (Some type) filename = kind_named type
kind_of is_end None filename = option_and_then (inferred is_end) filename

-- ---- what a stage takes

-- the numbers of all stages that these take
abbrev pub taken : List Stage → List ℕ
taken stages = flat_map (λ s. s.ins) stages

-- the stages that none of these takes
abbrev pub pile : List Stage → List ℕ
pile stages = filter (λ j. not (has (taken stages) j)) (range_with_len 0 (length stages))

abbrev pub is_tagged : List ℕ → Stage → Bool
is_tagged name s = cond (is_some s.tag) (bytes_eq (unwrap_or s.tag []) name) false

-- the number of the stage with the tag
abbrev pub place_of : List Stage → List ℕ → Option ℕ
place_of earlier name = position (is_tagged name) earlier

abbrev pub has_tag_twice : List Stage → Option (List ℕ) → Bool
has_tag_twice earlier None = false
has_tag_twice earlier (Some tag) = is_some (place_of earlier tag)

-- the number of the stage that an input names
abbrev pub place_named : List Stage → Data → Option ℕ
place_named earlier d = place_of earlier (unwrap_or (as_str d) [])

abbrev pub is_unknown : List Stage → Data → Bool
is_unknown earlier d = is_none (place_named earlier d)

abbrev pub place_or_0 : List Stage → Data → ℕ
place_or_0 earlier d = unwrap_or (place_named earlier d) 0

-- with inputs the stages that they name; without a stage that is no reader takes the pile
abbrev pub ins_of : List Stage → KindName → Option (List Data) → List ℕ
ins_of earlier kind None = if is_reader kind then [] else pile earlier
ins_of earlier kind (Some ds) = map (place_or_0 earlier) ds

-- ---- a stage after the earlier ones; `is_end` says that it stands in the place of a writer

-- the first whose test holds
abbrev pub first_of : List (Bool × PipeFault) → Option PipeFault
first_of [] = None
first_of (t ∷ ts) = cond t.0 (Some t.1) (first_of ts)

abbrev pub parts_stage : List Stage → Bool → Members → Parts → Stage
parts_stage earlier is_end ms p =
    let kind = unwrap_or (kind_of is_end p.type p.filename) ReadersLas in
    record { kind = kind; tag = p.tag; ins = ins_of earlier kind p.inputs; filename = p.filename; members = ms }

-- the tests of a stage, in the order of the faults
abbrev pub parts_tests : List Stage → Bool → Parts → List (Bool × PipeFault)
parts_tests earlier is_end p =
    let i = length earlier in
    let kind = kind_of is_end p.type p.filename in
    let reads = is_reader (unwrap_or kind ReadersLas) in
    let ins = ins_of earlier (unwrap_or kind ReadersLas) p.inputs in
    (is_bad_tag p.tag || is_unnamed p.type p.filename, BadStage i)
    ∷ (is_some p.type && is_none kind, TypeUnknown i)
    ∷ (is_none kind, CannotInfer i)
    ∷ (has_tag_twice earlier p.tag, TagTwice i)
    ∷ (is_some (position (is_unknown earlier) (unwrap_or p.inputs [])), TagUnknown i)
    ∷ (reads && not (is_empty ins), InputOfReader i)
    ∷ (not reads && is_empty ins, NoInput i)
    ∷ (has_twice (taken earlier) ins, UsedTwice i)
    ∷ []

abbrev pub parts_fault : List Stage → Bool → Parts → Option PipeFault
parts_fault earlier is_end p = first_of (parts_tests earlier is_end p)

abbrev pub fault_in : List Stage → Bool → Option Parts → Option PipeFault
fault_in earlier is_end None = Some (BadStage (length earlier))
fault_in earlier is_end (Some p) = parts_fault earlier is_end p

-- the first fault of a stage
abbrev pub stage_fault : List Stage → Bool → Data → Option PipeFault
stage_fault earlier is_end d = fault_in earlier is_end (element_parts d)

-- the stage, where it has no fault
abbrev pub stage_of : List Stage → Bool → Data → Stage
stage_of earlier is_end d = parts_stage earlier is_end (options_of d) (unwrap_or (element_parts d) no_parts)
