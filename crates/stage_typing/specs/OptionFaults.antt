-- The first fault of a stage's options.
use Rattle.std.specs.Prelude.{ℕ, ◌&&◌, ◌||◌, Bool, false, not, List, [], ◌∷◌, codes, bytes_eq, Option, Some, None, option_map, is_some, if◌then◌else◌}
use Rattle.std.specs.Ordering.{nat_cmp, match_ordering}
use Rattle.std.specs.Cmp.Lexicographic.{slice_cmp}
use Rattle.std.specs.List.{filter, list_any}
use Rattle.serde_json.specs.Data.{Data, Members, no_members, member}
use Rattle.pipeline_json.specs.Lists.{is_empty}
use Rattle.stage_names.specs.declared.kinds.KindName.{KindName}
use Rattle.stage_names.specs.declared.faults.PipeFault.{PipeFault}
use Rattle.stage_names.specs.declared.faults.PipeFault.TheVariants.{OptionUnknown, OptionMissing, OptionValue}
use Rattle.stage_names.specs.Faults.{or_else}
use Rattle.stage_options.specs.Values.{value_of}
use Rattle.stage_options.specs.Rules.{Allowed, Presence, always, one_of, along_with, apart_from, Rule, rules_of, fits}

-- ---- the least name that the type hasn't

abbrev pub names_of : Members → List (List ℕ)
names_of no_members = []
names_of (member name d ms) = name ∷ names_of ms

abbrev pub all_names : Option (List ℕ) → Members → List (List ℕ)
all_names None ms = names_of ms
all_names (Some filename) ms = codes "filename" ∷ names_of ms

-- in the order of bytes
abbrev pub lesser : List ℕ → Option (List ℕ) → List ℕ
lesser name None = name
lesser name (Some other) = match_ordering (slice_cmp nat_cmp name other) name name other

abbrev pub least : List (List ℕ) → Option (List ℕ)
least [] = None
least (name ∷ names) = Some (lesser name (least names))

abbrev pub is_known : List Rule → List ℕ → Bool
is_known [] name = false
is_known (r ∷ rs) name = bytes_eq r.name name || is_known rs name

abbrev pub first_unknown : List Rule → Option (List ℕ) → Members → Option (List ℕ)
first_unknown rs filename ms = least (filter (λ name. not (is_known rs name)) (all_names filename ms))

-- ---- the first option that isn't there and has to be

abbrev pub stands : Option (List ℕ) → Members → List ℕ → Bool
stands filename ms name = is_some (value_of name filename ms)

-- of several the first is told
abbrev pub is_missing : Presence → List ℕ → Option (List ℕ) → Members → Bool
is_missing always name filename ms = not (stands filename ms name)
is_missing (one_of before behind) name filename ms = is_empty before && not (stands filename ms name || list_any (stands filename ms) behind)
is_missing (along_with other) name filename ms = stands filename ms other && not (stands filename ms name)
is_missing _ name filename ms = false

abbrev pub first_missing : List Rule → Option (List ℕ) → Members → Option (List ℕ)
first_missing [] filename ms = None
first_missing (r ∷ rs) filename ms = if is_missing r.presence r.name filename ms then Some r.name else first_missing rs filename ms

-- ---- the first one whose value isn't one, or that may not be there

-- whether an option is there with a value of this kind
abbrev pub holds_one : Allowed → Option Data → Bool
holds_one allowed None = false
holds_one allowed (Some d) = fits allowed d

-- of several that stand the last is told
abbrev pub is_barred : Presence → List ℕ → Option (List ℕ) → Members → Bool
is_barred (one_of before behind) name filename ms = stands filename ms name && list_any (stands filename ms) before && not (list_any (stands filename ms) behind)
is_barred (along_with other) name filename ms = stands filename ms name && not (stands filename ms other)
is_barred (apart_from these other those) name filename ms = holds_one these (value_of name filename ms) && holds_one those (value_of other filename ms)
is_barred _ name filename ms = false

abbrev pub is_wrong : Allowed → Option Data → Bool
is_wrong allowed None = false
is_wrong allowed (Some d) = not (fits allowed d)

abbrev pub first_wrong : List Rule → Option (List ℕ) → Members → Option (List ℕ)
first_wrong [] filename ms = None
first_wrong (r ∷ rs) filename ms =
    if is_wrong r.allowed (value_of r.name filename ms) || is_barred r.presence r.name filename ms then Some r.name else first_wrong rs filename ms

-- ---- the whole

abbrev pub fault_by : ℕ → List Rule → Option (List ℕ) → Members → Option PipeFault
fault_by i rs filename ms =
    or_else (option_map (OptionUnknown i) (first_unknown rs filename ms))
    (or_else (option_map (OptionMissing i) (first_missing rs filename ms)) (option_map (OptionValue i) (first_wrong rs filename ms)))

-- the first fault of stage i, of this type, with this file name and these other options
abbrev pub first_fault : ℕ → KindName → Option (List ℕ) → Members → Option PipeFault
first_fault i kind filename ms = fault_by i (rules_of kind) filename ms
