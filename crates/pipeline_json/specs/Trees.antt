-- The tree that a pipeline's text is.
use Rattle.std.specs.Prelude.{ℕ, ◌-◌, ◌+◌, ◌<◌, ◌≤◌, ◌≡◌, nat_lt, List, [], ◌∷◌, ◌++◌, Bool, true, not, ◌&&◌, Option, Some, None, option_map, option_and_then, Result, Ok, Err, codes, length, find, slice_get, if◌then◌else◌}
use Rattle.std.specs.List.{range_with_len}
use Rattle.std.specs.Str.{is_utf8}
use Rattle.serde_json.specs.Data.{Data, array, object}
use Rattle.serde_json.specs.Find.{get_member, as_array}
use Rattle.serde_json.specs.Read.{read}
use Rattle.stage_names.specs.Kinds.{is_reader}
use Rattle.stage_names.specs.declared.faults.PipeFault.{PipeFault}
use Rattle.stage_names.specs.declared.faults.PipeFault.TheVariants.{TextTooLong, NotJson, NotAPipeline, Empty, TooManyStages, Loose}
use Rattle.pipeline_json.specs.Lists.{is_empty, has, times}
use Rattle.pipeline_json.specs.Stages.{Stage, taken, elements, stage_fault, stage_of}

-- the stages, or the first fault
abbrev pub Outcome : Type 0
Outcome = Result (List Stage) PipeFault

-- the least number but the last that no stage takes
abbrev pub loose : List Stage → Option ℕ
loose stages = find (λ j. not (has (taken stages) j)) (range_with_len 0 (length stages - 1))

abbrev pub or_loose : Option ℕ → List Stage → Outcome
or_loose None stages = Ok stages
or_loose (Some j) stages = Err (Loose j)

abbrev pub or_fault : Option PipeFault → Outcome → Outcome
or_fault None o = o
or_fault (Some f) o = Err f

-- the last place is that of a writer, unless it is the only one
abbrev pub is_end : List Stage → List Data → Bool
is_end earlier later = not (is_empty earlier) && is_empty later

-- the stages of the elements, after the earlier ones
abbrev pub stages_of : List Stage → List Data → Outcome
stages_of earlier [] = or_loose (loose earlier) earlier
stages_of earlier (d ∷ ds) = or_fault (stage_fault earlier (is_end earlier ds) d) (stages_of (earlier ++ stage_of earlier (is_end earlier ds) d ∷ []) ds)

abbrev pub tree_in : List Data → Outcome
tree_in [] = Err Empty
tree_in (d ∷ ds) = if nat_lt 64 (length (d ∷ ds)) then Err TooManyStages else stages_of [] (d ∷ ds)

-- an array, or the array that an object's member `pipeline` is
abbrev pub array_in : Data → Option (List Data)
array_in (array ds) = Some (elements ds)
array_in (object ms) = option_map elements (option_and_then as_array (get_member (codes "pipeline") ms))
array_in _ = None

abbrev pub tree_of_array : Option (List Data) → Outcome
tree_of_array None = Err NotAPipeline
tree_of_array (Some ds) = tree_in ds

abbrev pub tree_of_value : Option Data → Outcome
tree_of_value None = Err NotJson
tree_of_value (Some d) = tree_of_array (array_in d)

-- the tree that a JSON text (RFC 8259) is, or its first fault
abbrev pub tree_of : List ℕ → Outcome
tree_of text = if nat_lt 1048576 (length text) then Err TextTooLong else (if is_utf8 text then tree_of_value (read text) else Err NotJson)

-- what holds of the stages of each tree
pub record IsTree (stages : List Stage) : Type 0 where
  pub some : 1 ≤ length stages
  pub few : length stages ≤ 64
  pub earlier : (i j : ℕ) (s : Stage) → slice_get stages i ≡ Some s → has s.ins j ≡ true → j < i
  pub once : (j : ℕ) → j + 1 < length stages → times j (taken stages) ≡ 1
  pub readers : (i : ℕ) (s : Stage) → slice_get stages i ≡ Some s → is_empty s.ins ≡ is_reader s.kind
