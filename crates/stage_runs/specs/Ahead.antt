-- How far the readers of a tree have read its files where a run ended at its first fault.
use Rattle.std.specs.Prelude.{◌≡◌, ℕ, ◌+◌, ◌-◌, ◌*◌, ◌^◌, ◌<◌, ◌≤◌, Bool, true, false, not, List, length, map, Option, Some, None, slice_get, sum_by}
use Rattle.file_devices.specs.declared.devices.Source as source
use Rattle.cloud_points.specs.Events.{is_device}
use Rattle.cloud_points.specs.declared.faults.StageFault.{StageFault}
use Rattle.las_reader.specs.declared.reader.LasReader.{LasReader}
use Rattle.network_theory.specs.Shape.{In}
use Rattle.network_core.specs.declared.node.Node.{Node}
use Rattle.network_core.specs.Shown.{work_of}
use Rattle.stage_kinds.specs.Leads.{begins_at, lead_of, number_of, reached_of, AreInFront, HaveNoEvlrs}
use Rattle.stage_kinds.specs.declared.stage_work.StageWork.{StageWork}
use Rattle.stage_kinds.specs.declared.stage_work.StageWork.TheVariants.{Reader}
use Rattle.stage_options.specs.Roles.{is_gathering, is_reading, is_writing, role_of}
use Rattle.stage_options.specs.declared.options.Options.{Options}
use Rattle.stage_options.specs.declared.options.Options.TheVariants.{ReadersLas, FiltersAssign, FiltersFerry, FiltersMerge, WritersLas, WritersText, WritersTally}
use Rattle.stage_options.specs.declared.stage.StageSpec.{StageSpec}
use Rattle.answer_model.specs.Values.{Opened, options_at, role_at, stage_at}
use Rattle.stage_forms.specs.Starts.{AreGiven}
use Rattle.plug_stages.specs.declared.filter.PlugFilter as plug_type
use Rattle.plug_stages.specs.declared.tally.PlugTally as tally_type

-- readers, assignments, ferries, merges, writers of one file and tallies give on each point
abbrev pub keeps_points : Options → Bool
keeps_points (ReadersLas o) = true
keeps_points (FiltersAssign o) = true
keeps_points (FiltersFerry o) = true
keeps_points (FiltersMerge o) = true
keeps_points (WritersLas o) = not (is_gathering (role_of (WritersLas o)))
keeps_points (WritersTally o) = true
keeps_points (WritersText o) = not (is_gathering (role_of (WritersText o)))
keeps_points o = false

abbrev pub KeepPoints : List StageSpec → Type 0
KeepPoints stages = (i : ℕ) → keeps_points (options_at stages i) ≡ true

-- a stage stands under stage i: i takes it, or one that takes it stands under i
pub data IsUnder (stages : List StageSpec) (i : ℕ) : ℕ → Type 0 where
  taken : (j : ℕ) → In j ((stage_at stages i).ins) → IsUnder stages i j
  through : (j k : ℕ) → In j ((stage_at stages k).ins) → IsUnder stages i k → IsUnder stages i j

-- every reader stands under stage i
abbrev pub HasAllReaders : List StageSpec → ℕ → Type 0
HasAllReaders stages i = (j : ℕ) → j < length stages → is_reading (role_at stages j) ≡ true → IsUnder stages i j

-- the first stage that has one of these faults is stage i, a writer of one file that has every reader under it, and no device failed; its
-- fault is told with its number
pub record EndedAtWriter (stages : List StageSpec) (faults : List (Option StageFault)) (i : ℕ) (f : StageFault) : Type 0 where
  pub inside : i < length stages
  pub writes : is_writing (role_at stages i) ≡ true
  pub readers : HasAllReaders stages i
  pub fault : slice_get faults i ≡ Some (Some f)
  pub earlier : (j : ℕ) (o : Option StageFault) → j < i → slice_get faults j ≡ Some o → o ≡ None
  pub calm : (j : ℕ) (o : Option StageFault) → slice_get faults j ≡ Some o → is_device o ≡ false
  pub told : number_of f < 2 ^ 64 - 1

-- no record that is read has more bytes
abbrev pub RecordsFit : {S K P Q : Type 0} → ℕ → List (StageWork S K P Q) → Type 0
RecordsFit {S} length works = (i : ℕ) (r : LasReader S) → slice_get works i ≡ Some (Reader r) → r.header.record_length ≤ length

-- as many points as come before one, those of full queues, and a chunk for each stage and one more
abbrev pub most_read : ℕ → ℕ → ℕ → ℕ → ℕ
most_read number stages queue chunk = number + ((stages - 1) * queue + stages + 1) * chunk

-- no more records were read than so many, and no bytes behind those
pub record ReadNoMore {S K P Q : Type 0} (s : source.Ghosts S) (most : ℕ) (old new : List (StageWork S K P Q)) : Type 0 where
  pub records : sum_by (lead_of s.reached) new ≤ most
  pub bytes : (length : ℕ) → RecordsFit length old → sum_by (reached_of s.reached) new ≤ sum_by begins_at old + most * length

-- where all stages give on each point, and the readers' sources tell their files, of which none counts EVLRs, and none of whose points was read
-- before, what was read is bounded by the number of the point at which the run ended
abbrev pub AreReadAhead : {S K P Q : Type 0} → source.Ghosts S → plug_type.Ghosts P → tally_type.Ghosts Q → List StageSpec → ℕ → ℕ → List (StageWork S K P Q) → List (StageWork S K P Q) → List (Option StageFault) → Type 0
AreReadAhead s fs ts stages queue chunk old new faults = KeepPoints stages → (opened : Opened) → AreGiven s fs ts stages old opened → HaveNoEvlrs old → AreInFront s.reached old → (i : ℕ) (f : StageFault) → EndedAtWriter stages faults i f
    → ReadNoMore s (most_read (number_of f) (length stages) queue chunk) old new

-- the same of the nodes of a tree, which make chunks of so many points
abbrev pub HaveReadAhead : {S K P Q : Type 0} → source.Ghosts S → plug_type.Ghosts P → tally_type.Ghosts Q → List StageSpec → ℕ → ℕ → List (Node (StageWork S K P Q)) → List (Node (StageWork S K P Q)) → Type 0
HaveReadAhead {S} {K} {P} {Q} s fs ts stages queue chunk old new = ((i : ℕ) (n : Node (StageWork S K P Q)) → slice_get old i ≡ Some n → n.chunk ≡ chunk)
    → AreReadAhead s fs ts stages queue chunk (map work_of old) (map work_of new) (map (λ n. n.fault) new)
