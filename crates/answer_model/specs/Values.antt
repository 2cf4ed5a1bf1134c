-- What each stage of a tree gives on, and its fault, on whole flows.
use Rattle.std.specs.Prelude.{◌≡◌, ℕ, ℤ, ◌+◌, ◌<◌, Bool, true, false, ◌||◌, cond, if◌then◌else◌, List, [], ◌∷◌, ◌++◌, map, filter, flat_map, length, slice_index_or, Option, Some, None, option_map, Result, Ok, Err}
use Rattle.std.proofs.Common.{zero, suc}
use Rattle.std.specs.List.{range_with_len, list_any}
use Rattle.file_devices.specs.declared.devices.Op.{Op}
use Rattle.file_devices.specs.declared.devices.Op.TheVariants as op
use Rattle.cloud_points.specs.declared.dims.Dim.{Dim}
use Rattle.cloud_points.specs.declared.dims.Dim.TheVariants.{Extra}
use Rattle.cloud_points.specs.declared.extra.ExtraField.{ExtraField}
use Rattle.cloud_points.specs.declared.point.Point.{Point}
use Rattle.cloud_points.specs.declared.faults.PointFault.{PointFault}
use Rattle.cloud_points.specs.Flows.{Flow, all_of, points, empty_flow, join_all}
use Rattle.cloud_points.specs.Layouts.{is_same}
use Rattle.cloud_points.specs.Queue.{up_to_limit}
use Rattle.extra_bytes.specs.Bound.{bound_fields, fields_fault, names_with}
use Rattle.extra_bytes.specs.Record.{fields_among}
use Rattle.las_header.specs.Formats.{format_size}
use Rattle.point_formats.specs.Layouts.{dims_of, is_among}
use Rattle.las_reader.specs.Files.{Las}
use Rattle.las_reader.specs.Flows.{las_flow, las_fault}
use Rattle.forward_rules.specs.Forwarded.{ReadFile}
use Rattle.stage_names.specs.declared.faults.PipeFault.{PipeFault}
use Rattle.stage_options.specs.Kinds.{kind_of}
use Rattle.stage_names.specs.Faults.{or_else}
use Rattle.pipeline_json.specs.Lists.{has}
use Rattle.name_binding.specs.Binding.{binding_fault}
use Rattle.name_binding.specs.Ferries.{names_behind, adds}
use Rattle.stage_options.specs.Roles.{Role, Reads, Writes, WritesEach, role_of, is_reading}
use Rattle.stage_options.specs.Values.{numbered}
use Rattle.stage_options.specs.declared.options.Options.{Options}
use Rattle.stage_options.specs.declared.options.Options.TheVariants.{ReadersLas}
use Rattle.stage_options.specs.declared.stage.StageSpec.{StageSpec}
use Rattle.run_report.specs.declared.report.StageCount.{StageCount}
use Rattle.run_report.specs.declared.tally.TallyLine.{TallyLine}
use Rattle.plug_stages.specs.Handed.{Handed}
use Rattle.answer_model.specs.Rows.{Row, Setting, row_of, value_on, fault_on}

-- a file that is read: what a writer may take over, and its points with the values of given fields in extra dimensions
pub record LasFile : Type 0 where
  pub read : ReadFile
  pub las : List ExtraField → Las

-- what a run works on: the readers' files, by the reader's number, and what the caller handed in
pub record Opened : Type 0 where
  pub file : ℕ → LasFile
  pub handed : Handed

-- stage k; at a number that no stage has stands a reader
abbrev pub stage_at : List StageSpec → ℕ → StageSpec
stage_at stages k = slice_index_or stages k (record { ins = []; options = ReadersLas (record { filename = []; extra = false }) })

-- its options, and what it does with files
abbrev pub options_at : List StageSpec → ℕ → Options
options_at stages k = (stage_at stages k).options

abbrev pub role_at : List StageSpec → ℕ → Role
role_at stages k = role_of (options_at stages k)

-- what a stage that does this does with a device of its own while the stages take turns
abbrev pub op_for : Role → Option Op
op_for (Reads name) = Some op.Read
op_for (Writes name) = Some op.Write
op_for _ = None

-- ---- what stands below a stage

-- what a stage has by what those have that it takes; the number is above that of the stage
abbrev pub fold_below : {A : Type 0} → A → (ℕ → List A → A) → List StageSpec → ℕ → ℕ → A
fold_below none f stages zero k = none
fold_below none f stages (suc d) k = f k (map (fold_below none f stages d) ((stage_at stages k).ins))

abbrev pub fold_at : {A : Type 0} → A → (ℕ → List A → A) → List StageSpec → ℕ → A
fold_at none f stages k = fold_below none f stages (k + 1) k

-- the files of the readers from which the points of stage k come: a reader's own, another stage's those of its inputs
abbrev pub reads_with : List StageSpec → Opened → ℕ → List (List ReadFile) → List ReadFile
reads_with stages opened k lists = cond (is_reading (role_at stages k)) ((opened.file k).read ∷ []) (flat_map (λ list. list) lists)

abbrev pub reads_at : List StageSpec → Opened → ℕ → List ReadFile
reads_at stages opened k = fold_at [] (reads_with stages opened) stages k

-- the fields that a stage with these options takes of the file that it reads: those that its VLRs describe, where they are asked for
abbrev pub fields_found : Options → ReadFile → List ExtraField
fields_found (ReadersLas o) read = if o.extra then fields_among read.vlrs (format_size read.values.format) read.record_length else []
fields_found _ read = []

abbrev pub found_at : List StageSpec → Opened → ℕ → List ExtraField
found_at stages opened k = fields_found (options_at stages k) (opened.file k).read

-- the extra names behind a stage that takes these fields: its ferries' targets are added to those before it, and then the names of the fields
abbrev pub names_past : List (List ℕ) → Options → List ExtraField → List (List ℕ)
names_past names o found = names_with (names_behind names o) found

-- the extra names of the stages before stage k
abbrev pub names_at : List StageSpec → Opened → ℕ → List (List ℕ)
names_at stages opened zero = []
names_at stages opened (suc k) = names_past (names_at stages opened k) (options_at stages k) (found_at stages opened k)

-- the fields that a stage takes, with the places of their names
abbrev pub fields_past : List (List ℕ) → Options → List ExtraField → List ExtraField
fields_past names o found = bound_fields (names_behind names o) found

abbrev pub fields_at : List StageSpec → Opened → ℕ → List ExtraField
fields_at stages opened k = fields_past (names_at stages opened k) (options_at stages k) (found_at stages opened k)

-- a dimension is that of one of these fields
abbrev pub is_of_fields : List ExtraField → Dim → Bool
is_of_fields fields dim = list_any (λ (f : ExtraField). is_same (Extra f.place) dim) fields

-- a stage gives its points a dimension: a ferry its targets, and a reader the fields that it takes
abbrev pub gives_dim : List (List ℕ) → Options → List ExtraField → Dim → Bool
gives_dim names o found dim = adds names o dim || is_of_fields (fields_past names o found) dim

-- the dimensions of the points that stage k takes: a reader's those of its file's format, another stage's those of any input
abbrev pub dims_joined : List StageSpec → Opened → ℕ → List (Dim → Bool) → Dim → Bool
dims_joined stages opened k sets dim = cond (is_reading (role_at stages k)) (is_among dim (dims_of (opened.file k).read.values.format)) (list_any (λ set. set dim) sets)

-- those of the points that it gives on
abbrev pub dims_with : List StageSpec → Opened → ℕ → List (Dim → Bool) → Dim → Bool
dims_with stages opened k sets dim = dims_joined stages opened k sets dim || gives_dim (names_at stages opened k) (options_at stages k) (found_at stages opened k) dim

abbrev pub dims_at : List StageSpec → Opened → ℕ → Dim → Bool
dims_at stages opened k = fold_at (λ dim. false) (dims_with stages opened) stages k

abbrev pub dims_taken : List StageSpec → Opened → ℕ → Dim → Bool
dims_taken stages opened k dim = dims_joined stages opened k (map (dims_at stages opened) ((stage_at stages k).ins)) dim

-- the fault of the options of stage k, behind these extra names and beside points with these dimensions, or else of the fields that it
-- takes
abbrev pub unbound : ℕ → List (List ℕ) → (Dim → Bool) → Options → List ExtraField → Option PipeFault
unbound k names has o found = or_else (binding_fault k names has o) (fields_fault k (names_behind names o) found)

abbrev pub unbound_at : List StageSpec → Opened → ℕ → Option PipeFault
unbound_at stages opened k = unbound k (names_at stages opened k) (dims_taken stages opened k) (options_at stages k) (found_at stages opened k)

-- where stage k stands
abbrev pub setting_at : List StageSpec → Opened → ℕ → Setting
setting_at stages opened k = record { names = names_at stages opened k; reads = reads_at stages opened k; dims = dims_taken stages opened k; fields = fields_at stages opened k; handed = opened.handed }

-- ---- values

abbrev pub row_at : List StageSpec → Opened → ℕ → Row
row_at stages opened k = row_of (options_at stages k) (setting_at stages opened k)

-- what a stage gives on: a reader the flow of its file, another one its value on the flow that it takes
abbrev pub value_of : Role → Row → Las → Flow Point → Flow Point
value_of role row las flow = cond (is_reading role) (las_flow las) (value_on row flow)

-- what its file holds, with the fields that it takes
abbrev pub las_at : List StageSpec → Opened → ℕ → Las
las_at stages opened k = (opened.file k).las (fields_at stages opened k)

abbrev pub value_with : List StageSpec → Opened → ℕ → List (Flow Point) → Flow Point
value_with stages opened k flows = value_of (role_at stages k) (row_at stages opened k) (las_at stages opened k) (join_all flows)

-- what stage k gives on
abbrev pub stage_value : List StageSpec → Opened → ℕ → Flow Point
stage_value stages opened k = fold_at empty_flow (value_with stages opened) stages k

-- what it takes: the values of its inputs, joined in their order
abbrev pub stage_input : List StageSpec → Opened → ℕ → Flow Point
stage_input stages opened k = join_all (map (stage_value stages opened) ((stage_at stages k).ins))

-- the fault of a stage: of a reader that of its file, of another one that on the flow that it takes
abbrev pub stage_fault : List StageSpec → Opened → ℕ → Option PointFault
stage_fault stages opened k =
    cond (is_reading (role_at stages k)) (las_fault (las_at stages opened k)) (fault_on (row_at stages opened k) (stage_input stages opened k))

-- the least of so many numbers from k on at which there is one
abbrev pub or_later : {A : Type 0} → ℕ → Option A → Option (ℕ × A) → Option (ℕ × A)
or_later k None later = later
or_later k (Some a) later = Some (k, a)

abbrev pub least_from : {A : Type 0} → (ℕ → Option A) → ℕ → ℕ → Option (ℕ × A)
least_from f zero k = None
least_from f (suc left) k = or_later k (f k) (least_from f left (k + 1))

-- the least stage with a fault, and that fault
abbrev pub least_fault : List StageSpec → Opened → Option (ℕ × PointFault)
least_fault stages opened = least_from (stage_fault stages opened) (length stages) 0

-- a file that is kept: the numbers of the stage that writes it, and of the view where it writes a file of each; its name and its bytes
pub record Output : Type 0 where
  pub stage : ℕ
  pub view : Option ℕ
  pub name : List ℕ
  pub bytes : List ℕ

-- that of stage k, with these bytes, where the stage writes one
abbrev pub written : ℕ → Role → List ℕ → List Output
written k (Writes name) bytes = record { stage = k; view = None; name = name; bytes = bytes } ∷ []
written k _ bytes = []

-- the points that stage k writes of those that it takes
abbrev pub written_at : List StageSpec → Opened → ℕ → List Point
written_at stages opened k = filter ((row_at stages opened k).writes) (points (stage_input stages opened k))

abbrev pub output_at : List StageSpec → Opened → ℕ → List Output
output_at stages opened k = written k (role_at stages k) ((row_at stages opened k).bytes (written_at stages opened k))

-- those of stage k of these views, whose numbers begin with n
abbrev pub view_outputs : ℕ → List ℕ → Row → ℕ → List (List Point) → List Output
view_outputs k name row n [] = []
view_outputs k name row n (v ∷ vs) = record { stage = k; view = Some n; name = numbered name n; bytes = row.bytes (filter (row.writes) v) } ∷ view_outputs k name row (n + 1) vs

-- where it writes a file of each view that it gives on
abbrev pub written_each : ℕ → Role → Row → Flow Point → List Output
written_each k (WritesEach name) row given = view_outputs k name row 1 (given.views)
written_each k _ row given = []

abbrev pub outputs_at : List StageSpec → Opened → ℕ → List Output
outputs_at stages opened k = written_each k (role_at stages k) (row_at stages opened k) (stage_value stages opened k)

-- how many points it writes of those that it takes, or of the views that it gives on, and how many files
abbrev pub wrote_with : Role → Row → Flow Point → Flow Point → Option ℕ
wrote_with (Writes name) row taken given = Some (up_to_limit (length (filter (row.writes) (points taken))))
wrote_with (WritesEach name) row taken given = Some (up_to_limit (length (filter (row.writes) (all_of (given.views)))))
wrote_with _ row taken given = None

-- how many points it shows to a tally of those that it takes
abbrev pub shown_with : Row → Flow Point → Option ℕ
shown_with row taken = option_map (λ _. up_to_limit (length (filter (row.writes) (points taken)))) row.says

-- what it writes, or else what it shows
abbrev pub or_shown : Option ℕ → Option ℕ → Option ℕ
or_shown (Some n) shown = Some n
or_shown None shown = shown

-- what its tally says of those that it shows
abbrev pub said_with : Row → Flow Point → Option TallyLine
said_with row taken = option_map (λ says. says (filter (row.writes) (points taken))) row.says

abbrev pub said_at : List StageSpec → Opened → ℕ → Option TallyLine
said_at stages opened k = said_with (row_at stages opened k) (stage_input stages opened k)

-- what the filter or the tally of the caller remembers behind it
abbrev pub left_at : List StageSpec → Opened → ℕ → Option (List ℤ)
left_at stages opened k = (row_at stages opened k).leaves (stage_input stages opened k)

abbrev pub files_with : Role → Flow Point → ℕ
files_with (Writes name) given = 1
files_with (WritesEach name) given = up_to_limit (length (given.views))
files_with _ given = 0

-- how many views and points a stage gave on, how many points and files it wrote, and what its tally says
abbrev pub count_at : List StageSpec → Opened → ℕ → StageCount
count_at stages opened k = record {
  stage = k;
  kind = kind_of (stage_at stages k).options;
  views = up_to_limit (length (stage_value stages opened k).views);
  points = up_to_limit (length (points (stage_value stages opened k)));
  wrote = or_shown (wrote_with (role_at stages k) (row_at stages opened k) (stage_input stages opened k) (stage_value stages opened k))
      (shown_with (row_at stages opened k) (stage_input stages opened k));
  files = files_with (role_at stages k) (stage_value stages opened k);
  tally = said_at stages opened k;
}

-- those of all stages: the writers of one file in the order of their numbers, and then those of a file of each view
abbrev pub outputs_of : List StageSpec → Opened → List Output
outputs_of stages opened = flat_map (output_at stages opened) (range_with_len 0 (length stages)) ++ flat_map (outputs_at stages opened) (range_with_len 0 (length stages))

abbrev pub counts_of : List StageSpec → Opened → List StageCount
counts_of stages opened = map (count_at stages opened) (range_with_len 0 (length stages))

-- what the stages come to
pub record Ended : Type 0 where
  pub outputs : List Output
  pub counts : List StageCount

abbrev pub unless_fault : Option (ℕ × PointFault) → Ended → Result Ended (ℕ × PointFault)
unless_fault None ended = Ok ended
unless_fault (Some f) ended = Err f

-- what the stages come to, or the run's fault: that of the least stage that has one
unfoldable pub evaluated : List StageSpec → Opened → Result Ended (ℕ × PointFault)
evaluated stages opened = unless_fault (least_fault stages opened)
    (record { outputs = outputs_of stages opened; counts = counts_of stages opened })

-- each stage takes earlier ones
abbrev pub IsDown : List StageSpec → Type 0
IsDown stages = (k j : ℕ) → has ((stage_at stages k).ins) j ≡ true → j < k
