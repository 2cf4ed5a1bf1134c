-- What the run of a tree comes to, over the map of the files: its readers' files are opened in the order of the stages, then names
-- of dimensions are bound in that order, and then the stages are evaluated.
use Rattle.std.specs.Prelude.{◌≡◌, ℕ, ◌<◌, List, [], ◌∷◌, length, Option, Some, None, Result, Ok, Err}
use Rattle.file_devices.specs.Named.{Names, put}
use Rattle.file_devices.specs.declared.devices.Op.TheVariants.{Open}
use Rattle.cloud_points.specs.declared.faults.PointFault.{PointFault}
use Rattle.stage_names.specs.declared.faults.PipeFault.{PipeFault}
use Rattle.las_header.specs.Steps.{◌>>=◌}
use Rattle.las_reader.specs.Frames.{LasFault, In_header, In_list, frame_of}
use Rattle.las_reader.specs.Files.{las_with}
use Rattle.forward_rules.specs.Forwarded.{read_file}
use Rattle.forward_rules.specs.Values.{default_values}
use Rattle.stage_options.specs.Roles.{Role, Reads}
use Rattle.stage_options.specs.declared.stage.StageSpec.{StageSpec}
use Rattle.run_report.specs.declared.refusal.Place.{Place}
use Rattle.run_report.specs.declared.refusal.Place.TheVariants.{Stage}
use Rattle.run_report.specs.declared.refusal.Fault.TheVariants as fault
use Rattle.run_report.specs.declared.refusal.Refusal.{Refusal}
use Rattle.run_report.specs.declared.refusal.Refusal.TheVariants.{Data, Device, Pipeline}
use Rattle.run_report.specs.Reports.{report_of}
use Rattle.plug_stages.specs.Handed.{Handed}
use Rattle.answer_model.specs.Steps.{and_then, why}
use Rattle.answer_model.specs.Values.{LasFile, Opened, Output, Ended, role_at, least_from, unbound_at, evaluated}

-- the files that a run keeps, in the order of their stages, and what it reports
pub record Run : Type 0 where
  pub outputs : List Output
  pub report : List ℕ

-- the map with these outputs put under their names
abbrev pub put_all : Names → List Output → Names
put_all m [] = m
put_all m (output ∷ outputs) = put_all (put m output.name output.bytes) outputs

-- ---- what is opened

-- a file of the map
abbrev pub file_at : Option (List ℕ) → Place → Result (List ℕ) Refusal
file_at None place = Err (Device place Open)
file_at (Some bytes) place = Ok bytes

-- what the bytes of a file hold, or the first reason why it isn't read
abbrev pub las_file_of : List ℕ → Result LasFile LasFault
las_file_of bytes = do
  frame ← frame_of bytes
  Ok (record { read = read_file frame.header frame.vlrs frame.evlrs; las = λ fields. las_with frame.header fields bytes })

-- the same of the file of stage i
abbrev pub las_read : ℕ → Result LasFile LasFault → Result LasFile Refusal
las_read i (Ok file) = Ok file
las_read i (Err (In_header f)) = Err (Data i (fault.Header f))
las_read i (Err (In_list f)) = Err (Data i (fault.Vlr f))

-- the same of a file that may be there
abbrev pub opened_at : ℕ → Option (List ℕ) → Result LasFile Refusal
opened_at i file = and_then (file_at file (Stage i)) (λ bytes. las_read i (las_file_of bytes))

-- why the file of stage i, which does this, can't be read; only a reader has one
abbrev pub unread : Names → ℕ → Role → Option Refusal
unread m i (Reads name) = why (opened_at i (m name))
unread m i _ = None

abbrev pub unread_at : Names → List StageSpec → ℕ → Option Refusal
unread_at m stages i = unread m i (role_at stages i)

-- a file without points, of which nothing is said
abbrev pub no_file : LasFile
no_file = record { read = record { values = default_values; record_length = 0; vlrs = []; evlrs = [] }; las = λ fields. record { points = []; fault = None } }

-- what was read, or nothing
abbrev pub file_or : Result LasFile Refusal → LasFile
file_or (Ok file) = file
file_or (Err r) = no_file

abbrev pub holds : Names → ℕ → Role → LasFile
holds m i (Reads name) = file_or (opened_at i (m name))
holds m i _ = no_file

-- what the readers' files hold
abbrev pub files_in : Names → List StageSpec → ℕ → LasFile
files_in m stages i = holds m i (role_at stages i)

-- and what the caller handed in
abbrev pub opened_in : Handed → Names → List StageSpec → Opened
opened_in handed m stages = record { file = files_in m stages; handed = handed }

-- the names of dimensions in the options of all stages are bound
abbrev pub AreBound : Handed → Names → List StageSpec → Type 0
AreBound handed m stages = (i : ℕ) → i < length stages → unbound_at stages (opened_in handed m stages) i ≡ None

-- the files of the first so many stages can be read
abbrev pub AreRead : Names → List StageSpec → ℕ → Type 0
AreRead m stages count = (i : ℕ) → i < count → unread_at m stages i ≡ None

-- ---- the run

abbrev pub run_with : Result Ended (ℕ × PointFault) → Result Run Refusal
run_with (Ok ended) = Ok (record { outputs = ended.outputs; report = report_of ended.counts })
run_with (Err f) = Err (Data f.0 (fault.Point f.1))

abbrev pub unless_unread : Option (ℕ × Refusal) → Result Run Refusal → Result Run Refusal
unless_unread None run = run
unless_unread (Some r) run = Err r.1

-- the fault of the first stage whose options name a dimension that its points haven't
abbrev pub unless_unbound : Option (ℕ × PipeFault) → Result Run Refusal → Result Run Refusal
unless_unbound None run = run
unless_unbound (Some f) run = Err (Pipeline f.1)

-- what the stages come to over these files: the fault of their options, or else what they are evaluated to
abbrev pub run_over : List StageSpec → Opened → Result Run Refusal
run_over stages opened = unless_unbound (least_from (unbound_at stages opened) (length stages) 0) (run_with (evaluated stages opened))

-- what the run of a tree comes to: the refusal of the first stage whose file can't be read, or else what its stages come to
abbrev pub run_of : Handed → Names → List StageSpec → Result Run Refusal
run_of handed m stages = unless_unread (least_from (unread_at m stages) (length stages) 0) (run_over stages (opened_in handed m stages))
