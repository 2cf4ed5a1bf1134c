-- Devices whose counts rose, and files that weren't there.
use Rattle.std.proofs.Common.{◌≡◌, ℕ, Bool, true, false, if◌then◌else◌, List, length, Option, Some, None, Result, Ok, Err, refl, ap, subst, sym, ◌∙◌, inl, inr}
use Rattle.std.specs.Str.{bytes_eq}
use Rattle.file_devices.specs.Named.{Names, put}
use Rattle.file_devices.specs.declared.devices.Op.{Op}
use Rattle.file_devices.specs.declared.devices.Op.TheVariants as op
use Rattle.cloud_points.specs.declared.faults.PointFault.{PointFault}
use Rattle.cloud_gen.specs.GeneratedFile.{IsPut}
use Rattle.las_reader.specs.Frames.{LasFault, In_header, In_list}
use Rattle.stage_names.specs.declared.faults.PipeFault.{PipeFault}
use Rattle.stage_options.specs.Roles.{Role, Reads, Filters, Gathers, Writes, WritesEach}
use Rattle.stage_options.specs.declared.stage.StageSpec.{StageSpec}
use Rattle.run_report.specs.declared.refusal.Place.{Place}
use Rattle.run_report.specs.declared.refusal.Place.TheVariants as at
use Rattle.run_report.specs.declared.refusal.Refusal.{Refusal}
use Rattle.run_report.specs.declared.refusal.Refusal.TheVariants as of
use Rattle.answer_model.specs.Steps.{why}
use Rattle.answer_model.specs.Values.{LasFile, Ended, evaluated, least_from, role_at, unbound_at}
use Rattle.answer_model.specs.Runs.{opened_at, las_file_of, las_read, opened_in, run_of, run_over, run_with, unless_unbound, unless_unread, unread, unread_at}
use Rattle.answer_model.proofs.Least.{found}
use Rattle.network_core.specs.declared.stop.Stop.{Stop}
use Rattle.run_engine.specs.Stopping.{IsCauseBy}
use Rattle.lasline_top.specs.Cause.{HasFailed, IsAbsent, Risen, RisenAt}
use Rattle.plug_stages.specs.Handed.{Handed}

-- ---- counts

-- a device whose count rose has failed, whatever was done with it
pub rose_failed : (files out : Type 0) (map : Option Names) (p : Place) (o : Op) → RisenAt files out p → HasFailed files out map p o
rose_failed files out map p op.Open h = inl h
rose_failed files out map p op.Read h = h
rose_failed files out map p op.Create h = h
rose_failed files out map p op.Write h = h
rose_failed files out map p op.Patch h = h
rose_failed files out map p op.Keep h = h

-- counts that rose in a part of a command rose in the whole, and a file that wasn't there then wasn't there at entry
module _ (files out more_files more_out : Type 0) (map more_map : Option Names) (more : files → more_files) (outer : out → more_out) (absent : IsAbsent map → IsAbsent more_map) where
  rose-more : (p : Place) → RisenAt files out p → RisenAt more_files more_out p
  rose-more at.Out h = outer h
  rose-more at.PipelineFile h = more h
  rose-more at.Generated h = more h
  rose-more (at.Stage i) h = more h

  failed-more : (p : Place) (o : Op) → HasFailed files out map p o → HasFailed more_files more_out more_map p o
  failed-more p op.Open (inl h) = inl (rose-more p h)
  failed-more p op.Open (inr h) = inr (absent h)
  failed-more p op.Read h = rose-more p h
  failed-more p op.Create h = rose-more p h
  failed-more p op.Write h = rose-more p h
  failed-more p op.Patch h = rose-more p h
  failed-more p op.Keep h = rose-more p h

  risen-within : (r : Refusal) → Risen files out map r → Risen more_files more_out more_map r
  risen-within (of.Device p o) h = failed-more p o h
  risen-within (of.Usage k) h = tt
  risen-within (of.Pipeline f) h = tt
  risen-within (of.Data i f) h = tt
  risen-within of.Memory h = tt

pub risen_more : (files out more_files more_out : Type 0) (map more_map : Option Names) (r : Refusal) → (files → more_files) → (out → more_out) → (IsAbsent map → IsAbsent more_map)
    → Risen files out map r → Risen more_files more_out more_map r
risen_more files out more_files more_out map more_map r more outer absent h = risen-within files out more_files more_out map more_map more outer absent r h

-- ---- what is absent

-- what a name has not once a file was put, it had not before
absent-before : (m : Names) (name bytes q : List ℕ) → put m name bytes q ≡ None → m q ≡ None
absent-before m name bytes q h = go (bytes_eq name q) h
  where
    go : (same : Bool) → (if same then Some bytes else m q) ≡ None → m q ≡ None
    go true e = cc
    go false e = e

pub absent_behind : (name bytes : List ℕ) (old middle : Option Names) → IsPut old name bytes middle → IsAbsent middle → IsAbsent old
absent_behind name bytes None middle put-in h = absurd (let e : None ≡ Some h.0 = put-in h.0 h.2 in cc)
absent_behind name bytes (Some n) middle put-in h =
    let e : Some (put n name bytes) ≡ Some h.0 = put-in h.0 h.2 in
    let is : put n name bytes ≡ h.0 = cc in
    (n, h.1, refl, absent-before n name bytes h.1 (ap (λ (o : Names). o h.1) is ∙ h.3))

-- a refusal for a device is no fault of what a file holds
no-fault : (i : ℕ) (p : Place) (o : Op) (read : Result LasFile LasFault) → why (las_read i read) ≡ Some (of.Device p o) → ⊥
no-fault i p o (Ok file) e = cc
no-fault i p o (Err (In_header f)) e = cc
no-fault i p o (Err (In_list f)) e = cc

-- a stage whose file can't be read for its device is a reader, and its file isn't there
unread-absent : (m : Names) (i : ℕ) (role : Role) (p : Place) (o : Op) → unread m i role ≡ Some (of.Device p o) → (o ≡ op.Open) × ((name : List ℕ) × (m name ≡ None))
unread-absent m i Filters p o e = cc
unread-absent m i Gathers p o e = cc
unread-absent m i (WritesEach name) p o e = cc
unread-absent m i (Writes name) p o e = cc
unread-absent m i (Reads name) p o e = go (m name) refl e
  where
    go : (file : Option (List ℕ)) → m name ≡ file → why (opened_at i file) ≡ Some (of.Device p o) → (o ≡ op.Open) × ((name : List ℕ) × (m name ≡ None))
    go None is e = ((cc), (name, is))
    go (Some bytes) is e = absurd (no-fault i p o (las_file_of bytes) e)

-- where names are bound, what stages come to is no refusal for a device
no-device : (p : Place) (o : Op) (ended : Result Ended (ℕ × PointFault)) → run_with ended ≡ Err (of.Device p o) → ⊥
no-device p o (Ok ended) e = cc
no-device p o (Err f) e = cc

bound-device : (p : Place) (o : Op) (unbound : Option (ℕ × PipeFault)) (ended : Result Ended (ℕ × PointFault)) → unless_unbound unbound (run_with ended) ≡ Err (of.Device p o) → ⊥
bound-device p o None ended e = no-device p o ended e
bound-device p o (Some f) ended e = cc

-- a run is refused for a device only where the file of a reader isn't there
pub run_absent : (handed : Handed) (m : Names) (stages : List StageSpec) (p : Place) (o : Op) → run_of handed m stages ≡ Err (of.Device p o) → (o ≡ op.Open) × ((name : List ℕ) × (m name ≡ None))
run_absent handed m stages p o e = go (least_from (unread_at m stages) (length stages) 0) refl e
  where
    go : (least : Option (ℕ × Refusal)) → least_from (unread_at m stages) (length stages) 0 ≡ least
        → unless_unread least (run_over stages (opened_in handed m stages)) ≡ Err (of.Device p o) → (o ≡ op.Open) × ((name : List ℕ) × (m name ≡ None))
    go None is e = absurd (bound-device p o (least_from (unbound_at stages (opened_in handed m stages)) (length stages) 0) (evaluated stages (opened_in handed m stages)) e)
    go (Some first) is e =
        let refused : first.1 ≡ of.Device p o = cc in
        unread-absent m first.0 (role_at stages first.0) p o ((found (unread_at m stages) (length stages) 0 first.0 first.1 is).here ∙ ap (λ r. Some r) refused)

-- ---- refused runs

-- a device that a run names has failed
pub cause_risen : (handed : Handed) (stop : Stop) (rose : Type 0) (map : Option Names) (stages : List StageSpec) (r : Refusal) → IsCauseBy stop rose handed map stages r → Risen rose ⊥ map r
cause_risen handed stop rose map stages of.Memory c = tt
cause_risen handed stop rose map stages (of.Data i f) c = tt
cause_risen handed stop rose map stages (of.Pipeline f) c = tt
cause_risen handed stop rose map stages (of.Usage k) c = tt
cause_risen handed stop rose map stages (of.Device at.PipelineFile o) c = absurd c
cause_risen handed stop rose map stages (of.Device at.Generated o) c = absurd c
cause_risen handed stop rose map stages (of.Device at.Out o) c = absurd c
cause_risen handed stop rose map stages (of.Device (at.Stage i) o) (inr c) = rose_failed rose ⊥ map (at.Stage i) o c.0
cause_risen handed stop rose map stages (of.Device (at.Stage i) o) (inl c) =
    let absent = run_absent handed c.0 stages (at.Stage i) o c.2 in
    subst (HasFailed rose ⊥ map (at.Stage i)) (sym absent.0) (inr (c.0, absent.1.0, c.1, absent.1.1))
