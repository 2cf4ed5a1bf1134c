-- The readers of the first stages are opened.
use Rattle.std.proofs.Common.{◌≡◌, ℕ, ◌<◌, ◌≤◌, List, [], length, Option, Some, None, is_some, Err, IsOk, refl, ap, sym, subst, ◌∙◌, arith, inl, inr, true, false, true≢false}
use Rattle.std.specs.Prelude.{⊤}
use Rattle.held_devices.proofs.Lists.{some_at}
use Rattle.file_devices.specs.Named.{Names}
use Rattle.file_devices.specs.declared.devices.Op.{Op}
use Rattle.file_devices.specs.declared.devices.Op.TheVariants as op
use Rattle.file_devices.specs.declared.devices.Source as source
use Rattle.file_devices.specs.declared.devices.Sink as sink
use Rattle.cloud_points.specs.declared.extra.ExtraField.{ExtraField}
use Rattle.cloud_points.specs.declared.layout.Layout.{Layout}
use Rattle.forward_rules.specs.Forwarded.{read_file}
use Rattle.las_header.specs.declared.block.Header.{Header}
use Rattle.las_reader.specs.Files.{las_with}
use Rattle.las_reader.specs.declared.reader.LasReader.{LasReader}
use Rattle.answer_model.specs.Rows.{Setting}
use Rattle.stage_forms.specs.Below.{AreReaders, HaveReaders, Tells, read_of}
use Rattle.stage_kinds.specs.declared.file_form.StageForm.{StageForm}
use Rattle.stage_kinds.specs.declared.file_form.StageForm.TheVariants as formed
use Rattle.stage_kinds.specs.declared.stage_work.StageWork.{StageWork}
use Rattle.stage_kinds.specs.declared.stage_work.StageWork.TheVariants.{Reader, Filter, Plug, Tally, Collector, Views, ViewFiles, Writer}
use Rattle.stage_kinds.specs.Held.{faults_of, op_of}
use Rattle.stage_options.specs.Roles.{Role, Reads, Filters, Gathers, Writes, WritesEach, role_of, is_reading, is_writing}
use Rattle.stage_options.specs.declared.options.Options.{Options}
use Rattle.stage_options.specs.declared.stage.StageSpec.{StageSpec}
use Rattle.run_report.specs.declared.refusal.Refusal.{Refusal}
use Rattle.run_report.specs.declared.refusal.Refusal.TheVariants as of
use Rattle.run_report.specs.declared.refusal.Place.TheVariants as at
use Rattle.answer_model.specs.Values.{LasFile, op_for, role_at}
use Rattle.answer_model.specs.Runs.{AreRead, holds, unread, unread_at, unless_unread, run_over, run_of, opened_in}
use Rattle.stage_forms.specs.Starts.{IsAtStart, IsStarted, form_for}
use Rattle.stage_forms.proofs.Works.{op-at-start, reader-start}
use Rattle.answer_model.proofs.Least.{least-at}
use Rattle.run_opening.specs.Begun.{IsInFront, over_files, IsLaidOut, IsReading, IsOpened, AreOpened, IsWork, read_with, reader_of}
use Rattle.run_outcome.specs.Cause.{CanBegin, IsCause, AtRole}
use Rattle.run_opening.specs.Headers.{header_at}
use Rattle.run_opening.specs.Opening.{IsUnopened}
use Rattle.plug_stages.specs.Handed.{Handed, none_handed}

-- the file of a stage whose reader is opened can be read
opened-read : {S : Type 0} (s : source.Ghosts S) (map : Option Names) (i : ℕ) (role : Role) (o : Option (LasReader S)) → IsOpened s map i role o → (m : Names) → map ≡ Some m → unread m i role ≡ None
opened-read s map i (Reads name) (Some r) is m e = is.read m e
opened-read s map i (Reads name) None is m e = absurd is
opened-read s map i Filters o is m e = refl
opened-read s map i Gathers o is m e = refl
opened-read s map i (WritesEach name) o is m e = refl
opened-read s map i (Writes name) o is m e = refl

pub are-read : {S : Type 0} (s : source.Ghosts S) (map : Option Names) (stages : List StageSpec) (readers : List (Option (LasReader S))) (count : ℕ) → count ≡ length readers → AreOpened s map stages readers → (m : Names) → map ≡ Some m → AreRead m stages count
are-read s map stages readers count size are m e i lt =
    let o = some_at readers i (omega (arith, size, lt)) in
    opened-read s map i (role_at stages i) o.0 (are i o.0 o.1) m e

-- the first stage whose file can't be read is the answer
pub first-unread : (handed : Handed) (m : Names) (stages : List StageSpec) (i : ℕ) (r : Refusal) → i < length stages → AreRead m stages i → unread_at m stages i ≡ Some r → run_of handed m stages ≡ Err r
first-unread handed m stages i r lt before e = ap (λ o. unless_unread o (run_over stages (opened_in handed m stages))) (least-at (unread_at m stages) (length stages) i r lt e before)

pub unopened-cause : (rose : Type 0) (handed : Handed) (map : Option Names) (stages : List StageSpec) (i : ℕ) (refusal : Refusal) → i < length stages → ((m : Names) → map ≡ Some m → AreRead m stages i)
    → IsUnopened rose map i (role_at stages i) refusal → IsCause rose handed map stages refusal
unopened-cause rose handed map stages i refusal lt read why = go (role_at stages i) refl refusal why
  where
    at-reader : (earlier all right : Type 0) (name : List ℕ) (o : Op) → earlier → AtRole ⊤ ⊥ ⊥ (Reads name) o → AtRole earlier all right (Reads name) o
    at-reader earlier all right name op.Open e a = e
    at-reader earlier all right name op.Read e a = e
    at-reader earlier all right name op.Create e a = absurd a
    at-reader earlier all right name op.Write e a = absurd a
    at-reader earlier all right name op.Patch e a = absurd a
    at-reader earlier all right name op.Keep e a = absurd a

    go : (role : Role) → role_at stages i ≡ role → (r : Refusal) → IsUnopened rose map i role r → IsCause rose handed map stages r
    go role is of.Memory w = tt
    go role is (of.Data j f) w = λ m e. first-unread handed m stages i (of.Data j f) lt (read m e) (ap (unread m i) is ∙ w m e)
    go (Reads name) is (of.Device (at.Stage j) o) w = subst (λ k. IsCause rose handed map stages (of.Device (at.Stage k) o)) (sym w.0) (elim w.1 [
      | inl a ↦ inl (a.0, a.1, first-unread handed a.0 stages i (of.Device (at.Stage i) o) lt (read a.0 a.1) (ap (unread a.0 i) is ∙ a.2))
      | inr f ↦ inr (
        f.0,
        λ m e. record {
          inside = lt;
          come = subst (λ x. AtRole (AreRead m stages i) (CanBegin handed m stages) (IsOk (run_of handed m stages)) x o) (sym is) (at-reader (AreRead m stages i) (CanBegin handed m stages) (IsOk (run_of handed m stages)) name o (read m e) f.1);
          patched = λ p. absurd (subst (AtRole ⊤ ⊥ ⊥ (Reads name)) p f.1);
        },
      )
    ])
    go Filters is (of.Device p o) w = absurd w
    go Gathers is (of.Device p o) w = absurd w
    go (WritesEach name) is (of.Device p o) w = absurd w
    go (Writes name) is (of.Device p o) w = absurd w
    go (Reads name) is (of.Device at.PipelineFile o) w = absurd w
    go (Reads name) is (of.Device at.Generated o) w = absurd w
    go (Reads name) is (of.Device at.Out o) w = absurd w
    go Filters is (of.Pipeline f) w = absurd w
    go Gathers is (of.Pipeline f) w = absurd w
    go (WritesEach name) is (of.Pipeline f) w = absurd w
    go (Reads name) is (of.Pipeline f) w = absurd w
    go (Writes name) is (of.Pipeline f) w = absurd w
    go Filters is (of.Usage k) w = absurd w
    go Gathers is (of.Usage k) w = absurd w
    go (WritesEach name) is (of.Usage k) w = absurd w
    go (Reads name) is (of.Usage k) w = absurd w
    go (Writes name) is (of.Usage k) w = absurd w

module _ {S : Type 0} (s : source.Ghosts S) (map : Option Names) (i : ℕ) where
  pub by-reader : (role : Role) (r : LasReader S) → IsOpened s map i role (Some r) → (is_reading role ≡ true) × IsReading s map i role r
  by-reader (Reads name) r h = (refl, h)
  by-reader Filters r h = absurd h
  by-reader Gathers r h = absurd h
  by-reader (WritesEach name) r h = absurd h
  by-reader (Writes name) r h = absurd h

  -- a reader stands exactly where a stage reads
  pub reader-there : (role : Role) (o : Option (LasReader S)) → IsOpened s map i role o → is_some o ≡ is_reading role
  reader-there (Reads name) (Some r) h = refl
  reader-there (Reads name) None h = absurd h
  reader-there Filters (Some r) h = absurd h
  reader-there Filters None h = refl
  reader-there Gathers (Some r) h = absurd h
  reader-there (WritesEach name) (Some r) h = absurd h
  reader-there Gathers None h = refl
  reader-there (WritesEach name) None h = refl
  reader-there (Writes name) (Some r) h = absurd h
  reader-there (Writes name) None h = refl

-- an opened reader that takes these fields is the work of its stage
pub reader-work : {S K P Q : Type 0} (s : source.Ghosts S) (k : sink.Ghosts K) (map : Option Names) (i : ℕ) (o : Options) (r q : LasReader S) (fields : List ExtraField) (layout : Layout) → IsOpened s map i (role_of o) (Some r)
    → q.source ≡ r.source → q.header ≡ r.header → q.vlrs ≡ r.vlrs → q.evlrs ≡ r.evlrs → q.progress ≡ r.progress → q.fields ≡ fields → IsWork {P = P} {Q = Q} s k map i o (Some r) (formed.Reads fields) layout (Reader q)
reader-work {S} {K} {P} {Q} s k map i o r q fields layout is source header vlrs evlrs progress taken = record {
  same = ap (λ f. Some f) same;
  start = λ setting e laid. subst (λ form. IsStarted {S = S} {K = K} {P = P} {Q = Q} k.bytes setting.dims form (Reader q)) e (progress ∙ opened.1.start, taken);
  device = op-at-start {S = S} {K = K} {P = P} {Q = Q} s k.bytes o nowhere (Reader q) (reader-start P Q k.bytes o nowhere q (opened.0) (progress ∙ opened.1.start) taken);
  tells = λ m e x w. (let also : q ≡ x = cc in subst (λ (x : LasReader S). Tells s (over_files (λ j. holds m j (role_of o))) i x) also (told m e));
  front = λ x w. (let also : q ≡ x = cc in subst (λ (x : LasReader S). IsInFront s.reached x) also in-front);
  header = λ m e x w. (let also : q ≡ x = cc in subst (λ (x : LasReader S). header_at m (role_of o) ≡ Some x.header) also (opened.1.header m e ∙ ap (λ h. Some h) (sym header)));
  calm = ap s.faults source ∙ opened.1.calm;
}
  where
    nowhere : Setting
    nowhere = record { names = []; reads = []; dims = λ dim. false; fields = fields; handed = none_handed }

    opened : (is_reading (role_of o) ≡ true) × IsReading s map i (role_of o) r
    opened = by-reader s map i (role_of o) r is

    same : read_of q ≡ read_of r
    same = ap (λ h. read_file h q.vlrs q.evlrs) header ∙ ap (λ l. read_file r.header l q.evlrs) vlrs ∙ ap (read_file r.header r.vlrs) evlrs

    told : (m : Names) → map ≡ Some m → Tells s (over_files (λ j. holds m j (role_of o))) i q
    told m e =
        let t = opened.1.tells m e in
        record {
          file = t.file;
          told = ap s.bytes source ∙ t.told;
          holds = t.holds ∙ ap (λ f. record { read = f; las = λ fields. las_with r.header fields t.file }) (sym same) ∙ ap (λ h. record { read = read_of q; las = λ fields. las_with h fields t.file }) (sym header);
        }

    in-front : IsInFront s.reached q
    in-front = λ none. subst (λ (h : Header). s.reached q.source ≤ h.points_at) (sym header) (subst (λ x. s.reached x ≤ r.header.points_at) (sym source) (opened.1.front (ap (λ (h : Header). h.evlrs) (sym header) ∙ none)))

-- a work that is no reader's is that of a stage that doesn't read
pub other-work : {S K P Q : Type 0} (s : source.Ghosts S) (k : sink.Ghosts K) (map : Option Names) (i : ℕ) (o : Options) (form : StageForm) (layout : Layout) (w : StageWork S K P Q) → is_reading (role_of o) ≡ false
    → op_of w ≡ op_for (role_of o) → ((setting : Setting) → form ≡ form_for o setting → IsLaidOut layout setting.dims form → IsAtStart k.bytes o setting w) → faults_of s.faults k.faults w ≡ 0 → IsWork s k map i o None form layout w
other-work {S} {K} {P} {Q} s k map i o form layout w inner device start calm = record {
  same = ap read_with (no_reader w device);
  start = start;
  device = device;
  tells = λ m e r is. absurd (reads_not (role_of o) inner (ap op_of (sym is) ∙ device));
  front = λ r is. absurd (reads_not (role_of o) inner (ap op_of (sym is) ∙ device));
  header = λ m e r is. absurd (reads_not (role_of o) inner (ap op_of (sym is) ∙ device));
  calm = calm;
}
  where
    reads_not : (role : Role) → is_reading role ≡ false → Some op.Read ≡ op_for role → ⊥
    reads_not (Reads name) i e = absurd (true≢false i)
    reads_not Filters i e = cc
    reads_not Gathers i e = cc
    reads_not (WritesEach name) i e = cc
    reads_not (Writes name) i e = cc

    no_reader : (w : StageWork S K P Q) → op_of w ≡ op_for (role_of o) → reader_of w ≡ None
    no_reader (Reader r) e = absurd (reads_not (role_of o) inner e)
    no_reader (Filter f) e = refl
    no_reader (Plug v) e = refl
    no_reader (Tally v) e = refl
    no_reader (Collector c) e = refl
    no_reader (Views h) e = refl
    no_reader (ViewFiles t) e = refl
    no_reader (Writer v) e = refl

module _ {S : Type 0} (s : source.Ghosts S) (map : Option Names) (stages : List StageSpec) (readers : List (Option (LasReader S))) (are : AreOpened s map stages readers) where
  pub are-readers : AreReaders stages readers
  are-readers i o e = reader-there s map i (role_at stages i) o (are i o e)

  -- the readers' files are those of the map
  pub have-readers : (handed : Handed) (m : Names) → map ≡ Some m → HaveReaders readers (opened_in handed m stages)
  have-readers handed m told i r e = ap (λ (x : LasFile). x.read) ((by-reader s map i (role_at stages i) r (are i (Some r) e)).1.tells m told).holds

-- a stage that neither reads nor writes has no device
pub no-device : (role : Role) → is_reading role ≡ false → is_writing role ≡ false → op_for role ≡ None
no-device (Reads name) r w = absurd (true≢false r)
no-device Filters r w = refl
no-device Gathers r w = refl
no-device (WritesEach name) r w = refl
no-device (Writes name) r w = absurd (true≢false w)
