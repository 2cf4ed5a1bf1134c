use Rattle.std.proofs.Common.{◌∷◌, [], ◌∙◌, Err, ap, sym, subst, inl, inr, refl, arith}
use Rattle.file_devices.specs.Counts.{Rose}
use Rattle.file_devices.specs.Named.{kept}
use Rattle.file_devices.specs.declared.devices.Op.TheVariants.{Create, Keep}
use Rattle.run_report.specs.declared.refusal.Refusal.{Refusal}
use Rattle.run_report.specs.declared.refusal.Refusal.TheVariants.{Memory}
use Rattle.stage_kinds.specs.Files.{chosen, file_bytes}
use Rattle.run_outcome.proofs.Causes.{rose-within}
use Rattle.run_ending.specs.Each.{Stops, file_of, undone, unwritten}
use Rattle.run_ending.proofs.Each.{one-put, rose-given}
use Rattle.run_ending.proofs.Filing.{undone-reason, unkept, unmade, unwritten-reason}
use Rattle.run_ending.proofs.views.write_file.Goals as goal

pub returns-in_default-clause-stops : goal.returns-in_default-clause-stops
returns-in_default-clause-stops g c =
    let files = g.F.Files in
    unmade (files.map c.args.files.now) (files.map c.args.files.now) c.args.stage c.args.writing.form (file_of c.args.stage c.args.name.now c.args.writing c.args.number c.args.view.now) refl refl
    Memory (inl refl) refl

pub returns-in-Err-clause-stops : goal.returns-in-Err-clause-stops
returns-in-Err-clause-stops g c =
    let files = g.F.Files in
    let rose = Rose (files.faults c.args.files.now) (files.faults c.create.new.self) in
    let o = file_of c.args.stage c.args.name.now c.args.writing c.args.number c.args.view.now in
    subst (λ (r : Refusal). Stops rose (files.map c.args.files.now) (files.map c.create.new.self) c.args.stage c.args.writing.form (o ∷ []) r) (sym c.undone.ensures)
    (unmade (files.map c.args.files.now) (files.map c.create.new.self) c.args.stage c.args.writing.form o refl refl (undone c.args.stage Create c.in-Err.e)
    (undone-reason c.args.stage c.args.writing.form Create c.in-Err.e (inl refl) (λ e. c.in-Err.ensures.not_absent (ap Err e)) (λ e. c.in-Err.ensures.failed (ap Err e))) c.create.ensures.map)

pub returns-in-Ok-write_view-clause-stops : goal.returns-in-Ok-write_view-clause-stops
returns-in-Ok-write_view-clause-stops g c =
    let files = g.F.Files in
    let rose = Rose (files.faults c.args.files.now) (files.faults c.keep.new.self) in
    let o = file_of c.args.stage c.args.name.now c.args.writing c.args.number c.args.view.now in
    let whole = c.in-Ok-write_view.ensures.file c.in-Ok-create.ensures.empty in
    let named = sym (c.as_str-in-Ok-write_view.ensures.value ∙ c.in-Ok.ensures) in
    subst (λ (r : Refusal). Stops rose (files.map c.args.files.now) (files.map c.keep.new.self) c.args.stage c.args.writing.form (o ∷ []) r) (sym c.undone-in-Err-keep.ensures)
    (unkept (files.map c.args.files.now) (files.map c.keep.new.self) c.args.stage c.args.writing.form o refl refl c.in-Err-keep.e
    (undone-reason c.args.stage c.args.writing.form Keep c.in-Err-keep.e (inr (inr refl)) (λ e. c.in-Err-keep.ensures.not_absent (ap Err e))
    (λ e. rose-within (files.faults c.args.files.now) (files.faults c.create.new.self) (files.faults c.keep.new.self) (files.faults c.keep.new.self) c.create.ensures.later (omega arith) (c.in-Err-keep.ensures.failed (ap Err e))))
    (elim c.in-Err-keep.ensures.err [
      | inl same ↦ inl (same ∙ c.create.ensures.map)
      | inr put ↦ inr (one-put (files.map c.args.files.now) (files.map c.keep.new.self) c.as_str-in-Ok-write_view.result.now (file_bytes c.args.writing.form (chosen c.args.writing.only c.args.view.now))
          (g.F.Out.Sink.bytes c.in-Ok-write_view.sink) o (put ∙ ap (λ m. kept m c.as_str-in-Ok-write_view.result.now (g.F.Out.Sink.bytes c.in-Ok-write_view.sink)) c.create.ensures.map) whole named refl)
    ]))

pub returns-clause-stops : goal.returns-clause-stops
returns-clause-stops g c =
    let files = g.F.Files in
    let rose = Rose (files.faults c.args.files.now) (files.faults c.done_out.new.self) in
    let o = file_of c.args.stage c.args.name.now c.args.writing c.args.number c.args.view.now in
    subst (λ (r : Refusal). Stops rose (files.map c.args.files.now) (files.map c.done_out.new.self) c.args.stage c.args.writing.form (o ∷ []) r) (sym c.unwritten.ensures)
    (unmade (files.map c.args.files.now) (files.map c.done_out.new.self) c.args.stage c.args.writing.form o refl refl (unwritten c.args.stage c.in-Err-write_view.e)
    (unwritten-reason c.args.stage c.args.writing.form c.in-Err-write_view.e (λ op e.
    let f = c.in-Err-write_view.ensures.failed op e in (
      f.0,
      rose-given (files.faults c.args.files.now) (files.faults c.create.new.self) (g.F.Out.Sink.faults c.in-Err-write_view.sink) (files.faults c.done_out.new.self) c.create.ensures.later
          (subst (λ n. Rose n (g.F.Out.Sink.faults c.in-Err-write_view.sink)) c.in-Ok-create.ensures.fresh.0 f.1) c.done_out.ensures.counted,
    )))
    (c.done_out.ensures.map ∙ c.create.ensures.map))
