-- Refusals that come before any file is kept.
use Rattle.std.proofs.Common.{◌≡◌, ◌⊎◌, ℕ, List, Option, Some, Result, sym, subst, inl, inr}
use Rattle.file_devices.specs.Named.{Names}
use Rattle.file_devices.specs.declared.devices.Op.{Op}
use Rattle.file_devices.specs.declared.devices.Op.TheVariants as op
use Rattle.stage_kinds.specs.declared.stage_work.StageWork.{StageWork}
use Rattle.stage_kinds.specs.declared.held.Held.{Held}
use Rattle.stage_kinds.specs.declared.held.Held.TheVariants.{Nothing, Source, Sink, Filter, Tally}
use Rattle.stage_kinds.specs.Held.{op_on}
use Rattle.run_report.specs.declared.refusal.Refusal.{Refusal}
use Rattle.run_report.specs.declared.refusal.Refusal.TheVariants as of
use Rattle.run_report.specs.declared.refusal.Place.TheVariants as at
use Rattle.answer_model.specs.Runs.{Run}
use Rattle.run_outcome.specs.Cause.{IsEarly, IsLeft}
use Rattle.run_ending.specs.Finished.{IsUnfinished}
use Rattle.run_ending.proofs.Finished.{finishing-writes}

-- an early refusal leaves the files as they were
pub early-left : (r : Refusal) (old new : Option Names) (expected : Result Run Refusal) → IsEarly r → new ≡ old → IsLeft r old new expected
early-left of.Memory old new expected early same = inl same
early-left (of.Data i f) old new expected early same = same
early-left (of.Pipeline f) old new expected early same = same
early-left (of.Usage k) old new expected early same = same
early-left (of.Device at.PipelineFile o) old new expected early same = same
early-left (of.Device at.Generated o) old new expected early same = same
early-left (of.Device at.Out o) old new expected early same = absurd early
early-left (of.Device (at.Stage i) op.Open) old new expected early same = inl same
early-left (of.Device (at.Stage i) op.Read) old new expected early same = inl same
early-left (of.Device (at.Stage i) op.Create) old new expected early same = inl same
early-left (of.Device (at.Stage i) op.Write) old new expected early same = inl same
early-left (of.Device (at.Stage i) op.Patch) old new expected early same = inl same
early-left (of.Device (at.Stage i) op.Keep) old new expected early same = absurd early

-- what a work does with its device isn't a keeping
pub op-early : {S K P Q : Type 0} (i : ℕ) (h : Held S K P Q) (o : Op) → op_on h ≡ Some o → IsEarly (of.Device (at.Stage i) o)
op-early i Nothing o e = cc
op-early i (Source s) op.Keep e = cc
op-early i (Sink k) op.Keep e = cc
op-early i (Filter f at) op.Keep e = cc
op-early i (Tally t at) op.Keep e = cc
op-early i h op.Open e = tt
op-early i h op.Read e = tt
op-early i h op.Create e = tt
op-early i h op.Write e = tt
op-early i h op.Patch e = tt

named-early : (i : ℕ) (o : Op) → (o ≡ op.Write) ⊎ (o ≡ op.Patch) → IsEarly (of.Device (at.Stage i) o)
named-early i o named = elim named [
  | inl e ↦ subst (λ x. IsEarly (of.Device (at.Stage i) x)) (sym e) tt
  | inr e ↦ subst (λ x. IsEarly (of.Device (at.Stage i) x)) (sym e) tt
]

pub unfinished-early : {S K P Q : Type 0} (faults : StageWork S K P Q → ℕ) (old new : List (StageWork S K P Q)) (r : Refusal) → IsUnfinished faults old new r → IsEarly r
unfinished-early faults old new (of.Device (at.Stage i) o) c = named-early i o (finishing-writes c.before o c.named).1
unfinished-early faults old new (of.Device at.PipelineFile o) c = tt
unfinished-early faults old new (of.Device at.Generated o) c = tt
unfinished-early faults old new (of.Device at.Out o) c = absurd c
unfinished-early faults old new of.Memory c = tt
unfinished-early faults old new (of.Data i f) c = tt
unfinished-early faults old new (of.Pipeline f) c = tt
unfinished-early faults old new (of.Usage k) c = tt
