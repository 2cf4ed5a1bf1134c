-- Causes that are known over more of a run.
use Rattle.std.proofs.Common.{ℕ, ◌≤◌, List, Option, arith, inl, inr}
use Rattle.file_devices.specs.Counts.{Rose}
use Rattle.file_devices.specs.Named.{Names}
use Rattle.stage_options.specs.declared.stage.StageSpec.{StageSpec}
use Rattle.run_report.specs.declared.refusal.Refusal.{Refusal}
use Rattle.run_report.specs.declared.refusal.Refusal.TheVariants as of
use Rattle.run_report.specs.declared.refusal.Place.TheVariants as at
use Rattle.run_outcome.specs.Cause.{IsCause}
use Rattle.plug_stages.specs.Handed.{Handed}

-- a count that rose in a part of a run rose in the whole
pub rose-within : (a b c d : ℕ) → a ≤ b → c ≤ d → Rose b c → Rose a d
rose-within a b c d low high r = omega arith

pub cause-weaker : {P Q : Type 0} (handed : Handed) (map : Option Names) (stages : List StageSpec) (r : Refusal) → (P → Q) → IsCause P handed map stages r → IsCause Q handed map stages r
cause-weaker handed map stages of.Memory f c = tt
cause-weaker handed map stages (of.Data i f) g c = c
cause-weaker handed map stages (of.Device (at.Stage i) o) f c = elim c [ inl a ↦ inl a | inr d ↦ inr (f d.0, d.1) ]
cause-weaker handed map stages (of.Device at.PipelineFile o) f c = absurd c
cause-weaker handed map stages (of.Device at.Generated o) f c = absurd c
cause-weaker handed map stages (of.Device at.Out o) f c = absurd c
cause-weaker handed map stages (of.Pipeline f) g c = c
cause-weaker handed map stages (of.Usage k) f c = absurd c
