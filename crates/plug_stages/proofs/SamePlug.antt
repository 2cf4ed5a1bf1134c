-- Stages of one plug.
use Rattle.std.proofs.Common.{◌≡◌, ◌∙◌, ap}
use Rattle.cloud_points.specs.Clearing.{cleared}
use Rattle.cloud_points.specs.Layouts.{holds}
use Rattle.stage_meanings.specs.Conditions.{passes}
use Rattle.stage_meanings.specs.Steps.{steps_meaning}
use Rattle.plug_stages.specs.PlugSteps.{plug_steps, with_nature}
use Rattle.plug_stages.specs.Works.{IsSamePlug, plug_meaning, plug_nature, plug_steps_in}
use Rattle.plug_stages.specs.declared.filter.PlugFilter.{Ghosts}
use Rattle.plug_stages.specs.declared.plug_work.PlugWork.{PlugWork}

module _ {P : Type 0} (plug : Ghosts P) (a b : PlugWork P) where
  pub same_plug_steps : IsSamePlug plug a b → plug_steps_in plug b ≡ plug_steps_in plug a
  same_plug_steps so = ap (λ o. plug_steps o (plug.step b.plug) (cleared (holds b.layout)) (passes b.only)) so.opening
      ∙ ap (λ f. plug_steps (plug.opening a.plug) f (cleared (holds b.layout)) (passes b.only)) so.step
      ∙ ap (λ l. plug_steps (plug.opening a.plug) (plug.step a.plug) (cleared (holds l)) (passes b.only)) so.layout
      ∙ ap (λ o. plug_steps (plug.opening a.plug) (plug.step a.plug) (cleared (holds a.layout)) (passes o)) so.only

  same_plug_nature : IsSamePlug plug a b → plug_nature plug b ≡ plug_nature plug a
  same_plug_nature so = ap (λ n. record (plug_nature plug b) { place = n }) so.place
      ∙ ap (λ n. record (plug_nature plug b) { place = a.place; called = n }) so.called
      ∙ ap (λ n. record (plug_nature plug b) { place = a.place; called = plug.called a.plug; opening = n }) so.opening
      ∙ ap (λ f. record (plug_nature plug a) { step = f }) so.step

  pub same_plug_meaning : IsSamePlug plug a b → plug_meaning plug b ≡ plug_meaning plug a
  same_plug_meaning so = ap (λ st. with_nature (plug_nature plug b) (steps_meaning st)) (same_plug_steps so)
      ∙ ap (λ n. with_nature n (steps_meaning (plug_steps_in plug a))) (same_plug_nature so)

  pub same_plug_then : (c : PlugWork P) → IsSamePlug plug a b → IsSamePlug plug b c → IsSamePlug plug a c
  same_plug_then c so then = record {
    place = then.place ∙ so.place;
    called = then.called ∙ so.called;
    opening = then.opening ∙ so.opening;
    step = then.step ∙ so.step;
    only = then.only ∙ so.only;
    layout = then.layout ∙ so.layout;
  }
