-- Stages of one tally.
use Rattle.std.proofs.Common.{◌≡◌, Some, ◌∙◌, ap}
use Rattle.stage_meanings.specs.Conditions.{passes}
use Rattle.stage_meanings.specs.Steps.{steps_meaning}
use Rattle.plug_stages.specs.PlugSteps.{with_nature}
use Rattle.plug_stages.specs.TallySteps.{tally_steps}
use Rattle.plug_stages.specs.Works.{IsSameTally, tally_meaning, tally_nature, tally_steps_in}
use Rattle.plug_stages.specs.declared.tally.PlugTally.{Ghosts}
use Rattle.plug_stages.specs.declared.tally_work.TallyWork.{TallyWork}

module _ {T : Type 0} (tally : Ghosts T) (a b : TallyWork T) where
  pub same_tally_steps : IsSameTally tally a b → tally_steps_in tally b ≡ tally_steps_in tally a
  same_tally_steps so = ap (λ f. tally_steps f (passes b.only)) so.step ∙ ap (λ o. tally_steps (tally.step a.tally) (passes o)) so.only

  same_tally_nature : IsSameTally tally a b → tally_nature tally b ≡ tally_nature tally a
  same_tally_nature so = ap (λ n. record (tally_nature tally b) { place = n }) so.place
      ∙ ap (λ n. record (tally_nature tally b) { place = a.place; called = n }) so.called
      ∙ ap (λ n. record (tally_nature tally b) { place = a.place; called = tally.called a.tally; opening = n }) so.opening
      ∙ ap (λ f. record (tally_nature tally a) { step = λ s p. (f s p, Some p); text = tally.text b.tally }) so.step
      ∙ ap (λ f. record (tally_nature tally a) { text = f }) so.text

  pub same_tally_meaning : IsSameTally tally a b → tally_meaning tally b ≡ tally_meaning tally a
  same_tally_meaning so = ap (λ st. with_nature (tally_nature tally b) (steps_meaning st)) (same_tally_steps so)
      ∙ ap (λ n. with_nature n (steps_meaning (tally_steps_in tally a))) (same_tally_nature so)

  pub same_tally_then : (c : TallyWork T) → IsSameTally tally a b → IsSameTally tally b c → IsSameTally tally a c
  same_tally_then c so then = record {
    place = then.place ∙ so.place;
    called = then.called ∙ so.called;
    opening = then.opening ∙ so.opening;
    step = then.step ∙ so.step;
    text = then.text ∙ so.text;
    only = then.only ∙ so.only;
  }
