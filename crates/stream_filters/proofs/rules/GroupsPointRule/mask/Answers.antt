use Rattle.std.proofs.Common.{ℕ, refl, subst, sym}
use Rattle.stage_meanings.specs.declared.reason.Reason.{Reason}
use Rattle.stage_meanings.specs.Rules.{is_grouped, returns as grouped}
use Rattle.stream_filters.specs.Masks.{IsMaskOf}
use Rattle.stream_filters.proofs.Marking.{tests_are_masks}
use Rattle.stream_filters.proofs.rules.GroupsPointRule.mask.Goals as goal

pub returns : goal.returns
returns c =
    let groups = c.args.self.now in
    let points = c.args.points.now in
    let Q : ℕ → Type 0 = λ m. IsMaskOf (grouped {R = Reason} groups) m points in
    subst Q (sym c.mask_of.ensures) (tests_are_masks (λ p. is_grouped groups p.number_of_returns p.return_number) (grouped {R = Reason} groups) (λ place p. refl) points)
