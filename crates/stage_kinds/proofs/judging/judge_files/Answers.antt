use Rattle.std.proofs.Common.{◌≡◌, Some, subst}
use Rattle.std.specs.Prelude.{IfErr, option_map}
use Rattle.stage_meanings.specs.Conditions.{passes}
use Rattle.stage_meanings.specs.Filters.{refusal_in_views}
use Rattle.stage_kinds.specs.Judging.{told_fault}
use Rattle.stage_kinds.proofs.judging.judge_files.Goals as goal

-- the places are those of the form, for each point
pub returns-clause-err : goal.returns-clause-err
returns-clause-err c = subst
    (λ f. IfErr c.judge_views.result (λ fault. option_map told_fault (refusal_in_views f (passes c.args.writing.now.only) c.args.views.now) ≡ Some fault))
    (λ j k p. c.places_of.ensures k p j) c.judge_views.ensures.err
