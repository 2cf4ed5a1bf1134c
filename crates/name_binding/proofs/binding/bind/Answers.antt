use Rattle.std.proofs.Common.{◌∙◌, ap, subst, sym}
use Rattle.cloud_points.specs.Layouts.{holds}
use Rattle.extra_bytes.specs.Asked.{AreOwn}
use Rattle.name_binding.specs.Ferries.{with_targets}
use Rattle.stage_options.specs.Ferries.{ferries_in}
use Rattle.name_binding.proofs.Behind.{all_behind}
use Rattle.name_binding.proofs.Owning.{own_behind}
use Rattle.name_binding.proofs.binding.bind.Goals as goal

pub returns-in-Err-stage-clause-some : goal.returns-in-Err-stage-clause-some
returns-in-Err-stage-clause-some c =
    all_behind c.args.names.now (ferries_in c.args.options.now) _ (c.in-Ok.ensures.names ∙ ap (with_targets c.args.names.now) c.ferries.ensures.ferries)

pub returns-in-Ok-stage-clause-own : goal.returns-in-Ok-stage-clause-own
returns-in-Ok-stage-clause-own c = λ own.
    subst AreOwn (sym c.in-Ok.ensures.names) (own_behind c.args.i (holds c.args.layout.now) c.args.names.now c.ferries.result.now c.ferries.ensures.named c.in-Ok.ensures.none own)
