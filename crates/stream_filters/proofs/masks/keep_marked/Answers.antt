use Rattle.std.proofs.Common.{◌≡◌, ◌-◌, ◌^◌, ◌∙◌, ap, sym, length, arith}
use Rattle.std.proofs.lemmas.List.{take_all}
use Rattle.stream_filters.specs.Masks.{marked}
use Rattle.stream_filters.proofs.Marking.{marked_all, marked_none}
use Rattle.stream_filters.proofs.masks.keep_marked.Goals as goal

pub returns-then-names_all : goal.returns-then-names_all
returns-then-names_all c =
    let points = c.args.points.now in
    let all : c.args.mask ≡ 2 ^ length points - 1 = c.names_all.ensures c.if-names_all.true in
    take_all (length points) points (omega arith) ∙ sym (ap (λ m. marked m points) all ∙ marked_all points)

pub returns-then-mask-eq0 : goal.returns-then-mask-eq0
returns-then-mask-eq0 c = sym (ap (λ m. marked m c.args.points.now) c.if-mask-eq0.true ∙ marked_none c.args.points.now)
