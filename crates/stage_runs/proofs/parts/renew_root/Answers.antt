use Rattle.std.proofs.Common.{◌≡◌, ◌-◌, [], length, slice_get, ap, sym, ◌∙◌, arith}
use Rattle.std.proofs.lemmas.Option.{same_Some}
use Rattle.stage_runs.proofs.Later.{last-of, length-push}
use Rattle.stage_runs.proofs.parts.renew_root.Goals as goal

pub returns-in-Some-clause-cut : goal.returns-in-Some-clause-cut
returns-in-Some-clause-cut g c = λ n e.
    let left = c.pop.new.self.items in
    let many = length-push left c.in-Some.root in
    let was = ap (λ xs. length xs) c.in-Some.ensures.items in
    let last : length c.args.net.now.items - 1 ≡ length left = omega (arith, many, was) in
    let same = same_Some c.new.result n (sym (last-of left c.new.result) ∙ ap (λ xs. slice_get xs (length left)) (sym c.push_reserved.ensures.items) ∙ ap (slice_get c.push_reserved.new.self.items) (sym last) ∙ e) in
    ap (λ x. x.chunk) (sym same) ∙ ap (λ x. x.chunk) (c.new.ensures.shown [])
