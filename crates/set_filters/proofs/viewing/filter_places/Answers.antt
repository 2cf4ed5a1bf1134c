use Rattle.cloud_points.specs.declared.point.Point.{Point}
use Rattle.std.proofs.Common.{◌+◌, Bool, not, ◌||◌, if◌then◌else◌, [], take, drop, ap, sym, ◌∙◌}
use Rattle.std.specs.List.{cons_option}
use Rattle.cloud_points.specs.Queue.{up_to_limit}
use Rattle.stage_meanings.specs.Conditions.{passes}
use Rattle.stage_meanings.specs.Filters.{chosen, is_true, keeps}
use Rattle.set_filters.specs.Kinds.{rule_of, takes}
use Rattle.set_filters.proofs.Givings.{followed, followed_one, next_point, chosen_one}
use Rattle.set_filters.proofs.viewing.filter_places.Goals as goal

pub loop-k-preserved : goal.loop-k-preserved
loop-k-preserved c =
    let given = c.loop-k.given in
    let k = c.loop-k.k in
    let place = c.loop-k.place in
    let p = c.get-p.result in
    let view = c.args.view.now in
    let points = take c.args.count view in
    let passing : Point → Bool = λ q. is_true (passes c.args.only.now q) in
    let test = takes (rule_of c.args.filter.now) in
    let goes = c.goes_on.ensures ∙ ap (λ b. not b || c.takes.result) c.is_passed-passed.ensures ∙ ap (λ b. not (passing p) || b) c.takes.ensures in
    let one = c.kept.ensures ∙ ap (λ b. keeps b p) goes in
    ap (λ flow. followed flow (chosen passing test c.next_place-place.result (drop (k + 1) points))) (c.in_ok-push_some.ensures ∙ ap (λ o. followed given (cons_option o [])) one)
    ∙ followed_one given (keeps (not (passing p) || test place) p) (chosen passing test c.next_place-place.result (drop (k + 1) points))
    ∙ ap (λ next. followed given (cons_option (keeps (not (passing p) || test place) p) (chosen passing test next (drop (k + 1) points)))) (c.next_place-place.ensures ∙ ap (λ b. if b then up_to_limit (place + 1) else place) c.is_passed-passed.ensures)
    ∙ sym (ap (followed given) (ap (chosen passing test place) (next_point k c.args.count view p c.loop-k-test.true c.get-p.ensures) ∙ chosen_one passing test place p (drop (k + 1) points)))
    ∙ c.loop-k.invariant
