use Rattle.std.proofs.Common.{◌≡◌, ◌<◌, ◌≤◌, length, take, None, ap, sym, ◌∙◌, subst, arith}
use Rattle.std.specs.Option.{option_map}
use Rattle.cloud_points.specs.Flows.{all_of}
use Rattle.stage_meanings.specs.Conditions.{passes}
use Rattle.stage_meanings.specs.Filters.{why, first_from}
use Rattle.set_filters.specs.Kinds.{rule_of}
use Rattle.set_filters.specs.Stops.{numbered}
use Rattle.set_filters.proofs.Firsts.{none_more, stop_in_view, stop_place, no_stop}
use Rattle.set_filters.proofs.stops.first_stop.Goals as goal

pub returns-in-Some-clause-stop : goal.returns-in-Some-clause-stop
returns-in-Some-clause-stop c =
    let w = why (rule_of c.args.filter.now) (passes c.args.only.now) in
    let within : c.loop-view.view ≤ length c.args.views.now.views = grind arith in
    stop_in_view w c.args.views.now c.loop-view.view c.loop-view.invariant c.in-Some.place c.in-Some.reason within
    (ap (first_from w 0) (sym c.view.ensures) ∙ sym c.first_in.ensures ∙ c.in-Some.is)

pub returns-in-Some-clause-there : goal.returns-in-Some-clause-there
returns-in-Some-clause-there c =
    let w = why (rule_of c.args.filter.now) (passes c.args.only.now) in record {
      view = grind arith;
      place = stop_place w _ c.in-Some.place c.in-Some.reason (ap (first_from w 0) (sym c.view.ensures) ∙ sym c.first_in.ensures ∙ c.in-Some.is);
    }

pub loop-view-preserved : goal.loop-view-preserved
loop-view-preserved c =
    let w = why (rule_of c.args.filter.now) (passes c.args.only.now) in
    let inside : c.loop-view.view < length c.args.views.now.views = grind arith in
    none_more w c.args.views.now.views c.loop-view.view c.args.views.now.open_view inside c.loop-view.invariant
    (ap (first_from w 0) (sym c.view.ensures) ∙ sym c.first_in.ensures ∙ c.in_default.is)

pub returns-in_err-place-clause-stop : goal.returns-in_err-place-clause-stop
returns-in_err-place-clause-stop c =
    let w = why (rule_of c.args.filter.now) (passes c.args.only.now) in
    let flow = c.args.views.now in
    let past : length flow.views ≤ c.views-view.result = omega (arith, c.views-view.ensures) in
    let same : c.loop-view.view ≡ c.views-view.result = grind arith in
    let before = subst (λ v. first_from w 0 (all_of (take v flow.views)) ≡ None) same c.loop-view.invariant in
    no_stop w flow c.views-view.result before past (ap (first_from w 0) (sym c.view-2.ensures) ∙ sym c.first_in-2.ensures ∙ c.in_err-place.was)
    ∙ ap (option_map (numbered flow)) (sym c.from_residual.ensures)

pub returns-clause-stop : goal.returns-clause-stop
returns-clause-stop c =
    let w = why (rule_of c.args.filter.now) (passes c.args.only.now) in
    let flow = c.args.views.now in
    let within : c.views-view.result ≤ length flow.views = omega (arith, c.views-view.ensures) in
    let same : c.loop-view.view ≡ c.views-view.result = grind arith in
    let before = subst (λ v. first_from w 0 (all_of (take v flow.views)) ≡ None) same c.loop-view.invariant in
    stop_in_view w flow c.views-view.result before c.in_ok-place.place c.in_ok-place.reason within
    (ap (first_from w 0) (sym c.view-2.ensures) ∙ sym c.first_in-2.ensures ∙ c.in_ok-place.was)

pub returns-clause-there : goal.returns-clause-there
returns-clause-there c =
    let w = why (rule_of c.args.filter.now) (passes c.args.only.now) in record {
      view = omega (arith, c.views-view.ensures);
      place = stop_place w _ c.in_ok-place.place c.in_ok-place.reason (ap (first_from w 0) (sym c.view-2.ensures) ∙ sym c.first_in-2.ensures ∙ c.in_ok-place.was);
    }
